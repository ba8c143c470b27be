-- Turns respect the likeness of runs.
use Rattle.std.specs.Prelude.{ℕ, suc, ◌≡◌, ◌≤◌, ◌<◌, ◌⊎◌, Bool, true, false, length, List, Some, None, slice_get}
use Rattle.std.specs.List.{Contains}
use Rattle.std.proofs.Common.{refl, ap, sym, ◌∙◌, subst, inl, inr}
use Rattle.mcs_types.specs.declared.id.ObjId.{ObjId}
use Rattle.mcs_types.specs.declared.id.CoreId.{CoreId}
use Rattle.mcs_types.specs.declared.entry.Answer.{Answer}
use Rattle.mcs_types.specs.declared.entry.Entry.{Entry}
use Rattle.mcs_types.specs.declared.entry.Step.{Step}
use Rattle.mcs_book.specs.Boots.{Boot, IsFaultless}
use Rattle.mcs_book.specs.History.{IsLegal, log_of, line_for}
use Rattle.mcs_book.specs.Logs.{Log}
use Rattle.mcs_book.specs.Statuses.{may_enter}
use Rattle.mcs_book.specs.Threads.{prio_of}
use Rattle.mcs_state.proofs.Picking.{entrant-there}
use Rattle.mcs_turns.specs.declared.position.Position.{Position}
use Rattle.mcs_turns.specs.declared.position.Pick.{Pick}
use Rattle.mcs_turns.specs.declared.position.Schedule.{Schedule}
use Rattle.mcs_turns.specs.declared.position.Schedule.TheVariants as schedule
use Rattle.mcs_turns.specs.declared.reached.Reached.{Reached}
use Rattle.mcs_turns.specs.Due.{choices, due_by, picks_at}
use Rattle.mcs_turns.specs.Turns.{User, RunState, CanGive, CanBePicked, MayPrecede, ArePicksOf, ArePicks, IsStale, IsTurn, Follows, IsOver, AreInRange, all_answered, outcome, position_after, entered, given, put_at, saved_at}
use Rattle.mcs_turns.specs.Mail.{reached_from}
use Rattle.mcs_turns.proofs.Choices.{IsOneOf, choice-in, choice-out, stale-same}
use Rattle.mcs_turns.proofs.RunLaws.{run-legal, run-long}
use Rattle.mcs_explore_equivalence.specs.ButNumbers.{AlikeButNumbers, SameButNumbers}
use Rattle.mcs_explore_equivalence.specs.Likeness.{AlikeBy}
use Rattle.mcs_book.proofs.SoundLogs.SoundBooks.{legal-sound}
use Rattle.mcs_explore_equivalence.proofs.Asking.{status-same}
use Rattle.mcs_explore_equivalence.proofs.Back.{by-back, by-self}
use Rattle.mcs_explore_equivalence.proofs.Picking.{may_enter-same}
use Rattle.mcs_explore_equivalence.proofs.Books.{line-outcomes}
use Rattle.mcs_explore_equivalence.proofs.Exactly.{but-numbers}
use Rattle.mcs_explore_equivalence.proofs.Likenesses.{by-likeness}
use Rattle.mcs_explore_equivalence.proofs.Mail.{mail-same}
use Rattle.mcs_explore_search.specs.Closure.{IsLikeness}
use Rattle.mcs_explore_equivalence.specs.Runs.{IsReached, AreClose, AreAlike, AreSameTurns, IsSameTurn, SameNewest}

-- threads of the same priorities precede each other by the same schedule
precede-same : (by : Schedule) (R S : Log) (t u : ObjId) → prio_of R t ≡ prio_of S t → prio_of R u ≡ prio_of S u → MayPrecede by R t u → MayPrecede by S t u
precede-same schedule.Serial R S t u e f b = record {
  priority = subst (λ n. n ≤ prio_of S t) f (subst (λ n. prio_of R u ≤ n) e b.priority);
  serial = λ same. b.serial (f ∙ same ∙ sym e);
}
precede-same schedule.Equal R S t u e f b = subst (λ n. n ≤ prio_of S t) f (subst (λ n. prio_of R u ≤ n) e b)
precede-same schedule.Any R S t u e f b = tt

module _ (numbered : Bool) (users : List User) (boot : Boot) (g h : RunState) (a : AreClose numbered users boot g h) where
  logs : AlikeButNumbers (log_of g.book) (log_of h.book)
  logs = (by-likeness numbered).numbers (log_of g.book) (log_of h.book) a.logs

  can-there : (core : CoreId) (i : ℕ) (u : User) (p : Position) → CanGive users g core i u p → CanGive users h core i u p
  can-there core i u p c = record {
    user = c.user;
    place = subst (λ ps. slice_get ps i ≡ Some p) a.places c.place;
    left = subst (λ s. due_by s p < length u.entries) (status-same (log_of g.book) (log_of h.book) logs u.thread) c.left;
    enters = sym (may_enter-same (log_of g.book) (log_of h.book) logs core u.thread) ∙ c.enters;
  }

  can-back : (core : CoreId) (i : ℕ) (u : User) (p : Position) → CanGive users h core i u p → CanGive users g core i u p
  can-back core i u p c = record {
    user = c.user;
    place = subst (λ ps. slice_get ps i ≡ Some p) (sym a.places) c.place;
    left = subst (λ s. due_by s p < length u.entries) (sym (status-same (log_of g.book) (log_of h.book) logs u.thread)) c.left;
    enters = may_enter-same (log_of g.book) (log_of h.book) logs core u.thread ∙ c.enters;
  }

  rank : (core : CoreId) (t : ObjId) → may_enter (log_of g.book) core t ≡ true → prio_of (log_of g.book) t ≡ prio_of (log_of h.book) t
  rank core t e = logs.prios t (entrant-there (log_of g.book) core t e)

  rank-back : (core : CoreId) (t : ObjId) → may_enter (log_of h.book) core t ≡ true → prio_of (log_of h.book) t ≡ prio_of (log_of g.book) t
  rank-back core t e = sym (rank core t (may_enter-same (log_of g.book) (log_of h.book) logs core t ∙ e))

  picked-there : (core : CoreId) (k : Pick) → CanBePicked users g core k → CanBePicked users h core k
  picked-there core k b = record {
    user = b.user;
    place = b.place;
    can = can-there core k.user b.user b.place b.can;
    number = b.number ∙ ap (λ s. due_by s b.place) (status-same (log_of g.book) (log_of h.book) logs b.user.thread);
    best = λ i v q c.
        let d : CanGive users g core i v q = can-back core i v q c in
        precede-same b.user.schedule (log_of g.book) (log_of h.book) b.user.thread v.thread (rank core b.user.thread b.can.enters) (rank core v.thread d.enters) (b.best i v q d);
  }

  picked-back : (core : CoreId) (k : Pick) → CanBePicked users h core k → CanBePicked users g core k
  picked-back core k b = record {
    user = b.user;
    place = b.place;
    can = can-back core k.user b.user b.place b.can;
    number = b.number ∙ ap (λ s. due_by s b.place) (sym (status-same (log_of g.book) (log_of h.book) logs b.user.thread));
    best = λ i v q c.
        let d : CanGive users h core i v q = can-there core i v q c in
        precede-same b.user.schedule (log_of h.book) (log_of g.book) b.user.thread v.thread (rank-back core b.user.thread b.can.enters) (rank-back core v.thread d.enters) (b.best i v q d);
  }

  pub pick-there : (core : CoreId) (ks : List Pick) → ArePicksOf users g core ks → ArePicksOf users h core ks
  pick-there core ks are = record {
    picked = λ k c. picked-there core k (are.picked k c);
    all = λ k can. are.all k (picked-back core k can);
    ascending = are.ascending;
  }

  cores : g.book.boot.cores ≡ h.book.boot.cores
  cores = ap (λ (b : Boot). b.cores) ((run-long users boot a.left.turns g a.left.run).kept ∙ sym (run-long users boot a.right.turns h a.right.run).kept)

  pub picks-there : (picks : List (List Pick)) → ArePicks users g picks → ArePicks users h picks
  picks-there picks ps = record {
    cores = ps.cores ∙ cores;
    each = λ core k at. pick-there core k (ps.each core k at);
  }

module _ (numbered : Bool) (users : List User) (boot : Boot) (g h : RunState) (a : AreAlike numbered users boot g h) (core : CoreId) (k : Pick) (t : RunState) (turn : IsTurn users core k g t) where
  -- the same turn in the other run
  pub turn-there : IsTurn users core k h (entered users turn.picks turn.user (record { core = core; thread = turn.user.thread; entry = given g turn.user k turn.entry }) k h)
  turn-there = record {
    user = turn.user;
    entry = turn.entry;
    picks = turn.picks;
    is_user = turn.is_user;
    is_entry = turn.is_entry;
    are_picks = picks-there numbered users boot g h c turn.picks turn.are_picks;
    picked = go turn.picked;
    enters = sym (may_enter-same (log_of g.book) (log_of h.book) ((by-likeness numbered).numbers (log_of g.book) (log_of h.book) c.logs) core turn.user.thread) ∙ turn.enters;
    after = ap (λ (e : Entry). entered users turn.picks turn.user (record { core = core; thread = turn.user.thread; entry = e }) k h) (ap (λ (ps : List Position). given (record g { places = ps }) turn.user k turn.entry) c.places);
  }
    where
      c : AreClose numbered users boot g h
      c = a.close

      go : Contains (picks_at turn.picks core.0) k ⊎ IsStale g core k → Contains (picks_at turn.picks core.0) k ⊎ IsStale h core k
      go (inl own) = inl own
      go (inr old) = in-other (choice-out turn.picks h.stale core.0 k (subst (λ cs. IsOneOf cs core.0 k) (a.choices turn.picks turn.are_picks) (choice-in turn.picks g.stale core.0 k (old.picks, (old.stale, old.among)))))
        where
          in-other : Contains (picks_at turn.picks core.0) k ⊎ IsOneOf h.stale core.0 k → Contains (picks_at turn.picks core.0) k ⊎ IsStale h core k
          in-other (inl own) = inl own
          in-other (inr (js, (at, among))) = inr (record { picks = js; stale = at; among = among })

module _ (numbered : Bool) (users : List User) (boot : Boot) (whole : IsFaultless boot) (range : AreInRange users) where
  pub legal : (g : RunState) → IsReached users boot g → IsLegal g.book
  legal g r = run-legal users boot whole range r.turns g r.run

  module _ (g h : RunState) (a : AreAlike numbered users boot g h) (core : CoreId) (k : Pick) (t : RunState) (turn : IsTurn users core k g t) where
    abbrev step : Step
    step = record { core = core; thread = turn.user.thread; entry = given g turn.user k turn.entry }

    abbrev pub then_h : RunState
    then_h = entered users turn.picks turn.user step k h

    c : AreClose numbered users boot g h
    c = a.close

    pub other : IsTurn users core k h then_h
    other = turn-there numbered users boot g h a core k t turn

    pub left : IsReached users boot (entered users turn.picks turn.user step k g)
    left = subst (λ x. IsReached users boot x) turn.after (record { turns = suc c.left.turns; run = (g, (c.left.run, record { core = core; pick = k; turn = turn })) })

    pub right : IsReached users boot then_h
    right = record { turns = suc c.right.turns; run = (h, (c.right.run, record { core = core; pick = k; turn = other })) }

    pub same : SameButNumbers (outcome g.book step) (outcome h.book step)
    same = line-outcomes g.book h.book (line_for step (outcome g.book step)) (legal _ left) (legal h c.right) ((by-likeness numbered).numbers (log_of g.book) (log_of h.book) c.logs)

    logs_after : AlikeBy numbered (log_of (entered users turn.picks turn.user step k g).book) (log_of then_h.book)
    logs_after = (by-likeness numbered).steps g.book h.book (line_for step (outcome g.book step)) (legal _ left) (legal h c.right) c.logs

    -- where the users are after the turn, by where they were, its answer and what it delivered
    abbrev places_by : List Position → Answer → List Reached → List Position
    places_by ps x rs = all_answered rs k.user 0 users (put_at k.user (position_after turn.user k.number (saved_at (record g { places = ps }) k.user) x) ps)

    pub places_after : (entered users turn.picks turn.user step k g).places ≡ then_h.places
    places_after =
        ap (λ ps. places_by ps (outcome g.book step).answer (reached_from None (outcome g.book step).records)) c.places
        ∙ ap (λ (x : Answer). places_by h.places x (reached_from None (outcome g.book step).records)) same.answer
        ∙ ap (λ (rs : List Reached). places_by h.places (outcome h.book step).answer rs) (mail-same None (outcome g.book step).records (outcome h.book step).records same.records)

    after : AreAlike numbered users boot (entered users turn.picks turn.user step k g) then_h
    after = record {
      close = record {
        left = left;
        right = right;
        logs = logs_after;
        places = places_after;
      };
      choices = λ picks are. ap (λ ss. choices picks ss) (stale-same core.0 k.user turn.picks g.stale h.stale (a.choices turn.picks turn.are_picks));
    }

    pub newest : SameNewest t.book then_h.book
    newest = subst (λ (x : RunState). SameNewest x.book then_h.book) (sym turn.after) same

    pub same-turn : IsSameTurn numbered users boot core k t h
    same-turn = record { run_state = then_h; turn = other; newest = newest; alike = subst (λ x. AreAlike numbered users boot x then_h) (sym turn.after) after }

    pub respected : (w : RunState) × (Follows users h w × AreAlike numbered users boot t w)
    respected = (then_h, (record { core = core; pick = k; turn = other }, subst (λ x. AreAlike numbered users boot x then_h) (sym turn.after) after))

  pub same-turns : AreSameTurns numbered users boot
  same-turns = λ g h t core k a turn. same-turn g h a core k t turn

  pub likeness : IsLikeness (Follows users) (AreAlike numbered users boot)
  likeness = record {
    trans = λ s t u a b. record {
      close = record {
        left = a.close.left;
        right = b.close.right;
        logs = (by-likeness numbered).trans (log_of s.book) (log_of t.book) (log_of u.book) a.close.logs b.close.logs;
        places = a.close.places ∙ b.close.places;
      };
      choices = λ picks are. a.choices picks are ∙ b.choices picks (picks-there numbered users boot s t a.close picks are);
    };
    respects = λ s v t a f. respected s v a f.core f.pick t f.turn;
  }

  -- a run is like itself
  pub alike-self : (g : RunState) → IsReached users boot g → AreAlike numbered users boot g g
  alike-self g r = record {
    close = record { left = r; right = r; logs = by-self numbered (log_of g.book) (legal-sound g.book (legal g r)); places = refl };
    choices = λ picks are. refl;
  }

-- and likeness goes both ways
pub alike-back : (numbered : Bool) (users : List User) (boot : Boot) (g h : RunState) → AreAlike numbered users boot g h → AreAlike numbered users boot h g
alike-back numbered users boot g h a = record { close = back; choices = λ picks are. sym (a.choices picks (picks-there numbered users boot h g back picks are)) }
  where
    back : AreClose numbered users boot h g
    back = record { left = a.close.right; right = a.close.left; logs = by-back numbered (log_of g.book) (log_of h.book) a.close.logs; places = sym a.close.places }

-- where one is over, so is the other
pub over-there : (numbered : Bool) (users : List User) (boot : Boot) (g h : RunState) → AreAlike numbered users boot g h → IsOver users g → IsOver users h
over-there numbered users boot g h a over = λ t f.
    over _ (record { core = f.core; pick = f.pick; turn = turn-there numbered users boot h g (alike-back numbered users boot g h a) f.core f.pick t f.turn })

-- alike runs, where numbers are not distinguished
pub unnumbered-alike : (users : List User) (boot : Boot) (g h : RunState) → AreAlike true users boot g h → AreAlike false users boot g h
unnumbered-alike users boot g h a = record {
  close = record { left = a.close.left; right = a.close.right; logs = but-numbers (log_of g.book) (log_of h.book) a.close.logs; places = a.close.places };
  choices = a.choices;
}
