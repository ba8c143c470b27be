-- What was shown first is what is kept.
use Rattle.std.specs.Prelude.{ℕ, ◌≡◌, ◌++◌, ◌⊎◌, Bool, true, false, cond, List, [], ◌∷◌, Option, Some, None, length, slice_get}
use Rattle.std.proofs.Common.{refl, ap, sym, ◌∙◌, subst, inl, inr, arith}
use Rattle.mcs_types.specs.declared.entry.Answer.{Answer}
use Rattle.mcs_turns.specs.declared.position.Position.{Position}
use Rattle.mcs_turns.specs.declared.position.Pick.{Pick}
use Rattle.mcs_turns.specs.Turns.{User, RunState}
use Rattle.mcs_explore_walk.specs.declared.walk.Turn.{Turn}
use Rattle.mcs_explore_orders.specs.Shown.{Made, Shown, SeenState, with_state, with_turn}
use Rattle.mcs_explore_report.specs.declared.answers.Witness.{Witness}
use Rattle.mcs_turns.specs.declared.reached.Reached.{Reached}
use Rattle.mcs_explore_script.specs.declared.questions.AskedLine.{AskedLine}
use Rattle.mcs_explore_report.specs.declared.judgement.Sighting.{Sighting}
use Rattle.mcs_explore_report.specs.Answers.{AreAnswersOf, AreMailOf, AreNotedMail, IsAmong, IsNoted, IsNotedFor, IsNotedOf, IsNotedTurn, Tables, mailed_to, table_of}
use Rattle.mcs_explore_report.specs.Ends.{AreEndsOf, IsKindAt, IsNoted as IsEndNoted, IsNotedIf, Kind}
use Rattle.mcs_explore_report.specs.Firsts.{AreFirstAnswers, AreFirstEnds, AreFirstFailures, HasGiven, IsStateBefore, IsTurnBefore}
use Rattle.mcs_explore_report.specs.Judged.{AreJudged, AreJudgedBy, judged}
use Rattle.mcs_explore_report.specs.Judging.{fails}
use Rattle.mcs_turns.specs.Mail.{brought}
use Rattle.mcs_explore_report.specs.Standings.{standings}
use Rattle.mcs_explore_search.proofs.Places.{at-last, at-old, at-split, at-within, some-same, within-at}
use Rattle.mcs_explore_report.proofs.Noting.{counted-back}
use Rattle.mcs_explore_report.proofs.Telling.{Grows, for-grows, table-was, turn-grows}

state-more : (states more : List SeenState) (place j : ℕ) → IsStateBefore states place j → IsStateBefore (states ++ more) place j
state-more states more place j b = record { number = b.number; sight = b.sight; at = at-old states more b.number b.sight b.at; there = b.there; before = b.before }

turn-more : (turns more : List Made) (place j : ℕ) → IsTurnBefore turns place j → IsTurnBefore (turns ++ more) place j
turn-more turns more place j b = record { number = b.number; made = b.made; at = at-old turns more b.number b.made b.at; there = b.there; before = b.before }

-- what was shown before has a place before what is shown last
state-last : (states : List SeenState) (s : SeenState) (place number j : ℕ) (x : SeenState) → slice_get states number ≡ Some x → x.place ≡ place → j ≡ length states → IsStateBefore (states ++ s ∷ []) place j
state-last states s place number j x at is last = let lt = at-within states number x at in record { number = number; sight = x; at = at-old states (s ∷ []) number x at; there = is; before = omega (arith, lt, last) }

state-here : (states : List SeenState) (s : SeenState) (place j : ℕ) → s.place ≡ place → j ≡ length states → IsStateBefore (states ++ s ∷ []) place j
state-here states s place j is last = record { number = length states; sight = s; at = at-last states s; there = is; before = omega (arith, last) }

turn-last : (turns : List Made) (m : Made) (place number j : ℕ) (x : Made) → slice_get turns number ≡ Some x → x.place ≡ place → j ≡ length turns → IsTurnBefore (turns ++ m ∷ []) place j
turn-last turns m place number j x at is last = let lt = at-within turns number x at in record { number = number; made = x; at = at-old turns (m ∷ []) number x at; there = is; before = omega (arith, lt, last) }

turn-here : (turns : List Made) (m : Made) (place j : ℕ) → m.place ≡ place → j ≡ length turns → IsTurnBefore (turns ++ m ∷ []) place j
turn-here turns m place j is last = record { number = length turns; made = m; at = at-last turns m; there = is; before = omega (arith, last) }

-- ends

module _ (users : List User) (states : List SeenState) (old new : List Kind) (place : ℕ) (g : RunState) (over : Bool) (are : AreEndsOf users states old) (first : AreFirstEnds users states old) where
  abbrev sight : SeenState
  sight = record { place = place; run_state = g; is_over = over }

  -- a kind that was kept before
  end-old : (i j : ℕ) (k l : Kind) (s : SeenState) → slice_get old i ≡ Some l → l.standing ≡ k.standing → l.place ≡ k.place → s.is_over ≡ true → standings users s.run_state ≡ k.standing
      → (slice_get states j ≡ Some s) ⊎ ((j ≡ length states) × (s ≡ sight)) → IsStateBefore (states ++ sight ∷ []) k.place j
  end-old i j k l s at same same_place is_over stands (inl there) =
      subst (λ p. IsStateBefore (states ++ sight ∷ []) p j) same_place (state-more states (sight ∷ []) l.place j (first i j l s at there is_over (stands ∙ sym same)))
  end-old i j k l s at same same_place is_over stands (inr e) = let x = are.each i l at in state-last states sight k.place x.number j x.sight x.at (x.place ∙ same_place) e.0

  -- one that is new
  end-new : (j : ℕ) (s : SeenState) → ((i : ℕ) → IsKindAt old (standings users g) i → ⊥) → s.is_over ≡ true → standings users s.run_state ≡ standings users g
      → (slice_get states j ≡ Some s) ⊎ ((j ≡ length states) × (s ≡ sight)) → IsStateBefore (states ++ sight ∷ []) place j
  end-new j s none is_over stands (inl there) = let k = are.all j s there is_over in absurd (none k.0 (subst (λ ss. IsKindAt old ss k.0) stands k.1))
  end-new j s none is_over stands (inr e) = state-here states sight place j refl e.0

  end-noted : IsEndNoted (standings users g) place old new → AreFirstEnds users (states ++ sight ∷ []) new
  end-noted (inl c) = λ i j k s at there is_over stands.
      let b = counted-back old c.place c.is.kind 1 c.is.at i k (ap (λ (ks : List Kind). slice_get ks i) (sym c.counted) ∙ at) in
      end-old i j k b.0 s b.1.0 b.1.1.0 b.1.1.1 is_over stands (at-split states sight j s there)
  end-noted (inr f) = λ i j k s at there is_over stands. go i j k s is_over stands (at-split states sight j s there) (at-split old kind i k (ap (λ (ks : List Kind). slice_get ks i) (sym f.added) ∙ at))
    where
      kind : Kind
      kind = record { standing = standings users g; count = 1; place = place }

      none : (i : ℕ) → IsKindAt old (standings users g) i → ⊥
      none i k = f.none i k.kind (at-within old i k.kind k.at) k.at k.same

      go : (i j : ℕ) (k : Kind) (s : SeenState) → s.is_over ≡ true → standings users s.run_state ≡ k.standing → (slice_get states j ≡ Some s) ⊎ ((j ≡ length states) × (s ≡ sight)) → (slice_get old i ≡ Some k) ⊎ ((i ≡ length old) × (k ≡ kind))
          → IsStateBefore (states ++ sight ∷ []) k.place j
      go i j k s is_over stands there (inl h) = end-old i j k k s h refl refl is_over stands there
      go i j k s is_over stands there (inr e) =
          subst (λ p. IsStateBefore (states ++ sight ∷ []) p j) (ap (λ (x : Kind). x.place) (sym e.1)) (end-new j s none is_over (stands ∙ ap (λ (x : Kind). x.standing) e.1) there)

  pub ends-first : IsNotedIf over (standings users g) place old new → AreFirstEnds users (states ++ sight ∷ []) new
  ends-first (inl same) = λ i j k s at there is_over stands. go i j k s (ap (λ (ks : List Kind). slice_get ks i) (sym same.1) ∙ at) is_over stands (at-split states sight j s there)
    where
      go : (i j : ℕ) (k : Kind) (s : SeenState) → slice_get old i ≡ Some k → s.is_over ≡ true → standings users s.run_state ≡ k.standing → (slice_get states j ≡ Some s) ⊎ ((j ≡ length states) × (s ≡ sight)) → IsStateBefore (states ++ sight ∷ []) k.place j
      go i j k s at is_over stands there = end-old i j k k s at refl refl is_over stands there
  ends-first (inr noted) = end-noted noted.1

-- answers: what is in a table after a turn was there before it, or is new there and of the place of
-- the turn

abbrev IsOldOrNew : List Witness → ℕ → Witness → Type 0
IsOldOrNew before place x = ((i : ℕ) × (slice_get before i ≡ Some x)) ⊎ ((x.place ≡ place) × (IsAmong before x.answer → ⊥))

abbrev Comes : Tables → Tables → ℕ → Type 0
Comes old new place = (a b : ℕ) (after : List Witness) → table_of new a b ≡ Some after
    → (before : List Witness) × ((table_of old a b ≡ Some before) × ((i : ℕ) (x : Witness) → slice_get after i ≡ Some x → IsOldOrNew before place x))

same-comes : (old new : Tables) (place : ℕ) → new ≡ old → Comes old new place
same-comes old new place same = λ a b after at. (after, (ap (λ (ts : Tables). table_of ts a b) (sym same) ∙ at, λ i x there. inl (i, there)))

comes-on : (old mid new : Tables) (place : ℕ) → Grows old mid → Comes old mid place → Comes mid new place → Comes old new place
comes-on old mid new place grows first then = λ a b after at.
    let m = then a b after at in
    let o = first a b m.0 m.1.0 in
    (o.0, (o.1.0, λ i x there. go a b m.0 o.0 m.1.0 o.1.0 o.1.1 x (m.1.1 i x there)))
  where
    go : (a b : ℕ) (middle before : List Witness) → table_of mid a b ≡ Some middle → table_of old a b ≡ Some before → ((i : ℕ) (x : Witness) → slice_get middle i ≡ Some x → IsOldOrNew before place x) → (x : Witness) → IsOldOrNew middle place x → IsOldOrNew before place x
    go a b middle before in_mid in_old was x (inl h) = was h.0 x h.1
    go a b middle before in_mid in_old was x (inr n) =
        inr (n.0, λ among. n.1 (grows a b middle x.answer in_mid (λ witnesses at. subst (λ ts. IsAmong ts x.answer) (some-same before witnesses (sym in_old ∙ at)) among)))

noted-comes : (user number : ℕ) (t : Witness) (old new : Tables) → IsNotedOf user number t old new → Comes old new t.place
noted-comes user number t old new noted = λ a b after at. let w = table-was user number t old new noted a b after at in (w.before, (w.at, λ i x there. go w.before after w.is i x there))
  where
    added : (before after : List Witness) → IsNoted t before after → (i : ℕ) (x : Witness) → slice_get after i ≡ Some x → IsOldOrNew before t.place x
    added before after (inl same) i x there = inl (i, ap (λ (ts : List Witness). slice_get ts i) (sym same.1) ∙ there)
    added before after (inr new_one) i x there = side (at-split before t i x (ap (λ (ts : List Witness). slice_get ts i) (sym new_one.added) ∙ there))
      where
        side : (slice_get before i ≡ Some x) ⊎ ((i ≡ length before) × (x ≡ t)) → IsOldOrNew before t.place x
        side (inl h) = inl (i, h)
        side (inr e) = inr (ap (λ (y : Witness). y.place) e.1, λ among. new_one.none (subst (λ (y : Witness). IsAmong before y.answer) e.1 among))

    go : {a b : ℕ} (before after : List Witness) → ((a ≡ user) × (b ≡ number) × IsNoted t before after) ⊎ (((a ≡ user) × (b ≡ number) → ⊥) × (after ≡ before)) → (i : ℕ) (x : Witness) → slice_get after i ≡ Some x → IsOldOrNew before t.place x
    go before after (inl mine) i x there = added before after mine.2 i x there
    go before after (inr other) i x there = inl (i, ap (λ (ts : List Witness). slice_get ts i) (sym other.1) ∙ there)

turn-comes : (t : Witness) (old new : Tables) → IsNotedTurn t old new → Comes old new t.place
turn-comes t old new (inl waits) = same-comes old new t.place waits.1
turn-comes t old new (inr noted) = noted-comes t.turn.pick.user t.turn.pick.number t old new noted

for-comes : (o : Option Pick) (t : Witness) (old new : Tables) → IsNotedFor o t old new → Comes old new t.place
for-comes None t old new same = same-comes old new t.place same
for-comes (Some e) t old new noted = noted-comes e.user e.number t old new noted

mail-comes : (users : List User) (from : List Position) (place : ℕ) (t : Turn) (rs : List Reached) (old new : Tables) → AreNotedMail users from place t rs old new → Comes old new place
mail-comes users from place t [] old new same = same-comes old new place same
mail-comes users from place t (r ∷ rs) old new (mid, (one, rest)) =
    comes-on old mid new place (for-grows (mailed_to users from t r) (record { answer = r.answer; place = place; turn = t }) old mid one) (for-comes (mailed_to users from t r) (record { answer = r.answer; place = place; turn = t }) old mid one)
    (mail-comes users from place t rs mid new rest)

module _ (users : List User) (turns : List Made) (m : Made) (old mid new : Tables) (own : IsNotedTurn (record { answer = m.answer; place = m.place; turn = m.turn }) old mid)
    (mail : AreNotedMail users m.from m.place m.turn (brought m.run_state.book) mid new) (are : AreAnswersOf users turns old) (are_mail : AreMailOf users turns old) (first : AreFirstAnswers users turns old) where
  comes : Comes old new m.place
  comes = comes-on old mid new m.place (turn-grows (record { answer = m.answer; place = m.place; turn = m.turn }) old mid own) (turn-comes (record { answer = m.answer; place = m.place; turn = m.turn }) old mid own)
      (mail-comes users m.from m.place m.turn (brought m.run_state.book) mid new mail)

  -- what a turn gave that was shown before was kept
  was-kept : (a b j : ℕ) (before : List Witness) (n : Made) (x : Answer) → table_of old a b ≡ Some before → slice_get turns j ≡ Some n → HasGiven users n a b x → IsAmong before x
  was-kept a b j before n x at there (inl given) =
      let o = given.0 in
      subst (λ y. IsAmong before y) o.answer (are.all j n before there (λ waits. given.1 (sym o.answer ∙ waits)) (ap (λ u. table_of old u n.turn.pick.number) o.user ∙ ap (λ k. table_of old a k) o.number ∙ at))
  was-kept a b j before n x at there (inr mailed) = are_mail j n a b x before there mailed at

  pub answers-first : AreFirstAnswers users (turns ++ m ∷ []) new
  answers-first = λ a b i j witnesses t n at there shown gave. let c = comes a b witnesses at in go a b j c.0 t n c.1.0 gave (at-split turns m j n shown) (c.1.1 i t there)
    where
      go : (a b j : ℕ) (before : List Witness) (t : Witness) (n : Made) → table_of old a b ≡ Some before → HasGiven users n a b t.answer → (slice_get turns j ≡ Some n) ⊎ ((j ≡ length turns) × (n ≡ m)) → IsOldOrNew before m.place t → IsTurnBefore (turns ++ m ∷ []) t.place j
      go a b j before t n at gave (inl h) (inl was) = turn-more turns (m ∷ []) t.place j (first a b was.0 j before t n at was.1 h gave)
      go a b j before t n at gave (inr e) (inl was) = let x = are.each a b before was.0 t at was.1 in turn-last turns m t.place x.index j x.made x.at x.place e.0
      go a b j before t n at gave (inl h) (inr is_new) = absurd (is_new.1 (was-kept a b j before n t.answer at h gave))
      go a b j before t n at gave (inr e) (inr is_new) = turn-here turns m t.place j (sym is_new.0) e.0

-- failures

-- a question that had not failed fails now, or does not
new-failure : (b : Bool) (seen other : Sighting) → cond b (Some seen) None ≡ Some other → seen ≡ other
new-failure true seen other e = some-same seen other e
new-failure false seen other e = absurd cc

-- where it had, it is kept so
module _ (users : List User) (questions : List AskedLine) (shown : Shown) (seen : Sighting) (g : RunState) (before after : List (Option Sighting)) (by : AreJudgedBy users questions seen g before after) where
  was : (i : ℕ) (q : AskedLine) (other : Sighting) → slice_get questions i ≡ Some q → slice_get after i ≡ Some (Some other) → (f : Option Sighting) × ((slice_get before i ≡ Some f) × (judged users q.asked seen g f ≡ Some other))
  was i q other asks at =
      let f = within-at before i (let lt = at-within after i (Some other) at in let long = by.long in omega (arith, lt, long)) in
      (f.0, (f.1, some-same (judged users q.asked seen g f.0) (Some other) (sym (by.each i q f.0 asks f.1) ∙ at)))

module _ (users : List User) (questions : List AskedLine) (shown : Shown) (place : ℕ) (g : RunState) (over : Bool) (before after : List (Option Sighting)) (by : AreJudgedBy users questions (record { place = place; turn = None }) g before after)
    (are : AreJudged users questions shown before) (first : AreFirstFailures users questions shown before) where
  abbrev look : SeenState
  look = record { place = place; run_state = g; is_over = over }

  pub state-failures : AreFirstFailures users questions (with_state place g over shown) after
  state-failures = record {
    states = λ i j p q s asks at there fails_it.
        let w = was users questions shown (record { place = place; turn = None }) g before after by i q (record { place = p; turn = None }) asks at in
        states i j p q s asks fails_it w.0 w.1.0 w.1.1 (at-split shown.states look j s there);
    turns = λ i j p t q m asks at there fails_it.
        let w = was users questions shown (record { place = place; turn = None }) g before after by i q (record { place = p; turn = Some t }) asks at in
        turns i j p t q m asks there fails_it w.0 w.1.0 w.1.1;
  }
    where
      states : (i j p : ℕ) (q : AskedLine) (s : SeenState) → slice_get questions i ≡ Some q → fails users q.asked None s.run_state ≡ true → (f : Option Sighting) → slice_get before i ≡ Some f
          → judged users q.asked (record { place = place; turn = None }) g f ≡ Some (record { place = p; turn = None }) → (slice_get shown.states j ≡ Some s) ⊎ ((j ≡ length shown.states) × (s ≡ look)) → IsStateBefore (shown.states ++ look ∷ []) p j
      states i j p q s asks fails_it (Some b) at is (inl there) =
          state-more shown.states (look ∷ []) p j (first.states i j p q s asks (at ∙ ap (λ (o : Option Sighting). Some o) is) there fails_it)
      states i j p q s asks fails_it (Some b) at is (inr e) =
          let x = are.each i q (Some (record { place = p; turn = None })) asks (at ∙ ap (λ (o : Option Sighting). Some o) is) in
          state-last shown.states look p x.is.number j x.is.sight x.is.at x.is.place e.0
      states i j p q s asks fails_it None at is (inl there) = let held = (are.each i q None asks at).states j s there in absurd cc
      states i j p q s asks fails_it None at is (inr e) =
          state-here shown.states look p j (ap (λ (x : Sighting). x.place) (new-failure (fails users q.asked None g) (record { place = place; turn = None }) (record { place = p; turn = None }) is)) e.0

      turns : (i j p : ℕ) (t : Turn) (q : AskedLine) (m : Made) → slice_get questions i ≡ Some q → slice_get shown.turns j ≡ Some m → fails users q.asked (Some m.turn) m.run_state ≡ true → (f : Option Sighting) → slice_get before i ≡ Some f
          → judged users q.asked (record { place = place; turn = None }) g f ≡ Some (record { place = p; turn = Some t }) → IsTurnBefore shown.turns p j
      turns i j p t q m asks there fails_it (Some b) at is = first.turns i j p t q m asks (at ∙ ap (λ (o : Option Sighting). Some o) is) there fails_it
      turns i j p t q m asks there fails_it None at is =
          let no = ap (λ (x : Sighting). x.turn) (new-failure (fails users q.asked None g) (record { place = place; turn = None }) (record { place = p; turn = Some t }) is) in absurd cc

module _ (users : List User) (questions : List AskedLine) (shown : Shown) (place : ℕ) (u : Turn) (a : Answer) (from : List Position) (h : RunState) (before after : List (Option Sighting)) (by : AreJudgedBy users questions (record { place = place; turn = Some u }) h before after)
    (are : AreJudged users questions shown before) (first : AreFirstFailures users questions shown before) where
  abbrev made : Made
  made = record { place = place; turn = u; answer = a; from = from; run_state = h }

  pub turn-failures : AreFirstFailures users questions (with_turn place u a from h shown) after
  turn-failures = record {
    states = λ i j p q s asks at there fails_it.
        let w = was users questions shown (record { place = place; turn = Some u }) h before after by i q (record { place = p; turn = None }) asks at in
        states i j p q s asks there fails_it w.0 w.1.0 w.1.1;
    turns = λ i j p t q m asks at there fails_it.
        let w = was users questions shown (record { place = place; turn = Some u }) h before after by i q (record { place = p; turn = Some t }) asks at in
        turns i j p t q m asks fails_it w.0 w.1.0 w.1.1 (at-split shown.turns made j m there);
  }
    where
      states : (i j p : ℕ) (q : AskedLine) (s : SeenState) → slice_get questions i ≡ Some q → slice_get shown.states j ≡ Some s → fails users q.asked None s.run_state ≡ true → (f : Option Sighting) → slice_get before i ≡ Some f
          → judged users q.asked (record { place = place; turn = Some u }) h f ≡ Some (record { place = p; turn = None }) → IsStateBefore shown.states p j
      states i j p q s asks there fails_it (Some b) at is = first.states i j p q s asks (at ∙ ap (λ (o : Option Sighting). Some o) is) there fails_it
      states i j p q s asks there fails_it None at is =
          let no = ap (λ (x : Sighting). x.turn) (new-failure (fails users q.asked (Some u) h) (record { place = place; turn = Some u }) (record { place = p; turn = None }) is) in absurd cc

      turns : (i j p : ℕ) (t : Turn) (q : AskedLine) (m : Made) → slice_get questions i ≡ Some q → fails users q.asked (Some m.turn) m.run_state ≡ true → (f : Option Sighting) → slice_get before i ≡ Some f
          → judged users q.asked (record { place = place; turn = Some u }) h f ≡ Some (record { place = p; turn = Some t }) → (slice_get shown.turns j ≡ Some m) ⊎ ((j ≡ length shown.turns) × (m ≡ made)) → IsTurnBefore (shown.turns ++ made ∷ []) p j
      turns i j p t q m asks fails_it (Some b) at is (inl there) =
          turn-more shown.turns (made ∷ []) p j (first.turns i j p t q m asks (at ∙ ap (λ (o : Option Sighting). Some o) is) there fails_it)
      turns i j p t q m asks fails_it (Some b) at is (inr e) =
          let x = are.each i q (Some (record { place = p; turn = Some t })) asks (at ∙ ap (λ (o : Option Sighting). Some o) is) in
          turn-last shown.turns made p x.is.number j x.is.made x.is.at x.is.place e.0
      turns i j p t q m asks fails_it None at is (inl there) = let held = (are.each i q None asks at).turns j m there in absurd cc
      turns i j p t q m asks fails_it None at is (inr e) =
          turn-here shown.turns made p j (ap (λ (x : Sighting). x.place) (new-failure (fails users q.asked (Some u) h) (record { place = place; turn = Some u }) (record { place = p; turn = Some t }) is)) e.0
