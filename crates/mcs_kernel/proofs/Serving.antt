-- What is known of an accepted entry, and of the book after it.
use Rattle.std.specs.Prelude.{◌≡◌, ◌≢◌, ◌<◌, ◌≤◌, ◌+◌, ◌∷◌, ◌++◌, ◌&&◌, Bool, true, false, cond, List, [], length, reverse, Option, Some, None, option_and_then}
use Rattle.std.proofs.Common.{refl, ap, sym, subst, ◌∙◌, arith}
use Rattle.std.proofs.lemmas.Grind.{common_steps}
use Rattle.std.proofs.lemmas.List.{reverse-reverse, append-nil}
use Rattle.mcs_types.specs.declared.id.ObjId.{ObjId}
use Rattle.mcs_types.specs.declared.id.CoreId.{CoreId}
use Rattle.mcs_types.specs.declared.id.Kind.TheVariants as kind
use Rattle.mcs_types.specs.declared.record.Mode.{Mode}
use Rattle.mcs_types.specs.declared.record.Mode.TheVariants.{Running, Restart, Inactive}
use Rattle.mcs_types.specs.declared.record.Queue.{Queue}
use Rattle.mcs_types.specs.declared.record.Rec.{Rec}
use Rattle.mcs_types.specs.declared.record.Status.TheVariants as status
use Rattle.mcs_types.specs.Ids.{same_kind}
use Rattle.mcs_book.specs.Logs.{Log, onto}
use Rattle.mcs_book.specs.Objects.{form_of, was_made, was_closed}
use Rattle.mcs_book.specs.Threads.{mode_of}
use Rattle.mcs_book.specs.Queues.{queue_of}
use Rattle.mcs_book.specs.Contexts.{context_of}
use Rattle.mcs_book.specs.Replies.{owing}
use Rattle.mcs_book.specs.Statuses.{status_of, status_by, is_ready, is_on_core, may_enter}
use Rattle.mcs_book.specs.History.{Book, IsLegal, log_of}
use Rattle.mcs_types.specs.Limits.{core_limit, line_limit}
use Rattle.mcs_types.specs.Ranges.{InRange}
use Rattle.mcs_types.proofs.Ids.{parts, both}
use Rattle.mcs_book.proofs.Threads.EntersLaws.{enters-ready}
use Rattle.mcs_book.proofs.Firm.Laws.{Firm, firm-sound, owing-none, root-there, waiter-bound}
use Rattle.mcs_state.proofs.Opening.{onto-reverse}
use Rattle.mcs_state.specs.Entering.{IsEntering, OpenStand, OnlyBoundWait}
use Rattle.mcs_state.specs.Doing.{Does, Fits}
use Rattle.mcs_state.specs.Tables.{HAND, ROOM}
use Rattle.mcs_types.specs.declared.entry.Answer.{Answer}
use Rattle.mcs_types.specs.declared.entry.Entry.{Entry}
use Rattle.mcs_book.specs.Logs.{counted}
use Rattle.mcs_book.specs.Objects.{makes_kind}
use Rattle.mcs_book.specs.Pieces.{Outcome}
use Rattle.mcs_book.specs.Table.{does}
use Rattle.mcs_book.proofs.Lengths.Rows.{does-short}
use Rattle.mcs_book.proofs.Messages.SendersOpen.{legal-senders}
use Rattle.mcs_book.specs.Boots.{Boot, IsFaultless}
use Rattle.mcs_book.proofs.SoundLogs.SoundBooks.{legal-firm}
use Rattle.mcs_book.proofs.Books.KnownCores.{legal-cores}
use Rattle.mcs_caps.specs.NewObjects.{HasSerials}
use Rattle.mcs_kernel.specs.Resting.{IsResting}
use Rattle.mcs_boots.proofs.Booting.{length-made}
use Rattle.mcs_kernel.proofs.Serials.{serials-left}
use Rattle.mcs_types.specs.declared.entry.Step.{Step}
use Rattle.mcs_state.specs.Now.{Now, so_far}
use Rattle.mcs_kernel.specs.declared.fault.EnterFault.TheVariants.{NotRunning, WrongCore, BookFull}
use Rattle.mcs_kernel.specs.Faults.{has_room, context_fault, fault_of, entered}

-- what an entry without fault tells
pub fault-none : (b : Book) (core : CoreId) (t : ObjId) → fault_of b core t ≡ None → (may_enter (log_of b) core t ≡ true) × (length b.lines + 1 < line_limit)
unfolding fault_of may_enter
fault-none b core t h = go (is_ready (status_of (log_of b) t)) refl (context_of (log_of b) t) refl h
  where
    on : (s : ObjId) (v : Bool) → is_on_core core (form_of (log_of b) s) ≡ v → (w : Bool) → has_room b ≡ w → cond v (cond w None (Some BookFull)) (Some WrongCore) ≡ None
        → (is_on_core core (form_of (log_of b) s) ≡ true) × (has_room b ≡ true)
    on s true e true f k = (e, f)
    on s true e false f k = absurd cc
    on s false e w f k = absurd cc

    room : has_room b ≡ true → length b.lines + 1 < line_limit
    room is = grind (arith, common_steps, is)

    go : (r : Bool) → is_ready (status_of (log_of b) t) ≡ r → (o : Option ObjId) → context_of (log_of b) t ≡ o → cond r (context_fault b core o) (Some NotRunning) ≡ None
        → (is_ready (status_of (log_of b) t) && is_on_core core (option_and_then (form_of (log_of b)) (context_of (log_of b) t)) ≡ true) × (length b.lines + 1 < line_limit)
    go true e None f k = absurd cc
    go false e o f k = absurd cc
    go true e (Some s) f k =
        let p = on s (is_on_core core (form_of (log_of b) s)) refl (has_room b) refl k in
        (both _ _ e (ap (λ o. is_on_core core (option_and_then (form_of (log_of b)) o)) f ∙ p.0), room p.1)

-- a thread that may enter is not inactive
awake : (R : Log) (core : CoreId) (t : ObjId) → may_enter R core t ≡ true → mode_of R t ≢ Inactive
unfolding may_enter status_of
awake R core t h still = go (same_kind t.kind kind.Thread && was_made R t) (was_closed R t) (queue_of R t) (owing R t) (mode_of R t) still ((parts _ _ h).0)
  where
    go : (b c : Bool) (q : Option Queue) (o : Option ObjId) (m : Mode) → m ≡ Inactive → is_ready (cond b (Some (cond c status.Closed (status_by q o m))) None) ≡ true → ⊥
    go true false None None Inactive e k = absurd cc
    go true false None None Running e k = absurd cc
    go true false None None Restart e k = absurd cc
    go true false None (Some r) m e k = absurd cc
    go true false (Some q) o m e k = absurd cc
    go true true q o m e k = absurd cc
    go false c q o m e k = absurd cc

-- what is known of a thread that enters
pub enters : (R : Log) (core : CoreId) (t : ObjId) → Firm R → may_enter R core t ≡ true → IsEntering R t
enters R core t firm h =
    let e = enters-ready R core t h in
    record { there = (e.thread, e.alive); idle = (e.stands_none, owing-none R t (firm-sound R firm) e.owed_none); awake = awake R core t h; rooted = λ root is. root-there R t root firm is }

-- the records so far of a state whose hand is empty
pub so_far-book : (n : Now) (b : Book) → n.hand ≡ [] → n.book ≡ b → so_far n ≡ log_of b
so_far-book n b empty is = ap (λ h. h ++ log_of n.book) empty ∙ ap (λ (c : Book). log_of c) is

-- the records in hand, read in order
pub hand-records : (recs : List Rec) (hand : Log) → hand ≡ [] → reverse (onto recs hand) ≡ recs
hand-records recs hand empty = ap (λ h. reverse (onto recs h)) empty ∙ ap (λ h. reverse h) (onto-reverse recs [] ∙ append-nil (reverse recs)) ∙ reverse-reverse recs

-- the book with the line of an entry that is accepted is legal
pub legal-entered : (b : Book) (s : Step) → IsLegal b → may_enter (log_of b) s.core s.thread ≡ true → InRange s.entry → IsLegal (entered b s)
legal-entered b s legal may range = record {
  boot = legal.boot;
  lines = (record { enters = may; in_range = range; answer = refl; records = refl }, legal.lines);
}

-- room for as many records as a line may have is room for those of an entry
pub entry-fits : (n : Now) (core : CoreId) (t : ObjId) (entry : Entry) → n.hand ≡ [] → HAND < n.room → counted (makes_kind kind.Thread) (so_far n) ≤ ROOM → Fits n core t entry
entry-fits n core t entry empty room few =
    let short = does-short (so_far n) core t entry in
    let all = length-made (so_far n) kind.Thread in
    let none = ap length empty in
    omega (arith, short, all, none, few, room)

-- an entry s was done on a state n whose hand is empty, and whose book is b
module _ (b : Book) (s : Step) (n m : Now) (a : Answer) (empty : n.hand ≡ []) (is : n.book ≡ b) (did : Does n s.core s.thread s.entry a m) where
  same-outcome : does (so_far n) s.core s.thread s.entry ≡ does (log_of b) s.core s.thread s.entry
  same-outcome = ap (λ R. does R s.core s.thread s.entry) (so_far-book n b empty is)

  -- its answer
  pub answer-entered : a ≡ (does (log_of b) s.core s.thread s.entry).answer
  answer-entered = did.answer ∙ ap (λ (o : Outcome). o.answer) same-outcome

  -- and its line
  pub line-entered : (told : Answer) → told ≡ a → record m.book { lines = (record { step = s; answer = told; records = reverse m.hand }) ∷ m.book.lines } ≡ entered b s
  line-entered told same_told =
      let make : Book → Answer → List Rec → Book = λ x y rs. record x { lines = (record { step = s; answer = y; records = rs }) ∷ x.lines } in
      let recs : reverse m.hand ≡ (does (log_of b) s.core s.thread s.entry).records = ap (λ (k : Now). reverse k.hand) did.records ∙ hand-records _ n.hand empty ∙ ap (λ (o : Outcome). o.records) same-outcome in
      let book : m.book ≡ b = ap (λ (k : Now). k.book) did.records ∙ is in
      ap (λ x. make x told (reverse m.hand)) book ∙ ap (λ y. make b y (reverse m.hand)) (same_told ∙ answer-entered) ∙ ap (λ rs. make b ((does (log_of b) s.core s.thread s.entry).answer) rs) recs

-- a kernel at rest made room for the line of a thread t that is accepted on a core; b is its book
pub record IsServing (b : Book) (core : CoreId) (t : ObjId) (n : Now) : Type 0 where
  pub hand : n.hand ≡ []
  pub book : n.book ≡ b
  pub legal : IsLegal b
  pub may : may_enter (log_of b) core t ≡ true
  pub few : length b.lines + 1 < line_limit

-- so it is if there is no fault
pub serving : (b : Book) (core : CoreId) (t : ObjId) (n m : Now) → IsResting n → n.book ≡ b → fault_of b core t ≡ None → m.hand ≡ n.hand → m.book ≡ n.book → IsServing b core t m
serving b core t n m rests is none hand book =
    let f = fault-none b core t none in
    record { hand = hand ∙ rests.hand; book = book ∙ is; legal = subst IsLegal is rests.legal; may = f.0; few = f.1 }

module _ (b : Book) (core : CoreId) (t : ObjId) (n : Now) (s : IsServing b core t n) where
  -- the records so far are those of the book
  records-are : log_of b ≡ so_far n
  records-are = sym (so_far-book n b s.hand s.book)

  -- the thread may act
  pub serving-enters : IsEntering (so_far n) t
  serving-enters = subst (λ R. IsEntering R t) records-are (enters (log_of b) core t (legal-firm b s.legal) s.may)

  -- open messages are queued
  pub serving-stands : OpenStand (so_far n)
  serving-stands = subst OpenStand records-are ((legal-senders b s.legal).open_queued)

  -- only the bound thread waits on a notification
  pub serving-waits : OnlyBoundWait (so_far n)
  serving-waits = subst OnlyBoundWait records-are (λ w o u at bound. waiter-bound (log_of b) w o u (legal-firm b s.legal) at bound)

  -- not each serial was given
  pub serving-serials : HasSerials (so_far n)
  serving-serials = let few = s.few in subst HasSerials records-are (serials-left b s.legal (omega (arith, few)))

  -- the core is one of the machine
  pub serving-core : (entry : Entry) → InRange entry → core.0 < core_limit
  serving-core entry range =
      let step : Step = record { core = core; thread = t; entry = entry } in
      let first : core.0 < b.boot.cores = (legal-cores (entered b step) (legal-entered b step s.legal s.may range)).0 in
      let cores : b.boot.cores ≤ core_limit = s.legal.boot.few_cores in
      omega (arith, first, cores)

  -- the kernel is at rest again when the line was closed
  pub rests-again : (entry : Entry) (a told : Answer) (m after : Now) → InRange entry → (did : Does n core t entry a m) → told ≡ a → after.hand ≡ []
      → after.book ≡ record m.book { lines = (record { step = record { core = core; thread = t; entry = entry }; answer = told; records = reverse m.hand }) ∷ m.book.lines } → IsResting after
  rests-again entry a told m after range did same_told hand closed =
      let step : Step = record { core = core; thread = t; entry = entry } in
      let line : entered b step ≡ after.book = sym (closed ∙ line-entered b step n m a s.hand s.book did told same_told) in
      let few = s.few in
      let longer = ap (λ (x : Book). length x.lines) line in
      record {
        hand = hand;
        legal = subst IsLegal line (legal-entered b step s.legal s.may range);
        few = omega (arith, longer, few);
      }

-- a state of a boot alone is at rest
pub rests-begun : (boot : Boot) (n : Now) → IsFaultless boot → n.hand ≡ [] → n.book ≡ record { boot = boot; lines = [] } → IsResting n
rests-begun boot n faultless hand is =
    let begun : Book = record { boot = boot; lines = [] } in
    let legal : IsLegal begun = record { boot = faultless; lines = tt } in
    let back : begun ≡ n.book = sym is in
    let none = ap (λ (b : Book). length b.lines) is in
    record { hand = hand; legal = subst IsLegal back legal; few = omega (arith, none) }
