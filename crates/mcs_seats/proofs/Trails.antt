-- Calls that are followed beside a book.
use Rattle.std.specs.Prelude.{ℕ, ◌≡◌, ◌≢◌, ◌<◌, ◌≤◌, ◌+◌, ◌-◌, ◌==◌, true, false, List, [], ◌∷◌, length, drop, Some, None}
use Rattle.std.proofs.Common.{refl, ap, sym, ◌∙◌, subst, arith, inl, inr, get_or}
use Rattle.std.proofs.lemmas.List.{drop_all, drop_more}
use Rattle.std.proofs.lemmas.Option.{get_or_from_slice_get, slice_get_cases}
use Rattle.mcs_types.specs.declared.id.CoreId.{CoreId}
use Rattle.mcs_book.specs.History.{Book, Line, line_of_number}
use Rattle.mcs_kernel.specs.Faults.{fault_of}
use Rattle.mcs_kernel.specs.declared.fault.EnterFault.{EnterFault}
use Rattle.mcs_seats.specs.declared.call.Answered.{Answered}
use Rattle.mcs_seats.specs.declared.call.Outcome.{Outcome}
use Rattle.mcs_seats.specs.declared.call.Outcome.TheVariants.{Entered, Away}
use Rattle.mcs_seats.specs.declared.call.Call.{Call}
use Rattle.mcs_seats.specs.Settling.{Note, note_of, notes_from, cut, next_note, next_line, later_notes, entered_note, IsRightAt, IsRight, AreRight, IsTornAt, notes_after, lines_after}
use Rattle.mcs_seats.specs.Trails.{Trail, past_line, notes_ahead, AreRightFrom, IsTornFrom, AreRightTo, CameLater, IsLater, IsTornOf}
use Rattle.mcs_seats.proofs.Notes.{notes-bounded, notes-foreign, notes-own, notes-none}

-- the calls that are left begin with the next one
pub next-call : (xs : List Call) (k : ℕ) (x : Call) → k < length xs → x ≡ get_or xs k x → drop k xs ≡ x ∷ drop (k + 1) xs
next-call xs k x lt is = drop_more xs k x lt ∙ ap (λ y. y ∷ drop (k + 1) xs) (sym is)

-- the call of this number
pub record IsCallAt (w : Trail) (k : ℕ) (x : Call) : Type 0 where
  pub few : k < length w.calls
  pub is : x ≡ get_or w.calls k x

-- the same of a trail that is this one
pub call-at : {t w : Trail} → t ≡ w → (k : ℕ) (x : Call) → k < length t.calls → x ≡ get_or t.calls k x → IsCallAt w k x
call-at same k x few is = record {
  few = subst (λ (s : Trail). k < length s.calls) same few;
  is = is ∙ ap (λ (s : Trail). get_or s.calls k x) same;
}

-- a call that is wrong is the first
pub wrong-torn : (w : Trail) (k : ℕ) (x : Call) → AreRightTo w k → IsCallAt w k x
    → ¬ (IsRight w.book w.core (notes_ahead w) w.at x) → IsTornOf w (k + 1)
wrong-torn w k x to here wrong =
    let torn : IsTornFrom w (drop k w.calls) 1 =
    subst (λ ys. IsTornFrom w ys 1) (sym (next-call w.calls k x here.few here.is)) (inl (refl, wrong)) in
    let same : 1 + k ≡ k + 1 = omega arith in
    subst (λ n. IsTornOf w n) same (to.torn 1 torn)

-- more is reported to the core than to its calls
pub left-torn : (w : Trail) (k : ℕ) → AreRightTo w k → length w.calls ≤ k → notes_ahead w ≢ [] → IsTornOf w (k + 1)
left-torn w k to le more =
    let torn : IsTornFrom w (drop k w.calls) 1 = subst (λ ys. IsTornFrom w ys 1) (sym (drop_all k w.calls le)) (refl, more) in
    let same : 1 + k ≡ k + 1 = omega arith in
    subst (λ n. IsTornOf w n) same (to.torn 1 torn)

-- the number of a torn call counts from 1
torn-some : (b : Book) (c : CoreId) (notes : List Note) (lines : ℕ) (xs : List Call) (n : ℕ) → IsTornAt b c notes lines xs n
    → 1 ≤ n
torn-some b c notes lines [] n h = let is = h.0 in omega (arith, is)
torn-some b c notes lines (x ∷ xs) n (inl h) = let is = h.0 in omega (arith, is)
torn-some b c notes lines (x ∷ xs) n (inr h) = let is = h.2 in omega (arith, is)

-- a call is right, and leads to the line of number `to`
record Leads (w : Trail) (x : Call) (o : Outcome) (to : ℕ) : Type 0 where
  pub right : IsRightAt w.book w.core (notes_ahead w) w.at x o
  pub lines : lines_after o ≡ to
  pub notes : notes_after o (notes_ahead w) ≡ notes_from w.book w.core to

-- what holds there, said by what became of the call
after : (w : Trail) (x : Call) (o : Outcome) (to : ℕ) (P : List Note → ℕ → Type 0) → Leads w x o to
    → P (notes_from w.book w.core to) to → P (notes_after o (notes_ahead w)) (lines_after o)
after w x o to P led h =
    subst (λ (n : ℕ). P (notes_after o (notes_ahead w)) n) (sym led.lines)
    (subst (λ (ns : List Note). P ns to) (sym led.notes) h)

-- a call more is right
right-more : (w : Trail) (k : ℕ) (x : Call) (to : ℕ) → AreRightTo w k → IsCallAt w k x
    → Leads w x x.outcome to → AreRightTo (record w { at = to }) (k + 1)
right-more w k x to h here led =
    let next = next-call w.calls k x here.few here.is in
    let lt = here.few in
    let later : List Call = drop (k + 1) w.calls in
    record {
      few = omega (arith, lt);
      right = λ r.
          let rest = after w x x.outcome to (λ ns i. AreRight w.book w.core ns i later) led r in
          h.right (subst (λ ys. AreRightFrom w ys) (sym next) (led.right, rest));
      torn = λ n t.
          let some : 1 ≤ n = torn-some w.book w.core (notes_from w.book w.core to) to later n t in
          let back : n ≡ n + 1 - 1 = omega arith in
          let rest = after w x x.outcome to (λ ns i. IsTornAt w.book w.core ns i later (n + 1 - 1)) led
          (subst (λ i. IsTornAt w.book w.core (notes_from w.book w.core to) to later i) back t) in
          let whole : IsTornFrom w (drop k w.calls) (n + 1) =
          subst (λ ys. IsTornFrom w ys (n + 1)) (sym next) (inr (led.right, rest, omega (arith, some))) in
          let same : n + 1 + k ≡ n + (k + 1) = omega arith in
          subst (λ i. IsTornOf w i) same (h.torn (n + 1) whole);
    }

-- a call that was skipped rightly before the next line
pub away-right : (w : Trail) (k : ℕ) (x : Call) (n : ℕ) (f : EnterFault) → AreRightTo w k → IsCallAt w k x
    → x.outcome ≡ Away n f → n ≡ w.at → 1 ≤ w.at → w.at ≤ length w.book.lines + 1
    → fault_of (cut w.book (w.at - 1)) w.core x.thread ≡ Some f → AreRightTo w (k + 1)
away-right w k x n f h call away here some few fault =
    let least : w.at ≤ next_line w.book (notes_ahead w) = (notes-bounded w.book w.core w.at some few).least in
    let right : IsRightAt w.book w.core (notes_ahead w) w.at x (Away w.at f) = (omega arith, least, fault) in
    let led : Leads w x (Away w.at f) w.at = record { right = right; lines = refl; notes = refl } in
    let came : Away w.at f ≡ x.outcome = sym (away ∙ ap (λ i. Away i f) here) in
    right-more w k x w.at h call (subst (λ o. Leads w x o w.at) came led)

-- no call is right that was skipped before
pub early-wrong : (w : Trail) (x : Call) (n : ℕ) (f : EnterFault) → x.outcome ≡ Away n f → n < w.at
    → ¬ (IsRight w.book w.core (notes_ahead w) w.at x)
early-wrong w x n f away early right =
    let r : IsRightAt w.book w.core (notes_ahead w) w.at x (Away n f) =
    subst (λ o. IsRightAt w.book w.core (notes_ahead w) w.at x o) away right in
    let least = r.0 in absurd (omega (arith, least, early))

-- nor one that was skipped for another reason
pub fault-wrong : (w : Trail) (x : Call) (n : ℕ) (f : EnterFault) → x.outcome ≡ Away n f → n ≡ w.at
    → ¬ (fault_of (cut w.book (w.at - 1)) w.core x.thread ≡ Some f) → ¬ (IsRight w.book w.core (notes_ahead w) w.at x)
fault-wrong w x n f away here other right =
    let r : IsRightAt w.book w.core (notes_ahead w) w.at x (Away n f) =
    subst (λ o. IsRightAt w.book w.core (notes_ahead w) w.at x o) away right in
    other (subst (λ i. fault_of (cut w.book (i - 1)) w.core x.thread ≡ Some f) here r.2)

-- a call that comes later is right at a line where it is right after it
later-back : (b : Book) (c : CoreId) (notes : List Note) (at : ℕ) (x : Call) (o : Outcome)
    → IsRightAt b c notes (at + 1) x o → IsRightAt b c notes at x o
later-back b c notes at x (Entered a) right = right
later-back b c notes at x (Away n f) right = let least = right.0 in (omega (arith, least), right.1, right.2)

-- and after it where it is right there
later-on : (b : Book) (c : CoreId) (notes : List Note) (at : ℕ) (x : Call) (o : Outcome) → CameLater at o
    → IsRightAt b c notes at x o → IsRightAt b c notes (at + 1) x o
later-on b c notes at x (Entered a) later right = right
later-on b c notes at x (Away n f) later right = (omega (arith, later), right.1, right.2)

all-back : (b : Book) (c : CoreId) (notes : List Note) (at : ℕ) (xs : List Call)
    → AreRight b c notes (at + 1) xs → AreRight b c notes at xs
all-back b c notes at [] h = h
all-back b c notes at (x ∷ xs) h = (later-back b c notes at x x.outcome h.0, h.1)

torn-back : (b : Book) (c : CoreId) (notes : List Note) (at : ℕ) (xs : List Call) (n : ℕ) → IsLater at xs
    → IsTornAt b c notes (at + 1) xs n → IsTornAt b c notes at xs n
torn-back b c notes at [] n later h = h
torn-back b c notes at (x ∷ xs) n later (inl h) = inl (h.0, λ right. h.1 (later-on b c notes at x x.outcome later right))
torn-back b c notes at (x ∷ xs) n later (inr h) = inr (later-back b c notes at x x.outcome h.0, h.1, h.2)

-- past a line of another core
pub past-foreign : (w : Trail) (k : ℕ) → AreRightTo w k → IsLater w.at (drop k w.calls)
    → notes_from w.book w.core w.at ≡ notes_from w.book w.core (w.at + 1) → AreRightTo (past_line w) k
past-foreign w k h later same =
    let xs : List Call = drop k w.calls in
    record {
      few = h.few;
      right = λ r.
          h.right (all-back w.book w.core (notes_ahead w) w.at xs
          (subst (λ ns. AreRight w.book w.core ns (w.at + 1) xs) (sym same) r));
      torn = λ n t.
          h.torn n (torn-back w.book w.core (notes_ahead w) w.at xs n later
          (subst (λ ns. IsTornAt w.book w.core ns (w.at + 1) xs n) (sym same) t));
    }

-- past a line of the core's, which the next call was told
past-own : (w : Trail) (k : ℕ) (x : Call) (a : Answered) (n : Note) → AreRightTo w k → IsCallAt w k x
    → x.outcome ≡ Entered a → n.line ≡ w.at → n ≡ entered_note x a
    → notes_ahead w ≡ n ∷ notes_from w.book w.core (w.at + 1) → AreRightTo (past_line w) (k + 1)
past-own w k x a n h call entered number same notes =
    let right : IsRightAt w.book w.core (notes_ahead w) w.at x (Entered a) =
    subst (λ ns. next_note ns ≡ Some (entered_note x a)) (sym notes) (ap Some same) in
    let line : a.line ≡ w.at = sym (ap (λ (m : Note). m.line) same) ∙ number in
    let led : Leads w x (Entered a) (w.at + 1) = record {
      right = right;
      lines = ap (λ i. i + 1) line;
      notes = ap (λ ns. later_notes ns) notes;
    } in
    right-more w k x (w.at + 1) h call (subst (λ o. Leads w x o (w.at + 1)) (sym entered) led)

-- where the core is told a line, no call is right that was told something else
pub other-wrong : (w : Trail) (x : Call) (a : Answered) (n : Note) (ns : List Note) → x.outcome ≡ Entered a
    → ¬ (n ≡ entered_note x a) → notes_ahead w ≡ n ∷ ns → ¬ (IsRight w.book w.core (notes_ahead w) w.at x)
other-wrong w x a n ns entered other notes right =
    let r : next_note (notes_ahead w) ≡ Some (entered_note x a) =
    subst (λ o. IsRightAt w.book w.core (notes_ahead w) w.at x o) entered right in
    let it : Some n ≡ Some (entered_note x a) = subst (λ ms. next_note ms ≡ Some (entered_note x a)) notes r in
    let same : n ≡ entered_note x a = cc in
    other same

-- nor one that was skipped later
pub late-wrong : (w : Trail) (x : Call) (m : ℕ) (f : EnterFault) (n : Note) (ns : List Note) → x.outcome ≡ Away m f
    → w.at < m → n.line ≡ w.at → notes_ahead w ≡ n ∷ ns → ¬ (IsRight w.book w.core (notes_ahead w) w.at x)
late-wrong w x m f n ns away late number notes right =
    let r : IsRightAt w.book w.core (notes_ahead w) w.at x (Away m f) =
    subst (λ o. IsRightAt w.book w.core (notes_ahead w) w.at x o) away right in
    let before : m ≤ n.line = subst (λ ms. m ≤ next_line w.book ms) notes r.1 in
    absurd (omega (arith, before, number, late))

-- nor one that was told something, where nothing is told
pub entered-wrong : (w : Trail) (x : Call) (a : Answered) → x.outcome ≡ Entered a → notes_ahead w ≡ []
    → ¬ (IsRight w.book w.core (notes_ahead w) w.at x)
entered-wrong w x a entered none right =
    let r : next_note (notes_ahead w) ≡ Some (entered_note x a) =
    subst (λ o. IsRightAt w.book w.core (notes_ahead w) w.at x o) entered right in
    let no : None ≡ Some (entered_note x a) = subst (λ ms. next_note ms ≡ Some (entered_note x a)) none r in
    absurd cc

-- nor one that was skipped after the last line
pub after-wrong : (w : Trail) (x : Call) (m : ℕ) (f : EnterFault) → x.outcome ≡ Away m f → w.at < m
    → w.at ≡ length w.book.lines + 1 → notes_ahead w ≡ [] → ¬ (IsRight w.book w.core (notes_ahead w) w.at x)
after-wrong w x m f away late end none right =
    let r : IsRightAt w.book w.core (notes_ahead w) w.at x (Away m f) =
    subst (λ o. IsRightAt w.book w.core (notes_ahead w) w.at x o) away right in
    let before : m ≤ length w.book.lines + 1 = subst (λ ms. m ≤ next_line w.book ms) none r.1 in
    absurd (omega (arith, before, end, late))

-- after the last line no call that is left is right
pub ended-torn : (w : Trail) (k : ℕ) (x : Call) → AreRightTo w k → IsLater w.at (drop k w.calls) → IsCallAt w k x
    → w.at ≡ length w.book.lines + 1 → IsTornOf w (k + 1)
ended-torn w k x h later call end =
    let none : notes_ahead w ≡ [] = notes-none w.book w.core w.at (omega (arith, end)) in
    let came : CameLater w.at x.outcome = subst (λ ys. IsLater w.at ys) (next-call w.calls k x call.few call.is) later in
    wrong-torn w k x h call (go x.outcome refl came none)
  where
    go : (o : Outcome) → x.outcome ≡ o → CameLater w.at o → notes_ahead w ≡ []
        → ¬ (IsRight w.book w.core (notes_ahead w) w.at x)
    go (Entered a) entered came none = entered-wrong w x a entered none
    go (Away m f) away came none = after-wrong w x m f away came end none

pub ended-torn-any : (w : Trail) (k : ℕ) → AreRightTo w k → IsLater w.at (drop k w.calls) → k < length w.calls
    → w.at ≡ length w.book.lines + 1 → IsTornOf w (k + 1)
ended-torn-any w k h later lt end =
    elim (slice_get_cases w.calls k).1 [
      | inl p ↦ ended-torn w k p.0 h later (record { few = lt; is = sym (get_or_from_slice_get w.calls k p.0 p.0 p.2) }) end
      | inr p ↦ let past = p.0 in absurd (omega (arith, lt, past))
    ]

-- past a line of another core
pub line-foreign : (w : Trail) (k : ℕ) (l : Line) → AreRightTo w k → IsLater w.at (drop k w.calls) → 1 ≤ w.at
    → line_of_number w.book w.at ≡ Some l → (l.step.core.0 == w.core.0) ≡ false → AreRightTo (past_line w) k
line-foreign w k l h later some is other = past-foreign w k h later (notes-foreign w.book w.core w.at l some is other)

-- before the next line, which is the core's own, this many calls are right, and the next one was
-- not skipped before it
pub record IsBeforeOwn (w : Trail) (k : ℕ) (l : Line) : Type 0 where
  pub right : AreRightTo w k
  pub later : IsLater w.at (drop k w.calls)
  pub some : 1 ≤ w.at
  pub is : line_of_number w.book w.at ≡ Some l
  pub own : (l.step.core.0 == w.core.0) ≡ true

module _ (w : Trail) (k : ℕ) (l : Line) (before : IsBeforeOwn w k l) where
  -- the core is told it
  note-next : notes_ahead w ≡ note_of w.at l ∷ notes_from w.book w.core (w.at + 1)
  note-next = notes-own w.book w.core w.at l before.some before.is before.own

  -- past the line, where the next call was told it
  pub line-own : (x : Call) (a : Answered) → IsCallAt w k x → x.outcome ≡ Entered a → note_of w.at l ≡ entered_note x a
      → AreRightTo (past_line w) (k + 1)
  line-own x a call entered same = past-own w k x a (note_of w.at l) before.right call entered refl same note-next

  -- where the next call was told something else
  pub line-other : (x : Call) (a : Answered) → IsCallAt w k x → x.outcome ≡ Entered a → ¬ (note_of w.at l ≡ entered_note x a)
      → IsTornOf w (k + 1)
  line-other x a call entered other =
      wrong-torn w k x before.right call
      (other-wrong w x a (note_of w.at l) (notes_from w.book w.core (w.at + 1)) entered other note-next)

  -- where the next call was skipped after it
  pub line-late : (x : Call) (m : ℕ) (f : EnterFault) → IsCallAt w k x → x.outcome ≡ Away m f → IsTornOf w (k + 1)
  line-late x m f call away =
      let came : CameLater w.at x.outcome = subst (λ ys. IsLater w.at ys) (next-call w.calls k x call.few call.is) before.later in
      let late : w.at < m = subst (λ o. CameLater w.at o) away came in
      wrong-torn w k x before.right call
      (late-wrong w x m f (note_of w.at l) (notes_from w.book w.core (w.at + 1)) away late refl note-next)

  -- if there is no call
  pub line-left : length w.calls ≤ k → IsTornOf w (k + 1)
  line-left le =
      left-torn w k before.right le
      (λ none. let no : note_of w.at l ∷ notes_from w.book w.core (w.at + 1) ≡ [] = sym note-next ∙ none in absurd cc)
