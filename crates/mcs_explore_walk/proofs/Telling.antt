-- Where users continue after the records of a line, one record after another and in place.
use Rattle.std.specs.Prelude.{ℕ, zero, suc, ◌≡◌, ◌+◌, ◌==◌, ◌++◌, Bool, true, false, cond, drop, take, set, length, List, [], ◌∷◌, Option, Some, None, slice_get}
use Rattle.std.proofs.Common.{refl, ap, sym, ◌∙◌, arith, rules}
use Rattle.mcs_types.specs.declared.entry.Answer.{Answer}
use Rattle.mcs_types.specs.declared.record.Rec.{Rec}
use Rattle.mcs_types.specs.Ids.{same}
use Rattle.mcs_turns.specs.declared.position.Position.{Position}
use Rattle.mcs_turns.specs.declared.program.Op.{Op}
use Rattle.mcs_turns.specs.declared.reached.Reached.{Reached}
use Rattle.mcs_turns.specs.Mail.{got_with, listed, reached_from, reaching}
use Rattle.mcs_turns.specs.Programs.{goes_on}
use Rattle.mcs_turns.specs.Turns.{User, all_answered, comes_of, gone_on, is_program, place_answered, answered, answered_all, answered_if}
use Rattle.mcs_explore_walk.specs.Mail.{answered_by, answered_from}
use Rattle.mcs_book.specs.History.{Book, Line, line_of_number}
use Rattle.mcs_turns.specs.Mail.{brought}
use Rattle.mcs_explore_walk.proofs.LastLine.{brought_by, brought_nothing}
use Rattle.mcs_explore_walk.proofs.Picking.{drop-at}

-- users learn all that these records deliver, one record after another
pub answered_one_by_one : (rs : List Rec) (got : Option Answer) (u : User) (p : Position) → answered_from rs got u p ≡ answered_all (reached_from got rs) u p
answered_one_by_one [] got u p = refl
answered_one_by_one (r ∷ rs) got u p = go (λ q. answered_one_by_one rs (got_with got r) u q) (reaching (got_with got r) r)
  where
    go : ((q : Position) → answered_from rs (got_with got r) u q ≡ answered_all (reached_from (got_with got r) rs) u q) → (o : Option Reached) → answered_from rs (got_with got r) u (answered_by u o p) ≡ answered_all (listed o ++ reached_from (got_with got r) rs) u p
    go rest None = rest p
    go rest (Some x) = rest (answered_if u x p)

-- a record more
pub answered-on : (rs : List Rec) (i : ℕ) (r : Rec) (got : Option Answer) (u : User) (p : Position) → slice_get rs i ≡ Some r
    → answered_from (drop i rs) got u p ≡ answered_from (drop (i + 1) rs) (got_with got r) u (answered_by u (reaching (got_with got r) r) p)
answered-on rs i r got u p at = ap (λ xs. answered_from xs got u p) (drop-at rs i r at)

-- a user without a program stays where it is
plain-answered : (u : User) (a : Answer) (p : Position) → u.ops ≡ [] → answered u a p ≡ p
plain-answered u a p none = go p.waited
  where
    last : (number : ℕ) (b : Bool) → cond b (gone_on (goes_on u.ops number p.saved a) u p) p ≡ p
    last number true = ap (λ (os : List Op). gone_on (goes_on os number p.saved a) u p) none
    last number false = refl

    by : Option ℕ → Position
    by o = elim o [ None ↦ p | Some number ↦ cond (comes_of u number a) (gone_on (goes_on u.ops number p.saved a) u p) p ]

    go : (o : Option ℕ) → by o ≡ p
    go None = refl
    go (Some number) = last number (comes_of u number a)

no-lines : (os : List Op) → is_program os ≡ false → os ≡ []
no-lines [] none = refl
no-lines (o ∷ os) none = absurd cc

stays-answered : (rs : List Reached) (u : User) (p : Position) → u.ops ≡ [] → answered_all rs u p ≡ p
stays-answered [] u p none = refl
stays-answered (r ∷ rs) u p none = ap (λ (q : Position). answered_all rs u q) (go (same u.thread r.thread)) ∙ stays-answered rs u p none
  where
    go : (b : Bool) → cond b (answered u r.answer p) p ≡ p
    go true = plain-answered u r.answer p none
    go false = refl

pub answered_nothing : (rs : List Reached) (u : User) (p : Position) → is_program u.ops ≡ false → p ≡ answered_all rs u p
answered_nothing rs u p none = sym (stays-answered rs u p (no-lines u.ops none))

-- positions in place: those before are as they are to be, and the next one is put into its place
put-on : (rs : List Reached) (own k : ℕ) (users : List User) (ps : List Position) (i : ℕ) (p now : Position) → slice_get ps i ≡ Some p → now ≡ place_answered rs own users k p
    → take i ps ++ all_answered rs own k users (drop i ps) ≡ take (suc i) (set ps i now) ++ all_answered rs own (k + 1) users (drop (suc i) (set ps i now))
put-on rs own k users [] i p now at is = absurd cc
put-on rs own k users (x ∷ ps) zero p now at is =
    let first : x ≡ p = search rules in
    ap (λ (q : Position). place_answered rs own users k q ∷ all_answered rs own (k + 1) users ps) first ∙ ap (λ (q : Position). q ∷ all_answered rs own (k + 1) users ps) (sym is)
put-on rs own k users (x ∷ ps) (suc i) p now at is = ap (λ qs. x ∷ qs) (put-on rs own k users ps i p now at is)

pub put-next : (rs : List Reached) (own : ℕ) (users : List User) (ps : List Position) (i : ℕ) (p now : Position) → slice_get ps i ≡ Some p → now ≡ place_answered rs own users i p
    → take i ps ++ all_answered rs own i users (drop i ps) ≡ take (i + 1) (set ps i now) ++ all_answered rs own (i + 1) users (drop (i + 1) (set ps i now))
put-next rs own users ps i p now at is =
    let more : suc i ≡ i + 1 = omega (arith) in
    put-on rs own i users ps i p now at is ∙ ap (λ n. take n (set ps i now) ++ all_answered rs own (i + 1) users (drop n (set ps i now))) more

-- nothing that reached threads moves no thread
nobody-answered : (own i : ℕ) (users : List User) (ps : List Position) → all_answered [] own i users ps ≡ ps
nobody-answered own i users [] = refl
nobody-answered own i users (p ∷ ps) = ap (λ (q : Position). q ∷ all_answered [] own (i + 1) users ps) (go (i == own) (slice_get users i)) ∙ ap (λ qs. p ∷ qs) (nobody-answered own (i + 1) users ps)
  where
    go : (b : Bool) (o : Option User) → cond b p (elim o [ None ↦ p | Some u ↦ answered_all [] u p ]) ≡ p
    go true o = refl
    go false None = refl
    go false (Some u) = refl

-- all users learn what the newest line delivered
pub answered_newest : (b : Book) (l : Line) (own : ℕ) (users : List User) (ps : List Position) → line_of_number b (length b.lines) ≡ Some l
    → all_answered (reached_from None l.records) own 0 users ps ≡ all_answered (brought b) own 0 users ps
answered_newest b l own users ps at = ap (λ rs. all_answered rs own 0 users ps) (sym (brought_by b l at))

-- without one they stay where they are
pub answered_no_line : (b : Book) (own : ℕ) (users : List User) (ps : List Position) → line_of_number b (length b.lines) ≡ None → ps ≡ all_answered (brought b) own 0 users ps
answered_no_line b own users ps none = sym (ap (λ rs. all_answered rs own 0 users ps) (brought_nothing b none) ∙ nobody-answered own 0 users ps)
