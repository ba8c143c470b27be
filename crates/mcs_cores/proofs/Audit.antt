-- What is reported to all seats together.
use Rattle.std.specs.Prelude.{ℕ, Bool, true, false, ◌≡◌, ◌≤◌, ◌+◌, if◌then◌else◌, List, length}
use Rattle.std.specs.Prelude.{Result, Ok, Err, IfOk, IfErr}
use Rattle.std.proofs.Common.{◌∙◌, sym, subst, arith}
use Rattle.mcs_types.specs.Limits.{core_limit}
use Rattle.mcs_book.specs.Boots.{Boot}
use Rattle.mcs_book.specs.History.{Book, IsLegal}
use Rattle.mcs_seats.specs.Seats.{Seat, count_entered_by}
use Rattle.mcs_seats.specs.Settling.{HasSeats, AreCounted, Because, HasReason}
use Rattle.mcs_seats.specs.declared.settle.FinishFault.{FinishFault}
use Rattle.mcs_seats.proofs.Counting.{enough-seats}

-- where no core lacks a seat, no part of the ledger is missing, so what it counts was reported to
-- the seats
pub all-entered : (b : Book) (seats : List Seat) (given : Bool) (kept parts total : ℕ)
    → kept + (if given then b.boot.cores else 0) ≡ core_limit → parts ≡ core_limit → total ≡ length b.lines
    → kept + length seats ≤ parts → (kept + length seats ≡ parts → count_entered_by seats ≡ total) → AreCounted b seats
all-entered b seats given kept parts total split all counts few whole has = whole (go given split) ∙ counts
  where
    enough : b.boot.cores ≤ length seats
    enough = enough-seats b seats has

    go : (v : Bool) → kept + (if v then b.boot.cores else 0) ≡ core_limit → kept + length seats ≡ parts
    go true split = omega (arith, split, all, few, enough)
    go false split = omega (arith, split, all, few)

-- a fault that is right for this book is right for some
pub reason : {X : Type 0} (b : Book) (boot : Boot) (seats : List Seat) → IsLegal b → AreCounted b seats
    → (r : Result X FinishFault) → IfErr r (Because b boot seats) → IfErr r (HasReason boot seats)
reason b boot seats legal counted (Ok x) h = tt
reason b boot seats legal counted (Err f) h = record { book = b; legal = legal; counted = counted; because = h }

-- the lines of the settled book were reported to the seats
pub settled-counted : (b : Book) (seats : List Seat) → AreCounted b seats → (r : Result Book FinishFault)
    → IfOk r (λ s. s ≡ b) → IfOk r (λ s. HasSeats s seats) → IfOk r (λ s. count_entered_by seats ≡ length s.lines)
settled-counted b seats counted (Ok s) same has = subst (λ (x : Book). AreCounted x seats) (sym same) counted has
settled-counted b seats counted (Err f) same has = tt
