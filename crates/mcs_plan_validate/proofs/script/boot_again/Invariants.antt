use Rattle.std.proofs.Common.{◌≡◌, take, reverse}
use Rattle.mcs_plan_validate.proofs.script.boot_again.Given as goal

abbrev pub invariant-loop-line : goal.invariant-loop-line
invariant-loop-line l =
    (l.line-items ≡ reverse l.book.book.boot.lines) × (l.boot.cores ≡ l.book.book.boot.cores)
    × (l.boot.lines ≡ reverse (take l.line-index l.line-items))
