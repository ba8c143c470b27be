use Rattle.std.proofs.Common.{◌≡◌, [], take, reverse}
use Rattle.mcs_boots.proofs.boot.boot_state.Given as goal

abbrev pub invariant-loop-line : goal.invariant-loop-line
invariant-loop-line g l =
    (l.line-items ≡ reverse l.book.book.boot.lines) × (l.state.hand ≡ [])
    × (l.state.book ≡ record { boot = record { cores = l.book.book.boot.cores; lines = reverse (take l.line-index l.line-items) }; lines = [] })
