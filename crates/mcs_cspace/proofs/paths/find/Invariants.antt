use Rattle.std.proofs.Common.{◌≡◌, ◌≤◌, ◌-◌}
use Rattle.mcs_book.specs.Lookup.{bits_of, walk}
use Rattle.mcs_cspace.specs.Spaces.{slots_space}
use Rattle.mcs_cspace.proofs.paths.find.Given as goal

abbrev pub invariant-loop : goal.invariant-loop
invariant-loop l = record {
  within : l.left ≤ 64;
  same : walk 64 (slots_space l.slots) l.fn.root (bits_of l.fn.depth l.address) ≡ walk (64 - l.counter) (slots_space l.slots) l.cap (bits_of l.left l.address);
}
