-- A capability with fewer rights, as the book's table makes it.
use Rattle.std.specs.Prelude.{ℕ, bit_and}
use Rattle.mcs_types.specs.declared.id.Badge.{Badge}
use Rattle.mcs_types.specs.declared.cap.Cap.{Cap}

-- with those of its rights that a mask has
abbrev pub masked : Cap → ℕ → Cap
masked cap rights = record cap { rights = bit_and cap.rights rights }

-- the same with a badge
abbrev pub badged : Cap → ℕ → Badge → Cap
badged cap rights badge = record cap { rights = bit_and cap.rights rights; badge = badge }
