-- What is read from a source.
use Rattle.std.specs.Prelude.{Option, List, ℕ}
use Rattle.std.specs.Io.KnownBytes.{Consumes}
use Rattle.mcs_source.specs.declared.source.Source.{Source}

-- these bytes were read from a source
abbrev pub Reads : {R : Type 0} → (R → Option (List ℕ)) → (old new : Source R) → List ℕ → Type 0
Reads remaining old new bytes = Consumes (remaining old.reader) (remaining new.reader) bytes
