-- What is tested before anything is done, in the parts in which the code tests it.
use Rattle.std.specs.Prelude.{ℕ, cond, Ok, Err}
use Rattle.mcs_types.specs.declared.id.ObjId.{ObjId}
use Rattle.mcs_types.specs.declared.id.Kind.{Kind}
use Rattle.mcs_types.specs.declared.cap.Cap.{Cap}
use Rattle.mcs_types.specs.declared.entry.Refusal.TheVariants.{WrongKind, NoRight}
use Rattle.mcs_book.specs.Logs.{Log}
use Rattle.mcs_book.specs.Checks.{Checked}
use Rattle.mcs_book.specs.Lookup.{capability}
use Rattle.mcs_book.specs.Pieces.{Act}
use Rattle.mcs_book.specs.Rights.{is_kind, may_write, may_read}

-- what was found, where it is a capability to an object of this kind
abbrev pub kinded : Kind → Checked Cap → Checked Cap
kinded k (Err why) = Err why
kinded k (Ok cap) = cond (is_kind k cap) (Ok cap) (Err WrongKind)

-- what was found, where one may send over it
abbrev pub writable : Checked Cap → Checked Cap
writable (Err why) = Err why
writable (Ok cap) = cond (may_write cap) (Ok cap) (Err NoRight)

-- what was found, where one may receive over it
abbrev pub readable : Checked Cap → Checked Cap
readable (Err why) = Err why
readable (Ok cap) = cond (may_read cap) (Ok cap) (Err NoRight)

-- the object of what was found
abbrev pub object_found : Checked Cap → Checked ObjId
object_found (Err why) = Err why
object_found (Ok cap) = Ok cap.obj

-- the object of a kind that t names
abbrev pub object_named : Log → ObjId → Kind → ℕ → Checked ObjId
object_named R t k a = object_found (kinded k (capability R t a))

-- checks that were passed, and the act that follows
abbrev pub act_of : {A : Type 0} → Checked A → (A → Act) → Checked Act
act_of (Err why) act = Err why
act_of (Ok x) act = Ok (act x)
