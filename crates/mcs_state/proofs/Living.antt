-- Which objects are there, by the tables.
use Rattle.std.specs.Prelude.{◌≡◌, ◌&&◌, ◌||◌, Bool, true, false, not, [], ◌∷◌, Option, Some, None, is_some, IsSome}
use Rattle.std.proofs.Common.{refl, ap, sym, ◌∙◌, subst}
use Rattle.mcs_types.specs.declared.id.ObjId.{ObjId}
use Rattle.mcs_types.specs.declared.id.CoreId.{CoreId}
use Rattle.mcs_types.specs.declared.id.Kind.TheVariants as kind
use Rattle.mcs_types.specs.declared.record.Rec.TheVariants as rec
use Rattle.mcs_types.specs.Ids.{same}
use Rattle.mcs_types.proofs.Ids.{same-equal}
use Rattle.mcs_book.specs.Logs.{Log}
use Rattle.mcs_book.specs.Objects.{was_made, was_closed, is_alive}
use Rattle.mcs_book.specs.Sound.{Sound, IsReleased}
use Rattle.mcs_threads.specs.declared.row.ThreadRow.{ThreadRow}
use Rattle.mcs_state.specs.Saying.{row_said}
use Rattle.mcs_state.specs.Tables.{core_said}
use Rattle.mcs_state.proofs.Saying.{said, rowless}
use Rattle.mcs_state.proofs.ContextLaws.{core-there}

-- no CNode is closed
cnode-stays : (R : Log) (o : ObjId) → Sound R → o.kind ≡ kind.CNode → was_closed R o ≡ false
cnode-stays [] o sound is = refl
cnode-stays (rec.Closed u ∷ R) o sound is = go (same o u) refl (cnode-stays R o sound.1 is)
  where
    go : (b : Bool) → same o u ≡ b → was_closed R o ≡ false → (b || was_closed R o) ≡ false
    go true e later = absurd (subst (λ k. IsReleased R k u) (ap (λ (x : ObjId). x.kind) (sym (same-equal o u e)) ∙ is) sound.0.1)
    go false e later = later
cnode-stays (_ ∷ R) o sound is = cnode-stays R o sound.1 is

-- a CNode that was made is there
pub cnode-there : (R : Log) (o : ObjId) → Sound R → o.kind ≡ kind.CNode → was_made R o ≡ is_alive R o
cnode-there R o sound is = go (was_made R o) (was_closed R o) (cnode-stays R o sound is)
  where
    go : (m c : Bool) → c ≡ false → m ≡ (m && not c)
    go true c e = rw e refl
    go false c e = refl

-- a thread is there where the table has a row of it
pub thread-there : (R : Log) (o : ObjId) → Sound R → o.kind ≡ kind.Thread → is_some (row_said R o) ≡ is_alive R o
thread-there R o sound is = go (row_said R o) refl
  where
    go : (m : Option ThreadRow) → row_said R o ≡ m → is_some m ≡ is_alive R o
    go (Some r) e = sym (said R o r (sym e)).alive
    go None e = sym (rowless R o sound is (sym e))

-- a context is there where the table has its core
pub context-there : (R : Log) (o : ObjId) → Sound R → o.kind ≡ kind.Context → is_some (core_said R o) ≡ is_alive R o
context-there R o sound is = go (is_alive R o) refl
  where
    some : (m : Option CoreId) → IsSome m → is_some m ≡ true
    some (Some x) h = refl
    some None h = absurd cc

    go : (b : Bool) → is_alive R o ≡ b → is_some (core_said R o) ≡ b
    go true e = some _ (core-there R o sound (is, e))
    go false e = rw e refl
