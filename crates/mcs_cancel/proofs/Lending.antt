-- The context that a chain's top returns.
use Rattle.std.specs.Prelude.{◌≡◌, Option, Some, None}
use Rattle.std.specs.Option.{IfSome}
use Rattle.std.proofs.Common.{sym}
use Rattle.mcs_types.specs.declared.id.ObjId.{ObjId}
use Rattle.mcs_types.specs.declared.id.Kind.TheVariants as kind
use Rattle.mcs_book.specs.Logs.{Log}
use Rattle.mcs_book.specs.Chains.{topped_by}
use Rattle.mcs_book.specs.Sound.{IsThere}
use Rattle.mcs_book.proofs.Firm.Laws.{topped-there}

-- the context that returns is there
pub lent-there : (R : Log) (r : ObjId) (lent : Option ObjId) → lent ≡ topped_by R r → IfSome lent (λ s. IsThere R kind.Context s)
lent-there R r None is = tt
lent-there R r (Some s) is = topped-there R r s (sym is)

-- and still is, where each context that was there is
pub still-there : (R S : Log) (lent : Option ObjId) → ((s : ObjId) → IsThere R kind.Context s → IsThere S kind.Context s) → IfSome lent (λ s. IsThere R kind.Context s) → IfSome lent (λ s. IsThere S kind.Context s)
still-there R S None f there = tt
still-there R S (Some s) f there = f s there
