-- Whether a machine may have what the boot of a plan makes.
use Rattle.std.specs.Prelude.{◌≡◌, ◌≤◌, ◌<◌, ◌+◌, ℕ, Bool, true, List, length, nat_le, nat_lt}
use Rattle.std.specs.List.{list_all, sum_by}
use Rattle.mcs_types.specs.Limits.{cnode_limit}
use Rattle.mcs_types.specs.declared.id.Kind.{Kind}
use Rattle.mcs_types.specs.declared.id.Kind.TheVariants as kind
use Rattle.mcs_plan_source.specs.Naming.{count_of, limit_of}
use Rattle.mcs_plan_source.specs.declared.plan.Plan.{Plan}
use Rattle.mcs_plan_source.specs.declared.plan.Thread.{Thread}
use Rattle.mcs_plan_source.specs.Making.{all_leaves, leaves_in}
use Rattle.mcs_plan_source.specs.Refusals.{Read, ◌>>◌, need, limit}
use Rattle.mcs_plan_source.specs.Saying.{Said}
use Rattle.mcs_plan_layout.specs.declared.boot.Site.{Site}

-- how many CNodes the boot makes: one for each space, and the further ones of larger spaces
abbrev pub cnodes_of : Said → ℕ
cnodes_of s = length s.spaces + sum_by leaves_in s.spaces

-- there may be this many of a kind
abbrev pub may_be : Kind → ℕ → Read (Unit {0})
may_be kind count = need (nat_le count (limit_of kind)) (limit (limit_of kind))

-- whether each thread is in a space that there may be
abbrev pub is_housed : Thread → Bool
is_housed thread = nat_lt thread.space cnode_limit

abbrev pub are_housed : List Thread → Bool
are_housed threads = list_all is_housed threads

-- a machine may have what the boot makes, or the first limit that it does not keep
abbrev pub boot_fits : Said → Read (Unit {0})
boot_fits s = do
  may_be kind.CNode (cnodes_of s)
  need (are_housed s.threads) (limit cnode_limit)
  may_be kind.Endpoint (count_of kind.Endpoint s.names)
  may_be kind.Notification (count_of kind.Notification s.names)
  may_be kind.Reply (count_of kind.Reply s.names)

-- the CNodes of a plan are no more than there may be
abbrev pub HasFewCNodes : Plan → Type 0
HasFewCNodes plan = length plan.spaces.items + all_leaves plan ≤ cnode_limit

-- each limit is kept
pub record Fits (plan : Plan) : Type 0 where
  pub cnodes : HasFewCNodes plan
  pub housed : are_housed plan.threads.items ≡ true
  pub endpoints : count_of kind.Endpoint plan.names ≤ limit_of kind.Endpoint
  pub notifications : count_of kind.Notification plan.names ≤ limit_of kind.Notification
  pub replies : count_of kind.Reply plan.names ≤ limit_of kind.Reply

-- the CNodes that the slots of a space are in are there
pub record IsWithin (site : Site) : Type 0 where
  pub place : site.place < cnode_limit
  pub leaves : site.before + site.leaves ≤ cnode_limit
