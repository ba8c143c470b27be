-- What a contract sees of `Replies`: what is kept of each reply object that is there, and the chain
-- of each context.
use Rattle.std.specs.Prelude.{◌≡◌, ℕ, Bool, true, false, cond, ◌&&◌, List, [], ◌∷◌, Option, Some, is_some, is_none, IsSome, option_and_then}
use Rattle.mcs_types.specs.declared.id.ObjId.{ObjId}
use Rattle.mcs_types.specs.declared.id.Kind.TheVariants.{Reply}
use Rattle.mcs_types.specs.declared.record.Ending.{Ending}
use Rattle.mcs_types.specs.Ids.{is_just, ChangesAt}
use Rattle.mcs_types.specs.Limits.{object_limit}
use Rattle.mcs_types.specs.Chains.{head_of, taken_off, ended, is_in}
use Rattle.mcs_objects.specs.Store.{Objects, Shape, value_at, place_at, shape, next_id, is_full}
use Rattle.mcs_replies.specs.declared.replies.ReplyRow.{ReplyRow}
use Rattle.mcs_replies.specs.declared.links.Link.{Link}
use Rattle.mcs_replies.specs.Tops.{TopRows}
use Rattle.mcs_replies.specs.Changes.{changes}
use Rattle.mcs_replies.specs.Links.{linked_of, reply_in, Sound}

pub record Owing : Type 0 where
  pub rows : Objects ReplyRow
  pub links : List (Option Link)
  pub tops : TopRows

-- how many reply objects were made and are there
abbrev pub counts : Owing → Shape
counts v = shape v.rows

-- whether no reply object can be made
abbrev pub no_room : Owing → Bool
no_room v = is_full v.rows

-- the reply object that is made next
abbrev pub next_reply : Owing → ObjId
next_reply v = next_id v.rows

-- whether a reply object is among rows, the receiver that is queued with it, and the caller that it
-- owes
abbrev pub has_row : Objects ReplyRow → ObjId → Bool
has_row rows r = is_some (value_at rows r)

abbrev pub receiver_at : Objects ReplyRow → ObjId → Option ObjId
receiver_at rows r = option_and_then (λ x. x.receiver) (value_at rows r)

abbrev pub owed_at : Objects ReplyRow → ObjId → Option ObjId
owed_at rows r = option_and_then (λ x. x.caller) (value_at rows r)

-- whether a reply object is there
abbrev pub is_there : Owing → ObjId → Bool
is_there v r = has_row v.rows r

-- the receiver that is queued with a reply object
abbrev pub receiver_in : Owing → ObjId → Option ObjId
receiver_in v r = receiver_at v.rows r

-- the caller that a reply object owes
abbrev pub owed_in : Owing → ObjId → Option ObjId
owed_in v r = owed_at v.rows r

-- r owes this caller now, or no thread, and the others owe whom they owed
abbrev pub SetsOwed : Owing → Owing → ObjId → Option ObjId → Type 0
SetsOwed old new r caller = ChangesAt (owed_in old) (owed_in new) r caller

-- the chain of a context, from the top
abbrev pub chain_in : Owing → ObjId → List ObjId
chain_in v s = linked_of v.links v.tops s

-- whether a reply object may come to owe: it is there and owes no thread
abbrev pub may_owe : Owing → ObjId → Bool
may_owe v r = is_there v r && is_none (owed_in v r)

-- the chain of a context after a debt of r that brought some context, or none
abbrev pub chain_with : Option ObjId → ObjId → ObjId → List ObjId → List ObjId
chain_with brought r s os = cond (is_just brought s) (r ∷ os) os

-- r lies on top of the chain of the context that was brought, and the other chains are as they were
abbrev pub LiesOnTop : Owing → Owing → ObjId → Option ObjId → Type 0
LiesOnTop old new r brought = (s : ObjId) → chain_in new s ≡ chain_with brought r s (chain_in old s)

-- whether r tops the chain of s
abbrev pub tops : Owing → ObjId → ObjId → Bool
tops v r s = is_just (head_of (chain_in v s)) r

-- this names the context whose chain r tops, if there is one
abbrev pub NamesTopped : Owing → ObjId → Option ObjId → Type 0
NamesTopped v r topped = (s : ObjId) → is_just topped s ≡ tops v r s

-- the chains after a debt of r was paid
abbrev pub TakesOff : Owing → Owing → ObjId → Type 0
TakesOff old new r = (s : ObjId) → chain_in new s ≡ taken_off r (chain_in old s)

-- the chains after a debt of r became void
abbrev pub EndsDebt : Owing → Owing → Ending → ObjId → Type 0
EndsDebt old new how r = (s : ObjId) → chain_in new s ≡ ended how r (chain_in old s)

-- how many links of places and tops of contexts differ
abbrev pub link_changes : Owing → Owing → ℕ
link_changes old new = changes old.links old.tops new.links new.tops

-- none is twice in a chain
abbrev pub AreOnce : List ObjId → Type 0
AreOnce [] = Unit {0}
AreOnce (o ∷ os) = (is_in o os ≡ false) × AreOnce os

-- what is in a chain is there and owes, is in no other chain, and once in its own
pub record IsChained (v : Owing) : Type 0 where
  pub owing : (s r : ObjId) → is_in r (chain_in v s) ≡ true → IsSome (owed_in v r)
  pub apart : (s u r : ObjId) → is_in r (chain_in v s) ≡ true → is_in r (chain_in v u) ≡ true → s ≡ u
  pub once : (s : ObjId) → AreOnce (chain_in v s)

-- what holds of all reply objects
pub record IsOwing (v : Owing) : Type 0 where
  pub room : v.rows.room ≡ object_limit
  pub kind : v.rows.kind ≡ Reply
  pub sound : Sound v.links v.tops
  pub owners : (u : ℕ) (r : ObjId) → reply_in v.links u ≡ Some r → place_at v.rows r ≡ Some u
  pub owing : (u : ℕ) (r : ObjId) → reply_in v.links u ≡ Some r → IsSome (owed_in v r)
