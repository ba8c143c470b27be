-- What an object is that ends; and what its end takes from others, in the parts in which the code
-- does it.
use Rattle.std.specs.Prelude.{ℕ, ◌≡◌, ◌≢◌, false, None}
use Rattle.mcs_types.specs.declared.id.ObjId.{ObjId}
use Rattle.mcs_types.specs.declared.record.Rec.TheVariants.{Holds, Homed}
use Rattle.mcs_types.specs.declared.id.Kind.{Kind}
use Rattle.mcs_types.specs.declared.id.Kind.TheVariants.{CNode}
use Rattle.mcs_types.specs.declared.record.Mode.TheVariants.{Inactive}
use Rattle.mcs_book.specs.Logs.{Log}
use Rattle.mcs_book.specs.Cancelling.{cancel, untie, untie_from, let_go, unhome, release}
use Rattle.mcs_book.specs.Contexts.{context_of, holder_of, home_of, homed_at}
use Rattle.mcs_book.specs.Notifications.{bound_of, tied_to}
use Rattle.mcs_book.specs.Replies.{receiver_with}
use Rattle.mcs_book.specs.Pieces.{Piece, say, with_any}
use Rattle.mcs_book.specs.Slots.{slot, is_cap_to}

-- o is no CNode
abbrev pub IsNoCNode : ObjId → Type 0
IsNoCNode o = o.kind ≢ CNode

-- no slot has a capability to o
abbrev pub IsUnnamed : Log → ObjId → Type 0
IsUnnamed R o = (c : ObjId) (i : ℕ) → is_cap_to o (slot R c i) ≡ false

-- what the end of an object of a kind does to others
abbrev pub releases : ObjId → Kind → Piece
releases o k R = release R o k R

-- t is bound to no notification any more
abbrev pub unties : ObjId → Piece
unties t R = untie_from (bound_of R t) t R

-- t holds no context any more
abbrev pub lets_go : ObjId → Piece
lets_go t R = let_go (context_of R t) R

-- no thread is bound to n any more
abbrev pub frees : ObjId → Piece
frees n R = untie (tied_to R n) R

-- no context is homed at n any more
abbrev pub clears : ObjId → Piece
clears n R = unhome (homed_at R n) R

-- s is homed nowhere any more, and then held by no thread
abbrev pub unhomes : ObjId → Piece
unhomes s R = with_any (home_of R s) (λ n. say (Homed s None)) R

abbrev pub unholds : ObjId → Piece
unholds s R = with_any (holder_of R s) (λ t. say (Holds s None)) R

-- who receives with r does so no more
abbrev pub dismisses : ObjId → Piece
dismisses r R = with_any (receiver_with R r) (λ x. cancel x Inactive) R
