-- What a contract sees of a `Chain`.
use Rattle.std.specs.Prelude.{List}
use Rattle.mcs_types.specs.declared.id.ObjId.{ObjId}
use Rattle.mcs_replies.specs.declared.links.Chain.{Chain}
use Rattle.mcs_replies.specs.Places.{place_number}
use Rattle.mcs_replies.specs.Links.{link_at, walk, replies_of}

-- the reply objects that are still to come
abbrev pub rest_of : Chain → List ObjId
rest_of c = replies_of (link_at c.links.now) (walk (link_at c.links.now) c.left (place_number c.at))
