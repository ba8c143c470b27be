-- Where an object can be made.
use Rattle.std.specs.Prelude.{ℕ, ◌<◌, Bool, true, false}
use Rattle.mcs_types.specs.declared.id.Kind.{Kind}
use Rattle.mcs_types.specs.declared.id.Kind.TheVariants.{Endpoint, Notification, Reply, Context}
use Rattle.mcs_types.specs.declared.record.Form.{Form}
use Rattle.mcs_types.specs.declared.record.Rec.TheVariants.{Made}
use Rattle.mcs_book.specs.Logs.{Log, counted}
use Rattle.mcs_book.specs.Objects.{makes_kind, number_of, next_id}
use Rattle.mcs_book.specs.Sound.{Allowed}
use Rattle.mcs_state.specs.Now.{Now, so_far, adds}
use Rattle.mcs_state.specs.Tables.{ROOM}

-- how many serials there are
abbrev pub SERIALS : ℕ
SERIALS = 4294967295

-- fewer objects of a kind are there than may be, and not each serial was given
pub record HasRoom (R : Log) (k : Kind) : Type 0 where
  pub few : number_of R k < ROOM
  pub fresh : counted (makes_kind k) R < SERIALS

-- the next object of a kind may be made with this form
abbrev pub MayMake : Log → Kind → Form → Type 0
MayMake R k form = Allowed R (Made (next_id R k) form)

-- an object was made
abbrev pub makes_next : Kind → Form → Now → Now
makes_next k form n = adds (Made (next_id (so_far n) k) form) n

-- whether objects of a kind keep nothing for good
abbrev pub is_plain_kind : Kind → Bool
is_plain_kind Endpoint = true
is_plain_kind Notification = true
is_plain_kind Reply = true
is_plain_kind _ = false

-- whether no more than this many objects of a kind may be there at a time; of the others this many
-- may be made
abbrev pub has_limit : Kind → Bool
has_limit Context = true
has_limit k = is_plain_kind k
