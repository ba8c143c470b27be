-- What holds where a thread waits, and the word that is pending for it.
use Rattle.std.specs.Prelude.{ℕ, ◌≡◌, Option, Some, List, [], ◌∷◌}
use Rattle.mcs_types.specs.declared.id.ObjId.{ObjId}
use Rattle.mcs_types.specs.declared.record.Rec.{Rec}
use Rattle.mcs_types.specs.declared.record.Rec.TheVariants.{Heard}
use Rattle.mcs_book.specs.Logs.{Log}
use Rattle.mcs_book.specs.Notifications.{bound_of}
use Rattle.mcs_book.specs.Pieces.{Piece}
use Rattle.mcs_book.specs.Receiving.{pending_of_any}

-- n is bound to no thread but t
abbrev pub NoneElseBound : Log → ObjId → ObjId → Type 0
NoneElseBound R n t = (u : ObjId) → bound_of R u ≡ Some n → u ≡ t

-- t hears the word of a notification, where there are both
abbrev pub word_heard : ObjId → Option ObjId → Option ℕ → List Rec
word_heard t (Some n) (Some word) = Heard t n word ∷ []
word_heard t _ _ = []

-- t hears the pending word of its notification, if there is one
unfoldable pub takes_bound : ObjId → Piece
takes_bound t R = word_heard t (bound_of R t) (pending_of_any R (bound_of R t))
