use Rattle.std.proofs.Common.{Bool, true, false, ◌≡◌, ◌⊎◌, inl, inr, Option, IsSome, refl, subst, sym}
use Rattle.mcs_types.specs.Brings.{receives, IsPlain}
use Rattle.mcs_types.specs.declared.entry.Answer.{Answer}
use Rattle.mcs_types.specs.declared.entry.Entry.{Entry}
use Rattle.mcs_book.proofs.Books.PlainAnswers.{does-plain}
use Rattle.mcs_seats.proofs.seat.CoreSeat.enter.Goals as goal

-- there is room for an answer, or it brings no message
has_place : (room : Option (Unit {0})) (e : Entry) (a : Answer) → (receives e ≡ true → IsSome room) → (receives e ≡ false → IsPlain a) → IsSome room ⊎ IsPlain a
has_place room e a some plain = go (receives e) refl
  where
    go : (b : Bool) → receives e ≡ b → IsSome room ⊎ IsPlain a
    go true h = inl (some h)
    go false h = inr (plain h)

pub copy_answer-requires : goal.copy_answer-requires
copy_answer-requires g c =
    has_place c.prepared.inside.room c.prepared.inside.entry c.in-Ok.answer c.prepared.invariant.1
    (λ h. subst IsPlain (sym c.in-Ok.ensures.answer) (does-plain _ _ _ _ h))
