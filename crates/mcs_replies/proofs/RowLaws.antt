-- What a row that is written over that of a reply object leaves and changes.
use Rattle.std.proofs.Common.{◌≡◌, Bool, true, false, cond, Option, Some, None, is_some, refl, ap, sym, ◌∙◌}
use Rattle.std.specs.Prelude.{IsSome, option_and_then}
use Rattle.mcs_types.specs.declared.id.ObjId.{ObjId}
use Rattle.mcs_types.specs.Ids.{same, value_after}
use Rattle.mcs_types.proofs.Ids.{same-equal}
use Rattle.mcs_objects.specs.Store.{Objects, Object, object_at, place_at, place_of, value_at, value_of, with_value}
use Rattle.mcs_objects.proofs.MapLaws.{value-written}
use Rattle.mcs_replies.specs.declared.replies.ReplyRow.{ReplyRow}
use Rattle.mcs_replies.specs.Owing.{has_row, owed_at}

pub row_stays : (s : Objects ReplyRow) (id x : ObjId) (r : ReplyRow) → IsSome (value_at s id) → has_row (with_value s id r) x ≡ has_row s x
row_stays s id x r there = ap is_some (value-written s id x r there) ∙ go (same x id) refl
  where
    go : (b : Bool) → same x id ≡ b → is_some (cond b (Some r) (value_at s x)) ≡ has_row s x
    go true e = let at = same-equal x id e in rw at (sym there)
    go false e = refl

pub field_changes : (f : ReplyRow → Option ObjId) (s : Objects ReplyRow) (id x : ObjId) (r : ReplyRow) → IsSome (value_at s id) → option_and_then f (value_at (with_value s id r) x) ≡ value_after x id (f r) (option_and_then f (value_at s x))
field_changes f s id x r there = ap (option_and_then f) (value-written s id x r there) ∙ go (same x id)
  where
    go : (b : Bool) → option_and_then f (cond b (Some r) (value_at s x)) ≡ cond b (f r) (option_and_then f (value_at s x))
    go true = refl
    go false = refl

pub field_stays : (f : ReplyRow → Option ObjId) (s : Objects ReplyRow) (id x : ObjId) (was r : ReplyRow) → value_at s id ≡ Some was → f was ≡ f r → option_and_then f (value_at (with_value s id r) x) ≡ option_and_then f (value_at s x)
field_stays f s id x was r there same_field = ap (option_and_then f) (value-written s id x r (rw there refl)) ∙ go (same x id) refl
  where
    go : (b : Bool) → same x id ≡ b → option_and_then f (cond b (Some r) (value_at s x)) ≡ option_and_then f (value_at s x)
    go true e = let at = same-equal x id e in rw (at, there) (sym same_field)
    go false e = refl

-- what has no place owes no thread
pub no-place : (s : Objects ReplyRow) (id : ObjId) → place_at s id ≡ None → owed_at s id ≡ None
no-place s id none = go (object_at s id) none
  where
    go : (o : Option (Object ReplyRow)) → place_of o ≡ None → option_and_then (λ x. x.caller) (value_of o) ≡ None
    go None h = refl
    go (Some x) h = absurd (cc)
