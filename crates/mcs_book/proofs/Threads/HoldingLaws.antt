-- Holding is one to one: the context of a thread is the one whose holder it is.
use Rattle.std.specs.Prelude.{Bool, true, false, cond, ◌≡◌, List, [], ◌∷◌, Some, None, refl, find, unwrap_or}
use Rattle.std.proofs.Common.{sym, ◌∙◌, ap, inl, inr, subst}
use Rattle.mcs_types.specs.declared.id.ObjId.{ObjId}
use Rattle.mcs_types.specs.declared.id.Kind.TheVariants as kind
use Rattle.mcs_types.specs.declared.record.Rec.TheVariants as rec
use Rattle.mcs_types.specs.Ids.{same, same_kind}
use Rattle.mcs_book.specs.Logs.{Log, given}
use Rattle.mcs_types.specs.Ids.{is_just}
use Rattle.mcs_book.specs.Contexts.{contexts, holder_of, context_of}
use Rattle.mcs_book.specs.Sound.{Sound}
use Rattle.mcs_types.proofs.Ids.{same-self, same-equal}
use Rattle.mcs_book.proofs.Objects.Same.{is_just-some}
use Rattle.mcs_book.proofs.Queues.Sorted.{In}
use Rattle.mcs_book.proofs.Objects.MadeLaws.{made-in, alive-made}
use Rattle.mcs_book.proofs.Messages.MessageLaws.{find-passes}

-- what alone passes is found, where it is in the list
pub find-alone : (p : ObjId → Bool) (xs : List ObjId) (y : ObjId) → In y xs → p y ≡ true → ((z : ObjId) → p z ≡ true → z ≡ y) → find p xs ≡ Some y
find-alone p [] y i h alone = absurd i
find-alone p (x ∷ xs) y i h alone = go (p x) refl i (λ j. find-alone p xs y j h alone)
  where
    go : (b : Bool) → p x ≡ b → In y (x ∷ xs) → (In y xs → find p xs ≡ Some y) → cond b (Some x) (find p xs) ≡ Some y
    go true e i later = ap (λ z. Some z) (alone x e)
    go false e (inl s) later = let no : true ≡ false = sym h ∙ ap p s ∙ e in absurd cc
    go false e (inr j) later = later j

-- a held context was made
pub held-made : (R : Log) (s t : ObjId) → Sound R → holder_of R s ≡ Some t → In s (contexts R)
held-made [] s t sound h = absurd cc
held-made (rec.Holds c None ∷ R) s t sound h = go (same s c) h (held-made R s t sound.1)
  where
    go : (v : Bool) → unwrap_or (given v None) (holder_of R s) ≡ Some t → (holder_of R s ≡ Some t → In s (contexts R)) → In s (contexts R)
    go true k later = absurd cc
    go false k later = later k
held-made (rec.Holds c (Some u) ∷ R) s t sound h = go (same s c) refl h (held-made R s t sound.1)
  where
    go : (v : Bool) → same s c ≡ v → unwrap_or (given v (Some u)) (holder_of R s) ≡ Some t → (holder_of R s ≡ Some t → In s (contexts R)) → In s (contexts R)
    go true e k later = subst (λ (z : ObjId). In z (contexts R)) (sym (same-equal s c e)) (made-in R c kind.Context sound.0.0.0 (alive-made R c sound.0.0.1))
    go false e k later = later k
held-made (rec.Made o form ∷ R) s t sound h = more (same_kind o.kind kind.Context) (held-made R s t sound.1 h)
  where
    more : (v : Bool) → In s (contexts R) → In s (cond v (o ∷ contexts R) (contexts R))
    more true i = inr i
    more false i = i
held-made (_ ∷ R) s t sound h = held-made R s t sound.1 h

-- a thread holds one context at most
pub holder-one : (R : Log) (s c t : ObjId) → Sound R → holder_of R s ≡ Some t → holder_of R c ≡ Some t → s ≡ c
holder-one [] s c t sound h k = absurd cc
holder-one (rec.Holds o None ∷ R) s c t sound h k = go (same s o) (same c o) h k (holder-one R s c t sound.1)
  where
    go : (v w : Bool) → unwrap_or (given v None) (holder_of R s) ≡ Some t → unwrap_or (given w None) (holder_of R c) ≡ Some t → (holder_of R s ≡ Some t → holder_of R c ≡ Some t → s ≡ c) → s ≡ c
    go true w h k later = absurd cc
    go false true h k later = absurd cc
    go false false h k later = later h k
holder-one (rec.Holds o (Some u) ∷ R) s c t sound h k = go (same s o) refl (same c o) refl h k (holder-one R s c t sound.1)
  where
    go : (v : Bool) → same s o ≡ v → (w : Bool) → same c o ≡ w → unwrap_or (given v (Some u)) (holder_of R s) ≡ Some t → unwrap_or (given w (Some u)) (holder_of R c) ≡ Some t → (holder_of R s ≡ Some t → holder_of R c ≡ Some t → s ≡ c) → s ≡ c
    go true e true f h k later = same-equal s o e ∙ sym (same-equal c o f)
    go true e false f h k later = absurd (sound.0.2 c (k ∙ sym h))
    go false e true f h k later = absurd (sound.0.2 s (h ∙ sym k))
    go false e false f h k later = later h k
holder-one (_ ∷ R) s c t sound h k = holder-one R s c t sound.1 h k

-- the laws: the context of t is the one that t holds
pub context_of-holder : (R : Log) (t s : ObjId) → context_of R t ≡ Some s → holder_of R s ≡ Some t
unfolding context_of
context_of-holder R t s h = is_just-some (holder_of R s) t (find-passes (λ s. is_just (holder_of R s) t) (contexts R) s h)

-- and the one that t holds is its context
pub holder-context_of : (R : Log) (t s : ObjId) → Sound R → holder_of R s ≡ Some t → context_of R t ≡ Some s
unfolding context_of
holder-context_of R t s sound h =
    find-alone (λ s. is_just (holder_of R s) t) (contexts R) s (held-made R s t sound h) (ap (λ o. is_just o t) h ∙ same-self t)
    (λ z is. holder-one R z s t sound (is_just-some (holder_of R z) t is) h)
