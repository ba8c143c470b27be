-- In a sound log a reply object that tops a chain was brought the context of that chain.
use Rattle.std.specs.Prelude.{Bool, true, false, cond, ◌≡◌, ◌≢◌, List, [], ◌∷◌, Option, Some, None, refl, unwrap_or}
use Rattle.std.specs.Option.{IfSome}
use Rattle.std.proofs.Common.{sym, ◌∙◌, ap, inl, inr, subst}
use Rattle.mcs_types.specs.declared.id.ObjId.{ObjId}
use Rattle.mcs_types.specs.declared.id.Kind.TheVariants as kind
use Rattle.mcs_types.specs.declared.record.Ending.{Ending}
use Rattle.mcs_types.specs.declared.record.Ending.TheVariants.{Deleted, Cancelled}
use Rattle.mcs_types.specs.declared.record.Rec.TheVariants as rec
use Rattle.mcs_types.specs.Ids.{same, same_kind}
use Rattle.mcs_book.specs.Logs.{Log, given}
use Rattle.mcs_types.specs.Ids.{is_just}
use Rattle.mcs_book.specs.Contexts.{contexts, holder_of}
use Rattle.mcs_book.specs.Replies.{owed_by, brought_to}
use Rattle.mcs_book.specs.Chains.{chain_of, topped_by}
use Rattle.mcs_types.specs.Chains.{head_of, above, taken_off, ended}
use Rattle.mcs_book.specs.Growing.{growing_chain}
use Rattle.mcs_book.specs.Sound.{Sound}
use Rattle.mcs_types.proofs.Ids.{same-self, same-equal, same-other}
use Rattle.mcs_book.proofs.Objects.Same.{is_just-some}
use Rattle.mcs_book.proofs.Queues.Sorted.{In, Distinct}
use Rattle.mcs_book.proofs.Threads.HoldingLaws.{held-made, find-alone}
use Rattle.mcs_book.proofs.Chains.ChainLaws.{chain_of-growing}

-- r was brought the context s, and owes somebody
pub record IsBrought (R : Log) (s r : ObjId) : Type 0 where
  pub brought : brought_to R r ≡ Some s
  pub owes : owed_by R r ≢ None

-- each of a list was brought s and owes somebody, and none is there twice
record AreBrought (R : Log) (s : ObjId) (os : List ObjId) : Type 0 where
  each : (r : ObjId) → In r os → IsBrought R s r
  distinct : Distinct os

-- none is brought s
brought-none : (R : Log) (s : ObjId) → AreBrought R s []
brought-none R s = record { each = λ r i. absurd i; distinct = tt }

-- what is above r is in the list, and is not r
in-above : (r z : ObjId) (os : List ObjId) → In z (above r os) → In z os × (z ≢ r)
in-above r z [] i = absurd i
in-above r z (o ∷ os) i = go (same o r) refl i (in-above r z os)
  where
    go : (b : Bool) → same o r ≡ b → In z (cond b [] (o ∷ above r os)) → (In z (above r os) → In z os × (z ≢ r)) → In z (o ∷ os) × (z ≢ r)
    go true e j later = absurd j
    go false e (inl is) later = (inl is, λ same_one. let clash : true ≡ false = sym (same-self r) ∙ ap (λ y. same y r) (sym (sym is ∙ same_one)) ∙ e in absurd cc)
    go false e (inr j) later = let (there, other) = later j in (inr there, other)

-- it is there once
distinct-above : (r : ObjId) (os : List ObjId) → Distinct os → Distinct (above r os)
distinct-above r [] d = tt
distinct-above r (o ∷ os) d = go (same o r) (distinct-above r os d.1)
  where
    go : (b : Bool) → Distinct (above r os) → Distinct (cond b [] (o ∷ above r os))
    go true k = tt
    go false k = (λ i. d.0 (in-above r o os i).0, k)

-- what is left when r was taken off is in the list, and is not r
in-off : (r z : ObjId) (os : List ObjId) → Distinct os → In z (taken_off r os) → In z os × (z ≢ r)
in-off r z [] d i = absurd i
in-off r z (o ∷ os) d i = go (same o r) refl i
  where
    go : (b : Bool) → same o r ≡ b → In z (cond b os (o ∷ above r os)) → In z (o ∷ os) × (z ≢ r)
    go true e j = (inr j, λ same_one. d.0 (subst (λ (y : ObjId). In y os) (same_one ∙ sym (same-equal o r e)) j))
    go false e (inl is) = (inl is, λ same_one. let clash : true ≡ false = sym (same-self r) ∙ ap (λ y. same y r) (sym (sym is ∙ same_one)) ∙ e in absurd cc)
    go false e (inr j) = let (there, other) = in-above r z os j in (inr there, other)

-- it is there once
distinct-off : (r : ObjId) (os : List ObjId) → Distinct os → Distinct (taken_off r os)
distinct-off r [] d = tt
distinct-off r (o ∷ os) d = go (same o r)
  where
    go : (b : Bool) → Distinct (cond b os (o ∷ above r os))
    go true = d.1
    go false = (λ i. d.0 (in-above r o os i).0, distinct-above r os d.1)

-- the same where a debt ended
in-ended : (ending : Ending) (r z : ObjId) (os : List ObjId) → Distinct os → In z (ended ending r os) → In z os × (z ≢ r)
in-ended Deleted r z os d i = in-off r z os d i
in-ended Cancelled r z os d i = in-above r z os i

-- it is there once
distinct-ended : (ending : Ending) (r : ObjId) (os : List ObjId) → Distinct os → Distinct (ended ending r os)
distinct-ended Deleted r os d = distinct-off r os d
distinct-ended Cancelled r os d = distinct-above r os d

-- another reply object still owes after r was paid or is void
other-owes : (R : Log) (r z : ObjId) → z ≢ r → owed_by R z ≢ None → unwrap_or (given (same z r) None) (owed_by R z) ≢ None
other-owes R r z ne h = go (same z r) (same-other z r ne)
  where
    go : (b : Bool) → b ≡ false → unwrap_or (given b None) (owed_by R z) ≢ None
    go true e = absurd cc
    go false e = h

-- another reply object was brought the same after a debt of r
other-brought : (R : Log) (r x z s : ObjId) (c : Option ObjId) → z ≢ r → IsBrought R s z → IsBrought (rec.Owes r x c ∷ R) s z
other-brought R r x z s c ne h = record { brought = go (same z r) (same-other z r ne); owes = owing (same z r) (same-other z r ne) }
  where
    go : (b : Bool) → b ≡ false → unwrap_or (given b c) (brought_to R z) ≡ Some s
    go true e = absurd cc
    go false e = h.brought

    owing : (b : Bool) → b ≡ false → unwrap_or (given b (Some x)) (owed_by R z) ≢ None
    owing true e = absurd cc
    owing false e = h.owes

-- all of the chain after a debt of r
brought-owes : (R : Log) (s r x : ObjId) (c : Option ObjId) (os : List ObjId) → owed_by R r ≡ None → AreBrought R s os → AreBrought (rec.Owes r x c ∷ R) s (cond (is_just c s) (r ∷ os) os)
brought-owes R s r x c os free h = go (is_just c s) refl
  where
    other : (z : ObjId) → In z os → z ≢ r
    other z i e = (h.each z i).owes (ap (λ y. owed_by R y) e ∙ free)

    first : (b : Bool) → b ≡ true → c ≡ Some s → unwrap_or (given b c) (brought_to R r) ≡ Some s
    first true e is = is
    first false e is = absurd cc

    owing : (b : Bool) → b ≡ true → unwrap_or (given b (Some x)) (owed_by R r) ≢ None
    owing true e is = absurd cc
    owing false e is = absurd cc

    mine : is_just c s ≡ true → IsBrought (rec.Owes r x c ∷ R) s r
    mine e = record { brought = first (same r r) (same-self r) (is_just-some c s e); owes = owing (same r r) (same-self r) }

    go : (b : Bool) → is_just c s ≡ b → AreBrought (rec.Owes r x c ∷ R) s (cond b (r ∷ os) os)
    go true e = record {
      each = λ z i. elim i [ inl is ↦ subst (λ (y : ObjId). IsBrought (rec.Owes r x c ∷ R) s y) (sym is) (mine e) | inr j ↦ other-brought R r x z s c (other z j) (h.each z j) ];
      distinct = (λ i. other r i refl, h.distinct);
    }
    go false e = record { each = λ z i. other-brought R r x z s c (other z i) (h.each z i); distinct = h.distinct }

-- all of the chain after an object is closed
brought-closed : (R : Log) (s o : ObjId) (b : Bool) (os : List ObjId) → AreBrought R s os → AreBrought (rec.Closed o ∷ R) s (cond b [] os)
brought-closed R s o true os h = brought-none (rec.Closed o ∷ R) s
brought-closed R s o false os h = record { each = λ z i. record { brought = (h.each z i).brought; owes = (h.each z i).owes }; distinct = h.distinct }

-- all of the chain of s were brought s
chain-brought : (R : Log) (s : ObjId) → Sound R → AreBrought R s (growing_chain R s)
chain-brought [] s sound = brought-none [] s
chain-brought (rec.Owes r x c ∷ R) s sound = brought-owes R s r x c (growing_chain R s) sound.0.1.0 (chain-brought R s sound.1)
chain-brought (rec.Paid r x message ∷ R) s sound =
    let h : AreBrought R s (growing_chain R s) = chain-brought R s sound.1 in
    record {
      each = λ z i. let (there, ne) = in-off r z (growing_chain R s) h.distinct i in record { brought = (h.each z there).brought; owes = other-owes R r z ne (h.each z there).owes };
      distinct = distinct-off r (growing_chain R s) h.distinct;
    }
chain-brought (rec.Void r x ending ∷ R) s sound =
    let h : AreBrought R s (growing_chain R s) = chain-brought R s sound.1 in
    record {
      each = λ z i. let (there, ne) = in-ended ending r z (growing_chain R s) h.distinct i in record { brought = (h.each z there).brought; owes = other-owes R r z ne (h.each z there).owes };
      distinct = distinct-ended ending r (growing_chain R s) h.distinct;
    }
chain-brought (rec.Closed o ∷ R) s sound = brought-closed R s o (same s o) (growing_chain R s) (chain-brought R s sound.1)
chain-brought (_ ∷ R) s sound = let h : AreBrought R s (growing_chain R s) = chain-brought R s sound.1 in record { each = λ z i. record { brought = (h.each z i).brought; owes = (h.each z i).owes }; distinct = h.distinct }

-- the first of a list is in it
head-in : (os : List ObjId) (r : ObjId) → head_of os ≡ Some r → In r os
head-in [] r h = absurd cc
head-in (o ∷ os) r h = let it : o ≡ r = cc in inl (sym it)

-- who tops the chain of s was brought s
pub top-brought : (R : Log) (s r : ObjId) → Sound R → head_of (chain_of R s) ≡ Some r → brought_to R r ≡ Some s
top-brought R s r sound top = ((chain-brought R s sound).each r (head-in (growing_chain R s) r (ap head_of (sym (chain_of-growing R s sound)) ∙ top))).brought

-- a context that was brought was made
brought-made : (R : Log) (r s : ObjId) → Sound R → brought_to R r ≡ Some s → In s (contexts R)
brought-made [] r s sound is = absurd cc
brought-made (rec.Owes o x c ∷ R) r s sound is = go (same r o) is (brought-made R r s sound.1)
  where
    held : (d : Option ObjId) → IfSome d (λ k. holder_of R k ≡ Some x) → d ≡ Some s → holder_of R s ≡ Some x
    held (Some k) h e = let it : k ≡ s = cc in ap (λ y. holder_of R y) (sym it) ∙ h
    held None h e = absurd cc

    go : (b : Bool) → unwrap_or (given b c) (brought_to R r) ≡ Some s → (brought_to R r ≡ Some s → In s (contexts R)) → In s (contexts R)
    go true e later = held-made R s x sound.1 (held c sound.0.4 e)
    go false e later = later e
brought-made (rec.Made o form ∷ R) r s sound is = more (same_kind o.kind kind.Context) (brought-made R r s sound.1 is)
  where
    more : (b : Bool) → In s (contexts R) → In s (cond b (o ∷ contexts R) (contexts R))
    more true i = inr i
    more false i = i
brought-made (_ ∷ R) r s sound is = brought-made R r s sound.1 is

-- the context whose chain r tops is found
pub top-found : (R : Log) (s r : ObjId) → Sound R → head_of (chain_of R s) ≡ Some r → topped_by R r ≡ Some s
unfolding topped_by
top-found R s r sound top =
    find-alone (λ c. is_just (head_of (chain_of R c)) r) (contexts R) s (brought-made R r s sound (top-brought R s r sound top)) (ap (λ o. is_just o r) top ∙ same-self r)
    (λ c is. let twice : Some c ≡ Some s = sym (top-brought R c r sound (is_just-some (head_of (chain_of R c)) r is)) ∙ top-brought R s r sound top in cc)
