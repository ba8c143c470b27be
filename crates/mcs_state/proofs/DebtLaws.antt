-- Debts of reply objects: who is owed after one begins or ends, and which chain a reply object
-- tops.
use Rattle.std.specs.Prelude.{◌≡◌, true, false, ◌∷◌, Option, Some, None, IsSome, option_map, option_and_then, unwrap_or}
use Rattle.std.specs.Option.{IfSome}
use Rattle.std.proofs.Common.{refl, ap, sym, ◌∙◌, inl, inr}
use Rattle.mcs_types.specs.declared.id.ObjId.{ObjId}
use Rattle.mcs_types.specs.declared.id.Kind.TheVariants as kind
use Rattle.mcs_types.specs.declared.record.Rec.TheVariants as rec
use Rattle.mcs_types.specs.Ids.{same, is_just}
use Rattle.mcs_types.specs.Chains.{head_of}
use Rattle.mcs_types.proofs.Ids.{same-self}
use Rattle.mcs_replies.specs.declared.replies.Ended.{Ended}
use Rattle.mcs_replies.specs.Owing.{Owing, owed_in, chain_in, may_owe, NamesTopped}
use Rattle.mcs_book.specs.Logs.{Log, given}
use Rattle.mcs_book.specs.Chains.{chain_of, topped_by}
use Rattle.mcs_book.specs.Contexts.{contexts}
use Rattle.mcs_book.specs.Replies.{owed_by, owing, replies}
use Rattle.mcs_book.specs.Sound.{Sound, Allowed, IsThere, IsOwedNothing}
use Rattle.mcs_book.proofs.Chains.ChainLaws.{chain_of-growing}
use Rattle.mcs_book.proofs.Chains.GivingBack.{top-found}
use Rattle.mcs_book.proofs.Firm.Laws.{owing-none, owing-owed}
use Rattle.mcs_book.proofs.Messages.MessageLaws.{find-passes}
use Rattle.mcs_book.proofs.Objects.MadeLaws.{alive-made, made-in}
use Rattle.mcs_book.proofs.Objects.Same.{is_just-some}
use Rattle.mcs_book.proofs.SoundLogs.KeptLaws.{never-both, owed-one, owed-there, same-never, set-other, set-self, set-split}
use Rattle.mcs_book.proofs.Threads.HoldingLaws.{find-alone}
use Rattle.mcs_state.specs.Tables.{RepliesAgree}
use Rattle.mcs_state.proofs.ThereLaws.{there}

-- the reply object that owes x is found, as it is the only one
owing-found : (R : Log) (r x : ObjId) → Sound R → owed_by R r ≡ Some x → owing R x ≡ Some r
unfolding owing
owing-found R r x sound owed =
    let f : IsThere R kind.Reply r × IsThere R kind.Thread x = owed-there R r x sound owed in
    find-alone (λ q. is_just (owed_by R q) x) (replies R) r (made-in R r kind.Reply f.0.0 (alive-made R r f.0.1)) (ap (λ d. is_just d x) owed ∙ same-self x)
    (λ q is. owed-one R q r x sound (is_just-some (owed_by R q) x is) owed)

-- where none owes x, none is found
owing-nothing : (R : Log) (x : ObjId) → IsOwedNothing R x → owing R x ≡ None
owing-nothing R x none = go (owing R x) refl
  where
    go : (o : Option ObjId) → owing R x ≡ o → o ≡ None
    go None e = refl
    go (Some r) e = absurd (none r (owing-owed R x r e))

-- who is owed by the same reply objects in two logs
owing-same : (R S : Log) (t : ObjId) → Sound R → Sound S → ((q : ObjId) → owed_by R q ≡ Some t → owed_by S q ≡ Some t) → ((q : ObjId) → owed_by S q ≡ Some t → owed_by R q ≡ Some t) → owing S t ≡ owing R t
owing-same R S t sound sound' to from = go (owing R t) refl
  where
    go : (o : Option ObjId) → owing R t ≡ o → owing S t ≡ o
    go None e = owing-nothing S t (λ q h. owing-none R t sound e q (from q h))
    go (Some q) e = owing-found S q t sound' (to q (owing-owed R t q e))

-- a debt begins: its caller is owed by its reply object, and the others as before
pub owing-begun : (R : Log) (r x : ObjId) (s : Option ObjId) → Sound R → Allowed R (rec.Owes r x s) → owing (rec.Owes r x s ∷ R) x ≡ Some r
owing-begun R r x s sound ok = owing-found (rec.Owes r x s ∷ R) r x (ok, sound) (set-self r (Some x) (owed_by R r))

pub owing-beside : (R : Log) (r x t : ObjId) (s : Option ObjId) → Sound R → Allowed R (rec.Owes r x s) → same t x ≡ false → owing (rec.Owes r x s ∷ R) t ≡ owing R t
owing-beside R r x t s sound ok other =
    owing-same R (rec.Owes r x s ∷ R) t sound (ok, sound)
    (λ q h. set-other q r (Some x) (owed_by R q) (λ is. never-both (owed_by R r) t (ap (λ z. owed_by R z) (sym is) ∙ h) ok.1.0) ∙ h)
    (λ q h. elim (set-split q r (Some x) (owed_by R q) (Some t) h) [
      | inl (who, is) ↦ (let it : t ≡ x = cc in absurd (same-never t x it other))
      | inr (apart, is) ↦ is
    ])

-- the debt of r to x ended between R and S
module _ (R S : Log) (r x : ObjId) (sound : Sound R) (sound' : Sound S) (owed : owed_by R r ≡ Some x) (ends : (q : ObjId) → owed_by S q ≡ unwrap_or (given (same q r) None) (owed_by R q)) where
  -- who is owed still was owed by another reply object
  still-owed : (q t : ObjId) → owed_by S q ≡ Some t → (same q r ≡ false) × (owed_by R q ≡ Some t)
  still-owed q t h = elim (set-split q r None (owed_by R q) (Some t) (sym (ends q) ∙ h)) [ inl (who, is) ↦ absurd cc | inr (other, is) ↦ (other, is) ]

  -- no thread owes its caller any more, and the others are owed as before
  pub owing-ended : owing S x ≡ None
  owing-ended = owing-nothing S x (λ q h. let f : (same q r ≡ false) × (owed_by R q ≡ Some x) = still-owed q x h in same-never q r (owed-one R q r x sound f.1 owed) f.0)

  pub owing-left : (t : ObjId) → same t x ≡ false → owing S t ≡ owing R t
  owing-left t other =
      owing-same R S t sound sound'
      (λ q h. ends q ∙ set-other q r None (owed_by R q) (λ is. let both : Some t ≡ Some x = sym h ∙ ap (λ z. owed_by R z) is ∙ owed in let it : t ≡ x = cc in same-never t x it other) ∙ h)
      (λ q h. (still-owed q t h).1)

-- r tops the chain of the context that is found
topped-tops : (R : Log) (r s : ObjId) → topped_by R r ≡ Some s → is_just (head_of (chain_of R s)) r ≡ true
unfolding topped_by
topped-tops R r s h = find-passes (λ c. is_just (head_of (chain_of R c)) r) (contexts R) s h

-- the context that the table names is the one whose chain r tops
topped-is : (R : Log) (v : Owing) (r : ObjId) (topped : Option ObjId) → Sound R → RepliesAgree v R → NamesTopped v r topped → topped ≡ topped_by R r
topped-is R v r topped sound a names = go topped names
  where
    -- the top of a chain in the table is that in the log
    tops : (s : ObjId) (o : Option ObjId) → NamesTopped v r o → is_just o s ≡ is_just (head_of (chain_of R s)) r
    tops s o h = h s ∙ ap (λ os. is_just (head_of os) r) (a.chains s ∙ sym (chain_of-growing R s sound))

    none : NamesTopped v r None → (o : Option ObjId) → topped_by R r ≡ o → None ≡ o
    none h None e = refl
    none h (Some s) e = let no : false ≡ true = tops s None h ∙ topped-tops R r s e in absurd cc

    go : (o : Option ObjId) → NamesTopped v r o → o ≡ topped_by R r
    go None h = none h (topped_by R r) refl
    go (Some s) h = sym (top-found R s r sound (is_just-some (head_of (chain_of R s)) r (sym (tops s (Some s) h) ∙ same-self s)))

-- and so does the table for a debt that was there
pub ended-topped : (R : Log) (v : Owing) (r x : ObjId) (o : Option Ended) → Sound R → RepliesAgree v R → owed_by R r ≡ Some x → option_map (λ (e : Ended). e.caller) o ≡ owed_in v r
    → IfSome o (λ (e : Ended). NamesTopped v r e.topped) → option_and_then (λ (e : Ended). e.topped) o ≡ topped_by R r
ended-topped R v r x None sound a owed caller names = let no : None ≡ Some x = caller ∙ a.owed r ∙ owed in absurd cc
ended-topped R v r x (Some e) sound a owed caller names = topped-is R v r e.topped sound a names

-- where a debt was there, the table tells that it ended
pub ended-there : (R : Log) (v : Owing) (r x : ObjId) (o : Option Ended) → RepliesAgree v R → owed_by R r ≡ Some x → option_map (λ (e : Ended). e.caller) o ≡ owed_in v r → IsSome o
ended-there R v r x None a owed caller = let no : None ≡ Some x = caller ∙ a.owed r ∙ owed in absurd cc
ended-there R v r x (Some e) a owed caller = refl

-- the top of a chain in the table is that of the chain
pub top-is : (R : Log) (v : Owing) (s : ObjId) (top : Option ObjId) → Sound R → RepliesAgree v R → top ≡ head_of (chain_in v s) → top ≡ head_of (chain_of R s)
top-is R v s top sound a e = e ∙ ap (λ os. head_of os) (a.chains s ∙ sym (chain_of-growing R s sound))

-- a reply object that may come to owe is one that may in the table
pub may-owe : (R : Log) (v : Owing) (r x : ObjId) (s : Option ObjId) → RepliesAgree v R → Allowed R (rec.Owes r x s) → may_owe v r ≡ true
may-owe R v r x s a ok = rw (a.there r, there R kind.Reply r ok.0, a.owed r, ok.1.0) refl
