-- What the faults of words and names say of a reading.
use Rattle.std.proofs.Common.{◌≡◌, List, Some, None, Result, Ok, Err, ℕ, sym, ap, ◌∙◌, subst, IfErr}
use Rattle.std.specs.Result.{IsErrAnd}
use Rattle.std.specs.Option.{ok_or}
use Rattle.mcs_types.specs.declared.id.ObjId.{ObjId}
use Rattle.mcs_plan_source.specs.Naming.{NameList, find}
use Rattle.mcs_plan_source.specs.declared.fault.PlanError.{PlanError}
use Rattle.mcs_plan_source.specs.declared.fault.PlanError.TheVariants as why
use Rattle.mcs_plan_source.specs.Telling.{TellsNot}
use Rattle.mcs_plan_source.specs.Refusals.{Refusal, Read, ◌>>=◌, refusal_by, not_wanted, no_name, Refuses}
use Rattle.mcs_plan_source.specs.Capabilities.{cap_read, cap_to, name_in}

-- a word that is not what is wanted
not_refused : {X : Type 0} (read : Read X) (word : List ℕ) (w : PlanError) (e : Refusal) → read ≡ Err (not_wanted word) → TellsNot word w → refusal_by w ≡ Some e → read ≡ Err e
not_refused read word (why.Not m wanted) e is h p = cc
not_refused read word why.OutOfMemory e is h p = absurd (cc)
not_refused read word w e is h p = absurd h

-- a word that spells no capability to the object of its name
pub cap_refused : (names : NameList) (word : List ℕ) (obj : ObjId) (w : PlanError) (e : Refusal) → find names (name_in word) ≡ Some obj → cap_to obj word ≡ None
    → TellsNot word w → refusal_by w ≡ Some e → cap_read names word ≡ Err e
cap_refused names word obj w e found none h p =
    not_refused (cap_read names word) word w e
    (ap (λ o. ok_or o (no_name (name_in word)) >>= (λ (x : ObjId). ok_or (cap_to x word) (not_wanted word))) found ∙ ap (λ o. ok_or o (not_wanted word)) none)
    h p

-- a fault that is handed on
pub handed_on : {T X : Type 0} (r : Result T PlanError) (w : PlanError) (whole : Read X) → IsErrAnd r (λ e. e ≡ w) → ((e : Refusal) → refusal_by w ≡ Some e → whole ≡ Err e)
    → IfErr r (Refuses whole)
handed_on (Ok x) w whole h f = absurd h
handed_on (Err y) w whole h f = subst (λ v. Refuses whole v) (sym h) f
