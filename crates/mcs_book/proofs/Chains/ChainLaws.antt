-- The chain that debts push and endings cut is the chain of the debts that are kept.
use Rattle.std.specs.Prelude.{Bool, true, false, cond, not, ◌&&◌, ◌||◌, ◌≡◌, List, [], ◌∷◌, ◌++◌, Option, Some, None, refl, unwrap_or}
use Rattle.std.specs.List.{list_any}
use Rattle.std.proofs.Common.{sym, ◌∙◌, ap, append_assoc, append-nil, subst}
use Rattle.std.proofs.lemmas.List.Folds.{list_any-append}
use Rattle.mcs_types.specs.declared.id.ObjId.{ObjId}
use Rattle.mcs_types.specs.declared.id.Kind.{Kind}
use Rattle.mcs_types.specs.declared.id.Kind.TheVariants as kind
use Rattle.mcs_types.specs.declared.record.Ending.TheVariants.{Deleted, Cancelled}
use Rattle.mcs_types.specs.declared.record.Rec.{Rec}
use Rattle.mcs_types.specs.declared.record.Rec.TheVariants as rec
use Rattle.mcs_types.specs.Ids.{same}
use Rattle.mcs_book.specs.Logs.{Log, given}
use Rattle.mcs_types.specs.Ids.{is_just}
use Rattle.mcs_book.specs.Objects.{was_closed, was_made}
use Rattle.mcs_book.specs.Contexts.{holder_of}
use Rattle.mcs_book.specs.Replies.{owed_by}
use Rattle.mcs_book.specs.Chains.{owes_with, ends, cancels, lasts, lasts_any, any_lasting, cuts, cuts_any, any_cut, kept_debt, kept, chain_of}
use Rattle.mcs_types.specs.Chains.{above, taken_off}
use Rattle.mcs_book.specs.Growing.{growing_chain}
use Rattle.mcs_book.specs.Sound.{Sound, IsReleased}
use Rattle.mcs_types.proofs.Ids.{same-self, same-equal}

-- false on the right changes no "or"
or-false : (b : Bool) → (b || false) ≡ b
or-false true = refl
or-false false = refl

-- true on the right makes "or" true
or-true : (b : Bool) → (b || true) ≡ true
or-true true = refl
or-true false = refl

-- once a later debt was cut, nothing older is kept
kept-cut : (s : ObjId) (later : List Rec) (R : Log) → any_cut s later ≡ true → kept s later R ≡ []
kept-cut s later [] h = refl
kept-cut s later (r ∷ R) h = ap (λ xs. kept_debt s (owes_with s r) later ++ xs) (kept-cut s (r ∷ later) R (ap (λ b. cuts_any s (owes_with s r) later || b) h ∙ or-true _)) ∙ append-nil _ ∙ at (owes_with s r)
  where
    gone : (a b : Bool) (o : ObjId) → b ≡ true → cond (a && not b) (o ∷ []) [] ≡ []
    gone true true o e = refl
    gone false true o e = refl
    gone a false o e = absurd cc

    at : (o : Option ObjId) → kept_debt s o later ≡ []
    at None = refl
    at (Some o) = gone (lasts o later) (any_cut s later) o h

-- a record that ends no debt, and comes last, changes nothing of what is before it
module _ (s : ObjId) (new : Rec) (e : (r : ObjId) → ends r new ≡ false) where
  -- one more record that ends no debt changes no lasting
  lasts-more : (r : ObjId) (later : List Rec) → lasts r (later ++ new ∷ []) ≡ lasts r later
  lasts-more r later = ap (λ b. not b) (list_any-append (ends r) later (new ∷ []) ∙ ap (λ b. list_any (ends r) later || b) (ap (λ b. b || false) (e r)) ∙ or-false _)

  -- such a record changes nothing of what cuts
  cuts-more : (r : ObjId) (between later : List Rec) → cuts s r between (later ++ new ∷ []) ≡ cuts s r between later
  cuts-more r between [] = ap (λ b. cond b (cancels new || any_lasting s between) false) (e r)
  cuts-more r between (rec ∷ later) = ap (λ b. cond (ends r rec) (cancels rec || any_lasting s between) b) (cuts-more r (between ++ rec ∷ []) later)

  -- nor of whether anything cuts
  any_cut-more : (later : List Rec) → any_cut s (later ++ new ∷ []) ≡ any_cut s later
  any_cut-more [] = or-false _ ∙ none (owes_with s new)
    where
      none : (o : Option ObjId) → cuts_any s o [] ≡ false
      none None = refl
      none (Some r) = refl
  any_cut-more (rec ∷ later) = ap (λ b. cuts_any s (owes_with s rec) (later ++ new ∷ []) || b) (any_cut-more later) ∙ ap (λ b. b || any_cut s later) (at (owes_with s rec))
    where
      at : (o : Option ObjId) → cuts_any s o (later ++ new ∷ []) ≡ cuts_any s o later
      at None = refl
      at (Some r) = cuts-more r [] later

  -- nor of what is kept
  kept-more : (later : List Rec) (R : Log) → kept s (later ++ new ∷ []) R ≡ kept s later R
  kept-more later [] = refl
  kept-more later (rec ∷ R) = ap (λ xs. kept_debt s (owes_with s rec) (later ++ new ∷ []) ++ xs) (kept-more (rec ∷ later) R) ∙ ap (λ xs. xs ++ kept s (rec ∷ later) R) (at (owes_with s rec))
    where
      at : (o : Option ObjId) → kept_debt s o (later ++ new ∷ []) ≡ kept_debt s o later
      at None = refl
      at (Some r) = ap (λ b. cond (b && not (any_cut s (later ++ new ∷ []))) (r ∷ []) []) (lasts-more r later) ∙ ap (λ b. cond (lasts r later && not b) (r ∷ []) []) (any_cut-more later)

-- the record e ends a debt of r, by cancellation where c
module _ (s r : ObjId) (e : Rec) (c : Bool) (ending : (o : ObjId) → ends o e ≡ same o r) (cancelling : cancels e ≡ c) (none : owes_with s e ≡ None) where
  -- a debt of r that lasts
  abbrev debt_of : Option ObjId → List Rec → Bool
  debt_of None later = false
  debt_of (Some o) later = same o r && lasts o later

  -- whether e cuts by a debt of the list
  abbrev hits : List Rec → Bool
  hits [] = false
  hits (rec ∷ later) = (debt_of (owes_with s rec) later && (c || any_lasting s later)) || hits later

  -- what cuts when the ending comes last
  cuts-end : (o : ObjId) (between later : List Rec) → cuts s o between (later ++ e ∷ []) ≡ (cuts s o between later || ((same o r && lasts o later) && (c || any_lasting s (between ++ later))))
  cuts-end o between [] =
      ap (λ b. cond b (cancels e || any_lasting s between) false) (ending o) ∙ ap (λ b. cond (same o r) (b || any_lasting s between) false) cancelling
      ∙ base (same o r) (c || any_lasting s between) ∙ ap (λ xs. (same o r && true) && (c || any_lasting s xs)) (sym (append-nil between))
    where
      base : (b x : Bool) → cond b x false ≡ ((b && true) && x)
      base true x = refl
      base false x = refl
  cuts-end o between (rec ∷ later) = go (ends o rec) (cuts-end o (between ++ rec ∷ []) later ∙ ap (λ xs. cuts s o (between ++ rec ∷ []) later || ((same o r && lasts o later) && (c || any_lasting s xs))) (append_assoc between (rec ∷ []) later))
    where
      X : Bool
      X = cancels rec || any_lasting s between

      Y : Bool
      Y = c || any_lasting s (between ++ rec ∷ later)

      never : (a b y : Bool) → a ≡ (a || ((b && false) && y))
      never true b y = refl
      never false true y = refl
      never false false y = refl

      go : (b : Bool) → cuts s o (between ++ rec ∷ []) (later ++ e ∷ []) ≡ (cuts s o (between ++ rec ∷ []) later || ((same o r && lasts o later) && Y))
          → cond b X (cuts s o (between ++ rec ∷ []) (later ++ e ∷ [])) ≡ (cond b X (cuts s o (between ++ rec ∷ []) later) || ((same o r && not (b || list_any (ends o) later)) && Y))
      go true h = never X (same o r) Y
      go false h = h

  -- whether anything cuts then
  any_cut-end : (later : List Rec) → any_cut s (later ++ e ∷ []) ≡ (any_cut s later || hits later)
  any_cut-end [] = or-false _ ∙ ap (λ o. cuts_any s o []) none
  any_cut-end (rec ∷ later) = ap (λ b. cuts_any s (owes_with s rec) (later ++ e ∷ []) || b) (any_cut-end later) ∙ at (owes_with s rec)
    where
      shuffle : (a x b h : Bool) → ((a || x) || (b || h)) ≡ ((a || b) || (x || h))
      shuffle true x b h = refl
      shuffle false true true h = refl
      shuffle false true false h = refl
      shuffle false false b h = refl

      at : (o : Option ObjId) → (cuts_any s o (later ++ e ∷ []) || (any_cut s later || hits later)) ≡ ((cuts_any s o later || any_cut s later) || ((debt_of o later && (c || any_lasting s later)) || hits later))
      at None = refl
      at (Some o) = ap (λ b. b || (any_cut s later || hits later)) (cuts-end o [] later) ∙ shuffle (cuts s o [] later) ((same o r && lasts o later) && (c || any_lasting s later)) (any_cut s later) (hits later)

  -- which debts last then
  lasts-end : (o : ObjId) (later : List Rec) → lasts o (later ++ e ∷ []) ≡ (lasts o later && not (same o r))
  lasts-end o later = ap (λ b. not b) (list_any-append (ends o) later (e ∷ []) ∙ ap (λ b. list_any (ends o) later || (b || false)) (ending o)) ∙ flip (list_any (ends o) later) (same o r)
    where
      flip : (a b : Bool) → not (a || (b || false)) ≡ (not a && not b)
      flip true b = refl
      flip false true = refl
      flip false false = refl

  -- where the ending cuts, nothing older is kept
  kept-hit : (later : List Rec) (R : Log) → hits later ≡ true → kept s (later ++ e ∷ []) R ≡ []
  kept-hit later R h = kept-cut s (later ++ e ∷ []) R (any_cut-end later ∙ ap (λ b. any_cut s later || b) h ∙ or-true _)

  -- every debt of r in the list is ended
  abbrev Ended : List Rec → Log → Type 0
  Ended later [] = Unit {0}
  Ended later (rec ∷ R) = (debt_of (owes_with s rec) later ≡ false) × Ended (rec ∷ later) R

  -- "or" of two that are false
  either : (a b : Bool) → a ≡ false → b ≡ false → (a || b) ≡ false
  either a b p q = rw (p, q) refl

  -- "and" with a first that is false
  no_hit : (a b : Bool) → a ≡ false → (a && b) ≡ false
  no_hit a b p = rw p refl

  -- who is not r is kept as before
  other-kept : (later : List Rec) (d : Option ObjId) → hits later ≡ false → debt_of d later ≡ false → kept_debt s d (later ++ e ∷ []) ≡ kept_debt s d later
  other-kept later None h n = refl
  other-kept later (Some o) h n =
      ap (λ b. cond (b && not (any_cut s (later ++ e ∷ []))) (o ∷ []) []) (lasts-end o later ∙ same_lasts (same o r) (lasts o later) n)
      ∙ ap (λ b. cond (lasts o later && not b) (o ∷ []) []) (any_cut-end later ∙ ap (λ b. any_cut s later || b) h ∙ or-false _)
    where
      same_lasts : (a b : Bool) → (a && b) ≡ false → (b && not a) ≡ b
      same_lasts true true n = absurd cc
      same_lasts true false n = refl
      same_lasts false true n = refl
      same_lasts false false n = refl

  -- where all debts of r were ended before and the ending does not cut, all is kept
  kept-same : (later : List Rec) (R : Log) → hits later ≡ false → Ended later R → kept s (later ++ e ∷ []) R ≡ kept s later R
  kept-same later [] h n = refl
  kept-same later (rec ∷ R) h n =
      ap (λ xs. kept_debt s (owes_with s rec) (later ++ e ∷ []) ++ xs) (kept-same (rec ∷ later) R (either _ _ (no_hit _ _ n.0) h) n.1)
      ∙ ap (λ xs. xs ++ kept s (rec ∷ later) R) (other-kept later (owes_with s rec) h n.0)

  -- where r has an ending later, all its debts of the list are ended
  ended-after : (later : List Rec) (R : Log) → list_any (ends r) later ≡ true → Ended later R
  ended-after later [] h = tt
  ended-after later (rec ∷ R) h = (at (owes_with s rec), ended-after (rec ∷ later) R (ap (λ b. ends r rec || b) h ∙ or-true _))
    where
      stops : (o : ObjId) (b : Bool) → same o r ≡ b → (b && lasts o later) ≡ false
      stops o true is = ap (λ (x : ObjId). lasts x later) (same-equal o r is) ∙ ap (λ b. not b) h
      stops o false is = refl

      at : (d : Option ObjId) → debt_of d later ≡ false
      at None = refl
      at (Some o) = stops o (same o r) refl

  -- being another object goes both ways
  same-flip : (a b : ObjId) → same a b ≡ false → same b a ≡ false
  same-flip a b h = go (same b a) refl
    where
      go : (v : Bool) → same b a ≡ v → v ≡ false
      go true e = let no : true ≡ false = sym (same-self a) ∙ ap (λ (x : ObjId). same a x) (sym (same-equal b a e)) ∙ h in absurd cc
      go false e = refl

  -- what owes no thread has no debt that lasts
  owed-ended : (R : Log) (later : List Rec) → owed_by R r ≡ None → Ended later R
  owed-ended [] later h = tt
  owed-ended (rec.Owes o x b ∷ R) later h = go (same r o) refl h (owed-ended R (rec.Owes o x b ∷ later))
    where
      head : (v : Bool) → same o r ≡ false → debt_of (given v o) later ≡ false
      head true n = no_hit _ _ n
      head false n = refl

      go : (v : Bool) → same r o ≡ v → unwrap_or (given v (Some x)) (owed_by R r) ≡ None → (owed_by R r ≡ None → Ended (rec.Owes o x b ∷ later) R) → Ended later (rec.Owes o x b ∷ R)
      go true e k tail = absurd cc
      go false e k tail = (head (is_just b s) (same-flip r o e), tail k)
  owed-ended (rec.Paid o x m ∷ R) later h = go (same r o) refl h (owed-ended R (rec.Paid o x m ∷ later))
    where
      go : (v : Bool) → same r o ≡ v → unwrap_or (given v None) (owed_by R r) ≡ None → (owed_by R r ≡ None → Ended (rec.Paid o x m ∷ later) R) → Ended later (rec.Paid o x m ∷ R)
      go true e k tail = (refl, ended-after (rec.Paid o x m ∷ later) R (ap (λ b. b || list_any (ends r) later) e))
      go false e k tail = (refl, tail k)
  owed-ended (rec.Void o x how ∷ R) later h = go (same r o) refl h (owed-ended R (rec.Void o x how ∷ later))
    where
      go : (v : Bool) → same r o ≡ v → unwrap_or (given v None) (owed_by R r) ≡ None → (owed_by R r ≡ None → Ended (rec.Void o x how ∷ later) R) → Ended later (rec.Void o x how ∷ R)
      go true e k tail = (refl, ended-after (rec.Void o x how ∷ later) R (ap (λ b. b || list_any (ends r) later) e))
      go false e k tail = (refl, tail k)
  owed-ended (rec ∷ R) later h = (refl, owed-ended R (rec ∷ later) h)

  -- the chain after the ending; above says whether some debt is above
  abbrev step : Bool → List ObjId → List ObjId
  step above [] = []
  step above (o ∷ os) = cond (same o r) (cond above [] os) (o ∷ step true os)

  -- a debt was made where its reply object owed no thread
  free-before : (R : Log) (rec : Rec) (o : ObjId) → Sound (rec ∷ R) → owes_with s rec ≡ Some o → owed_by R o ≡ None
  free-before R (rec.Owes q x b) o sound h = go (is_just b s) h
    where
      go : (v : Bool) → given v q ≡ Some o → owed_by R o ≡ None
      go true k = let it : q ≡ o = cc in ap (λ (z : ObjId). owed_by R z) (sym it) ∙ sound.0.1.0
      go false k = absurd cc
  free-before R _ o sound h = absurd cc

  -- what is kept of all debts when one of r ends
  kept-ended : (later : List Rec) (R : Log) → Sound R → hits later ≡ false → kept s (later ++ e ∷ []) R ≡ step (c || any_lasting s later) (kept s later R)
  kept-ended later [] sound h = refl
  kept-ended later (rec ∷ R) sound h = cut (any_cut s later) refl (kept-ended (rec ∷ later) R sound.1)
    where
      A : Bool
      A = c || any_lasting s later

      KS : List ObjId
      KS = kept s (rec ∷ (later ++ e ∷ [])) R

      K : List ObjId
      K = kept s (rec ∷ later) R

      -- b: the debt lasts; x: it is of r
      debt : (o : ObjId) (b x : Bool) → same o r ≡ x → ((((x && b) && A) || hits later) ≡ false → KS ≡ step (c || (b || any_lasting s later)) K) → ((((x && b) && A) || hits later) ≡ true → KS ≡ [])
          → (x ≡ true → (((x && b) && A) || hits later) ≡ false → KS ≡ K) → cond (b && not x) (o ∷ []) [] ++ KS ≡ step A (cond b (o ∷ []) [] ++ K)
      debt o false true is ih hit same_kept = ih h
      debt o false false is ih hit same_kept = ih h
      debt o true false is ih hit same_kept =
          ap (λ xs. o ∷ xs) (ih h ∙ ap (λ b. step b K) (or-true c)) ∙ sym (ap (λ b. cond b (cond A [] K) (o ∷ step true K)) is)
      debt o true true is ih hit same_kept = which A refl ∙ sym (ap (λ b. cond b (cond A [] K) (o ∷ step true K)) is)
        where
          which : (a : Bool) → A ≡ a → KS ≡ cond A [] K
          which true f = hit (ap (λ b. b || hits later) f) ∙ sym (ap (λ b. cond b [] K) f)
          which false f = same_kept refl (ap (λ b. b || hits later) f ∙ h) ∙ sym (ap (λ b. cond b [] K) f)

      and-true : (b : Bool) → (b && true) ≡ b
      and-true true = refl
      and-true false = refl

      at : (d : Option ObjId) → any_cut s later ≡ false → ((((debt_of d later && A) || hits later) ≡ false) → KS ≡ step (c || (lasts_any d later || any_lasting s later)) K) → ((((debt_of d later && A) || hits later) ≡ true) → KS ≡ [])
          → ((o : ObjId) → d ≡ Some o → same o r ≡ true → ((debt_of d later && A) || hits later) ≡ false → KS ≡ K) → kept_debt s d (later ++ e ∷ []) ++ KS ≡ step A (kept_debt s d later ++ K)
      at None ac ih hit same_kept = ih h
      at (Some o) ac ih hit same_kept =
          ap (λ b. cond (b && not (any_cut s (later ++ e ∷ []))) (o ∷ []) [] ++ KS) (lasts-end o later)
          ∙ ap (λ b. cond ((lasts o later && not (same o r)) && not b) (o ∷ []) [] ++ KS) (any_cut-end later ∙ either _ _ ac h)
          ∙ ap (λ b. cond b (o ∷ []) [] ++ KS) (and-true (lasts o later && not (same o r)))
          ∙ debt o (lasts o later) (same o r) refl ih hit (λ x. same_kept o refl x)
          ∙ sym (ap (λ b. step A (cond (lasts o later && not b) (o ∷ []) [] ++ K)) ac ∙ ap (λ b. step A (cond b (o ∷ []) [] ++ K)) (and-true (lasts o later)))

      cut : (b : Bool) → any_cut s later ≡ b → (hits (rec ∷ later) ≡ false → kept s ((rec ∷ later) ++ e ∷ []) R ≡ step (c || any_lasting s (rec ∷ later)) (kept s (rec ∷ later) R)) → kept s (later ++ e ∷ []) (rec ∷ R) ≡ step A (kept s later (rec ∷ R))
      cut true f ih = kept-cut s (later ++ e ∷ []) (rec ∷ R) (any_cut-end later ∙ ap (λ b. b || hits later) f) ∙ sym (ap (λ xs. step A xs) (kept-cut s later (rec ∷ R) f))
      cut false f ih =
          at (owes_with s rec) f ih (kept-hit (rec ∷ later) R)
          (λ o is x hit. kept-same (rec ∷ later) R hit (owed-ended R (rec ∷ later) (ap (λ (z : ObjId). owed_by R z) (sym (same-equal o r x)) ∙ free-before R rec o sound is)))

  -- a cancelled debt leaves what is above it
  step-above : (os : List ObjId) → step true os ≡ above r os
  step-above [] = refl
  step-above (o ∷ os) = ap (λ xs. cond (same o r) [] (o ∷ xs)) (step-above os)

  -- a debt that ends in order is taken off
  step-taken_off : (os : List ObjId) → step false os ≡ taken_off r os
  step-taken_off [] = refl
  step-taken_off (o ∷ os) = ap (λ xs. cond (same o r) os (o ∷ xs)) (step-above os)

-- the chain of the debts that are kept, after an ending
paid-kept : (s r : ObjId) (e : Rec) (R : Log) → ((o : ObjId) → ends o e ≡ same o r) → cancels e ≡ false → owes_with s e ≡ None → Sound R → kept s (e ∷ []) R ≡ taken_off r (kept s [] R)
paid-kept s r e R ending cancelling none sound = kept-ended s r e false ending cancelling none [] R sound refl ∙ step-taken_off s r e false ending cancelling none (kept s [] R)

-- what is kept when a debt is cancelled
cancelled-kept : (s r : ObjId) (e : Rec) (R : Log) → ((o : ObjId) → ends o e ≡ same o r) → cancels e ≡ true → owes_with s e ≡ None → Sound R → kept s (e ∷ []) R ≡ above r (kept s [] R)
cancelled-kept s r e R ending cancelling none sound = kept-ended s r e true ending cancelling none [] R sound refl ∙ step-above s r e true ending cancelling none (kept s [] R)

-- both sides of an "or" that is false
right-false : (a b : Bool) → (a || b) ≡ false → (a ≡ false) × (b ≡ false)
right-false true b h = absurd cc
right-false false b h = (refl, h)

-- while the context is not closed
kept-growing : (R : Log) (s : ObjId) → Sound R → was_closed R s ≡ false → kept s [] R ≡ growing_chain R s
kept-growing [] s sound h = refl
kept-growing (rec.Owes r x b ∷ R) s sound h = ap (λ xs. kept_debt s (given (is_just b s) r) [] ++ xs) (kept-more s (rec.Owes r x b) (λ o. refl) [] R ∙ kept-growing R s sound.1 h) ∙ go (is_just b s)
  where
    go : (v : Bool) → kept_debt s (given v r) [] ++ growing_chain R s ≡ cond v (r ∷ growing_chain R s) (growing_chain R s)
    go true = refl
    go false = refl
kept-growing (rec.Paid r x m ∷ R) s sound h = paid-kept s r (rec.Paid r x m) R (λ o. refl) refl refl sound.1 ∙ ap (λ xs. taken_off r xs) (kept-growing R s sound.1 h)
kept-growing (rec.Void r x Deleted ∷ R) s sound h = paid-kept s r (rec.Void r x Deleted) R (λ o. refl) refl refl sound.1 ∙ ap (λ xs. taken_off r xs) (kept-growing R s sound.1 h)
kept-growing (rec.Void r x Cancelled ∷ R) s sound h = cancelled-kept s r (rec.Void r x Cancelled) R (λ o. refl) refl refl sound.1 ∙ ap (λ xs. above r xs) (kept-growing R s sound.1 h)
kept-growing (rec.Closed o ∷ R) s sound h =
    let p : (same s o ≡ false) × (was_closed R s ≡ false) = right-false (same s o) (was_closed R s) h in
    kept-more s (rec.Closed o) (λ r. refl) [] R ∙ kept-growing R s sound.1 p.1 ∙ sym (ap (λ b. cond b [] (growing_chain R s)) p.0)
kept-growing (rec ∷ R) s sound h = kept-more s rec (λ r. refl) [] R ∙ kept-growing R s sound.1 h

-- what is held is a context
held-context : (R : Log) (s x : ObjId) → Sound R → holder_of R s ≡ Some x → s.kind ≡ kind.Context
held-context [] s x sound h = absurd cc
held-context (rec.Holds c None ∷ R) s x sound h = go (same s c) h (held-context R s x sound.1)
  where
    go : (v : Bool) → unwrap_or (given v None) (holder_of R s) ≡ Some x → (holder_of R s ≡ Some x → s.kind ≡ kind.Context) → s.kind ≡ kind.Context
    go true k later = absurd cc
    go false k later = later k
held-context (rec.Holds c (Some t) ∷ R) s x sound h = go (same s c) refl h (held-context R s x sound.1)
  where
    go : (v : Bool) → same s c ≡ v → unwrap_or (given v (Some t)) (holder_of R s) ≡ Some x → (holder_of R s ≡ Some x → s.kind ≡ kind.Context) → s.kind ≡ kind.Context
    go true e k later = ap (λ (z : ObjId). z.kind) (same-equal s c e) ∙ sound.0.0.0
    go false e k later = later k
held-context (_ ∷ R) s x sound h = held-context R s x sound.1 h

-- no thread holds a context that is closed
closed-unheld : (R : Log) (s : ObjId) → Sound R → was_closed R s ≡ true → holder_of R s ≡ None
closed-unheld [] s sound h = absurd cc
closed-unheld (rec.Closed o ∷ R) s sound h = go (same s o) refl h (closed-unheld R s sound.1)
  where
    released : (k : Kind) → k ≡ kind.Context → IsReleased R k o → holder_of R o ≡ None
    released k is i = (subst (λ (j : Kind). IsReleased R j o) is i).0

    held : s ≡ o → (h : Option ObjId) → holder_of R s ≡ h → h ≡ None
    held is None e = refl
    held is (Some x) e =
        let gone : holder_of R o ≡ None = released o.kind (ap (λ (z : ObjId). z.kind) (sym is) ∙ held-context R s x sound.1 e) sound.0.1 in
        let no : Some x ≡ None = sym e ∙ ap (λ (z : ObjId). holder_of R z) is ∙ gone in
        absurd cc

    go : (v : Bool) → same s o ≡ v → (v || was_closed R s) ≡ true → (was_closed R s ≡ true → holder_of R s ≡ None) → holder_of R s ≡ None
    go true e k later = held (same-equal s o e) (holder_of R s) refl
    go false e k later = later k
closed-unheld (rec.Holds c None ∷ R) s sound h = go (same s c) (closed-unheld R s sound.1 h)
  where
    go : (v : Bool) → holder_of R s ≡ None → unwrap_or (given v None) (holder_of R s) ≡ None
    go true k = refl
    go false k = k
closed-unheld (rec.Holds c (Some t) ∷ R) s sound h = go (same s c) refl (closed-unheld R s sound.1 h)
  where
    open_still : (a b : Bool) → (a && not b) ≡ true → b ≡ false
    open_still true false k = refl
    open_still true true k = absurd cc
    open_still false b k = absurd cc

    go : (v : Bool) → same s c ≡ v → holder_of R s ≡ None → unwrap_or (given v (Some t)) (holder_of R s) ≡ None
    go true e k = let no : true ≡ false = sym h ∙ ap (λ (z : ObjId). was_closed R z) (same-equal s c e) ∙ open_still (was_made R c) (was_closed R c) sound.0.0.1 in absurd cc
    go false e k = k
closed-unheld (_ ∷ R) s sound h = closed-unheld R s sound.1 h

-- once the context is closed
closed-empty : (R : Log) (s : ObjId) → Sound R → was_closed R s ≡ true → growing_chain R s ≡ []
closed-empty [] s sound h = refl
closed-empty (rec.Owes r x None ∷ R) s sound h = closed-empty R s sound.1 h
closed-empty (rec.Owes r x (Some c) ∷ R) s sound h = go (same c s) refl (closed-empty R s sound.1 h)
  where
    go : (v : Bool) → same c s ≡ v → growing_chain R s ≡ [] → cond v (r ∷ growing_chain R s) (growing_chain R s) ≡ []
    go true e k = let no : Some x ≡ None = sym sound.0.4 ∙ ap (λ (z : ObjId). holder_of R z) (same-equal c s e) ∙ closed-unheld R s sound.1 h in absurd cc
    go false e k = k
closed-empty (rec.Paid r x m ∷ R) s sound h = ap (λ xs. taken_off r xs) (closed-empty R s sound.1 h)
closed-empty (rec.Void r x Deleted ∷ R) s sound h = ap (λ xs. taken_off r xs) (closed-empty R s sound.1 h)
closed-empty (rec.Void r x Cancelled ∷ R) s sound h = ap (λ xs. above r xs) (closed-empty R s sound.1 h)
closed-empty (rec.Closed o ∷ R) s sound h = go (same s o) h (closed-empty R s sound.1)
  where
    go : (v : Bool) → (v || was_closed R s) ≡ true → (was_closed R s ≡ true → growing_chain R s ≡ []) → cond v [] (growing_chain R s) ≡ []
    go true k later = refl
    go false k later = later k
closed-empty (_ ∷ R) s sound h = closed-empty R s sound.1 h

-- the law: the chain of the debts that are kept is the one that debts push and endings cut
pub chain_of-growing : (R : Log) (s : ObjId) → Sound R → chain_of R s ≡ growing_chain R s
unfolding chain_of
chain_of-growing R s sound = go (was_closed R s) refl
  where
    go : (v : Bool) → was_closed R s ≡ v → cond v [] (kept s [] R) ≡ growing_chain R s
    go true e = sym (closed-empty R s sound e)
    go false e = kept-growing R s sound e
