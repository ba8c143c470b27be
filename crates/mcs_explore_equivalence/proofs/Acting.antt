-- Pieces and acts that make records which match on logs that are alike but for numbers.
use Rattle.std.specs.Prelude.{◌≡◌, ◌++◌, false, map, List, [], ◌∷◌, Option, Some, None}
use Rattle.std.proofs.Common.{refl, ap, sym, ◌∙◌, subst}
use Rattle.mcs_types.specs.declared.entry.Answer.{Answer}
use Rattle.mcs_types.specs.declared.record.Rec.{Rec}
use Rattle.mcs_types.specs.declared.record.Rec.TheVariants as rec
use Rattle.mcs_book.specs.Logs.{Log, onto}
use Rattle.mcs_book.specs.Pieces.{Piece, ◌then◌, nothing, say, with_any, for_each, Outcome, Act, answers, before}
use Rattle.mcs_book.specs.Sound.{Sound}
use Rattle.mcs_book.proofs.SoundLogs.Keeping.{onto-append}
use Rattle.mcs_explore_equivalence.specs.ButNumbers.{bare, AlikeButNumbers, Matches, MatchAll, SameButNumbers}
use Rattle.mcs_explore_equivalence.proofs.Adding.{is_settling, sound-before, alike-onto}

-- two pieces make records that match on two logs, where what they make is sound
abbrev pub Agree : Log → Log → Piece → Piece → Type 0
Agree R S p q = Sound (onto (p R) R) → Sound (onto (q S) S) → MatchAll R S (p R) (q S)

-- a piece does so on all alike logs
pub record Respects (p : Piece) : Type 0 where
  pub on : (R S : Log) → AlikeButNumbers R S → Agree R S p p

-- two outcomes match after two logs
pub record MatchOut (R S : Log) (o p : Outcome) : Type 0 where
  pub answer : o.answer ≡ p.answer
  pub records : MatchAll R S o.records p.records

-- two acts agree on two logs
abbrev pub AgreeAct : Log → Log → Act → Act → Type 0
AgreeAct R S f g = Sound (onto (f R).records R) → Sound (onto (g S).records S) → MatchOut R S (f R) (g S)

-- an act does so on alike logs, where C holds of the first
abbrev pub RespectsAct : (Log → Type 0) → Act → Type 0
RespectsAct C f = (R S : Log) → AlikeButNumbers R S → C R → AgreeAct R S f f

-- no condition
abbrev pub Always : Log → Type 0
Always R = Unit {0}

-- a record that settles no message matches itself
matches-self : (r : Rec) (R S : Log) → is_settling r ≡ false → Matches R S r r
matches-self (rec.Took m p) R S plain = absurd cc
matches-self (rec.Dropped m) R S plain = absurd cc
matches-self r R S plain = refl

pub say-respects : (r : Rec) → is_settling r ≡ false → Respects (say r)
say-respects r plain = record { on = λ R S a h k. (matches-self r R S plain, tt) }

pub nothing-respects : Respects nothing
nothing-respects = record { on = λ R S a h k. tt }

-- two lists of records, one after another: the second on what the first leaves
match-append : (made made' more more' : List Rec) (R S : Log) → MatchAll R S made made' → MatchAll (onto made R) (onto made' S) more more' → MatchAll R S (made ++ more) (made' ++ more')
match-append [] [] more more' R S m n = n
match-append [] (s ∷ made') more more' R S m n = absurd m
match-append (r ∷ made) [] more more' R S m n = absurd m
match-append (r ∷ made) (s ∷ made') more more' R S m n = (m.0, match-append made made' more more' (r ∷ R) (s ∷ S) m.1 n)

-- the records before more are sound too
first-sound : (p : Piece) (more : List Rec) (R : Log) → Sound (onto (p R ++ more) R) → Sound (onto more (onto (p R) R))
first-sound p more R h = subst Sound (onto-append (p R) more R) h

-- two pairs of pieces
pub then-agree : (p p' q q' : Piece) (R S : Log) → AlikeButNumbers R S → Agree R S p p' → (AlikeButNumbers (onto (p R) R) (onto (p' S) S) → Agree (onto (p R) R) (onto (p' S) S) q q') → Agree R S (p then q) (p' then q')
unfolding ◌then◌
then-agree p p' q q' R S a hp hq h k =
    let h' : Sound (onto (q (onto (p R) R)) (onto (p R) R)) = first-sound p (q (onto (p R) R)) R h in
    let k' : Sound (onto (q' (onto (p' S) S)) (onto (p' S) S)) = first-sound p' (q' (onto (p' S) S)) S k in
    let hr : Sound (onto (p R) R) = sound-before (q (onto (p R) R)) (onto (p R) R) h' in
    let ks : Sound (onto (p' S) S) = sound-before (q' (onto (p' S) S)) (onto (p' S) S) k' in
    let m : MatchAll R S (p R) (p' S) = hp hr ks in
    match-append (p R) (p' S) (q (onto (p R) R)) (q' (onto (p' S) S)) R S m (hq (alike-onto (p R) (p' S) R S a m hr ks) h' k')

-- the second of them is one
pub then-agrees : (p p' q : Piece) (R S : Log) → AlikeButNumbers R S → Agree R S p p' → Respects q → Agree R S (p then q) (p' then q)
then-agrees p p' q R S a hp hq = then-agree p p' q q R S a hp (λ b. hq.on (onto (p R) R) (onto (p' S) S) b)

pub then-respects : (p q : Piece) → Respects p → Respects q → Respects (p then q)
then-respects p q hp hq = record { on = λ R S a. then-agrees p p q R S a (hp.on R S a) hq }

pub with_any-respects : {A : Type 0} (o : Option A) (f : A → Piece) → ((x : A) → Respects (f x)) → Respects (with_any o f)
with_any-respects None f h = nothing-respects
with_any-respects (Some x) f h = h x

pub each-respects : {A : Type 0} (xs : List A) (f : A → Piece) → ((x : A) → Respects (f x)) → Respects (for_each xs f)
each-respects [] f h = nothing-respects
each-respects (x ∷ xs) f h = then-respects (f x) (for_each xs f) (h x) (each-respects xs f h)

-- a piece that depends on what is asked of the log
pub asking-respects : {A : Type 0} (ask : Log → A) (f : A → Piece) → ((R S : Log) → AlikeButNumbers R S → ask R ≡ ask S) → ((x : A) → Respects (f x)) → Respects (λ R. f (ask R) R)
asking-respects ask f same h = record { on = λ R S a. subst (λ x. Agree R S (f (ask R)) (f x)) (same R S a) ((h (ask R)).on R S a) }

pub answers-agree : (answer : Answer) (p q : Piece) (R S : Log) → Agree R S p q → AgreeAct R S (answers answer p) (answers answer q)
answers-agree answer p q R S hp h k = record { answer = refl; records = hp h k }

pub answers-respects : (C : Log → Type 0) (answer : Answer) (p : Piece) → Respects p → RespectsAct C (answers answer p)
answers-respects C answer p hp R S a c = answers-agree answer p p R S (hp.on R S a)

pub asking-act : {A : Type 0} (C : Log → Type 0) (ask : Log → A) (f : A → Act) → ((R S : Log) → AlikeButNumbers R S → C R → ask R ≡ ask S) → ((x : A) → RespectsAct C (f x)) → RespectsAct C (λ R. f (ask R) R)
asking-act C ask f same h R S a c = subst (λ x. AgreeAct R S (f (ask R)) (f x)) (same R S a c) (h (ask R) R S a c)

pub before-respects : (C : Log → Type 0) (p : Piece) (f : Act) → Respects p → ((R : Log) → C R → C (onto (p R) R)) → RespectsAct C f → RespectsAct C (before p f)
unfolding before
before-respects C p f hp keeps hf R S a c h k =
    let h' : Sound (onto (f (onto (p R) R)).records (onto (p R) R)) = first-sound p ((f (onto (p R) R)).records) R h in
    let k' : Sound (onto (f (onto (p S) S)).records (onto (p S) S)) = first-sound p ((f (onto (p S) S)).records) S k in
    let hr : Sound (onto (p R) R) = sound-before ((f (onto (p R) R)).records) (onto (p R) R) h' in
    let ks : Sound (onto (p S) S) = sound-before ((f (onto (p S) S)).records) (onto (p S) S) k' in
    let m : MatchAll R S (p R) (p S) = hp.on R S a hr ks in
    let more : MatchOut (onto (p R) R) (onto (p S) S) (f (onto (p R) R)) (f (onto (p S) S)) = hf (onto (p R) R) (onto (p S) S) (alike-onto (p R) (p S) R S a m hr ks) (keeps R c) h' k' in
    record { answer = more.answer; records = match-append (p R) (p S) ((f (onto (p R) R)).records) ((f (onto (p S) S)).records) R S m more.records }

-- records that match are the same but for numbers
bare-same : (r s : Rec) (R S : Log) → Matches R S r s → bare r ≡ bare s
bare-same (rec.Took m p) s R S h = ap bare h.1.0
bare-same (rec.Dropped m) s R S h = ap bare h.1.0
bare-same r s R S h = ap bare h

bares-same : (made more : List Rec) (R S : Log) → MatchAll R S made more → map bare made ≡ map bare more
bares-same [] [] R S m = refl
bares-same [] (s ∷ more) R S m = absurd m
bares-same (r ∷ made) [] R S m = absurd m
bares-same (r ∷ made) (s ∷ more) R S m = ap (λ (z : Rec). z ∷ map bare made) (bare-same r s R S m.0) ∙ ap (λ l. bare s ∷ l) (bares-same made more (r ∷ R) (s ∷ S) m.1)

pub out-same : (R S : Log) (o p : Outcome) → MatchOut R S o p → SameButNumbers o p
out-same R S o p m = record { answer = m.answer; records = bares-same o.records p.records R S m.records }
