-- What a derived `==` of an enum tells: exactly whether two values are the same, where that of each
-- field does.
use Rattle.std.proofs.Common.{◌≡◌, Bool, true, false, ◌&&◌, ◌↔◌, IsTrue, List, [], ◌∷◌, ap, sym, subst, ◌∙◌, true≢false}
use Rattle.std.specs.Cmp.{first_so, second_so}
use mathlib.Core.Logic.{inl, inr}
use denote.Struct.Field.{Field}
use denote.Enum.Declared.{Record, Choice, values_one}
use denote.Enum.Compared.{Each, by}

-- what is equal is the same, and each value is equal to itself
pub record Tells {K : Type 0} (E : K → K → Bool) : Type 0 where
  pub told : (x y : K) → E x y ≡ true → x ≡ y
  pub itself : (x : K) → E x x ≡ true

-- the answer of such a test
pub told_same : {K : Type 0} {E : K → K → Bool} → Tells E → (x y : K) {r : Bool} → r ≡ E x y → IsTrue r ↔ (x ≡ y)
told_same {K} {E} t x y e = (λ h. t.told x y (sym e ∙ h), λ p. e ∙ subst (λ z. E x z ≡ true) p (t.itself x))

-- a field, and those after it; the last field
pub fields : {A B : Type 0} {E : A → A → Bool} {F : B → B → Bool} → Tells E → Tells F → Tells {K = A × B} (λ x y. E x.0 y.0 && F x.1 y.1)
fields {A} {B} {E} {F} a b = record {
  told = λ x y e i. (a.told x.0 y.0 (first_so (E x.0 y.0) (F x.1 y.1) e) i, b.told x.1 y.1 (second_so (E x.0 y.0) (F x.1 y.1) e) i);
  itself = λ x i. a.itself x.0 i && b.itself x.1 i;
}

pub last : {A : Type 0} {E : A → A → Bool} → Tells E → Tells {K = A × Unit {0}} (λ x y. E x.0 y.0)
last a = record { told = λ x y e i. (a.told x.0 y.0 e i, tt); itself = λ x. a.itself x.0 }

-- each variant
abbrev pub AllTell : (Fss : List (List Field)) → Each Bool Fss → Type 0
AllTell [] es = Unit {0}
AllTell (Fs ∷ Fss) es = Tells es.0 × AllTell Fss es.1

choice_told : (Fs : List Field) (Fss : List (List Field)) (es : Each Bool (Fs ∷ Fss)) → Tells es.0 → Tells (by false false Fss es.1) → (c d : Choice (Fs ∷ Fss)) → by false false (Fs ∷ Fss) es c d ≡ true → c ≡ d
choice_told Fs Fss es a b (inl x) (inl y) e = ap inl (a.told x y e)
choice_told Fs Fss es a b (inl x) (inr d) e = absurd (true≢false (sym e))
choice_told Fs Fss es a b (inr c) (inl y) e = absurd (true≢false (sym e))
choice_told Fs Fss es a b (inr c) (inr d) e = ap inr (b.told c d e)

choice_itself : (Fs : List Field) (Fss : List (List Field)) (es : Each Bool (Fs ∷ Fss)) → Tells es.0 → Tells (by false false Fss es.1) → (c : Choice (Fs ∷ Fss)) → by false false (Fs ∷ Fss) es c c ≡ true
choice_itself Fs Fss es a b (inl x) = a.itself x
choice_itself Fs Fss es a b (inr c) = b.itself c

choices_tell : (Fss : List (List Field)) (es : Each Bool Fss) → AllTell Fss es → Tells (by false false Fss es)
choices_tell [] es all = record { told = λ x y e. absurd x; itself = λ x. absurd x }
choices_tell (Fs ∷ Fss) es all = let more = choices_tell Fss es.1 all.1 in record {
  told = choice_told Fs Fss es all.0 more;
  itself = choice_itself Fs Fss es all.0 more;
}

-- an enum
pub values_tell : (N : Record) (es : Each Bool N.parts) → AllTell N.parts es → Tells (λ x y. by false false N.parts es (N.as_values x) (N.as_values y))
values_tell N es all = let choices = choices_tell N.parts es all in record {
  told = λ x y e. values_one N x y (choices.told (N.as_values x) (N.as_values y) e);
  itself = λ x. choices.itself (N.as_values x);
}
