-- One text after another.
use Rattle.std.proofs.Common.{◌≡◌, ℕ, List, [], ◌∷◌, ◌++◌, ap, ◌∙◌, append-nil, append_assoc}
use Rattle.std.specs.List.{flat_map}
use Rattle.std.proofs.lemmas.List.Concat.{flat_map-cons}
use Rattle.std.proofs.lemmas.Grind.{flat_map-append}
use Rattle.mcs_text.specs.declared.token.Token.{Token}
use Rattle.mcs_text.specs.Spelling.{then_text, token_text, line_text}

pub text-then : (a b c x y : List ℕ) → b ≡ a ++ x → c ≡ b ++ y → c ≡ a ++ (x ++ y)
text-then a b c x y p q = q ∙ ap (λ (l : List ℕ). l ++ y) p ∙ append_assoc a x y

-- a line, after what was there: its first word, others, and then two more
pub line-by-parts : (front : List ℕ) (first : Token) (words : List Token) (one other : Token) →
    (((front ++ (token_text first ++ flat_map (λ t. then_text (token_text t)) words)) ++ then_text (token_text one)) ++ then_text (token_text other)) ++ 10 ∷ []
    ≡ front ++ line_text first (words ++ one ∷ other ∷ []) []
unfolding line_text
line-by-parts front first words one other =
    let W : Token → List ℕ = λ t. then_text (token_text t) in
    let more = flat_map-append W words (one ∷ other ∷ []) in
    let both : flat_map W (one ∷ other ∷ []) ≡ W one ++ W other = flat_map-cons W one (other ∷ []) ∙ ap (λ (l : List ℕ). W one ++ l) (flat_map-cons W other [] ∙ append-nil (W other)) in
    rw (more, both) (simp append_assoc)
