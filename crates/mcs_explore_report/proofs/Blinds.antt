-- Patterns that name no message match lines whatever the numbers of messages.
use Rattle.std.specs.Prelude.{ℕ, ◌≡◌, ◌-◌, ◌+◌, ◌/◌, ◌%◌, nat_lt, ◌||◌, ◌&&◌, ◌==◌, suc, zero, Bool, true, false, map, List, [], ◌∷◌, ◌++◌, length, take, decimal, bytes_eq, codes, if◌then◌else◌}
use Rattle.std.specs.List.{list_any, flat_map}
use Rattle.std.proofs.Common.{refl, ap, sym, ◌∙◌, arith}
use Rattle.std.proofs.lemmas.List.{append_assoc, append-nil}
use Rattle.mcs_text.specs.declared.token.Token.TheVariants as tok
use Rattle.mcs_text.specs.declared.token.Token.{Token}
use Rattle.mcs_text.specs.declared.key.Key.TheVariants as key
use Rattle.mcs_types.specs.declared.record.Rec.{Rec}
use Rattle.mcs_types.specs.declared.record.Rec.TheVariants as rec
use Rattle.mcs_text.specs.Table.{record_text, how_key}
use Rattle.mcs_text.specs.Spelling.{line_text, token_text, then_text}
use Rattle.mcs_text.specs.Reading.{words_of, onto_first}
use Rattle.mcs_explore_questions.specs.Patterns.{is_match, are_matched, is_word, is_rest}
use Rattle.std.specs.Fmt.{digit_glyph, digits_onto, digits}
use Rattle.mcs_book.proofs.Messages.MessageLaws.{number-other}
use Rattle.mcs_explore_equivalence.specs.ButNumbers.{bare}
use Rattle.mcs_sim.specs.Trace.{sent_with}
use Rattle.mcs_explore_report.specs.Judging.{NameNone, is_line, record_lines}
use Rattle.mcs_explore_report.specs.Judging.{bare as bare_line}

-- a space parts words
onto-some : (b : ℕ) (us vs : List (List ℕ)) (w : List ℕ) (ws : List (List ℕ)) → us ≡ w ∷ ws → onto_first b (us ++ vs) ≡ onto_first b us ++ vs
onto-some b [] vs w ws e = absurd cc
onto-some b (u ∷ us) vs w ws e = refl

words-some : (s : List ℕ) → (w : List ℕ) × ((ws : List (List ℕ)) × (words_of s ≡ w ∷ ws))
words-some [] = ([], ([], refl))
words-some (b ∷ bs) = go (b == 32) (words-some bs)
  where
    go : (c : Bool) → (w : List ℕ) × ((ws : List (List ℕ)) × (words_of bs ≡ w ∷ ws)) → (w : List ℕ) × ((ws : List (List ℕ)) × ((if c then [] ∷ words_of bs else onto_first b (words_of bs)) ≡ w ∷ ws))
    go true h = ([], (words_of bs, refl))
    go false h = (b ∷ h.0, (h.1.0, ap (onto_first b) h.1.1))

parts-words : (a b : List ℕ) → words_of (a ++ 32 ∷ b) ≡ words_of a ++ words_of b
parts-words [] b = refl
parts-words (x ∷ a) b = go (x == 32) (parts-words a b)
  where
    go : (c : Bool) → words_of (a ++ 32 ∷ b) ≡ words_of a ++ words_of b → (if c then [] ∷ words_of (a ++ 32 ∷ b) else onto_first x (words_of (a ++ 32 ∷ b))) ≡ (if c then [] ∷ words_of a else onto_first x (words_of a)) ++ words_of b
    go true h = ap (λ (l : List (List ℕ)). [] ∷ l) h
    go false h = let s = words-some a in ap (onto_first x) h ∙ onto-some x (words_of a) (words_of b) s.0 s.1.0 s.1.1

-- a text without a space is one word
abbrev NoSpace : List ℕ → Type 0
NoSpace [] = Unit {0}
NoSpace (b ∷ bs) = ((b == 32) ≡ false) × NoSpace bs

words-whole : (s : List ℕ) → NoSpace s → words_of s ≡ s ∷ []
words-whole [] h = refl
words-whole (b ∷ bs) h = go (b == 32) h.0 (words-whole bs h.1)
  where
    go : (c : Bool) → c ≡ false → words_of bs ≡ bs ∷ [] → (if c then [] ∷ words_of bs else onto_first b (words_of bs)) ≡ (b ∷ bs) ∷ []
    go true e k = absurd cc
    go false e k = ap (onto_first b) k

-- so are the digits of a number
glyph : (d : ℕ) → (digit_glyph false d == 32) ≡ false
glyph d = go (nat_lt d 10)
  where
    low : (n : ℕ) → (48 + n == 32) ≡ false
    low n = number-other (48 + n) 32 (λ e. absurd (omega (arith, e)))

    high : (n : ℕ) → (87 + n == 32) ≡ false
    high n = number-other (87 + n) 32 (λ e. absurd (omega (arith, e)))

    go : (c : Bool) → ((if c then 48 + d else 87 + d) == 32) ≡ false
    go true = low d
    go false = high d

onto-digits : (k n : ℕ) (acc : List ℕ) → NoSpace acc → NoSpace (digits_onto k 10 false n acc)
onto-digits zero n acc h = h
onto-digits (suc k) n acc h = go (n / 10 == 0) (onto-digits k (n / 10) (digit_glyph false (n % 10) ∷ acc) (glyph (n % 10), h))
  where
    go : (c : Bool) → NoSpace (digits_onto k 10 false (n / 10) (digit_glyph false (n % 10) ∷ acc)) → NoSpace (if c then digit_glyph false (n % 10) ∷ acc else digits_onto k 10 false (n / 10) (digit_glyph false (n % 10) ∷ acc))
    go true later = (glyph (n % 10), h)
    go false later = later

decimal-one : (n : ℕ) → words_of (109 ∷ decimal n) ≡ (109 ∷ decimal n) ∷ []
unfolding digits
decimal-one n = words-whole (109 ∷ decimal n) (refl, onto-digits 64 n [] tt)

-- no name of a message is among the words: then they match lists that differ in such a name alike
stands : (ws us vs : List (List ℕ)) (m n : ℕ) → NameNone ws → are_matched ws (us ++ (109 ∷ decimal m) ∷ vs) ≡ are_matched ws (us ++ (109 ∷ decimal n) ∷ vs)
stands [] [] vs m n h = refl
stands [] (u ∷ us) vs m n h = refl
stands (w ∷ ws) [] vs m n h = ap (λ b. is_rest w || ((bytes_eq w (codes "*") || b) && are_matched ws vs)) (h.0 m ∙ sym (h.0 n))
stands (w ∷ ws) (u ∷ us) vs m n h = ap (λ b. is_rest w || (is_word w u && b)) (stands ws us vs m n h.1)

-- a line in which the name of a message is after a text
abbrev named : List ℕ → ℕ → List ℕ → List ℕ
named before n following = before ++ 32 ∷ 109 ∷ (decimal n ++ following)

-- the words of such a line
named-end : (before : List ℕ) (n : ℕ) → words_of (named before n []) ≡ words_of before ++ (109 ∷ decimal n) ∷ []
named-end before n = parts-words before (109 ∷ (decimal n ++ [])) ∙ ap (λ (l : List ℕ). words_of before ++ words_of (109 ∷ l)) (append-nil (decimal n)) ∙ ap (λ l. words_of before ++ l) (decimal-one n)

named-more : (before rest : List ℕ) (n : ℕ) → words_of (named before n (32 ∷ rest)) ≡ words_of before ++ (109 ∷ decimal n) ∷ words_of rest
named-more before rest n = parts-words before (109 ∷ (decimal n ++ 32 ∷ rest)) ∙ ap (λ l. words_of before ++ l) (parts-words (109 ∷ decimal n) rest ∙ ap (λ l. l ++ words_of rest) (decimal-one n))

-- a pattern that names no message matches such lines alike
named-blind : (p before rest : List ℕ) (m n : ℕ) → NameNone (words_of p) → is_match p (named before m (32 ∷ rest)) ≡ is_match p (named before n (32 ∷ rest))
named-blind p before rest m n h = ap (are_matched (words_of p)) (named-more before rest m) ∙ stands (words_of p) (words_of before) (words_of rest) m n h ∙ ap (are_matched (words_of p)) (sym (named-more before rest n))

ended-blind : (p before : List ℕ) (m n : ℕ) → NameNone (words_of p) → is_match p (named before m []) ≡ is_match p (named before n [])
ended-blind p before m n h = ap (are_matched (words_of p)) (named-end before m) ∙ stands (words_of p) (words_of before) [] m n h ∙ ap (are_matched (words_of p)) (sym (named-end before n))

-- the last byte goes
last-off : (xs : List ℕ) → bare_line (xs ++ 10 ∷ []) ≡ xs
last-off [] = refl
last-off (x ∷ xs) = let long : length ((x ∷ xs) ++ 10 ∷ []) - 1 ≡ suc (length (xs ++ 10 ∷ []) - 1) = le (xs) in ap (λ k. take k ((x ∷ xs) ++ 10 ∷ [])) long ∙ ap (λ (l : List ℕ). x ∷ l) (last-off xs)
  where
    le : (ys : List ℕ) → length ((x ∷ ys) ++ 10 ∷ []) - 1 ≡ suc (length (ys ++ 10 ∷ []) - 1)
    le [] = refl
    le (y ∷ ys) = omega arith

-- a line whose second token is a message
shape : (a d f g : List ℕ) → (a ++ ((32 ∷ 109 ∷ d) ++ f)) ++ g ≡ a ++ 32 ∷ 109 ∷ (d ++ (f ++ g))
shape a d f g = append_assoc a (32 ∷ 109 ∷ (d ++ f)) g ∙ ap (λ l. a ++ 32 ∷ 109 ∷ l) (append_assoc d f g)

abbrev tokens : List Token → List ℕ
tokens ts = flat_map (λ t. then_text (token_text t)) ts

abbrev numbers : List ℕ → List ℕ
numbers ns = flat_map (λ n. then_text (decimal n)) ns

named-line : (first : Token) (ts : List Token) (ns : List ℕ) (m : ℕ) → bare_line (line_text first (tok.Message m ∷ ts) ns) ≡ named (token_text first) m (tokens ts ++ numbers ns)
unfolding line_text
named-line first ts ns m = last-off ((token_text first ++ ((32 ∷ 109 ∷ decimal m) ++ tokens ts)) ++ numbers ns) ∙ shape (token_text first) (decimal m) (tokens ts) (numbers ns)

line-blind : (p : List ℕ) → NameNone (words_of p) → (first second : Token) (ts : List Token) (ns : List ℕ) (m n : ℕ) → is_line p (line_text first (tok.Message m ∷ second ∷ ts) ns) ≡ is_line p (line_text first (tok.Message n ∷ second ∷ ts) ns)
line-blind p h first second ts ns m n = ap (is_match p) (named-line first (second ∷ ts) ns m) ∙ named-blind p (token_text first) ((token_text second ++ tokens ts) ++ numbers ns) m n h ∙ ap (is_match p) (sym (named-line first (second ∷ ts) ns n))

last-blind : (p : List ℕ) → NameNone (words_of p) → (first : Token) (m n : ℕ) → is_line p (line_text first (tok.Message m ∷ []) []) ≡ is_line p (line_text first (tok.Message n ∷ []) [])
last-blind p h first m n = ap (is_match p) (named-line first [] [] m) ∙ ended-blind p (token_text first) m n h ∙ ap (is_match p) (sym (named-line first [] [] n))

-- a record with this number, if it names a message
abbrev renumbered : ℕ → Rec → Rec
renumbered n (rec.Took m t) = rec.Took n t
renumbered n (rec.Dropped m) = rec.Dropped n
renumbered n r = r

abbrev number_in : Rec → ℕ
number_in (rec.Took m t) = m
number_in (rec.Dropped m) = m
number_in r = 0

renumbered-bare : (r : Rec) → renumbered (number_in r) (bare r) ≡ r
renumbered-bare (rec.Took m t) = refl
renumbered-bare (rec.Dropped m) = refl
renumbered-bare _ = refl

bare-blind : (p : List ℕ) → NameNone (words_of p) → (b : Rec) (i j m n : ℕ) → is_line p (record_text m (renumbered i b)) ≡ is_line p (record_text n (renumbered j b))
bare-blind p h (rec.Took k t) i j m n = line-blind p h (tok.Key key.Took) (tok.Name t) [] [] i j
bare-blind p h (rec.Dropped k) i j m n = last-blind p h (tok.Key key.Dropped) i j
bare-blind p h (rec.Sent t e mode badge x) i j m n = line-blind p h (tok.Key key.Sent) (tok.Name t) (tok.Name e ∷ how_key mode ∷ []) (badge.0 ∷ x.label ∷ x.words) m n
bare-blind p h _ i j m n = refl

record-blind : (p : List ℕ) → NameNone (words_of p) → (r s : Rec) (m n : ℕ) → bare r ≡ bare s → is_line p (record_text m r) ≡ is_line p (record_text n s)
record-blind p h r s m n e =
    ap (λ (z : Rec). is_line p (record_text m z)) (sym (renumbered-bare r)) ∙ bare-blind p h (bare r) (number_in r) (number_in s) m n
    ∙ ap (λ (z : Rec). is_line p (record_text n (renumbered (number_in s) z))) e ∙ ap (λ (z : Rec). is_line p (record_text n z)) (renumbered-bare s)

pub lines-blind : (p : List ℕ) → NameNone (words_of p) → (rs ss : List Rec) (m n : ℕ) → map bare rs ≡ map bare ss → list_any (is_line p) (record_lines m rs) ≡ list_any (is_line p) (record_lines n ss)
lines-blind p h [] [] m n e = refl
lines-blind p h [] (s ∷ ss) m n e = absurd cc
lines-blind p h (r ∷ rs) [] m n e = absurd cc
lines-blind p h (r ∷ rs) (s ∷ ss) m n e =
    let first : bare r ≡ bare s = cc in
    let rest : map bare rs ≡ map bare ss = cc in
    ap (λ b. b || list_any (is_line p) (record_lines (sent_with m r) rs)) (record-blind p h r s m n first) ∙ ap (λ b. is_line p (record_text n s) || b) (lines-blind p h rs ss (sent_with m r) (sent_with n s) rest)
