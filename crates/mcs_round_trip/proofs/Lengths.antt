-- How many bytes the words of a line have.
use Rattle.std.proofs.Common.{◌≡◌, ℕ, zero, suc, ◌+◌, ◌*◌, ◌/◌, ◌%◌, ◌≤◌, Bool, true, false, if◌then◌else◌, eqb, leb, List, [], ◌∷◌, ◌++◌, Option, Some, None, length, refl, subst, ap, ◌∙◌, length-append, arith, decimal}
use Rattle.std.specs.Prelude.{bit_and, map}
use Rattle.std.specs.List.{flat_map, AllByRecursion}
use Rattle.std.specs.Fmt.{digits, digits_onto, digit_glyph}
use Rattle.std.proofs.lemmas.Bool.{leb-true}
use Rattle.std.proofs.lemmas.Fmt.{length-decimal-le}
use Rattle.std.proofs.lemmas.List.{append-nil}
use Rattle.std.proofs.lemmas.List.Concat.{flat_map-cons}
use Rattle.std.proofs.lemmas.List.Elements.{recursion_from_All}
use Rattle.mcs_types.specs.Ranges.{IsWord, IsMessage}
use Rattle.mcs_types.specs.Views.{Content}
use Rattle.mcs_types.specs.declared.id.ObjId.{ObjId}
use Rattle.mcs_types.specs.declared.id.Kind.{Kind}
use Rattle.mcs_types.specs.declared.id.Kind.TheVariants as kind
use Rattle.mcs_types.specs.declared.cap.Cap.{Cap}
use Rattle.mcs_types.specs.declared.record.Queue.{Queue}
use Rattle.mcs_types.specs.declared.record.Queue.TheVariants.{Senders, Receivers, Waiters}
use Rattle.mcs_text.specs.declared.key.Key.{Key}
use Rattle.mcs_text.specs.declared.key.Key.TheVariants as k
use Rattle.mcs_text.specs.declared.token.Token.{Token}
use Rattle.mcs_text.specs.declared.token.Token.TheVariants as tok
use Rattle.mcs_text.specs.Keys.{key_text}
use Rattle.mcs_text.specs.Spelling.{name_text, maybe_text, letter_if, rights_text, then_text, cap_rest, cap_text, held_text, queue_name, queue_end, token_text}
use Rattle.mcs_text.specs.Table.{Form, form_line}

-- ---- words

-- at most one digit for each that may be written, and all that follows
length-digits_onto : (k n : ℕ) (acc : List ℕ) → length (digits_onto k 10 false n acc) ≤ k + length acc
length-digits_onto zero n acc = omega arith
length-digits_onto (suc k) n acc = go (eqb (n / 10) 0) (length-digits_onto k (n / 10) (digit_glyph false (n % 10) ∷ acc))
  where
    go : (b : Bool) → length (digits_onto k 10 false (n / 10) (digit_glyph false (n % 10) ∷ acc)) ≤ k + suc (length acc)
        → length (if b then digit_glyph false (n % 10) ∷ acc else digits_onto k 10 false (n / 10) (digit_glyph false (n % 10) ∷ acc)) ≤ suc k + length acc
    go true later = omega arith
    go false later = omega (arith, later)

-- a number is written by at most 64 digits, however large it is
length-decimal : (n : ℕ) → length (decimal n) ≤ 64
unfolding digits
length-decimal n = omega (arith, length-digits_onto 64 n [])

-- one of 64 bits by at most 20
length-word : (n : ℕ) → IsWord n → length (decimal n) ≤ 20
length-word n word = length-decimal-le 20 n (omega arith) (omega (arith, word)) word

-- a letter and a number
length-name : (o : ObjId) → length (name_text o) ≤ 65
length-name o = omega (arith, length-decimal o.serial)

-- a name, or a dash
length-maybe : (o : Option ObjId) → length (maybe_text o) ≤ 65
length-maybe None = omega arith
length-maybe (Some o) = length-name o

-- a letter, or nothing
length-letter : (flag letter rights : ℕ) → length (letter_if flag letter rights) ≤ 1
length-letter flag letter rights = go (eqb (bit_and rights flag) 0)
  where
    go : (b : Bool) → length (if b then [] else letter ∷ []) ≤ 1
    go true = omega arith
    go false = omega arith

-- at most four letters
length-rights : (rights : ℕ) → length (rights_text rights) ≤ 4
unfolding rights_text
length-rights rights = go (eqb rights 0)
  where
    r : List ℕ
    r = letter_if 2 114 rights

    w : List ℕ
    w = letter_if 1 119 rights

    g : List ℕ
    g = letter_if 4 103 rights

    p : List ℕ
    p = letter_if 8 112 rights

    letters : length (r ++ w ++ g ++ p) ≤ 4
    letters = omega (
      arith,
      length-append (r ++ w ++ g) p,
      length-append (r ++ w) g,
      length-append r w,
      length-letter 2 114 rights,
      length-letter 1 119 rights,
      length-letter 4 103 rights,
      length-letter 8 112 rights,
    )

    go : (b : Bool) → length (if b then 45 ∷ [] else r ++ w ++ g ++ p) ≤ 4
    go true = omega arith
    go false = letters

-- two numbers
length-two : (m n : ℕ) → length (then_text (decimal m) ++ then_text (decimal n)) ≤ 130
length-two m n = omega (arith, length-append (then_text (decimal m)) (then_text (decimal n)), length-decimal m, length-decimal n)

-- rights and a number
length-badged : (rights badge : ℕ) → length (then_text (rights_text rights) ++ then_text (decimal badge)) ≤ 130
length-badged rights badge = omega (arith, length-append (then_text (rights_text rights)) (then_text (decimal badge)), length-rights rights, length-decimal badge)

-- what a capability has beside its object
length-rest : (kd : Kind) (cap : Cap) → length (cap_rest kd cap) ≤ 130
length-rest kind.CNode cap = length-two cap.guard.bits cap.guard.value
length-rest kind.Endpoint cap = length-badged cap.rights cap.badge.0
length-rest kind.Notification cap = length-badged cap.rights cap.badge.0
length-rest kind.Thread cap = omega arith
length-rest kind.Reply cap = omega arith
length-rest kind.Context cap = omega arith

-- a capability
length-cap : (cap : Cap) → length (cap_text cap) ≤ 195
length-cap cap = omega (arith, length-append (name_text cap.obj) (cap_rest cap.obj.kind cap), length-name cap.obj, length-rest cap.obj.kind cap)

-- a capability, or a dash
length-held : (held : Option Cap) → length (held_text held) ≤ 195
length-held None = omega arith
length-held (Some cap) = length-cap cap

-- which of the lines of an object it is
length-end : (q : Queue) → length (queue_end q) ≤ 5
length-end (Senders e) = omega arith
length-end (Receivers e) = omega arith
length-end (Waiters n) = omega arith

-- the fixed words
key-short : (key : Key) → leb (length (key_text key)) 12 ≡ true
key-short k.Cores = refl
key-short _ = refl

-- a word, or the words, of a token
length-token : (t : Token) → length (token_text t) ≤ 200
length-token (tok.Key key) = omega (arith, leb-true (length (key_text key)) 12 (key-short key))
length-token (tok.Number n) = omega (arith, length-decimal n)
length-token (tok.Name o) = omega (arith, length-name o)
length-token (tok.Maybe o) = omega (arith, length-maybe o)
length-token (tok.Message m) = omega (arith, length-decimal m)
length-token (tok.Rights r) = omega (arith, length-rights r)
length-token (tok.Place p) = omega (arith, length-append (decimal p.index) (then_text (decimal p.depth)), length-decimal p.index, length-decimal p.depth)
length-token (tok.Cap c) = omega (arith, length-cap c)
length-token (tok.Held c) = omega (arith, length-held c)
length-token (tok.Line q) = omega (arith, length-append (name_text (queue_name q)) (queue_end q), length-name (queue_name q), length-end q)

-- ---- lines

-- the words of a message with a space before each: at most 20 digits and the space for each
length-message : (ms : List ℕ) → AllByRecursion IsWord ms → length (flat_map then_text (map decimal ms)) ≤ 21 * length ms
length-message [] hs = omega arith
length-message (m ∷ ms) hs =
    let split : length (flat_map then_text (map decimal (m ∷ ms))) ≡ suc (length (decimal m)) + length (flat_map then_text (map decimal ms)) =
    ap length (flat_map-cons then_text (decimal m) (map decimal ms)) ∙ length-append (then_text (decimal m)) (flat_map then_text (map decimal ms)) in
    omega (arith, split, length-word m hs.0, length-message ms hs.1)

-- numbers of any size before them
length-numbers : (ns ms : List ℕ) → AllByRecursion IsWord ms → length (flat_map then_text (map decimal (ns ++ ms))) ≤ 201 * length ns + 21 * length ms
length-numbers [] ms hs = omega (arith, length-message ms hs)
length-numbers (n ∷ ns) ms hs =
    let split : length (flat_map then_text (map decimal (n ∷ ns ++ ms))) ≡ suc (length (decimal n)) + length (flat_map then_text (map decimal (ns ++ ms))) =
    ap length (flat_map-cons then_text (decimal n) (map decimal (ns ++ ms))) ∙ length-append (then_text (decimal n)) (flat_map then_text (map decimal (ns ++ ms))) in
    omega (arith, split, length-decimal n, length-numbers ns ms hs)

-- other words before these
length-words : (ts : List Token) (ns ms : List ℕ) → AllByRecursion IsWord ms
    → length (flat_map then_text (map token_text ts ++ map decimal (ns ++ ms))) ≤ 201 * (length ts + length ns) + 21 * length ms
length-words [] ns ms hs = omega (arith, length-numbers ns ms hs)
length-words (t ∷ ts) ns ms hs =
    let rest : List (List ℕ) = map token_text ts ++ map decimal (ns ++ ms) in
    let split : length (flat_map then_text (token_text t ∷ rest)) ≡ suc (length (token_text t)) + length (flat_map then_text rest) =
    ap length (flat_map-cons then_text (token_text t) rest) ∙ length-append (then_text (token_text t)) (flat_map then_text rest) in
    omega (arith, split, length-token t, length-words ts ns ms hs)

-- a form whose line is short
unfoldable pub IsSmall : Form → Type 0
IsSmall f = length (form_line f) ≤ 4096

-- the line of a form with the words of a message after few other words
small-message : (first : Token) (ts : List Token) (ns ms : List ℕ) → AllByRecursion IsWord ms → 201 * (length ts + length ns) + 21 * length ms ≤ 3896
    → IsSmall (record { first = first; others = ts; numbers = ns ++ ms })
unfolding IsSmall
small-message first ts ns ms words few =
    omega (arith, length-append (token_text first) (flat_map then_text (map token_text ts ++ map decimal (ns ++ ms))), length-token first, length-words ts ns ms words, few)

-- so is one with a message, and at most six others after the first
pub small-with : (first : Token) (ts : List Token) (ns : List ℕ) (m : Content) → IsMessage m → length ts + length ns ≤ 6
    → IsSmall (record { first = first; others = ts; numbers = ns ++ m.words })
small-with first ts ns m is few = small-message first ts ns m.words (recursion_from_All IsWord m.words is.words) (omega (arith, few, is.few))

-- so is one of few words and no message
pub small-few : (f : Form) → length f.others + length f.numbers ≤ 14 → IsSmall f
small-few f few = subst (λ (ns : List ℕ). IsSmall (record { first = f.first; others = f.others; numbers = ns })) (append-nil f.numbers) (small-message f.first f.others f.numbers [] tt (omega (arith, few)))

-- its line is no longer than a line of a script may be
pub length-line : (f : Form) → IsSmall f → length (form_line f) ≤ 4096
unfolding IsSmall
length-line f small = small
