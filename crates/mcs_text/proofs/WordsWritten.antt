-- A word that is read as a number, as a name or as rights is what these are written as.
use Rattle.std.proofs.Common.{◌≡◌, ◌≢◌, ℕ, ◌+◌, ◌<◌, Bool, true, false, ◌&&◌, ◌||◌, not, eqb, cond, nat_lt, nat_le, map, List, [], ◌∷◌, ◌++◌, Option, Some, None, Result, Ok, Err, length, get_or, refl, ap, sym, ◌∙◌, append_assoc, append-nil, arith, decimal}
use Rattle.std.specs.List.{flat_map}
use Rattle.std.proofs.lemmas.Bool.{and_parts, eqb-true, ne_eqb}
use Rattle.std.proofs.lemmas.Fmt.{decimal-digits_value}
use Rattle.std.proofs.lemmas.List.Concat.{flat_map-cons}
use Rattle.mcs_text.specs.declared.fault.LineFault.{LineFault}
use Rattle.mcs_text.specs.declared.fault.LineFault.TheVariants.{Form, Number, NoObject}
use Rattle.mcs_types.specs.Views.{Content}
use Rattle.mcs_types.specs.declared.cap.Place.{Place}
use Rattle.mcs_text.specs.declared.entries.RawPlace.{RawPlace}
use Rattle.std.specs.Prelude.{bytes_eq, codes}
use Rattle.std.proofs.lemmas.Slice.Eq.{bytes_eq-Decides}
use Rattle.mcs_text.specs.RightsReading.{flag_at, after_letter, some_rights, lettered, rights_of, rights_then, rights_at}
use Rattle.mcs_text.specs.Spelling.{then_text, rights_text}
use Rattle.mcs_text.specs.Reading.{◌>>=◌, ◌>>◌, words_of, onto_first, value, small, all_digits, is_unpadded, is_number, is_serial, number, number_at, name, name_at, below, made, end_at, kept_after, push_kept, content, place_at, place_of, word_limit}
use Rattle.mcs_text.proofs.WordLaws.{small-some}
use Rattle.mcs_text.proofs.RoundTrip.{own}

pub same-bytes : (xs ys : List ℕ) → bytes_eq xs ys ≡ true → xs ≡ ys
same-bytes xs ys h = (bytes_eq-Decides xs ys).0 h

-- ---- words

spread-onto : (b : ℕ) (ws : List (List ℕ)) (bs : List ℕ) → flat_map then_text ws ≡ 32 ∷ bs → flat_map then_text (onto_first b ws) ≡ 32 ∷ b ∷ bs
spread-onto b [] bs h = absurd (cc)
spread-onto b (w ∷ ws) bs h =
    let tail : w ++ flat_map then_text ws ≡ bs = let split : 32 ∷ (w ++ flat_map then_text ws) ≡ 32 ∷ bs = sym (flat_map-cons then_text w ws) ∙ h in cc in
    flat_map-cons then_text (b ∷ w) ws ∙ ap (λ (l : List ℕ). 32 ∷ b ∷ l) tail

-- a line is its words with a space between two
pub spread-words : (line : List ℕ) → flat_map then_text (words_of line) ≡ 32 ∷ line
spread-words [] = refl
spread-words (b ∷ bs) = go (eqb b 32) refl (spread-words bs)
  where
    go : (e : Bool) → eqb b 32 ≡ e → flat_map then_text (words_of bs) ≡ 32 ∷ bs → flat_map then_text (cond e ([] ∷ words_of bs) (onto_first b (words_of bs))) ≡ 32 ∷ b ∷ bs
    go true h more = flat_map-cons then_text [] (words_of bs) ∙ ap (λ (l : List ℕ). 32 ∷ l) more ∙ ap (λ (c : ℕ). 32 ∷ c ∷ bs) (sym (eqb-true b 32 h))
    go false h more = spread-onto b (words_of bs) bs more

-- of two lines with the same words each is the other
pub same-words : (a b : List ℕ) → words_of a ≡ words_of b → a ≡ b
same-words a b h = let e : 32 ∷ a ≡ 32 ∷ b = sym (spread-words a) ∙ ap (flat_map then_text) h ∙ spread-words b in cc

-- ---- numbers

unpadded-lead : (w : List ℕ) → is_unpadded w ≡ true → (0 < length w) × (get_or w 0 0 ≡ 48 → length w ≡ 1)
unpadded-lead [] h = absurd (let no : false ≡ true = h in cc)
unpadded-lead (d ∷ []) h = (omega arith, λ e. refl)
unpadded-lead (d ∷ e ∷ ds) h = (omega arith, λ z. absurd (let no : not (eqb 48 48) ≡ true = ap (λ (c : ℕ). not (eqb c 48)) (sym z) ∙ h in cc))

pub number-written : (w : List ℕ) (n : ℕ) → is_number w ≡ true → small (value w) ≡ Some n → decimal n ≡ w
number-written w n is h =
    let both = and_parts (is_unpadded w) (all_digits w) is in
    let lead = unpadded-lead w both.0 in
    let s = small-some n (value w) (sym h) in
    ap decimal s.0 ∙ decimal-digits_value own w both.1 lead.0 lead.1 (omega (arith, s.0, s.1))

-- ---- readings one after the other

-- a reading that goes on with another has a first part
pub record Reads {A B : Type 0} (r : Result A LineFault) (f : A → Result B LineFault) (v : B) : Type 0 where
  pub first : A
  pub is : r ≡ Ok first
  pub rest : f first ≡ Ok v

pub reads : {A B : Type 0} (r : Result A LineFault) (f : A → Result B LineFault) (v : B) → (r >>= f) ≡ Ok v → Reads r f v
reads (Ok x) f v h = record { first = x; is = refl; rest = h }
reads (Err e) f v h = absurd (cc)

-- a test that is passed, and then a reading
pub record Passes {A B : Type 0} (r : Result A LineFault) (next : Result B LineFault) (v : B) : Type 0 where
  pub first : A
  pub is : r ≡ Ok first
  pub rest : next ≡ Ok v

pub passes : {A B : Type 0} (r : Result A LineFault) (next : Result B LineFault) (v : B) → (r >> next) ≡ Ok v → Passes r next v
passes (Ok x) next v h = record { first = x; is = refl; rest = h }
passes (Err e) next v h = absurd (cc)

pub ok-same : {A : Type 0} (x y : A) → Path (Result A LineFault) (Ok x) (Ok y) → x ≡ y
ok-same x y h = cc

number-parts : (w : List ℕ) (o : Option ℕ) → number w ≡ Ok o → (is_number w ≡ true) × (small (value w) ≡ o)
unfolding number
number-parts w o h = go (is_number w) refl h
  where
    go : (b : Bool) → is_number w ≡ b → Path (Result (Option ℕ) LineFault) (cond b (Ok (small (value w))) (Err Form)) (Ok o) → (is_number w ≡ true) × (small (value w) ≡ o)
    go true e k = (e, cc)
    go false e k = absurd (cc)

pub taken-number : (ws : List (List ℕ)) (r : Option ℕ × List (List ℕ)) → number_at ws ≡ Ok r → (w : List ℕ) × (ws ≡ w ∷ r.1) × (number w ≡ Ok r.0)
unfolding number_at
taken-number [] r h = absurd (cc)
taken-number (w ∷ ws) r h =
    let n = reads (number w) (λ n. Ok (n, ws)) r h in
    let e = ok-same (n.first, ws) r n.rest in
    (w, ap (λ (l : List (List ℕ)). w ∷ l) (ap (λ (p : Option ℕ × List (List ℕ)). p.1) e), n.is ∙ ap (λ (p : Option ℕ × List (List ℕ)). Ok p.0) e)

pub below-some : (limit : ℕ) (o : Option ℕ) (n : ℕ) → below limit o ≡ Ok n → o ≡ Some n
unfolding below
below-some limit None n h = absurd (cc)
below-some limit (Some m) n h = go (nat_lt m limit) h
  where
    go : (b : Bool) → Path (Result ℕ LineFault) (cond b (Ok m) (Err Number)) (Ok n) → Some m ≡ Some n
    go true k = cc
    go false k = absurd (cc)

-- a number below a limit
pub number-below : (limit : ℕ) (ws : List (List ℕ)) (r : Option ℕ × List (List ℕ)) (n : ℕ) → number_at ws ≡ Ok r → below limit r.0 ≡ Ok n → ws ≡ decimal n ∷ r.1
number-below limit ws r n h b =
    let t = taken-number ws r h in
    let p = number-parts t.0 (Some n) (t.2 ∙ ap (λ (o : Option ℕ). Ok o) (below-some limit r.0 n b)) in
    t.1 ∙ ap (λ (w : List ℕ). w ∷ r.1) (sym (number-written t.0 n p.0 p.1))

-- ---- names

-- the word of a name with this letter
pub taken-name : (letter : ℕ) (ws : List (List ℕ)) (r : Option ℕ × List (List ℕ)) → name_at letter ws ≡ Ok r → (w : List ℕ) × (ws ≡ w ∷ r.1) × (name letter w ≡ Ok r.0)
unfolding name_at
taken-name letter [] r h = absurd (cc)
taken-name letter (w ∷ ws) r h =
    let n = reads (name letter w) (λ n. Ok (n, ws)) r h in
    let e = ok-same (n.first, ws) r n.rest in
    (w, ap (λ (l : List (List ℕ)). w ∷ l) (ap (λ (p : Option ℕ × List (List ℕ)). p.1) e), n.is ∙ ap (λ (p : Option ℕ × List (List ℕ)). Ok p.0) e)

made-some : (count : ℕ) (o : Option ℕ) (n : ℕ) → made count o ≡ Ok n → o ≡ Some n
unfolding made
made-some count None n h = absurd (cc)
made-some count (Some m) n h = go (nat_le m count) h
  where
    go : (b : Bool) → Path (Result ℕ LineFault) (cond b (Ok m) (Err NoObject)) (Ok n) → Some m ≡ Some n
    go true k = cc
    go false k = absurd (cc)

name-written : (letter : ℕ) (w : List ℕ) (n : ℕ) → name letter w ≡ Ok (Some n) → letter ∷ decimal n ≡ w
unfolding name
name-written letter [] n h = absurd (cc)
name-written letter (b ∷ ds) n h = go (eqb b letter) refl (is_serial ds) refl h
  where
    go : (x : Bool) → eqb b letter ≡ x → (y : Bool) → is_serial ds ≡ y → Path (Result (Option ℕ) LineFault) (cond (x && y) (Ok (small (value ds))) (Err Form)) (Ok (Some n)) → letter ∷ decimal n ≡ b ∷ ds
    go true e true f k =
        let both = and_parts (is_number ds) (not (eqb (get_or ds 0 0) 48)) f in
        let v : small (value ds) ≡ Some n = cc in
        ap (λ (c : ℕ). c ∷ decimal n) (sym (eqb-true b letter e)) ∙ ap (λ (l : List ℕ). b ∷ l) (number-written ds n both.0 v)
    go true e false f k = absurd (cc)
    go false e y f k = absurd (cc)

-- a name of one of this many objects
pub name-made : (letter count : ℕ) (ws : List (List ℕ)) (r : Option ℕ × List (List ℕ)) (n : ℕ) → name_at letter ws ≡ Ok r → made count r.0 ≡ Ok n → ws ≡ (letter ∷ decimal n) ∷ r.1
name-made letter count ws r n h b =
    let t = taken-name letter ws r h in
    t.1 ∙ ap (λ (w : List ℕ). w ∷ r.1) (sym (name-written letter t.0 n (t.2 ∙ ap (λ (o : Option ℕ). Ok o) (made-some count r.0 n b))))

-- ---- the end, and messages

pub at-end : (ws : List (List ℕ)) (u : Unit {0}) → end_at ws ≡ Ok u → ws ≡ []
unfolding end_at
at-end [] u h = refl
at-end (w ∷ ws) u h = absurd (cc)

kept-none : (ws : List (List ℕ)) (ms : List ℕ) → kept_after None ws ≢ Ok (Some ms)
unfolding kept_after
kept-none [] ms h = cc
kept-none (w ∷ ws) ms h = let r = reads (number w) (λ n. kept_after None ws) (Some ms) h in kept-none ws ms r.rest

-- numbers to the end of the line, after those that were kept before
kept-behind : (front : List ℕ) (ws : List (List ℕ)) (ms : List ℕ) → kept_after (Some front) ws ≡ Ok (Some ms) → (tail : List ℕ) × (ms ≡ front ++ tail) × (ws ≡ map decimal tail)
unfolding kept_after
kept-behind front [] ms h = let e : front ≡ ms = cc in ([], sym e ∙ sym (append-nil front), refl)
kept-behind front (w ∷ ws) ms h =
    let r = reads (number w) (λ n. kept_after (push_kept (Some front) n) ws) (Some ms) h in
    go (λ m k. kept-behind (front ++ m ∷ []) ws ms k) r.first r.is r.rest
  where
    Behind : Type 0
    Behind = (m : ℕ) → kept_after (Some (front ++ m ∷ [])) ws ≡ Ok (Some ms) → (tail : List ℕ) × (ms ≡ (front ++ m ∷ []) ++ tail) × (ws ≡ map decimal tail)

    more : Behind → (m : ℕ) → number w ≡ Ok (Some m) → (b : Bool) → kept_after (cond b (Some (front ++ m ∷ [])) None) ws ≡ Ok (Some ms) → (tail : List ℕ) × (ms ≡ front ++ tail) × (w ∷ ws ≡ map decimal tail)
    more later m e true k =
        let p = number-parts w (Some m) e in
        let t = later m k in
        (m ∷ t.0, t.1 ∙ append_assoc front (m ∷ []) t.0, ap (λ (v : List ℕ). v ∷ ws) (sym (number-written w m p.0 p.1)) ∙ ap (λ (l : List (List ℕ)). decimal m ∷ l) t.2)
    more later m e false k = absurd (kept-none ws ms k)

    go : Behind → (o : Option ℕ) → number w ≡ Ok o → kept_after (push_kept (Some front) o) ws ≡ Ok (Some ms) → (tail : List ℕ) × (ms ≡ front ++ tail) × (w ∷ ws ≡ map decimal tail)
    go later None e k = absurd (kept-none ws ms k)
    go later (Some m) e k = more later m e (nat_lt (length front) 120) k

content-parts : (label : Option ℕ) (kept : Option (List ℕ)) (m : Content) → content label kept ≡ Ok m → (label ≡ Some m.label) × (kept ≡ Some m.words)
unfolding content
content-parts None kept m h = absurd (cc)
content-parts (Some l) None m h = absurd (cc)
content-parts (Some l) (Some words) m h = go (nat_lt l 4503599627370496 && nat_le (length words) 120) h
  where
    go : (b : Bool) → Path (Result Content LineFault) (cond b (Ok (record { label = l; words = words })) (Err Number)) (Ok m) → Path (Option ℕ) (Some l) (Some m.label) × Path (Option (List ℕ)) (Some words) (Some m.words)
    go true k =
        let e : Path Content (record { label = l; words = words }) m = cc in
        (ap (λ (c : Content). Some c.label) e, ap (λ (c : Content). Some c.words) e)
    go false k = absurd (cc)

-- a label and the words of a message, to the end of the line
pub message-written : (ws : List (List ℕ)) (label : Option ℕ × List (List ℕ)) (kept : Option (List ℕ)) (m : Content) → number_at ws ≡ Ok label → kept_after (Some []) label.1 ≡ Ok kept → content label.0 kept ≡ Ok m → ws ≡ map decimal (m.label ∷ m.words)
message-written ws label kept m h k c =
    let p = content-parts label.0 kept m c in
    let t = taken-number ws label h in
    let n = number-parts t.0 (Some m.label) (t.2 ∙ ap (λ (o : Option ℕ). Ok o) p.0) in
    let b = kept-behind [] label.1 m.words (k ∙ ap (λ (o : Option (List ℕ)). Ok o) p.1) in
    t.1 ∙ ap (λ (w : List ℕ). w ∷ label.1) (sym (number-written t.0 m.label n.0 n.1)) ∙ ap (λ (l : List (List ℕ)). decimal m.label ∷ l) (b.2 ∙ ap (map decimal) (sym b.1))

-- ---- rights

-- a text with a letter or without it, and what follows
record Lettered (flag letter : ℕ) (w rest : List ℕ) (f : ℕ) : Type 0 where
  has : Bool
  flag_is : f ≡ cond has flag 0
  is : w ≡ cond has (letter ∷ []) [] ++ rest

lettered-part : (flag letter : ℕ) (w : List ℕ) → Lettered flag letter w (after_letter letter w) (flag_at flag letter w)
lettered-part flag letter [] = record { has = false; flag_is = refl; is = refl }
lettered-part flag letter (b ∷ bs) = go (eqb b letter) refl
  where
    go : (e : Bool) → eqb b letter ≡ e → Lettered flag letter (b ∷ bs) (cond e bs (b ∷ bs)) (cond e flag 0)
    go true h = record { has = true; flag_is = refl; is = ap (λ (c : ℕ). c ∷ bs) (eqb-true b letter h) }
    go false h = record { has = false; flag_is = refl; is = refl }

letters-text : (a b c d : Bool) → eqb (cond a 2 0 + cond b 1 0 + cond c 4 0 + cond d 8 0) 0 ≡ false
    → rights_text (cond a 2 0 + cond b 1 0 + cond c 4 0 + cond d 8 0) ≡ cond a (114 ∷ []) [] ++ (cond b (119 ∷ []) [] ++ (cond c (103 ∷ []) [] ++ cond d (112 ∷ []) []))
unfolding rights_text
letters-text true true true true h = refl
letters-text true true true false h = refl
letters-text true true false true h = refl
letters-text true true false false h = refl
letters-text true false true true h = refl
letters-text true false true false h = refl
letters-text true false false true h = refl
letters-text true false false false h = refl
letters-text false true true true h = refl
letters-text false true true false h = refl
letters-text false true false true h = refl
letters-text false true false false h = refl
letters-text false false true true h = refl
letters-text false false true false h = refl
letters-text false false false true h = refl
letters-text false false false false h = absurd (cc)

some-parts : (n : ℕ) (rest : List ℕ) (r : ℕ) → some_rights n rest ≡ Some r → (n ≡ r) × (eqb n 0 ≡ false) × (rest ≡ [])
some-parts n rest r h = go (eqb n 0) refl rest refl h
  where
    go : (a : Bool) → eqb n 0 ≡ a → (l : List ℕ) → rest ≡ l → cond (a || not (eqb (length l) 0)) None (Some n) ≡ Some r → (n ≡ r) × (eqb n 0 ≡ false) × (rest ≡ [])
    go true e l is k = absurd (cc)
    go false e [] is k = (cc, e, is)
    go false e (b ∷ bs) is k =
        let some : eqb (length (b ∷ bs)) 0 ≡ false = ne_eqb _ _ (λ z. omega arith) in
        absurd (let no : None ≡ Some r = rw some at k in cc)

lettered-written : (w : List ℕ) (r : ℕ) → lettered w ≡ Some r → rights_text r ≡ w
lettered-written w r h =
    let a = lettered-part 2 114 w in
    let w1 = after_letter 114 w in
    let b = lettered-part 1 119 w1 in
    let w2 = after_letter 119 w1 in
    let c = lettered-part 4 103 w2 in
    let w3 = after_letter 103 w2 in
    let d = lettered-part 8 112 w3 in
    let w4 = after_letter 112 w3 in
    let s = some-parts (flag_at 2 114 w + flag_at 1 119 w1 + flag_at 4 103 w2 + flag_at 8 112 w3) w4 r h in
    let sum : flag_at 2 114 w + flag_at 1 119 w1 + flag_at 4 103 w2 + flag_at 8 112 w3 ≡ cond a.has 2 0 + cond b.has 1 0 + cond c.has 4 0 + cond d.has 8 0 = omega (arith, a.flag_is, b.flag_is, c.flag_is, d.flag_is) in
    let four : w3 ≡ cond d.has (112 ∷ []) [] = d.is ∙ ap (λ (l : List ℕ). cond d.has (112 ∷ []) [] ++ l) s.2 ∙ append-nil (cond d.has (112 ∷ []) []) in
    let three : w2 ≡ cond c.has (103 ∷ []) [] ++ cond d.has (112 ∷ []) [] = c.is ∙ ap (λ (l : List ℕ). cond c.has (103 ∷ []) [] ++ l) four in
    let two : w1 ≡ cond b.has (119 ∷ []) [] ++ (cond c.has (103 ∷ []) [] ++ cond d.has (112 ∷ []) []) = b.is ∙ ap (λ (l : List ℕ). cond b.has (119 ∷ []) [] ++ l) three in
    let one : w ≡ cond a.has (114 ∷ []) [] ++ (cond b.has (119 ∷ []) [] ++ (cond c.has (103 ∷ []) [] ++ cond d.has (112 ∷ []) [])) = a.is ∙ ap (λ (l : List ℕ). cond a.has (114 ∷ []) [] ++ l) two in
    ap rights_text (sym s.0 ∙ sum) ∙ letters-text a.has b.has c.has d.has (ap (λ (n : ℕ). eqb n 0) (sym sum) ∙ s.1) ∙ sym one

dash : rights_text 0 ≡ codes "-"
unfolding rights_text
dash = refl

rights_of-written : (w : List ℕ) (r : ℕ) → rights_of w ≡ Some r → rights_text r ≡ w
unfolding rights_of
rights_of-written w r h = go (bytes_eq (codes "-") w) refl h
  where
    go : (b : Bool) → bytes_eq (codes "-") w ≡ b → cond b (Some 0) (lettered w) ≡ Some r → rights_text r ≡ w
    go true e k = let n : 0 ≡ r = cc in ap rights_text (sym n) ∙ dash ∙ same-bytes (codes "-") w e
    go false e k = lettered-written w r k

-- rights, and the words after them
pub rights-written : (ws : List (List ℕ)) (r : ℕ × List (List ℕ)) → rights_at ws ≡ Ok r → ws ≡ rights_text r.0 ∷ r.1
unfolding rights_at
rights-written [] r h = absurd (cc)
rights-written (w ∷ ws) r h = go (rights_of w) refl h
  where
    go : (o : Option ℕ) → rights_of w ≡ o → rights_then o ws ≡ Ok r → w ∷ ws ≡ rights_text r.0 ∷ r.1
    go None e k = absurd (cc)
    go (Some n) e k =
        let same : Path (ℕ × List (List ℕ)) (n, ws) r = cc in
        ap (λ (v : List ℕ). v ∷ ws) (sym (rights_of-written w n e)) ∙ ap (λ (p : ℕ × List (List ℕ)). rights_text p.0 ∷ p.1) same

-- ---- places

-- a place, and the words after it
pub place-written : (ws : List (List ℕ)) (r : RawPlace × List (List ℕ)) (p : Place) → place_at ws ≡ Ok r → place_of r.0 ≡ Ok p → ws ≡ decimal p.index ∷ decimal p.depth ∷ r.1
unfolding place_at place_of
place-written ws r p h k =
    let index = reads (number_at ws) (λ i. number_at i.1 >>= λ d. Ok (record { index = i.0; depth = d.0 }, d.1)) r h in
    let depth = reads (number_at index.first.1) (λ d. Ok (record { index = index.first.0; depth = d.0 }, d.1)) r index.rest in
    let same : Path (RawPlace × List (List ℕ)) (record { index = index.first.0; depth = depth.first.0 }, depth.first.1) r = ok-same _ _ depth.rest in
    let i = reads (below word_limit r.0.index) (λ i. below 256 r.0.depth >>= λ d. Ok (record { index = i; depth = d })) p k in
    let d = reads (below 256 r.0.depth) (λ d. Ok (record { index = i.first; depth = d })) p i.rest in
    let place : Path Place (record { index = i.first; depth = d.first }) p = ok-same _ _ d.rest in
    number-below word_limit ws index.first i.first index.is (ap (λ (q : RawPlace × List (List ℕ)). below word_limit q.0.index) same ∙ i.is)
    ∙ ap (λ (l : List (List ℕ)). decimal i.first ∷ l) (number-below 256 index.first.1 depth.first d.first depth.is (ap (λ (q : RawPlace × List (List ℕ)). below 256 q.0.depth) same ∙ d.is))
    ∙ ap (λ (l : List (List ℕ)). decimal i.first ∷ decimal d.first ∷ l) (ap (λ (q : RawPlace × List (List ℕ)). q.1) same)
    ∙ ap (λ (q : Place). decimal q.index ∷ decimal q.depth ∷ r.1) place
