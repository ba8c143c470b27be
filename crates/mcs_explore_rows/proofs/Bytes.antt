-- Equal bytes are those of equal numbers.
use Rattle.std.specs.Prelude.{ℕ, ◌≡◌, ◌<◌, ◌+◌, ◌*◌, ◌/◌, ◌%◌, cond, nat_lt, Bool, true, false, List, [], ◌∷◌, ◌++◌}
use Rattle.std.proofs.Common.{refl, ap, sym, ◌∙◌, arith}
use Rattle.std.proofs.lemmas.Nat.{div-add-mod'}
use Rattle.std.proofs.lemmas.Grind.{common_steps}
use Rattle.mcs_explore_rows.specs.Bytes.{code, coded}
use Rattle.mcs_explore_rows.proofs.Telling.{Tells, parted}

-- a number by its lowest byte and the others
parts : (n m : ℕ) → n / 256 ≡ m / 256 → n % 256 ≡ m % 256 → n ≡ m
parts n m h k = sym (div-add-mod' n 256) ∙ ap (λ q. q * 256 + n % 256) h ∙ ap (λ r. m / 256 * 256 + r) k ∙ div-add-mod' m 256

-- the first of two bytes is none of one, and no 255
above : (n m : ℕ) → n < 192 → n ≡ 192 + m → ⊥
above n m lt e = absurd (omega (arith, lt, e))

beneath : (n : ℕ) → n < 16128 → 192 + n / 256 ≡ 255 → ⊥
beneath n lt e = let r = div-add-mod' n 256 in absurd (omega (arith, lt, e, r))

-- the bytes of a number below 192, of one below 16128, and of others
abbrev sorted : Bool → Bool → ℕ → List ℕ
sorted a b n = cond a (n ∷ []) (cond b ((192 + n / 256) ∷ (n % 256) ∷ []) (255 ∷ (n / 256 / 256 / 256) ∷ (n / 256 / 256 % 256) ∷ (n / 256 % 256) ∷ (n % 256) ∷ []))

below-is : (n k : ℕ) → nat_lt n k ≡ true → n < k
below-is n k h = grind (arith, common_steps, h)

code-decoded-by : (n m : ℕ) (x y : List ℕ) (a b c d : Bool) → nat_lt n 192 ≡ a → nat_lt n 16128 ≡ b → nat_lt m 192 ≡ c → nat_lt m 16128 ≡ d
    → sorted a b n ++ x ≡ sorted c d m ++ y → (n ≡ m) × (x ≡ y)
code-decoded-by n m x y true b true d ha hb hc hd h = parted n m x y h
code-decoded-by n m x y true b false true ha hb hc hd h = absurd (above n (m / 256) (below-is n 192 ha) (parted n (192 + m / 256) x ((m % 256) ∷ y) h).0)
code-decoded-by n m x y true b false false ha hb hc hd h = absurd (let lt = below-is n 192 ha in let e = (parted n 255 x _ h).0 in omega (arith, lt, e))
code-decoded-by n m x y false true true d ha hb hc hd h = absurd (above m (n / 256) (below-is m 192 hc) (sym (parted (192 + n / 256) m ((n % 256) ∷ x) y h).0))
code-decoded-by n m x y false true false true ha hb hc hd h =
    let p = parted (192 + n / 256) (192 + m / 256) ((n % 256) ∷ x) ((m % 256) ∷ y) h in
    let q = parted (n % 256) (m % 256) x y p.1 in
    let e = p.0 in
    (parts n m (omega (arith, e)) q.0, q.1)
code-decoded-by n m x y false true false false ha hb hc hd h = absurd (beneath n (below-is n 16128 hb) (parted (192 + n / 256) 255 ((n % 256) ∷ x) _ h).0)
code-decoded-by n m x y false false true d ha hb hc hd h = absurd (let lt = below-is m 192 hc in let e = (parted 255 m _ y h).0 in omega (arith, lt, e))
code-decoded-by n m x y false false false true ha hb hc hd h = absurd (beneath m (below-is m 16128 hd) (sym (parted 255 (192 + m / 256) _ ((m % 256) ∷ y) h).0))
code-decoded-by n m x y false false false false ha hb hc hd h =
    let first = parted 255 255 _ _ h in
    let p = parted (n / 256 / 256 / 256) (m / 256 / 256 / 256) _ _ first.1 in
    let q = parted (n / 256 / 256 % 256) (m / 256 / 256 % 256) _ _ p.1 in
    let r = parted (n / 256 % 256) (m / 256 % 256) _ _ q.1 in
    let s = parted (n % 256) (m % 256) x y r.1 in
    (parts n m (parts (n / 256) (m / 256) (parts (n / 256 / 256) (m / 256 / 256) p.0 q.0) r.0) s.0, s.1)

pub code-decoded : Tells code
code-decoded n m x y h = code-decoded-by n m x y (nat_lt n 192) (nat_lt n 16128) (nat_lt m 192) (nat_lt m 16128) refl refl refl refl h

-- some byte
some-first : (n : ℕ) (x : List ℕ) → code n ++ x ≡ [] → ⊥
some-first n x h = go (nat_lt n 192) (nat_lt n 16128) h
  where
    go : (a b : Bool) → sorted a b n ++ x ≡ [] → ⊥
    go true b h = absurd cc
    go false true h = absurd cc
    go false false h = absurd cc

-- equal bytes have equal numbers
pub coded-one : (ns ms : List ℕ) → coded ns ≡ coded ms → ns ≡ ms
coded-one [] [] h = refl
coded-one [] (m ∷ ms) h = absurd (some-first m (coded ms) (sym h))
coded-one (n ∷ ns) [] h = absurd (some-first n (coded ns) h)
coded-one (n ∷ ns) (m ∷ ms) h = let p = code-decoded n m (coded ns) (coded ms) h in ap (λ k. k ∷ ns) p.0 ∙ ap (λ l. m ∷ l) (coded-one ns ms p.1)
