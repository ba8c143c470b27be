-- What a filled slot changes.
use Rattle.std.proofs.Common.{◌≡◌, ◌≢◌, ◌≤◌, ◌<◌, ◌+◌, ◌-◌, ◌&&◌, ◌||◌, ◌==◌, ◌^◌, not, ℕ, zero, suc, Bool, true, false, cond, List, [], ◌∷◌, ◌++◌, length, get_or, set, map, count_by, Option, Some, None, refl, ap, ap₂, subst, sym, ◌∙◌, ◌⊎◌, inl, inr, arith}
use Rattle.std.specs.Prelude.{slice_get}
use Rattle.std.proofs.lemmas.Bool.{cases_eq}
use Rattle.std.proofs.lemmas.List.{length-replicate, length-set, get_or-set_same, get_or-set_other}
use Rattle.std.proofs.lemmas.List.Sums.{sum_by-cons, sum_by-set}
use Rattle.std.proofs.lemmas.Grind.{common_steps}
use Rattle.std.proofs.lemmas.Option.{slice_get_within}
use Rattle.std.proofs.Math.Pow.{pow_mono}
use Rattle.mcs_types.specs.declared.id.ObjId.{ObjId}
use Rattle.mcs_types.specs.declared.id.Kind.TheVariants.{CNode}
use Rattle.mcs_types.specs.declared.cap.Cap.{Cap}
use Rattle.mcs_types.specs.Ids.{same, same_kind, kind_number}
use Rattle.mcs_book.specs.Slots.{is_cap_to}
use Rattle.mcs_slots.specs.declared.slots.SlotId.{SlotId}
use Rattle.mcs_slots.specs.Numbers.{number_of}
use Rattle.mcs_slots.specs.Pages.{Page, empty_page, IsPage, ArePages, page_of, page_at, page_radix, page_slot, page_slots, radix_of, slot_at, HasSlot, held}
use Rattle.mcs_slots.specs.Filling.{Filling, fills_in, filled, ChangesOne}
use Rattle.mcs_slots.specs.Tallies.{holding}

-- numbers of objects
number-cond : (a b : Bool) (x n : ℕ) → cond (not a || b) None (Some x) ≡ Some n → (a ≡ true) × (b ≡ false) × (x ≡ n)
number-cond true true x n h = absurd (cc)
number-cond true false x n h = (refl, refl, cc)
number-cond false b x n h = absurd (cc)

number-none : (a b : Bool) (x : ℕ) → cond (not a || b) None (Some x) ≡ None → (a ≡ false) ⊎ (b ≡ true)
number-none true true x h = inr refl
number-none true false x h = absurd (cc)
number-none false b x h = inl refl

pub number-some : (c : ObjId) (n : ℕ) → number_of c ≡ Some n → (kind_number c.kind ≡ 0) × (c.serial ≡ n + 1)
number-some c n h =
    let a = number-cond (same_kind c.kind CNode) (c.serial == 0) (c.serial - 1) n h in
    let e = a.0 in
    let z = a.1 in
    let m = a.2 in
    (grind (arith, common_steps, e), grind (arith, common_steps, z, m))

pub same-numbers : (c d : ObjId) (m n : ℕ) → number_of c ≡ Some m → number_of d ≡ Some n → same c d ≡ (m == n)
same-numbers c d m n h k =
    let a = number-some c m h in
    let b = number-some d n k in
    let a0 = a.0 in let a1 = a.1 in let b0 = b.0 in let b1 = b.1 in
    grind (arith, common_steps, a0, a1, b0, b1)

pub other-object : (c d : ObjId) (n : ℕ) → number_of c ≡ None → number_of d ≡ Some n → same c d ≡ false
other-object c d n h k =
    let b = number-some d n k in
    let b0 = b.0 in let b1 = b.1 in
    elim (number-none (same_kind c.kind CNode) (c.serial == 0) (c.serial - 1) h) [
      | inl e ↦ grind (arith, common_steps, e, b0, b1)
      | inr e ↦ grind (arith, common_steps, e, b0, b1)
    ]

-- one page after another
pub fills-here : (S : List Page) (k i : ℕ) (cap : Option Cap) (p : Page) → slice_get S k ≡ Some p → slice_get (fills_in S k i cap) k ≡ Some (record p { caps = set p.caps i cap })
fills-here [] k i cap p h = absurd (cc)
fills-here (q ∷ qs) zero i cap p h = let e : q ≡ p = cc in ap (λ (x : Page). Some (record x { caps = set x.caps i cap })) e
fills-here (q ∷ qs) (suc k) i cap p h = fills-here qs k i cap p h

pub fills-other : (S : List Page) (k i n : ℕ) (cap : Option Cap) → n ≢ k → slice_get (fills_in S k i cap) n ≡ slice_get S n
fills-other [] k i n cap ne = refl
fills-other (q ∷ qs) zero i zero cap ne = absurd (ne refl)
fills-other (q ∷ qs) zero i (suc n) cap ne = refl
fills-other (q ∷ qs) (suc k) i zero cap ne = refl
fills-other (q ∷ qs) (suc k) i (suc n) cap ne = fills-other qs k i n cap (λ e. ne (ap suc e))

pub fills-set : (S : List Page) (k i : ℕ) (cap : Option Cap) (p d : Page) → k < length S → p ≡ get_or S k d → set S k (record p { caps = set p.caps i cap }) ≡ fills_in S k i cap
fills-set [] k i cap p d lt h = absurd (omega (arith, lt))
fills-set (q ∷ qs) zero i cap p d lt h = ap (λ (x : Page). record x { caps = set x.caps i cap } ∷ qs) h
fills-set (q ∷ qs) (suc k) i cap p d lt h = ap (λ ps. q ∷ ps) (fills-set qs k i cap p d (omega (arith, lt)) h)

pub length-fills : (S : List Page) (k i : ℕ) (cap : Option Cap) → length (fills_in S k i cap) ≡ length S
length-fills [] k i cap = refl
length-fills (q ∷ qs) zero i cap = refl
length-fills (q ∷ qs) (suc k) i cap = ap suc (length-fills qs k i cap)

pub pages-fills : (S : List Page) (k i : ℕ) (cap : Option Cap) → ArePages S → ArePages (fills_in S k i cap)
pages-fills [] k i cap h = tt
pages-fills (q ∷ qs) zero i cap h = ((h.0.0, h.0.1, length-set q.caps i cap ∙ h.0.2), h.1)
pages-fills (q ∷ qs) (suc k) i cap h = (h.0, pages-fills qs k i cap h.1)

pub pages-filled : (S : List Page) (at : SlotId) (cap : Option Cap) → ArePages S → ArePages (filled S at cap)
pages-filled S at cap h = pages-fills S (at.cnode.serial - 1) at.index cap h

pub length-filled : (S : List Page) (at : SlotId) (cap : Option Cap) → length (filled S at cap) ≡ length S
length-filled S at cap = length-fills S (at.cnode.serial - 1) at.index cap

pub page-found : (S : List Page) (k : ℕ) (p : Page) → ArePages S → slice_get S k ≡ Some p → IsPage p
page-found [] k p h found = absurd (cc)
page-found (q ∷ qs) zero p h found = let e : q ≡ p = cc in subst IsPage e h.0
page-found (q ∷ qs) (suc k) p h found = page-found qs k p h.1 found

pub count-fills : (q : Option Cap → Bool) (S : List Page) (k i : ℕ) (cap : Option Cap) (p : Page) → slice_get S k ≡ Some p → i < length p.caps → holding q (fills_in S k i cap) + cond (q (get_or p.caps i None)) 1 0 ≡ holding q S + cond (q cap) 1 0
count-fills q [] k i cap p h lt = absurd (cc)
count-fills q (x ∷ xs) zero i cap p h lt =
    let e : x ≡ p = cc in
    let s = sum_by-set (λ (y : Option Cap). cond (q y) 1 0) p.caps i cap None lt in
    let a = sum_by-cons (λ (y : Page). count_by q y.caps) x xs in
    let b = sum_by-cons (λ (y : Page). count_by q y.caps) (record x { caps = set x.caps i cap }) xs in
    let c = ap (λ (y : Page). count_by q y.caps) e in
    let d = ap (λ (y : Page). count_by q (set y.caps i cap)) e in
    omega (arith, s, a, b, c, d)
count-fills q (x ∷ xs) (suc k) i cap p h lt =
    let ih = count-fills q xs k i cap p h lt in
    let a = sum_by-cons (λ (y : Page). count_by q y.caps) x xs in
    let b = sum_by-cons (λ (y : Page). count_by q y.caps) x (fills_in xs k i cap) in
    omega (arith, ih, a, b)

-- the page of a slot that is there
page-cond : (o : Option Page) (i : ℕ) → i < page_slots o → (p : Page) × (o ≡ Some p) × (i < 2 ^ p.radix)
page-cond None i lt = absurd (omega (arith, lt))
page-cond (Some p) i lt = (p, refl, lt)

number-page : (S : List Page) (n : Option ℕ) (p : Page) → page_of S n ≡ Some p → (k : ℕ) × (n ≡ Some k) × (slice_get S k ≡ Some p)
number-page S None p h = absurd (cc)
number-page S (Some k) p h = (k, refl, h)

-- a slot that is there: the number of its page, and the page
pub record Stands (S : List Page) (at : SlotId) : Type 0 where
  pub number : ℕ
  pub page : Page
  pub is : number_of at.cnode ≡ Some number
  pub found : slice_get S number ≡ Some page
  pub within : at.index < 2 ^ page.radix
  pub back : at.cnode.serial - 1 ≡ number

pub stands : (S : List Page) (at : SlotId) → HasSlot S at → Stands S at
stands S at h =
    let p = page-cond (page_at S at.cnode) at.index h in
    let n = number-page S (number_of at.cnode) p.0 p.1 in
    record { number = n.0; page = p.0; is = n.1; found = n.2; within = p.2; back = omega (arith, number-some at.cnode n.0 n.1) }

slot-set : (caps : List (Option Cap)) (i j : ℕ) (cap : Option Cap) → i < length caps → get_or (set caps i cap) j None ≡ cond (j == i) cap (get_or caps j None)
slot-set caps i j cap lt =
    elim (cases_eq j i) [
      | inl e ↦ let h = get_or-set_same caps i cap None lt in grind (arith, common_steps, h, e)
      | inr ne ↦ let h = get_or-set_other caps i j cap None ne in grind (arith, common_steps, h, ne)
    ]

slots-fill : (S : List Page) (k i : ℕ) (cap : Option Cap) (p : Page) → slice_get S k ≡ Some p → i < length p.caps → (n j : ℕ) → page_slot (slice_get (fills_in S k i cap) n) j ≡ cond ((n == k) && (j == i)) cap (page_slot (slice_get S n) j)
slots-fill S k i cap p found lt n j =
    elim (cases_eq n k) [
      | inl e ↦
          let t : (n == k) ≡ true = grind (arith, common_steps, e) in
          let same : slice_get S n ≡ Some p = ap (slice_get S) e ∙ found in
          let here : slice_get (fills_in S k i cap) n ≡ Some (record p { caps = set p.caps i cap }) = ap (slice_get (fills_in S k i cap)) e ∙ fills-here S k i cap p found in
          rw (t, here, same) (slot-set p.caps i j cap lt)
      | inr ne ↦
          let f : (n == k) ≡ false = grind (arith, common_steps, ne) in
          rw (f, fills-other S k i n cap ne) refl
    ]

radix-fills : (S : List Page) (k i : ℕ) (cap : Option Cap) (n : ℕ) → page_radix (slice_get (fills_in S k i cap) n) ≡ page_radix (slice_get S n)
radix-fills [] k i cap n = refl
radix-fills (q ∷ qs) zero i cap zero = refl
radix-fills (q ∷ qs) zero i cap (suc n) = refl
radix-fills (q ∷ qs) (suc k) i cap zero = refl
radix-fills (q ∷ qs) (suc k) i cap (suc n) = radix-fills qs k i cap n

-- a slot of a page of its number
slot-number : (S : List Page) (at : SlotId) (cap : Option Cap) (k : ℕ) (p : Page) (c : ObjId) (i : ℕ) → number_of at.cnode ≡ Some k → slice_get S k ≡ Some p → at.index < length p.caps → (n : Option ℕ) → number_of c ≡ n → page_slot (page_of (fills_in S k at.index cap) n) i ≡ cond (same c at.cnode && (i == at.index)) cap (page_slot (page_of S n) i)
slot-number S at cap k p c i is found lt None none = rw (other-object c at.cnode k none is) refl
slot-number S at cap k p c i is found lt (Some n) some = rw (same-numbers c at.cnode n k some is) (slots-fill S k at.index cap p found lt n i)

radix-number : (S : List Page) (k i : ℕ) (cap : Option Cap) (n : Option ℕ) → page_radix (page_of (fills_in S k i cap) n) ≡ page_radix (page_of S n)
radix-number S k i cap None = refl
radix-number S k i cap (Some n) = radix-fills S k i cap n

pub slot_at-filled : (S : List Page) (at : SlotId) (cap : Option Cap) (c : ObjId) (i : ℕ) → ArePages S → HasSlot S at → slot_at (filled S at cap) c i ≡ cond (same c at.cnode && (i == at.index)) cap (slot_at S c i)
slot_at-filled S at cap c i pages has =
    let st = stands S at has in
    let page = page-found S st.number st.page pages st.found in
    let lt : at.index < length st.page.caps = omega (arith, st.within, page.2) in
    ap (λ k. page_slot (page_of (fills_in S k at.index cap) (number_of c)) i) st.back ∙ slot-number S at cap st.number st.page c i st.is st.found lt (number_of c) refl

pub radix_of-filled : (S : List Page) (at : SlotId) (cap : Option Cap) (c : ObjId) → radix_of (filled S at cap) c ≡ radix_of S c
radix_of-filled S at cap c = radix-number S (at.cnode.serial - 1) at.index cap (number_of c)

-- one where a slot passes a test
abbrev pub passing : (Option Cap → Bool) → Option Cap → ℕ
passing q x = cond (q x) 1 0

pub holding-filled : (q : Option Cap → Bool) (S : List Page) (at : SlotId) (cap : Option Cap) → ArePages S → HasSlot S at → holding q (filled S at cap) + cond (q (slot_at S at.cnode at.index)) 1 0 ≡ holding q S + cond (q cap) 1 0
holding-filled q S at cap pages has =
    let st = stands S at has in
    let page = page-found S st.number st.page pages st.found in
    let lt : at.index < length st.page.caps = omega (arith, st.within, page.2) in
    let slot : slot_at S at.cnode at.index ≡ get_or st.page.caps at.index None = ap (λ n. page_slot (page_of S n) at.index) st.is ∙ ap (λ p. page_slot p at.index) st.found in
    let counted = count-fills q S st.number at.index cap st.page st.found lt in
    let filled_is : holding q (filled S at cap) ≡ holding q (fills_in S st.number at.index cap) = ap (λ k. holding q (fills_in S k at.index cap)) st.back in
    let slot_is = ap (passing q) slot in
    omega (arith, counted, filled_is, slot_is)

pub held-filled : (S : List Page) (at : SlotId) (cap : Option Cap) (o : ObjId) → ArePages S → HasSlot S at → held (filled S at cap) o + cond (is_cap_to o (slot_at S at.cnode at.index)) 1 0 ≡ held S o + cond (is_cap_to o cap) 1 0
held-filled S at cap o pages has = holding-filled (is_cap_to o) S at cap pages has

pub changes-one : (f : Filling) → ArePages f.before → HasSlot f.before f.at → ChangesOne f
changes-one f pages has =
    record {
      slots = λ c i. slot_at-filled f.before f.at f.cap c i pages has;
      radices = λ c. radix_of-filled f.before f.at f.cap c;
      counts = λ o. held-filled f.before f.at f.cap o pages has;
    }

-- a slot that is there stays there
pub has-slot-filled : (S : List Page) (at other : SlotId) (cap : Option Cap) → HasSlot S other → HasSlot (filled S at cap) other
has-slot-filled S at other cap has = slots-number (number_of other.cnode) has
  where
    same-radix : (o q : Option Page) → page_radix o ≡ page_radix q → page_slots o ≡ page_slots q
    same-radix None None e = refl
    same-radix None (Some p) e = absurd (cc)
    same-radix (Some p) None e = absurd (cc)
    same-radix (Some p) (Some q) e = let r : p.radix ≡ q.radix = cc in ap (λ n. 2 ^ n) r

    slots-number : (n : Option ℕ) → other.index < page_slots (page_of S n) → other.index < page_slots (page_of (filled S at cap) n)
    slots-number n lt = omega (arith, lt, same-radix (page_of (filled S at cap) n) (page_of S n) (radix-number S (at.cnode.serial - 1) at.index cap n))

-- pages that are made one after another
pub made-append : (r : ℕ) (rs : List ℕ) → map empty_page (rs ++ r ∷ []) ≡ map empty_page rs ++ empty_page r ∷ []
made-append r [] = refl
made-append r (x ∷ xs) = ap (λ ps. empty_page x ∷ ps) (made-append r xs)

pub pages-append : (ps : List Page) (p : Page) → ArePages ps → IsPage p → ArePages (ps ++ p ∷ [])
pages-append [] p h is = (is, tt)
pages-append (q ∷ qs) p h is = (h.0, pages-append qs p h.1 is)

pub empty-is-page : (r : ℕ) → 1 ≤ r → r ≤ 8 → IsPage (empty_page r)
empty-is-page r a b = (a, b, length-replicate (2 ^ r) None)

-- a page that is written in its place
pub set-filled : (items S : List Page) (at : SlotId) (number : ℕ) (cap : Option Cap) (p : Page) → items ≡ S → HasSlot S at → Some number ≡ number_of at.cnode → p ≡ get_or items number p → set items number (record p { caps = set p.caps at.index cap }) ≡ filled S at cap
set-filled items S at number cap p same has is value =
    let st = stands S at has in
    let n : number ≡ st.number = (let e : Some number ≡ Some st.number = is ∙ st.is in cc) in
    let lt : number < length items = omega (arith, slice_get_within S st.number st.page st.found, n, ap length same) in
    fills-set items number at.index cap p p lt value ∙ ap₂ (λ ps k. fills_in ps k at.index cap) same (n ∙ sym st.back)

pub radix-few : (r : ℕ) → r ≤ 8 → 2 ^ r ≤ 256
radix-few r h = omega (arith, pow_mono {i = r} {j = 8} h)
