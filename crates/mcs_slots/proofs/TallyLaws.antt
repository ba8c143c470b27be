-- The tallies tell of the slots while these change.
use Rattle.std.proofs.Common.{◌≡◌, ◌≢◌, ◌≤◌, ◌+◌, ◌-◌, ◌*◌, ◌^◌, ◌==◌, ◌&&◌, ◌%◌, ℕ, zero, suc, Bool, true, false, cond, List, [], ◌∷◌, length, set, map, replicate, count_by, All, Option, Some, None, refl, ap, subst, sym, ◌∙◌, arith}
use Rattle.std.specs.Prelude.{slice_get}
use Rattle.std.proofs.lemmas.Bool.{eq-eqb, eqb-true}
use Rattle.std.proofs.lemmas.List.Sums.{sum_by-cons, sum_by-le-sum_by, count_by-le-length}
use Rattle.std.proofs.lemmas.List.Folds.{sum_by-replicate}
use Rattle.std.proofs.lemmas.Option.{slice_get_within, get_or_from_slice_get}
use Rattle.mcs_types.specs.declared.id.ObjId.{ObjId}
use Rattle.mcs_types.specs.declared.cap.Cap.{Cap}
use Rattle.mcs_types.specs.Ids.{same, kind_number}
use Rattle.mcs_types.proofs.Ids.{same-equal}
use Rattle.mcs_book.specs.Slots.{is_cap_to}
use Rattle.mcs_slots.specs.declared.slots.SlotId.{SlotId}
use Rattle.mcs_slots.specs.declared.tallies.TheConstants.{SERIALS}
use Rattle.mcs_slots.specs.declared.tallies.Tally.{Tally}
use Rattle.mcs_slots.specs.Buckets.{bucket_of, falls_in, owns, is_owned}
use Rattle.mcs_slots.specs.Filling.{filled}
use Rattle.mcs_slots.specs.Pages.{Page, empty_page, ArePages, HasSlot, slot_at, held}
use Rattle.mcs_slots.specs.Tallies.{holding, TellsOf, Tells, no_tally, one_less, taken_over, more_by_one, counted, one_more, LetsGo, Counts, AreFrom}
use Rattle.mcs_slots.proofs.SlotLaws.{radix-few, holding-filled, pages-filled, length-filled}

-- one where a test passes
abbrev one : Bool → ℕ
one v = cond v 1 0

-- slots that pass a test pass a weaker one
one-le : (a b : Bool) → (a ≡ true → b ≡ true) → cond a 1 0 ≤ cond b 1 0
one-le true b h = rw (h refl) (omega arith)
one-le false b h = omega arith

holding-le : (q r : Option Cap → Bool) (S : List Page) → ((x : Option Cap) → q x ≡ true → r x ≡ true) → holding q S ≤ holding r S
holding-le q r S h =
    sum_by-le-sum_by (λ (p : Page). count_by q p.caps) (λ (p : Page). count_by r p.caps) S
    (λ p. sum_by-le-sum_by (λ (x : Option Cap). cond (q x) 1 0) (λ (x : Option Cap). cond (r x) 1 0) p.caps (λ x. one-le (q x) (r x) (h x)))

-- there are few slots
holding-few : (q : Option Cap → Bool) (S : List Page) → ArePages S → holding q S ≤ 256 * length S
holding-few q [] h = omega arith
holding-few q (p ∷ ps) h =
    let a = sum_by-cons (λ (x : Page). count_by q x.caps) p ps in
    let b = count_by-le-length q p.caps in
    let c = radix-few p.radix h.0.1 in
    omega (arith, a, b, c, h.0.2, holding-few q ps h.1)

-- empty slots pass no test that asks for a capability
holding-empty : (q : Option Cap → Bool) (rs : List ℕ) → q None ≡ false → holding q (map empty_page rs) ≡ 0
holding-empty q [] none = refl
holding-empty q (r ∷ rs) none =
    let a = sum_by-cons (λ (x : Page). count_by q x.caps) (empty_page r) (map empty_page rs) in
    let b : count_by q (replicate (2 ^ r) None) ≡ 2 ^ r * cond (q None) 1 0 = sum_by-replicate (λ (x : Option Cap). cond (q x) 1 0) (2 ^ r) None in
    let c : 2 ^ r * cond (q None) 1 0 ≡ 0 = rw none (omega arith) in
    omega (arith, a, b, c, holding-empty q rs none)

-- an owner falls in its bucket
owned-falls : (b n : ℕ) (x : Option Cap) → is_owned b n x ≡ true → falls_in b x ≡ true
owned-falls b n None e = absurd cc
owned-falls b n (Some cap) e = go (bucket_of cap.obj == b) refl e
  where
    go : (v : Bool) → (bucket_of cap.obj == b) ≡ v → (v && owns n cap.obj) ≡ true → (bucket_of cap.obj == b) ≡ true
    go true was h = was
    go false was h = absurd cc

-- the slots have one capability more
abbrev OneMore : List Page → Option Cap → List Page → Type 0
OneMore old x new = (q : Option Cap → Bool) → q None ≡ false → holding q new ≡ holding q old + cond (q x) 1 0

-- a test that fails adds nothing
none-more : (q : Option Cap → Bool) (old new : List Page) (x : Option Cap) → OneMore old x new → q None ≡ false → q x ≡ false → holding q new ≡ holding q old
none-more q old new x more none fails = let a = more q none in let b = ap one fails in omega (arith, a, b)

-- the tally of another bucket
falls-other : (b : ℕ) (cap : Cap) → b ≢ bucket_of cap.obj → falls_in b (Some cap) ≡ false
falls-other b cap ne = go (bucket_of cap.obj == b) refl
  where
    go : (v : Bool) → (bucket_of cap.obj == b) ≡ v → v ≡ false
    go true e = absurd (ne (sym (eqb-true (bucket_of cap.obj) b e)))
    go false e = refl

owned-other : (b n : ℕ) (cap : Cap) → b ≢ bucket_of cap.obj → is_owned b n (Some cap) ≡ false
owned-other b n cap ne = ap (λ v. v && owns n cap.obj) (falls-other b cap ne)

less-other : (old new : List Page) (cap : Cap) → OneMore new (Some cap) old → (b : ℕ) (t : Tally) → b ≢ bucket_of cap.obj → TellsOf old b t → TellsOf new b t
less-other old new cap less b t ne told =
    record {
      held = told.held ∙ none-more (is_owned b t.owner) new old (Some cap) less refl (owned-other b t.owner cap ne);
      total = told.total ∙ none-more (falls_in b) new old (Some cap) less refl (falls-other b cap ne);
    }

more-other : (old new : List Page) (cap : Cap) → OneMore old (Some cap) new → (b : ℕ) (t : Tally) → b ≢ bucket_of cap.obj → TellsOf old b t → TellsOf new b t
more-other old new cap more b t ne told =
    record {
      held = told.held ∙ sym (none-more (is_owned b t.owner) old new (Some cap) more refl (owned-other b t.owner cap ne));
      total = told.total ∙ sym (none-more (falls_in b) old new (Some cap) more refl (falls-other b cap ne));
    }

-- the tally of the bucket itself
falls-own : (cap : Cap) → falls_in (bucket_of cap.obj) (Some cap) ≡ true
falls-own cap = eq-eqb (bucket_of cap.obj) (bucket_of cap.obj) refl

owned-own : (n : ℕ) (cap : Cap) → is_owned (bucket_of cap.obj) n (Some cap) ≡ owns n cap.obj
owned-own n cap = ap (λ v. v && owns n cap.obj) (falls-own cap)

one-back : (v : Bool) (n old new : ℕ) → n ≡ old → old ≡ new + cond v 1 0 → cond v (n - 1) n ≡ new
one-back true n old new e f = omega (arith, e, f)
one-back false n old new e f = omega (arith, e, f)

less-here : (old new : List Page) (cap : Cap) (t : Tally) → OneMore new (Some cap) old → TellsOf old (bucket_of cap.obj) t → TellsOf new (bucket_of cap.obj) (one_less cap.obj t)
less-here old new cap t less told =
    record {
      held =
          let q = is_owned (bucket_of cap.obj) t.owner in
          one-back (owns t.owner cap.obj) t.held (holding q old) (holding q new) told.held (less q refl ∙ ap (λ v. holding q new + cond v 1 0) (owned-own t.owner cap));
      total = one-back true t.total (holding (falls_in (bucket_of cap.obj)) old) (holding (falls_in (bucket_of cap.obj)) new) told.total (less (falls_in (bucket_of cap.obj)) refl ∙ ap (λ v. holding (falls_in (bucket_of cap.obj)) new + cond v 1 0) (falls-own cap));
    }

taken-here : (S : List Page) (o : ObjId) (t : Tally) → TellsOf S (bucket_of o) t → TellsOf S (bucket_of o) (taken_over o t)
taken-here S o t told = go (t.total == 0) refl
  where
    go : (v : Bool) → (t.total == 0) ≡ v → TellsOf S (bucket_of o) (cond v (record { owner = o.serial; held = 0; total = 0 }) t)
    go true e =
        let z : t.total ≡ 0 = eqb-true t.total 0 e in
        let le = holding-le (is_owned (bucket_of o) o.serial) (falls_in (bucket_of o)) S (owned-falls (bucket_of o) o.serial) in
        record {
          held = omega (arith, le, told.total, z);
          total = omega (arith, told.total, z);
        }
    go false e = told

one-on : (v : Bool) (n old new : ℕ) → n ≡ old → new ≡ old + cond v 1 0 → new ≤ 16384 → cond v (more_by_one n) n ≡ new
one-on true n old new e f few = omega (arith, e, f, few)
one-on false n old new e f few = omega (arith, e, f, few)

counted-here : (old new : List Page) (cap : Cap) (t : Tally) → OneMore old (Some cap) new → ((q : Option Cap → Bool) → holding q new ≤ 16384) → TellsOf old (bucket_of cap.obj) t → TellsOf new (bucket_of cap.obj) (counted cap.obj t)
counted-here old new cap t more few told =
    record {
      held =
          let q = is_owned (bucket_of cap.obj) t.owner in
          one-on (owns t.owner cap.obj) t.held (holding q old) (holding q new) told.held (more q refl ∙ ap (λ v. holding q old + cond v 1 0) (owned-own t.owner cap)) (few q);
      total = one-on true t.total (holding (falls_in (bucket_of cap.obj)) old) (holding (falls_in (bucket_of cap.obj)) new) told.total (more (falls_in (bucket_of cap.obj)) refl ∙ ap (λ v. holding (falls_in (bucket_of cap.obj)) old + cond v 1 0) (falls-own cap)) (few (falls_in (bucket_of cap.obj)));
    }

-- one tally is set
each-set : (P : ℕ → Tally → Type 0) (T : List Tally) (k : ℕ) (t : Tally) → P k t → ((b : ℕ) (u : Tally) → b ≢ k → slice_get T b ≡ Some u → P b u) → (b : ℕ) (u : Tally) → slice_get (set T k t) b ≡ Some u → P b u
each-set P [] k t here other b u h = absurd cc
each-set P (x ∷ xs) zero t here other zero u h = let e : t ≡ u = cc in subst (P zero) e here
each-set P (x ∷ xs) zero t here other (suc b) u h = other (suc b) u (λ e. absurd cc) h
each-set P (x ∷ xs) (suc k) t here other zero u h = other zero u (λ e. absurd cc) h
each-set P (x ∷ xs) (suc k) t here other (suc b) u h =
    each-set (λ n. P (suc n)) xs k t here (λ n v ne. other (suc n) v (λ e. ne (cc))) b u h

-- where there is a tally is no bucket without one
not-there : (T : List Tally) (k b : ℕ) (t : Tally) → slice_get T k ≡ None → slice_get T b ≡ Some t → b ≢ k
not-there T k b t none at e = absurd (let both : None ≡ Some t = sym none ∙ ap (slice_get T) (sym e) ∙ at in cc)

-- a slot drops what it held
let-go : (x : Option Cap) (T U : List Tally) (old new : List Page) → OneMore new x old → Tells T old → LetsGo T x U → Tells U new
let-go None T U old new less told is b t found =
    let at : slice_get T b ≡ Some t = ap (λ ts. slice_get ts b) (sym is) ∙ found in
    let was = told b t at in
    record {
      held = was.held ∙ none-more (is_owned b t.owner) new old None less refl refl;
      total = was.total ∙ none-more (falls_in b) new old None less refl refl;
    }
let-go (Some cap) T U old new less told is b t found = go (slice_get T (bucket_of cap.obj)) refl
  where
    go : (was : Option Tally) → slice_get T (bucket_of cap.obj) ≡ was → TellsOf new b t
    go None none =
        let at : slice_get T b ≡ Some t = ap (λ ts. slice_get ts b) (sym (is.none none)) ∙ found in
        less-other old new cap less b t (not-there T (bucket_of cap.obj) b t none at) (told b t at)
    go (Some tally) at =
        each-set (TellsOf new) T (bucket_of cap.obj) (one_less cap.obj tally)
        (less-here old new cap tally less (told (bucket_of cap.obj) tally at))
        (λ n u ne h. less-other old new cap less n u ne (told n u h))
        b t (ap (λ ts. slice_get ts b) (sym (is.is tally at)) ∙ found)

-- an empty slot gets this
count : (x : Option Cap) (T U : List Tally) (old new : List Page) → OneMore old x new → ((q : Option Cap → Bool) → holding q new ≤ 16384) → Tells T old → Counts T x U → Tells U new
count None T U old new more few told is b t found =
    let at : slice_get T b ≡ Some t = ap (λ ts. slice_get ts b) (sym is) ∙ found in
    let was = told b t at in
    record {
      held = was.held ∙ sym (none-more (is_owned b t.owner) old new None more refl refl);
      total = was.total ∙ sym (none-more (falls_in b) old new None more refl refl);
    }
count (Some cap) T U old new more few told is b t found = go (slice_get T (bucket_of cap.obj)) refl
  where
    go : (was : Option Tally) → slice_get T (bucket_of cap.obj) ≡ was → TellsOf new b t
    go None none =
        let at : slice_get T b ≡ Some t = ap (λ ts. slice_get ts b) (sym (is.none none)) ∙ found in
        more-other old new cap more b t (not-there T (bucket_of cap.obj) b t none at) (told b t at)
    go (Some tally) at =
        each-set (TellsOf new) T (bucket_of cap.obj) (one_more cap.obj tally)
        (counted-here old new cap (taken_over cap.obj tally) more few (taken-here old cap.obj tally (told (bucket_of cap.obj) tally at)))
        (λ n u ne h. more-other old new cap more n u ne (told n u h))
        b t (ap (λ ts. slice_get ts b) (sym (is.is tally at)) ∙ found)

-- what a slot that is filled changes: it is emptied first
pub filled-told : (S : List Page) (at : SlotId) (cap : Option Cap) (T U V : List Tally) → ArePages S → length S ≤ 64 → HasSlot S at → Tells T S → LetsGo T (slot_at S at.cnode at.index) U → Counts U cap V → Tells V (filled S at cap)
filled-told S at cap T U V pages few has told less more =
    count cap U V (filled S at None) (filled S at cap) gains small (let-go (slot_at S at.cnode at.index) T U S (filled S at None) loses told less) more
  where
    emptied : (q : Option Cap → Bool) → q None ≡ false → holding q (filled S at None) + cond (q (slot_at S at.cnode at.index)) 1 0 ≡ holding q S
    emptied q none = let a = holding-filled q S at None pages has in let b = ap one none in omega (arith, a, b)

    loses : OneMore (filled S at None) (slot_at S at.cnode at.index) S
    loses q none = sym (emptied q none)

    gains : OneMore (filled S at None) cap (filled S at cap)
    gains q none = let a = holding-filled q S at cap pages has in let b = emptied q none in omega (arith, a, b)

    small : (q : Option Cap → Bool) → holding q (filled S at cap) ≤ 16384
    small q = let a = holding-few q (filled S at cap) (pages-filled S at cap pages) in let b = length-filled S at cap in omega (arith, a, b, few)

-- tallies that are from such tell of the same slots
pub from-told : (T U : List Tally) (S : List Page) → AreFrom U T → Tells T S → Tells U S
from-told T U S from told b t found = told b t (from b t found)

-- at the beginning nothing is held
pub empty-told : (T : List Tally) (rs : List ℕ) → All (λ t. t ≡ no_tally) T → Tells T (map empty_page rs)
empty-told T rs all b t found =
    let none : t ≡ no_tally = sym (get_or_from_slice_get T b t t found) ∙ all b t (slice_get_within T b t found) in
    subst (TellsOf (map empty_page rs) b) (sym none) (record {
      held = sym (holding-empty (is_owned b 0) rs refl);
      total = sym (holding-empty (falls_in b) rs refl);
    })

-- the capabilities to the owner of its bucket are those to the object with that serial
owned-same : (o : ObjId) (x : Option Cap) → is_owned (bucket_of o) o.serial x ≡ true → is_cap_to o x ≡ true
owned-same o None e = absurd cc
owned-same o (Some cap) e = go (bucket_of cap.obj == bucket_of o) (o.serial == cap.obj.serial) refl refl e
  where
    go : (v w : Bool) → (bucket_of cap.obj == bucket_of o) ≡ v → (o.serial == cap.obj.serial) ≡ w → (v && w) ≡ true → same cap.obj o ≡ true
    go true true b n h =
        let serial : cap.obj.serial ≡ o.serial = sym (eqb-true o.serial cap.obj.serial n) in
        let bucket : bucket_of cap.obj ≡ bucket_of o = eqb-true (bucket_of cap.obj) (bucket_of o) b in
        let kind : kind_number cap.obj.kind ≡ kind_number o.kind = let m = ap (λ k. k % SERIALS) serial in omega (arith, bucket, m) in
        rw (eq-eqb (kind_number cap.obj.kind) (kind_number o.kind) kind) (eq-eqb cap.obj.serial o.serial serial)
    go true false b n h = absurd cc
    go false w b n h = absurd cc

same-owned : (o : ObjId) (x : Option Cap) → is_cap_to o x ≡ true → is_owned (bucket_of o) o.serial x ≡ true
same-owned o None e = absurd cc
same-owned o (Some cap) e =
    let is : cap.obj ≡ o = same-equal cap.obj o e in
    rw (eq-eqb (bucket_of cap.obj) (bucket_of o) (ap bucket_of is)) (eq-eqb o.serial cap.obj.serial (ap ObjId.serial (sym is)))

-- so the tally of an object that owns its bucket tells how many slots hold a capability to it
pub owner-held : (T : List Tally) (S : List Page) (o : ObjId) (t : Tally) → Tells T S → slice_get T (bucket_of o) ≡ Some t → owns t.owner o ≡ true → t.held ≡ held S o
owner-held T S o t told found own =
    let serial : t.owner ≡ o.serial = eqb-true t.owner o.serial own in
    let is : t.held ≡ holding (is_owned (bucket_of o) o.serial) S = (told (bucket_of o) t found).held ∙ ap (λ n. holding (is_owned (bucket_of o) n) S) serial in
    let below = holding-le (is_owned (bucket_of o) o.serial) (is_cap_to o) S (owned-same o) in
    let above = holding-le (is_cap_to o) (is_owned (bucket_of o) o.serial) S (same-owned o) in
    omega (arith, is, below, above)
