-- What is kept of a plan while a line is read: names, slots and bindings.
use Rattle.std.proofs.Common.{◌≡◌, ◌<◌, ◌≤◌, ◌+◌, ◌&&◌, ◌||◌, ◌++◌, ℕ, zero, suc, Bool, true, false, cond, nat_lt, nat_le, List, [], ◌∷◌, length, Option, Some, None, Ok, Err, IfOk, is_none, bytes_eq, slice_get, length-append, refl, sym, ap, ◌∙◌, subst, arith}
use Rattle.std.specs.List.{list_all}
use Rattle.std.proofs.lemmas.List.Folds.{list_all-append, list_any-append}
use Rattle.std.proofs.lemmas.List.Sums.{sum_by_push}
use Rattle.std.proofs.lemmas.Slice.Eq.{bytes_eq-Decides}
use Rattle.mcs_types.specs.declared.id.ObjId.{ObjId}
use Rattle.mcs_types.specs.declared.id.Kind.{Kind}
use Rattle.mcs_types.specs.declared.id.Kind.TheVariants as kinds
use Rattle.mcs_types.specs.Ids.{same, same_kind}
use Rattle.mcs_types.proofs.Ids.{same_kind-equal, same-equal, same-self}
use Rattle.mcs_plan_source.specs.Naming.{ByName, NameList, find, is_name, count_of, limit_of, next_of}
use Rattle.mcs_plan_source.specs.Refusals.{Refusal, Read, ◌>>=◌, ◌>>◌, need, not_wanted, twice, limit}
use Rattle.mcs_types.specs.declared.cap.Cap.{Cap}
use Rattle.mcs_plan_source.specs.declared.plan.Tie.{Tie}
use Rattle.mcs_plan_source.specs.Lines.{may_have}
use Rattle.mcs_plan_source.specs.Objects.{may_name}
use Rattle.mcs_plan_source.specs.Order.{AreOnce, AreWithin, AreApart}
use Rattle.mcs_plan_source.specs.Saying.{SaidSpace, with_name, with_last, at_place}
use Rattle.mcs_plan_source.specs.Slots.{most_slots}
use Rattle.mcs_plan_source.specs.Threads.{is_thread_bound, is_notification_bound}

-- what holds of what is read, by its parts
pub after : {A B : Type 0} (r : Read A) (f : A → Read B) (P : A → Type 0) (Q : B → Type 0) → IfOk r P → ((x : A) → P x → IfOk (f x) Q) → IfOk (r >>= f) Q
after (Ok x) f P Q h g = g x h
after (Err e) f P Q h g = tt

pub whatever : {A B : Type 0} (r : Read A) (f : A → Read B) (Q : B → Type 0) → ((x : A) → IfOk (f x) Q) → IfOk (r >>= f) Q
whatever (Ok x) f Q g = g x
whatever (Err e) f Q g = tt

pub skipped : {A B : Type 0} (r : Read A) (next : Read B) (Q : B → Type 0) → IfOk next Q → IfOk (r >> next) Q
skipped (Ok x) next Q h = h
skipped (Err e) next Q h = tt

pub tested : {B : Type 0} (b : Bool) (e : Refusal) (next : Read B) (Q : B → Type 0) → (b ≡ true → IfOk next Q) → IfOk (need b e >> next) Q
tested true e next Q f = f refl
tested false e next Q f = tt

pub chosen : {B : Type 0} (b : Bool) (x y : Read B) (Q : B → Type 0) → IfOk x Q → IfOk y Q → IfOk (cond b x y) Q
chosen true x y Q h k = h
chosen false x y Q h k = k

below : (m n : ℕ) → nat_lt m n ≡ true → m < n
below m n h = grind (arith, h)

pub at_most : (m n : ℕ) → nat_le m n ≡ true → m ≤ n
at_most m n h = grind (arith, h)

nothing_there : {X : Type 0} (o : Option X) → is_none o ≡ true → o ≡ None
nothing_there None h = refl
nothing_there (Some x) h = absurd (cc)

-- a name that may be given
pub may : {B : Type 0} (kind : Kind) (name : List ℕ) (names : NameList) (next : Read B) (Q : B → Type 0)
    → (is_name name ≡ true → find names name ≡ None → count_of kind names < limit_of kind → IfOk next Q) → IfOk (may_name kind name names >> next) Q
may kind name names next Q f = go (is_name name) (is_none (find names name)) (nat_lt (count_of kind names) (limit_of kind)) refl refl refl
  where
    go : (a b c : Bool) → is_name name ≡ a → is_none (find names name) ≡ b → nat_lt (count_of kind names) (limit_of kind) ≡ c
        → IfOk ((need a (not_wanted name) >> (need b (twice name) >> need c (limit (limit_of kind)))) >> next) Q
    go true true true p q r = f p (nothing_there (find names name) q) (below (count_of kind names) (limit_of kind) r)
    go true true false p q r = tt
    go true false c p q r = tt
    go false b c p q r = tt

-- texts that differ, either way
turned : (x y : List ℕ) → bytes_eq x y ≡ false → bytes_eq y x ≡ false
turned x y h = go (bytes_eq y x) refl
  where
    go : (b : Bool) → bytes_eq y x ≡ b → b ≡ false
    go true e =
        let here : bytes_eq x y ≡ true = (bytes_eq-Decides x y).1 (sym ((bytes_eq-Decides y x).0 e)) in
        absurd (cc)
    go false e = refl

-- one more that has another name
not_last : {X : Type 0} (es : ByName X) (word name : List ℕ) (x : X) → find es word ≡ None → bytes_eq word name ≡ false → find (es ++ (name, x) ∷ []) word ≡ None
not_last [] word name x none other = ap (λ b. cond b (Some x) None) other
not_last (e ∷ es) word name x none other = go (bytes_eq word e.0) none (not_last es word name x)
  where
    go : (b : Bool) → cond b (Some e.1) (find es word) ≡ None → (find es word ≡ None → bytes_eq word name ≡ false → find (es ++ (name, x) ∷ []) word ≡ None)
        → cond b (Some e.1) (find (es ++ (name, x) ∷ []) word) ≡ None
    go true p more = absurd (cc)
    go false p more = more p other

pub once_more : {X : Type 0} (es : ByName X) (name : List ℕ) (x : X) → AreOnce es → find es name ≡ None → AreOnce (es ++ (name, x) ∷ [])
once_more [] name x once none = (refl, tt)
once_more (e ∷ es) name x once none = go (bytes_eq name e.0) refl none (once_more es name x once.1)
  where
    go : (b : Bool) → bytes_eq name e.0 ≡ b → cond b (Some e.1) (find es name) ≡ None → (find es name ≡ None → AreOnce (es ++ (name, x) ∷ []))
        → (find (es ++ (name, x) ∷ []) e.0 ≡ None) × AreOnce (es ++ (name, x) ∷ [])
    go true p q more = absurd (cc)
    go false p q more = (not_last es e.0 name x once.0 (turned name e.0 p), more q)

-- how many of a kind there are with a name more
pub one_more : (k kind : Kind) (name : List ℕ) (names : NameList) → count_of k (with_name kind name names) ≡ count_of k names + cond (same_kind kind k) 1 0
one_more k kind name names = sum_by_push (λ (n : List ℕ × ObjId). cond (same_kind n.1.kind k) 1 0) names (name, next_of kind names)

pub none_more : (k kind : Kind) (name : List ℕ) (names : NameList) → same_kind kind k ≡ false → count_of k (with_name kind name names) ≡ count_of k names
none_more k kind name names other =
    let same : count_of k (with_name kind name names) ≡ count_of k names + 0 = one_more k kind name names ∙ ap (λ b. count_of k names + cond b 1 0) other in
    omega (arith, same)

within : (k kind : Kind) (name : List ℕ) (names : NameList) → count_of k names ≤ limit_of k → count_of kind names < limit_of kind → count_of k (with_name kind name names) ≤ limit_of k
within k kind name names old room = go (same_kind kind k) refl
  where
    go : (b : Bool) → same_kind kind k ≡ b → count_of k (with_name kind name names) ≤ limit_of k
    go true p =
        let here : count_of k names < limit_of k = subst (λ x. count_of x names < limit_of x) (same_kind-equal kind k p) room in
        let sum : count_of k (with_name kind name names) ≡ count_of k names + 1 = one_more k kind name names ∙ ap (λ b. count_of k names + cond b 1 0) p in
        omega (arith, here, sum)
    go false p =
        let sum : count_of k (with_name kind name names) ≡ count_of k names = none_more k kind name names p in
        omega (arith, old, sum)

-- names as they are to be, of which no more than may be are of the kinds that no line but their own
-- makes
pub record AreTidy (names : NameList) : Type 0 where
  pub named : list_all (λ n. is_name n.0) names ≡ true
  pub once : AreOnce names
  pub endpoints : count_of kinds.Endpoint names ≤ limit_of kinds.Endpoint
  pub notifications : count_of kinds.Notification names ≤ limit_of kinds.Notification
  pub replies : count_of kinds.Reply names ≤ limit_of kinds.Reply

pub tidy_more : (kind : Kind) (name : List ℕ) (names : NameList) → AreTidy names → is_name name ≡ true → find names name ≡ None → count_of kind names < limit_of kind
    → AreTidy (with_name kind name names)
tidy_more kind name names tidy is fresh room =
    record {
      named = list_all-append (λ (n : List ℕ × ObjId). is_name n.0) names ((name, next_of kind names) ∷ []) ∙ both _ _ tidy.named (ap (λ b. b && true) is);
      once = once_more names name (next_of kind names) tidy.once fresh;
      endpoints = within kinds.Endpoint kind name names tidy.endpoints room;
      notifications = within kinds.Notification kind name names tidy.notifications room;
      replies = within kinds.Reply kind name names tidy.replies room;
    }
  where
    both : (a b : Bool) → a ≡ true → b ≡ true → a && b ≡ true
    both true b p q = q
    both false b p q = p

-- slots and bindings, with one more
pub within_more : (spaces : List SaidSpace) (space : SaidSpace) → AreWithin spaces → AreOnce space.slots → length space.slots ≤ most_slots space.radix → AreWithin (spaces ++ space ∷ [])
within_more [] space fit once few = (once, few, tt)
within_more (s ∷ ss) space fit once few = (fit.0, fit.1, within_more ss space fit.2 once few)

may_more : (space : SaidSpace) (name : List ℕ) (cap : Option Cap) → AreOnce space.slots → find space.slots name ≡ None → length space.slots < most_slots space.radix
    → AreOnce (with_last name cap space).slots × (length (with_last name cap space).slots ≤ most_slots space.radix)
may_more space name cap once fresh room =
    let one : length (space.slots ++ (name, cap) ∷ []) ≡ length space.slots + 1 = length-append space.slots ((name, cap) ∷ []) in
    (once_more space.slots name cap once fresh, omega (arith, one, room))

-- a space at a place with a slot more, which it may have
pub slot_within : (spaces : List SaidSpace) (place : ℕ) (name : List ℕ) (cap : Option Cap) → AreWithin spaces
    → IfOk (may_have (slice_get spaces place) name) (λ _. AreWithin (at_place place (with_last name cap) spaces))
slot_within [] place name cap fit = tt
slot_within (s ∷ ss) zero name cap fit = go (is_none (find s.slots name)) (nat_lt (length s.slots) (most_slots s.radix)) refl refl
  where
    go : (a b : Bool) → is_none (find s.slots name) ≡ a → nat_lt (length s.slots) (most_slots s.radix) ≡ b
        → IfOk (need a (twice name) >> need b (limit (most_slots s.radix))) (λ _. AreWithin (with_last name cap s ∷ ss))
    go true true p q =
        let more = may_more s name cap fit.0 (nothing_there (find s.slots name) p) (below (length s.slots) (most_slots s.radix) q) in
        (more.0, more.1, fit.2)
    go true false p q = tt
    go false b p q = tt
slot_within (s ∷ ss) (suc place) name cap fit = go (may_have (slice_get ss place) name) (slot_within ss place name cap fit.2)
  where
    go : (r : Read (Unit {0})) → IfOk r (λ _. AreWithin (at_place place (with_last name cap) ss)) → IfOk r (λ _. AreWithin (s ∷ at_place place (with_last name cap) ss))
    go (Ok x) h = (fit.0, fit.1, h)
    go (Err e) h = tt

-- an object is the same as another, either way
either_way : (a b : ObjId) → same a b ≡ false → same b a ≡ false
either_way a b h = go (same b a) refl
  where
    go : (x : Bool) → same b a ≡ x → x ≡ false
    go true e =
        let is : b ≡ a = same-equal b a e in
        let here : same a b ≡ true = ap (λ c. same a c) is ∙ same-self a in
        absurd (cc)
    go false e = refl

neither : (a b : Bool) → a || b ≡ false → (a ≡ false) × (b ≡ false)
neither true b h = absurd (cc)
neither false b h = (refl, h)

none_of_both : (a b : Bool) → a ≡ false → b ≡ false → a || b ≡ false
none_of_both true b h k = h
none_of_both false b h k = k

pub apart_more : (ties : List Tie) (tie : Tie) → AreApart ties → is_thread_bound ties tie.thread ≡ false → is_notification_bound ties tie.notification ≡ false → AreApart (ties ++ tie ∷ [])
apart_more [] tie apart t n = (refl, refl, tt)
apart_more (x ∷ xs) tie apart t n =
    let threads = neither (same x.thread tie.thread) (is_thread_bound xs tie.thread) t in
    let notifications = neither (same x.notification tie.notification) (is_notification_bound xs tie.notification) n in (
      list_any-append (λ (y : Tie). same y.thread x.thread) xs (tie ∷ []) ∙ none_of_both _ _ apart.0 (none_of_both _ _ (either_way x.thread tie.thread threads.0) refl),
      list_any-append (λ (y : Tie). same y.notification x.notification) xs (tie ∷ []) ∙ none_of_both _ _ apart.1 (none_of_both _ _ (either_way x.notification tie.notification notifications.0) refl),
      apart_more xs tie apart.2 threads.1 notifications.1,
    )
