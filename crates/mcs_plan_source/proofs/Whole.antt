-- A plan in which each object that has a name is there stays so with each line that it takes.
use Rattle.std.proofs.Common.{◌≡◌, ◌<◌, ◌≤◌, ◌+◌, ◌-◌, ◌++◌, ◌==◌, ◌&&◌, is_none, bytes_eq, ℕ, zero, suc, Bool, true, false, cond, not, nat_le, codes, List, [], ◌∷◌, length, length-append, slice_get, Option, Some, None, Ok, Err, IfOk, option_and_then, refl, sym, ap, ◌∙◌, subst, arith, ◌⊎◌, inl, inr}
use Rattle.std.specs.Option.{ok_or, unwrap_or}
use Rattle.mcs_types.specs.Limits.{core_limit}
use Rattle.mcs_types.specs.declared.id.ObjId.{ObjId}
use Rattle.mcs_types.specs.declared.id.CoreId.{CoreId}
use Rattle.mcs_types.specs.declared.id.Kind.{Kind}
use Rattle.mcs_types.specs.declared.id.Kind.TheVariants as kinds
use Rattle.mcs_types.specs.declared.cap.Cap.{Cap}
use Rattle.mcs_types.specs.Ids.{same_kind}
use Rattle.mcs_types.proofs.Ids.{same_kind-equal, same_kind-self}
use Rattle.mcs_plan_source.specs.Naming.{ByName, NameList, find, count_of, next_of}
use Rattle.mcs_plan_source.specs.declared.plan.Thread.{Thread}
use Rattle.mcs_plan_source.specs.Refusals.{Read, ◌>>◌, need, missing, no_name, bound, not_wanted, twice, late_cores}
use Rattle.mcs_plan_source.specs.Saying.{Said, SaidSpace, nothing_said, with_name, with_object, with_context, with_space, with_slot, with_last, at_place}
use Rattle.mcs_plan_source.specs.Making.{keeps_limit}
use Rattle.mcs_plan_source.specs.Order.{AreCounted, AreHoused, IsWhole}
use Rattle.mcs_plan_source.specs.Lines.{held_by, slot_name, may_have, object_more, objects_more, objects_line, slot_added, slot_more, slot_kept, slots_more, has_line, tie_line, cores_line}
use Rattle.mcs_plan_source.specs.ThreadLines.{Form, SaidReceiving, form_said, with_passive, on_then, radix_then, context_more, space_more, with_own_context, with_own_space, thread_of, own_context, thread_more, thread_said, thread_line, context_line, cnode_line, line_begun}
use Rattle.mcs_plan_source.specs.Objects.{named_as}
use Rattle.mcs_plan_source.specs.Threads.{cnode_place, space_named, is_thread_bound, is_notification_bound}
use Rattle.mcs_plan_source.specs.Words.{word_then, end_of, number_then, zero_word}
use Rattle.mcs_plan_source.proofs.Keeping.{after, whatever, skipped, chosen, may, one_more, none_more}

weaker : {A : Type 0} (r : Read A) (P Q : A → Type 0) → ((x : A) → P x → Q x) → IfOk r P → IfOk r Q
weaker (Ok x) P Q f h = f x h
weaker (Err e) P Q f h = tt

-- what is found where a name is added
find_last : {X : Type 0} (es : ByName X) (name word : List ℕ) (x y : X) → find (es ++ (name, x) ∷ []) word ≡ Some y → (find es word ≡ Some y) ⊎ (x ≡ y)
find_last {X = X} [] name word x y h = go (bytes_eq word name) h
  where
    go : (b : Bool) → cond b (Some x) None ≡ Some y → (find {X = X} [] word ≡ Some y) ⊎ (x ≡ y)
    go true e = inr (cc)
    go false e = inl e
find_last (e ∷ es) name word x y h = go (bytes_eq word e.0) h (find_last es name word x y)
  where
    go : (b : Bool) → cond b (Some e.1) (find (es ++ (name, x) ∷ []) word) ≡ Some y
        → (find (es ++ (name, x) ∷ []) word ≡ Some y → (find es word ≡ Some y) ⊎ (x ≡ y)) → (cond b (Some e.1) (find es word) ≡ Some y) ⊎ (x ≡ y)
    go true p more = inl p
    go false p more = more p

no_fewer : (k kind : Kind) (name : List ℕ) (names : NameList) → count_of k names ≤ count_of k (with_name kind name names)
no_fewer k kind name names = omega (arith, one_more k kind name names)

counted_more : (kind : Kind) (name : List ℕ) (names : NameList) → AreCounted names → AreCounted (with_name kind name names)
counted_more kind name names counted word o there = go (find_last names name word (next_of kind names) o there)
  where
    go : (find names word ≡ Some o) ⊎ (next_of kind names ≡ o) → (1 ≤ o.serial) × (o.serial ≤ count_of o.kind (with_name kind name names))
    go (inl before) =
        let here = counted word o before in
        (here.0, omega (arith, here.1, no_fewer o.kind kind name names))
    go (inr is) =
        let self : count_of kind (with_name kind name names) ≡ count_of kind names + 1 = one_more kind kind name names ∙ ap (λ b. count_of kind names + cond b 1 0) (same_kind-self kind) in
        subst (λ (x : ObjId). (1 ≤ x.serial) × (x.serial ≤ count_of x.kind (with_name kind name names))) is (omega arith, omega (arith, self))

-- threads in more spaces, and one thread more
housed_more : (m n : ℕ) (threads : List Thread) → m ≤ n → AreHoused m threads → AreHoused n threads
housed_more m n [] less h = tt
housed_more m n (t ∷ ts) less h = (omega (arith, h.0, less), housed_more m n ts less h.1)

housed_push : (n : ℕ) (threads : List Thread) (t : Thread) → AreHoused n threads → t.space < n → AreHoused n (threads ++ t ∷ [])
housed_push n [] t h less = (less, tt)
housed_push n (x ∷ xs) t h less = (h.0, housed_push n xs t h.1 less)

same_length : (place : ℕ) (f : SaidSpace → SaidSpace) (spaces : List SaidSpace) → length (at_place place f spaces) ≡ length spaces
same_length place f [] = refl
same_length zero f (s ∷ ss) = refl
same_length (suc place) f (s ∷ ss) = ap suc (same_length place f ss)

-- this many threads are named, and not there yet
record LagsBy (n : ℕ) (s : Said) : Type 0 where
  counted : AreCounted s.names
  contexts : length s.contexts ≡ count_of kinds.Context s.names
  spaces : length s.spaces ≡ count_of kinds.CNode s.names
  threads : n + length s.threads ≡ count_of kinds.Thread s.names
  housed : AreHoused (length s.spaces) s.threads

begins : (s : Said) → IsWhole s → LagsBy 0 s
begins s w = record { counted = w.counted; contexts = w.contexts; spaces = w.spaces; threads = omega (arith, w.threads); housed = w.housed }

ends : (s : Said) → LagsBy 0 s → IsWhole s
ends s b = record { counted = b.counted; contexts = b.contexts; spaces = b.spaces; threads = omega (arith, b.threads); housed = b.housed }

-- an object that is no thread, context or space; a thread's name; a context; a space
object_lags : (kind : Kind) (name : List ℕ) (n : ℕ) (s : Said) → same_kind kind kinds.Thread ≡ false → same_kind kind kinds.Context ≡ false → same_kind kind kinds.CNode ≡ false
    → LagsBy n s → IfOk (object_more kind name s) (LagsBy n)
object_lags kind name n s t c m b =
    may kind name s.names (Ok (with_object kind name s)) (LagsBy n) (λ is fresh room.
    record {
      counted = counted_more kind name s.names b.counted;
      contexts = b.contexts ∙ sym (none_more kinds.Context kind name s.names c);
      spaces = b.spaces ∙ sym (none_more kinds.CNode kind name s.names m);
      threads = b.threads ∙ sym (none_more kinds.Thread kind name s.names t);
      housed = b.housed;
    })

thread_lags : (name : List ℕ) (s : Said) → LagsBy 0 s → IfOk (object_more kinds.Thread name s) (LagsBy 1)
thread_lags name s b =
    may kinds.Thread name s.names (Ok (with_object kinds.Thread name s)) (LagsBy 1) (λ is fresh room.
    record {
      counted = counted_more kinds.Thread name s.names b.counted;
      contexts = b.contexts ∙ sym (none_more kinds.Context kinds.Thread name s.names refl);
      spaces = b.spaces ∙ sym (none_more kinds.CNode kinds.Thread name s.names refl);
      threads = omega (arith, b.threads, one_more kinds.Thread kinds.Thread name s.names);
      housed = b.housed;
    })

context_lags : (name : List ℕ) (core : CoreId) (n : ℕ) (s : Said) → LagsBy n s → IfOk (context_more name core s) (LagsBy n)
context_lags name core n s b =
    may kinds.Context name s.names (keeps_limit kinds.Context (with_context name core s) >> Ok (with_context name core s)) (LagsBy n) (λ is fresh room.
    skipped (keeps_limit kinds.Context (with_context name core s)) (Ok (with_context name core s)) (LagsBy n)
    (record {
      counted = counted_more kinds.Context name s.names b.counted;
      contexts = omega (arith, b.contexts, length-append s.contexts (core ∷ []), one_more kinds.Context kinds.Context name s.names);
      spaces = b.spaces ∙ sym (none_more kinds.CNode kinds.Context name s.names refl);
      threads = b.threads ∙ sym (none_more kinds.Thread kinds.Context name s.names refl);
      housed = b.housed;
    }))

space_lags : (name : List ℕ) (radix : Option ℕ) (n : ℕ) (s : Said) → LagsBy n s
    → IfOk (space_more name radix s) (λ more. LagsBy n more × (length s.spaces < length more.spaces))
space_lags name radix n s b =
    may kinds.CNode name s.names (keeps_limit kinds.CNode (with_space name radix s) >> Ok (with_space name radix s)) Kept (λ is fresh room.
    skipped (keeps_limit kinds.CNode (with_space name radix s)) (Ok (with_space name radix s)) Kept (
      record {
        counted = counted_more kinds.CNode name s.names b.counted;
        contexts = b.contexts ∙ sym (none_more kinds.Context kinds.CNode name s.names refl);
        spaces = omega (arith, b.spaces, longer, one_more kinds.CNode kinds.CNode name s.names);
        threads = b.threads ∙ sym (none_more kinds.Thread kinds.CNode name s.names refl);
        housed = housed_more (length s.spaces) (length (with_space name radix s).spaces) s.threads (omega (arith, longer)) b.housed;
      },
      omega (arith, longer),
    ))
  where
    Kept : Said → Type 0
    Kept more = LagsBy n more × (length s.spaces < length more.spaces)

    longer : length (s.spaces ++ (record { radix = radix; slots = [] }) ∷ []) ≡ length s.spaces + 1
    longer = length-append s.spaces ((record { radix = radix; slots = [] }) ∷ [])

-- a space that is named is there
place_there : (o : ObjId) (n : ℕ) → same_kind o.kind kinds.CNode ≡ true → 1 ≤ o.serial → o.serial ≤ n → cnode_place o < n
place_there o n is first last =
    let least : nat_le 1 o.serial ≡ true = grind (arith, first) in
    let at : cnode_place o ≡ o.serial - 1 =
    ap (λ b. unwrap_or (cond (b && nat_le 1 o.serial) (Some (o.serial - 1)) None) 0) is ∙ ap (λ b. unwrap_or (cond b (Some (o.serial - 1)) None) 0) least in
    omega (arith, at, first, last)

named_there : (word : List ℕ) (n : ℕ) (s : Said) → LagsBy n s → IfOk (named_as kinds.CNode word s.names) (λ o. cnode_place o < length s.spaces)
named_there word n s b = go (find s.names word) refl
  where
    of_that : (o : ObjId) (x : Bool) → find s.names word ≡ Some o → same_kind o.kind kinds.CNode ≡ x
        → IfOk (ok_or (cond x (Some o) None) (no_name word)) (λ c. cnode_place c < length s.spaces)
    of_that o true there is =
        let here = b.counted word o there in
        let last : o.serial ≤ length s.spaces =
        subst (λ k. o.serial ≤ k) (ap (λ k. count_of k s.names) (same_kind-equal o.kind kinds.CNode is) ∙ sym b.spaces) here.1 in
        place_there o (length s.spaces) is here.0 last
    of_that o false there is = tt

    go : (f : Option ObjId) → find s.names word ≡ f
        → IfOk (ok_or (option_and_then (λ o. cond (same_kind o.kind kinds.CNode) (Some o) None) f) (no_name word)) (λ c. cnode_place c < length s.spaces)
    go None e = tt
    go (Some o) e = of_that o (same_kind o.kind kinds.CNode) e refl

-- a thread with its context and its space
own_context_lags : (name : List ℕ) (form : Form) (n : ℕ) (s : Said) → LagsBy n s → IfOk (with_own_context name form s) (LagsBy n)
own_context_lags name form n s b =
    chosen form.has_context (context_more (name ++ codes ".context") (record { 0 = form.core }) s) (Ok s) (LagsBy n)
    (context_lags (name ++ codes ".context") (record { 0 = form.core }) n s b) b

own_space_lags : (name : List ℕ) (space : Option (List ℕ)) (n : ℕ) (s : Said) → LagsBy n s → IfOk (with_own_space name space s) (λ r. LagsBy n r.1 × (r.0 < length r.1.spaces))
own_space_lags name None n s b =
    after (space_more (name ++ codes ".space") None s) _ (λ more. LagsBy n more × (length s.spaces < length more.spaces)) (λ (r : ℕ × Said). LagsBy n r.1 × (r.0 < length r.1.spaces))
    (space_lags (name ++ codes ".space") None n s b) (λ more h. h)
own_space_lags name (Some word) n s b =
    after (named_as kinds.CNode word s.names) (λ cnode. Ok (cnode_place cnode, s)) (λ o. cnode_place o < length s.spaces) (λ (r : ℕ × Said). LagsBy n r.1 × (r.0 < length r.1.spaces))
    (named_there word n s b) (λ o less. (b, less))

thread_whole : (name : List ℕ) (priority : ℕ) (form : Form) (s : Said) → IsWhole s → IfOk (thread_more name priority form s) IsWhole
thread_whole name priority form s w =
    after (object_more kinds.Thread name s) _ (LagsBy 1) IsWhole (thread_lags name s (begins s w)) (λ named t.
    after (with_own_context name form named) _ (LagsBy 1) IsWhole (own_context_lags name form 1 named t) (λ with_it u.
    after (with_own_space name form.space with_it) _ (λ (r : ℕ × Said). LagsBy 1 r.1 × (r.0 < length r.1.spaces)) IsWhole (own_space_lags name form.space 1 with_it u) (λ r v.
    record {
      counted = v.0.counted;
      contexts = v.0.contexts;
      spaces = v.0.spaces;
      threads = omega (arith, v.0.threads, length-append r.1.threads ((thread_of priority form r.0 (own_context form named)) ∷ []));
      housed = housed_push (length r.1.spaces) r.1.threads (thread_of priority form r.0 (own_context form named)) v.0.housed v.1;
    })))

thread_line_whole : (line : ℕ) (words : List (List ℕ)) (s : Said) → IsWhole s → IfOk (thread_line line words s) IsWhole
thread_line_whole line words s w =
    after (thread_said line words s) _ IsWhole IsWhole
    (whatever (word_then words) _ IsWhole (λ named.
    whatever (form_said s.cores named.1) _ IsWhole (λ form.
    whatever (ok_or form.priority missing) _ IsWhole (λ priority.
    after (thread_more named.0 priority form s) _ IsWhole IsWhole (thread_whole named.0 priority form s w) (λ more t.
    passive line (next_of kinds.Thread s.names) form.passive more t)))))
    (λ more t.
    skipped (keeps_limit kinds.Thread more) _ IsWhole
    (skipped (keeps_limit kinds.Context more) _ IsWhole
    (skipped (keeps_limit kinds.CNode more) (Ok more) IsWhole t)))
  where
    passive : (line : ℕ) (thread : ObjId) (receiving : Option SaidReceiving) (more : Said) → IsWhole more → IsWhole (with_passive line thread receiving more)
    passive line thread None more t = t
    passive line thread (Some r) more t = record { counted = t.counted; contexts = t.contexts; spaces = t.spaces; threads = t.threads; housed = t.housed }

-- a context, a space, and objects
context_line_whole : (words : List (List ℕ)) (s : Said) → IsWhole s → IfOk (context_line words s) IsWhole
context_line_whole words s w =
    whatever (word_then words) _ IsWhole (λ named.
    whatever (on_then s.cores named.1) _ IsWhole (λ core.
    skipped (end_of core.1) _ IsWhole
    (weaker (context_more named.0 (record { 0 = core.0 }) s) (LagsBy 0) IsWhole (λ more. ends more) (context_lags named.0 (record { 0 = core.0 }) 0 s (begins s w)))))

cnode_line_whole : (words : List (List ℕ)) (s : Said) → IsWhole s → IfOk (cnode_line words s) IsWhole
cnode_line_whole words s w =
    whatever (word_then words) _ IsWhole (λ named.
    whatever (radix_then named.1) _ IsWhole (λ radix.
    skipped (end_of radix.1) _ IsWhole
    (weaker (space_more named.0 radix.0 s) (λ more. LagsBy 0 more × (length s.spaces < length more.spaces)) IsWhole (λ more h. ends more h.0) (space_lags named.0 radix.0 0 s (begins s w)))))

objects_whole : (kind : Kind) (names : List (List ℕ)) (s : Said) → same_kind kind kinds.Thread ≡ false → same_kind kind kinds.Context ≡ false → same_kind kind kinds.CNode ≡ false
    → IsWhole s → IfOk (objects_more kind names s) IsWhole
objects_whole kind [] s t c m w = w
objects_whole kind (name ∷ names) s t c m w =
    after (object_more kind name s) (λ more. objects_more kind names more) (LagsBy 0) IsWhole (object_lags kind name 0 s t c m (begins s w))
    (λ more b. objects_whole kind names more t c m (ends more b))

objects_line_whole : (kind : Kind) (names : List (List ℕ)) (s : Said) → same_kind kind kinds.Thread ≡ false → same_kind kind kinds.Context ≡ false → same_kind kind kinds.CNode ≡ false
    → IsWhole s → IfOk (objects_line kind names s) IsWhole
objects_line_whole kind [] s t c m w = tt
objects_line_whole kind (name ∷ names) s t c m w = objects_whole kind (name ∷ names) s t c m w

-- slots
slot_whole : (place : ℕ) (word : List ℕ) (words : List (List ℕ)) (s : Said) → IsWhole s → IfOk (slot_kept place word words s) (λ r. IsWhole r.0)
slot_whole place word words s w =
    after (slot_more place word words s) _ Kept Kept
    (whatever (held_by s.names word) _ Kept (λ cap.
    whatever (slot_name (slice_get s.spaces place) word words) _ Kept (λ named.
    after (slot_added place named.0 cap s) _ IsWhole Kept (added named.0 cap) (λ more h. h))))
    (λ r h. skipped (keeps_limit kinds.CNode r.0) _ Kept h)
  where
    Kept : Said × List (List ℕ) → Type 0
    Kept r = IsWhole r.0

    added : (name : List ℕ) (cap : Option Cap) → IfOk (slot_added place name cap s) IsWhole
    added name cap =
        let same = same_length place (with_last name cap) s.spaces in
        skipped (may_have (slice_get s.spaces place) name) (Ok (with_slot place name cap s)) IsWhole
        (record {
          counted = w.counted;
          contexts = w.contexts;
          spaces = same ∙ w.spaces;
          threads = w.threads;
          housed = subst (λ n. AreHoused n s.threads) (sym same) w.housed;
        })

slots_whole : (turns place : ℕ) (words : List (List ℕ)) (s : Said) → IsWhole s → IfOk (slots_more turns place words s) IsWhole
slots_whole zero place words s w = w
slots_whole (suc turns) place [] s w = w
slots_whole (suc turns) place (word ∷ words) s w =
    after (slot_kept place word words s) (λ (r : Said × List (List ℕ)). slots_more turns place r.1 r.0) (λ (r : Said × List (List ℕ)). IsWhole r.0) IsWhole
    (slot_whole place word words s w) (λ r h. slots_whole turns place r.1 r.0 h)

has_whole : (name : List ℕ) (words : List (List ℕ)) (s : Said) → IsWhole s → IfOk (has_line name words s) IsWhole
has_whole name words s w =
    whatever (space_named name s) _ IsWhole (λ place.
    skipped (need (not (length words == 0)) missing) _ IsWhole (slots_whole (length words) place words s w))

-- a binding, and the cores
tie_whole : (words : List (List ℕ)) (s : Said) → IsWhole s → IfOk (tie_line words s) IsWhole
tie_whole words s w =
    whatever (word_then words) _ IsWhole (λ first.
    whatever (named_as kinds.Thread first.0 s.names) _ IsWhole (λ thread.
    whatever (word_then first.1) _ IsWhole (λ second.
    whatever (named_as kinds.Notification second.0 s.names) _ IsWhole (λ notification.
    skipped (end_of second.1) _ IsWhole
    (skipped (need (not (is_thread_bound s.ties thread)) (bound first.0)) _ IsWhole
    (skipped (need (not (is_notification_bound s.ties notification)) (bound second.0)) _ IsWhole
    (record { counted = w.counted; contexts = w.contexts; spaces = w.spaces; threads = w.threads; housed = w.housed })))))))

cores_whole : (words : List (List ℕ)) (s : Said) → IsWhole s → IfOk (cores_line words s) IsWhole
cores_whole words s w =
    whatever (number_then core_limit words) _ IsWhole (λ cores.
    skipped (end_of cores.1) _ IsWhole
    (skipped (need (not (cores.0 == 0)) (not_wanted zero_word)) _ IsWhole
    (skipped (need (is_none s.cores) (twice (codes "cores"))) _ IsWhole
    (skipped (need (length s.contexts == 0 && length s.threads == 0) late_cores) _ IsWhole
    (record { counted = w.counted; contexts = w.contexts; spaces = w.spaces; threads = w.threads; housed = w.housed })))))

begun_whole : (line : ℕ) (first : List ℕ) (words : List (List ℕ)) (s : Said) → IsWhole s → IfOk (line_begun line first words s) IsWhole
begun_whole line first words s w =
    chosen (bytes_eq first (codes "cores")) _ _ IsWhole (cores_whole words s w)
    (chosen (bytes_eq first (codes "endpoint")) _ _ IsWhole (objects_line_whole kinds.Endpoint words s refl refl refl w)
    (chosen (bytes_eq first (codes "notification")) _ _ IsWhole (objects_line_whole kinds.Notification words s refl refl refl w)
    (chosen (bytes_eq first (codes "reply")) _ _ IsWhole (objects_line_whole kinds.Reply words s refl refl refl w)
    (chosen (bytes_eq first (codes "context")) _ _ IsWhole (context_line_whole words s w)
    (chosen (bytes_eq first (codes "cnode")) _ _ IsWhole (cnode_line_whole words s w)
    (chosen (bytes_eq first (codes "thread")) _ _ IsWhole (thread_line_whole line words s w)
    (chosen (bytes_eq first (codes "tie")) _ _ IsWhole (tie_whole words s w) tt)))))))

-- what a line gives that is taken
given : (r : Read Said) (new : Said) → r ≡ Ok new → IfOk r IsWhole → IsWhole new
given r new taken h = subst (λ (x : Read Said). IfOk x IsWhole) taken h

pub has_taken_whole : (name : List ℕ) (words : List (List ℕ)) (s new : Said) → has_line name words s ≡ Ok new → IsWhole s → IsWhole new
has_taken_whole name words s new taken w = given (has_line name words s) new taken (has_whole name words s w)

pub begun_taken_whole : (line : ℕ) (first : List ℕ) (words : List (List ℕ)) (s new : Said) → line_begun line first words s ≡ Ok new → IsWhole s → IsWhole new
begun_taken_whole line first words s new taken w = given (line_begun line first words s) new taken (begun_whole line first words s w)

-- a plan that says nothing
pub empty_whole : (s : Said) → s ≡ nothing_said → IsWhole s
empty_whole s e = subst (λ (t : Said). IsWhole t) (sym e) (record { counted = λ word o h. absurd (cc); contexts = refl; spaces = refl; threads = refl; housed = tt })
