-- Which faults a line before the first step is refused for.
use Rattle.std.proofs.Common.{◌≡◌, ◌-◌, ◌++◌, ◌==◌, ◌&&◌, ℕ, zero, suc, Bool, true, false, cond, not, is_none, nat_lt, nat_le, bytes_eq, codes, List, [], ◌∷◌, length, slice_get, Option, Some, None, Ok, Err, IfErr, option_map, refl, subst}
use Rattle.std.specs.Option.{ok_or, unwrap_or}
use Rattle.mcs_types.specs.Limits.{core_limit}
use Rattle.mcs_types.specs.declared.cap.Cap.{Cap}
use Rattle.mcs_types.specs.declared.id.CoreId.{CoreId}
use Rattle.mcs_types.specs.declared.id.ObjId.{ObjId}
use Rattle.mcs_types.specs.declared.id.Kind.{Kind}
use Rattle.mcs_types.specs.declared.id.Kind.TheVariants as kinds
use Rattle.mcs_plan_source.specs.Naming.{NameList, find, is_name, count_of, limit_of}
use Rattle.mcs_plan_source.specs.declared.fault.PlanError.{PlanError}
use Rattle.mcs_plan_source.specs.Numbers.{number_within}
use Rattle.mcs_plan_source.specs.Capabilities.{cap_read, cap_to, name_in}
use Rattle.mcs_plan_source.specs.Lines.{object_more, objects_more, objects_line, is_dash, held_by, says_as, usual_name, given_name, slot_name, may_have, slot_added, slot_more, slot_kept, slots_more, has_line, tie_line, cores_line}
use Rattle.mcs_plan_source.specs.Making.{made_of, keeps_limit}
use Rattle.mcs_plan_source.specs.Objects.{may_name, find_of_kind, named_as}
use Rattle.mcs_plan_source.specs.Refusals.{Refusal, Read, ◌>>=◌, ◌>>◌, need, is_of_line, missing, not_wanted, twice, no_name, limit, bound, late_cores, Refuses, TellsOfLine}
use Rattle.mcs_plan_source.specs.Saying.{Said, SaidSpace, with_object, with_context, with_space, with_slot}
use Rattle.mcs_plan_source.specs.Slots.{most_slots}
use Rattle.mcs_plan_source.specs.ThreadLines.{Form, core_then, receiving_then, taking, without_then, part_then, next_part, parts_then, plain_form, may_be, form_said, context_more, space_more, with_own_context, with_own_space, thread_more, thread_said, thread_line, on_then, context_line, radix_limit, radix_then, cnode_line, line_begun}
use Rattle.mcs_plan_source.specs.Threads.{place_or, space_named, is_thread_bound, is_notification_bound}
use Rattle.mcs_plan_source.specs.Words.{word_then, after_word, end_of, number_then, zero_word}

-- such a fault, or none
abbrev OfLine : {A : Type 0} → Read A → Type 0
OfLine r = IfErr r (λ e. is_of_line e ≡ true)

after : {A B : Type 0} (r : Read A) (f : A → Read B) → OfLine r → ((x : A) → OfLine (f x)) → OfLine (r >>= f)
after (Ok x) f h g = g x
after (Err e) f h g = h

after_it : {A B : Type 0} (r : Read A) (next : Read B) → OfLine r → OfLine next → OfLine (r >> next)
after_it (Ok x) next h k = k
after_it (Err e) next h k = h

tested : (b : Bool) (e : Refusal) → is_of_line e ≡ true → OfLine (need b e)
tested true e h = tt
tested false e h = h

chosen : {A : Type 0} (b : Bool) (x y : Read A) → OfLine x → OfLine y → OfLine (cond b x y)
chosen true x y h k = h
chosen false x y h k = k

there : {A : Type 0} (o : Option A) (e : Refusal) → is_of_line e ≡ true → OfLine (ok_or o e)
there None e h = h
there (Some x) e h = tt

-- words
word_of : (words : List (List ℕ)) → OfLine (word_then words)
word_of [] = refl
word_of (word ∷ words) = tt

after_of : (wanted : List ℕ) (words : List (List ℕ)) → OfLine (after_word wanted words)
after_of wanted [] = refl
after_of wanted (word ∷ words) = chosen (bytes_eq word wanted) (Ok words) (Err (not_wanted word)) tt refl

end_of_line : (words : List (List ℕ)) → OfLine (end_of words)
end_of_line [] = tt
end_of_line (word ∷ words) = refl

number_of_line : (most : ℕ) (words : List (List ℕ)) → OfLine (number_then most words)
number_of_line most [] = refl
number_of_line most (word ∷ words) = there (option_map (λ n. (n, words)) (number_within most word)) (not_wanted word) refl

-- names
may_of : (kind : Kind) (name : List ℕ) (names : NameList) → OfLine (may_name kind name names)
may_of kind name names =
    after_it (need (is_name name) (not_wanted name)) _ (tested (is_name name) (not_wanted name) refl)
    (after_it (need (is_none (find names name)) (twice name)) _ (tested (is_none (find names name)) (twice name) refl)
    (tested (nat_lt (count_of kind names) (limit_of kind)) (limit (limit_of kind)) refl))

named_of : (kind : Kind) (name : List ℕ) (names : NameList) → OfLine (named_as kind name names)
named_of kind name names = there (find_of_kind kind name names) (no_name name) refl

limit_kept : (kind : Kind) (s : Said) → OfLine (keeps_limit kind s)
limit_kept kind s = tested (nat_le (made_of s kind) (limit_of kind)) (limit (limit_of kind)) refl

object_of : (kind : Kind) (name : List ℕ) (s : Said) → OfLine (object_more kind name s)
object_of kind name s = after_it (may_name kind name s.names) (Ok (with_object kind name s)) (may_of kind name s.names) tt

objects_of : (kind : Kind) (names : List (List ℕ)) (s : Said) → OfLine (objects_more kind names s)
objects_of kind [] s = tt
objects_of kind (name ∷ names) s = after (object_more kind name s) (λ more. objects_more kind names more) (object_of kind name s) (λ more. objects_of kind names more)

objects_line_of : (kind : Kind) (names : List (List ℕ)) (s : Said) → OfLine (objects_line kind names s)
objects_line_of kind [] s = refl
objects_line_of kind (name ∷ names) s = objects_of kind (name ∷ names) s

context_of : (name : List ℕ) (core : CoreId) (s : Said) → OfLine (context_more name core s)
context_of name core s =
    after_it (may_name kinds.Context name s.names) _ (may_of kinds.Context name s.names)
    (after_it (keeps_limit kinds.Context (with_context name core s)) (Ok (with_context name core s)) (limit_kept kinds.Context (with_context name core s)) tt)

space_of : (name : List ℕ) (radix : Option ℕ) (s : Said) → OfLine (space_more name radix s)
space_of name radix s =
    after_it (may_name kinds.CNode name s.names) _ (may_of kinds.CNode name s.names)
    (after_it (keeps_limit kinds.CNode (with_space name radix s)) (Ok (with_space name radix s)) (limit_kept kinds.CNode (with_space name radix s)) tt)

-- the parts of a thread's line
core_of : (cores : Option ℕ) (words : List (List ℕ)) → OfLine (core_then cores words)
core_of cores words = after (after_word (codes "core") words) _ (after_of (codes "core") words) (λ rest. number_of_line (unwrap_or cores core_limit - 1) rest)

receiving_of : (words : List (List ℕ)) → OfLine (receiving_then words)
receiving_of words =
    after (after_word (codes "on") words) _ (after_of (codes "on") words) (λ on.
    after (word_then on) _ (word_of on) (λ endpoint.
    after (after_word (codes "with") endpoint.1) _ (after_of (codes "with") endpoint.1) (λ rest.
    after (word_then rest) _ (word_of rest) (λ reply. tt))))

without_of : (words : List (List ℕ)) → OfLine (without_then words)
without_of words = after (after_word (codes "context") words) _ (after_of (codes "context") words) (λ left. tt)

taking_of : {X : Type 0} (change : X → Form) (read : Read (X × List (List ℕ))) → OfLine read → OfLine (taking change read)
taking_of change (Ok x) h = tt
taking_of change (Err e) h = h

part_of : (cores : Option ℕ) (part : List ℕ) (words : List (List ℕ)) (form : Form) → OfLine (part_then cores part words form)
part_of cores part words form =
    chosen (bytes_eq part (codes "prio")) _ _ (taking_of _ (number_then 255 words) (number_of_line 255 words))
    (chosen (bytes_eq part (codes "max")) _ _ (taking_of _ (number_then 255 words) (number_of_line 255 words))
    (chosen (bytes_eq part (codes "on")) _ _ (taking_of _ (core_then cores words) (core_of cores words))
    (chosen (bytes_eq part (codes "stopped")) _ _ tt
    (chosen (bytes_eq part (codes "without")) _ _ (taking_of _ (without_then words) (without_of words))
    (chosen (bytes_eq part (codes "in")) _ _ (taking_of _ (word_then words) (word_of words))
    (chosen (bytes_eq part (codes "passive")) _ _ (taking_of _ (receiving_then words) (receiving_of words)) refl))))))

next_of_line : (cores : Option ℕ) (words : List (List ℕ)) (form : Form) → OfLine (next_part cores words form)
next_of_line cores [] form = tt
next_of_line cores (part ∷ words) form = part_of cores part words form

parts_of : (turns : ℕ) (cores : Option ℕ) (words : List (List ℕ)) (form : Form) → OfLine (parts_then turns cores words form)
parts_of zero cores words form = tt
parts_of (suc turns) cores words form =
    after (next_part cores words form) (λ (r : Form × List (List ℕ)). parts_then turns cores r.1 r.0) (next_of_line cores words form) (λ r. parts_of turns cores r.1 r.0)

form_of_line : (cores : Option ℕ) (words : List (List ℕ)) → OfLine (form_said cores words)
form_of_line cores words =
    after (parts_then (length words) cores words plain_form) _ (parts_of (length words) cores words plain_form) (λ form.
    after_it (need (may_be form) (not_wanted (codes "without"))) (Ok form) (tested (may_be form) (not_wanted (codes "without")) refl) tt)

-- a thread
own_context_of : (name : List ℕ) (form : Form) (s : Said) → OfLine (with_own_context name form s)
own_context_of name form s =
    chosen form.has_context (context_more (name ++ codes ".context") (record { 0 = form.core }) s) (Ok s)
    (context_of (name ++ codes ".context") (record { 0 = form.core }) s) tt

own_space_of : (name : List ℕ) (space : Option (List ℕ)) (s : Said) → OfLine (with_own_space name space s)
own_space_of name None s = after (space_more (name ++ codes ".space") None s) _ (space_of (name ++ codes ".space") None s) (λ more. tt)
own_space_of name (Some word) s = after (named_as kinds.CNode word s.names) _ (named_of kinds.CNode word s.names) (λ cnode. tt)

thread_of_line : (name : List ℕ) (priority : ℕ) (form : Form) (s : Said) → OfLine (thread_more name priority form s)
thread_of_line name priority form s =
    after (object_more kinds.Thread name s) _ (object_of kinds.Thread name s) (λ named.
    after (with_own_context name form named) _ (own_context_of name form named) (λ with_it.
    after (with_own_space name form.space with_it) _ (own_space_of name form.space with_it) (λ r. tt)))

thread_line_of : (line : ℕ) (words : List (List ℕ)) (s : Said) → OfLine (thread_line line words s)
thread_line_of line words s =
    after (thread_said line words s) _
    (after (word_then words) _ (word_of words) (λ named.
    after (form_said s.cores named.1) _ (form_of_line s.cores named.1) (λ form.
    after (ok_or form.priority missing) _ (there form.priority missing refl) (λ priority.
    after (thread_more named.0 priority form s) _ (thread_of_line named.0 priority form s) (λ more. tt)))))
    (λ more.
    after_it (keeps_limit kinds.Thread more) _ (limit_kept kinds.Thread more)
    (after_it (keeps_limit kinds.Context more) _ (limit_kept kinds.Context more)
    (after_it (keeps_limit kinds.CNode more) (Ok more) (limit_kept kinds.CNode more) tt)))

-- a context, and a space
on_of : (cores : Option ℕ) (words : List (List ℕ)) → OfLine (on_then cores words)
on_of cores [] = tt
on_of cores (word ∷ words) = after (after_word (codes "on") (word ∷ words)) _ (after_of (codes "on") (word ∷ words)) (λ rest. core_of cores rest)

context_line_of : (words : List (List ℕ)) (s : Said) → OfLine (context_line words s)
context_line_of words s =
    after (word_then words) _ (word_of words) (λ named.
    after (on_then s.cores named.1) _ (on_of s.cores named.1) (λ core.
    after_it (end_of core.1) _ (end_of_line core.1) (context_of named.0 (record { 0 = core.0 }) s)))

radix_of : (words : List (List ℕ)) → OfLine (radix_then words)
radix_of [] = tt
radix_of (word ∷ words) =
    after (number_then radix_limit (word ∷ words)) _ (number_of_line radix_limit (word ∷ words)) (λ n.
    after_it (need (not (n.0 == 0)) (not_wanted zero_word)) _ (tested (not (n.0 == 0)) (not_wanted zero_word) refl) tt)

cnode_line_of : (words : List (List ℕ)) (s : Said) → OfLine (cnode_line words s)
cnode_line_of words s =
    after (word_then words) _ (word_of words) (λ named.
    after (radix_then named.1) _ (radix_of named.1) (λ radix.
    after_it (end_of radix.1) _ (end_of_line radix.1) (space_of named.0 radix.0 s)))

-- slots
cap_of : (names : NameList) (word : List ℕ) → OfLine (cap_read names word)
cap_of names word =
    after (ok_or (find names (name_in word)) (no_name (name_in word))) _ (there (find names (name_in word)) (no_name (name_in word)) refl) (λ obj.
    there (cap_to obj word) (not_wanted word) refl)

held_of : (names : NameList) (word : List ℕ) → OfLine (held_by names word)
held_of names word = chosen (is_dash word) _ _ tt (after (cap_read names word) _ (cap_of names word) (λ cap. tt))

usual_of : (space : Option SaidSpace) (word : List ℕ) → OfLine (usual_name space word)
usual_of space word = after_it (need (not (is_dash word)) missing) _ (tested (not (is_dash word)) missing refl) tt

given_of : (words : List (List ℕ)) → OfLine (given_name words)
given_of [] = refl
given_of (as_word ∷ words) =
    after (word_then words) _ (word_of words) (λ named.
    after_it (need (is_name named.0) (not_wanted named.0)) _ (tested (is_name named.0) (not_wanted named.0) refl) tt)

slot_name_of : (space : Option SaidSpace) (word : List ℕ) (words : List (List ℕ)) → OfLine (slot_name space word words)
slot_name_of space word words = chosen (says_as words) _ _ (given_of words) (after (usual_name space word) _ (usual_of space word) (λ name. tt))

may_have_of : (space : Option SaidSpace) (name : List ℕ) → OfLine (may_have space name)
may_have_of None name = tt
may_have_of (Some space) name =
    after_it (need (is_none (find space.slots name)) (twice name)) _ (tested (is_none (find space.slots name)) (twice name) refl)
    (tested (nat_lt (length space.slots) (most_slots space.radix)) (limit (most_slots space.radix)) refl)

added_of : (place : ℕ) (name : List ℕ) (cap : Option Cap) (s : Said) → OfLine (slot_added place name cap s)
added_of place name cap s = after_it (may_have (slice_get s.spaces place) name) (Ok (with_slot place name cap s)) (may_have_of (slice_get s.spaces place) name) tt

slot_of : (place : ℕ) (word : List ℕ) (words : List (List ℕ)) (s : Said) → OfLine (slot_kept place word words s)
slot_of place word words s =
    after (slot_more place word words s) _
    (after (held_by s.names word) _ (held_of s.names word) (λ cap.
    after (slot_name (slice_get s.spaces place) word words) _ (slot_name_of (slice_get s.spaces place) word words) (λ named.
    after (slot_added place named.0 cap s) _ (added_of place named.0 cap s) (λ more. tt))))
    (λ r. after_it (keeps_limit kinds.CNode r.0) _ (limit_kept kinds.CNode r.0) tt)

slots_of : (turns place : ℕ) (words : List (List ℕ)) (s : Said) → OfLine (slots_more turns place words s)
slots_of zero place words s = tt
slots_of (suc turns) place [] s = tt
slots_of (suc turns) place (word ∷ words) s =
    after (slot_kept place word words s) (λ (r : Said × List (List ℕ)). slots_more turns place r.1 r.0) (slot_of place word words s) (λ r. slots_of turns place r.1 r.0)

place_of_line : (o : Option ObjId) (word : List ℕ) (s : Said) → OfLine (place_or o word s)
place_of_line None word s = after (named_as kinds.Thread word s.names) _ (named_of kinds.Thread word s.names) (λ thread. tt)
place_of_line (Some cnode) word s = tt

has_of : (name : List ℕ) (words : List (List ℕ)) (s : Said) → OfLine (has_line name words s)
has_of name words s =
    after (space_named name s) _ (place_of_line (find_of_kind kinds.CNode name s.names) name s) (λ place.
    after_it (need (not (length words == 0)) missing) _ (tested (not (length words == 0)) missing refl) (slots_of (length words) place words s))

-- a binding, and the cores
tie_of : (words : List (List ℕ)) (s : Said) → OfLine (tie_line words s)
tie_of words s =
    after (word_then words) _ (word_of words) (λ first.
    after (named_as kinds.Thread first.0 s.names) _ (named_of kinds.Thread first.0 s.names) (λ thread.
    after (word_then first.1) _ (word_of first.1) (λ second.
    after (named_as kinds.Notification second.0 s.names) _ (named_of kinds.Notification second.0 s.names) (λ notification.
    after_it (end_of second.1) _ (end_of_line second.1)
    (after_it (need (not (is_thread_bound s.ties thread)) (bound first.0)) _ (tested (not (is_thread_bound s.ties thread)) (bound first.0) refl)
    (after_it (need (not (is_notification_bound s.ties notification)) (bound second.0)) _ (tested (not (is_notification_bound s.ties notification)) (bound second.0) refl) tt))))))

cores_of : (words : List (List ℕ)) (s : Said) → OfLine (cores_line words s)
cores_of words s =
    after (number_then core_limit words) _ (number_of_line core_limit words) (λ cores.
    after_it (end_of cores.1) _ (end_of_line cores.1)
    (after_it (need (not (cores.0 == 0)) (not_wanted zero_word)) _ (tested (not (cores.0 == 0)) (not_wanted zero_word) refl)
    (after_it (need (is_none s.cores) (twice (codes "cores"))) _ (tested (is_none s.cores) (twice (codes "cores")) refl)
    (after_it (need (length s.contexts == 0 && length s.threads == 0) late_cores) _ (tested (length s.contexts == 0 && length s.threads == 0) late_cores refl) tt))))

begun_of : (line : ℕ) (first : List ℕ) (words : List (List ℕ)) (s : Said) → OfLine (line_begun line first words s)
begun_of line first words s =
    chosen (bytes_eq first (codes "cores")) _ _ (cores_of words s)
    (chosen (bytes_eq first (codes "endpoint")) _ _ (objects_line_of kinds.Endpoint words s)
    (chosen (bytes_eq first (codes "notification")) _ _ (objects_line_of kinds.Notification words s)
    (chosen (bytes_eq first (codes "reply")) _ _ (objects_line_of kinds.Reply words s)
    (chosen (bytes_eq first (codes "context")) _ _ (context_line_of words s)
    (chosen (bytes_eq first (codes "cnode")) _ _ (cnode_line_of words s)
    (chosen (bytes_eq first (codes "thread")) _ _ (thread_line_of line words s)
    (chosen (bytes_eq first (codes "tie")) _ _ (tie_of words s) refl)))))))

-- a fault that is reported
refusal_of : {A : Type 0} (r : Read A) (w : PlanError) → OfLine r → Refuses r w → TellsOfLine w
refusal_of {A} r w h refuses = λ e p. subst (λ (x : Read A). OfLine x) (refuses e p) h

pub has_refused : (name : List ℕ) (words : List (List ℕ)) (s : Said) (w : PlanError) → Refuses (has_line name words s) w → TellsOfLine w
has_refused name words s w refuses = refusal_of (has_line name words s) w (has_of name words s) refuses

pub begun_refused : (line : ℕ) (first : List ℕ) (words : List (List ℕ)) (s : Said) (w : PlanError) → Refuses (line_begun line first words s) w → TellsOfLine w
begun_refused line first words s w refuses = refusal_of (line_begun line first words s) w (begun_of line first words s) refuses
