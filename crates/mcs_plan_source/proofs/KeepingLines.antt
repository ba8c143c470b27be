-- A plan in which all is in order stays so with each line that it takes.
use Rattle.std.proofs.Common.{◌≡◌, ◌≤◌, ◌++◌, ◌==◌, ◌&&◌, is_none, bytes_eq, ℕ, zero, suc, Bool, true, false, not, nat_le, codes, List, [], ◌∷◌, length, slice_get, Option, Some, None, Ok, Err, IfOk, refl, sym, subst, arith}
use Rattle.std.specs.Option.{ok_or}
use Rattle.mcs_types.specs.Limits.{core_limit}
use Rattle.mcs_types.specs.declared.id.ObjId.{ObjId}
use Rattle.mcs_types.specs.declared.id.CoreId.{CoreId}
use Rattle.mcs_types.specs.declared.id.Kind.{Kind}
use Rattle.mcs_types.specs.declared.id.Kind.TheVariants as kinds
use Rattle.mcs_types.specs.declared.cap.Cap.{Cap}
use Rattle.mcs_types.specs.Ids.{same_kind}
use Rattle.mcs_plan_source.specs.Naming.{limit_of, next_of}
use Rattle.mcs_plan_source.specs.Refusals.{Read, ◌>>◌, need, limit, missing, bound, not_wanted, twice, late_cores}
use Rattle.mcs_plan_source.specs.Saying.{Said, nothing_said, with_object, with_context, with_space, with_slot, with_last, at_place}
use Rattle.mcs_plan_source.specs.Making.{made_of, keeps_limit}
use Rattle.mcs_plan_source.specs.Order.{AreWithin, AreApart, IsInOrder}
use Rattle.mcs_plan_source.specs.Lines.{held_by, slot_name, may_have, object_more, objects_more, objects_line, slot_added, slot_more, slot_kept, slots_more, has_line, tie_line, cores_line}
use Rattle.mcs_plan_source.specs.ThreadLines.{Form, SaidReceiving, form_said, with_passive, on_then, radix_then, context_more, space_more, with_own_context, with_own_space, thread_more, thread_said, thread_line, context_line, cnode_line, line_begun}
use Rattle.mcs_plan_source.specs.Objects.{named_as}
use Rattle.mcs_plan_source.specs.Threads.{cnode_place, space_named, is_thread_bound, is_notification_bound}
use Rattle.mcs_plan_source.specs.Words.{word_then, end_of, number_then, zero_word}
use Rattle.mcs_plan_source.proofs.Keeping.{after, whatever, skipped, tested, chosen, at_most, may, none_more, AreTidy, tidy_more, within_more, slot_within, apart_more}

-- names, slots and bindings are in order
record IsTidy (s : Said) : Type 0 where
  names : AreTidy s.names
  spaces : AreWithin s.spaces
  ties : AreApart s.ties

-- and so are the kinds of which each thread has one
record AreKept (s : Said) : Type 0 where
  threads : made_of s kinds.Thread ≤ limit_of kinds.Thread
  contexts : made_of s kinds.Context ≤ limit_of kinds.Context
  cnodes : made_of s kinds.CNode ≤ limit_of kinds.CNode

in_order : (s : Said) → IsTidy s → AreKept s → IsInOrder s
in_order s tidy kept =
    record { names = tidy.names.named; once = tidy.names.once; limits = limits; spaces = tidy.spaces; ties = tidy.ties }
  where
    limits : (kind : Kind) → made_of s kind ≤ limit_of kind
    limits kinds.CNode = kept.cnodes
    limits kinds.Thread = kept.threads
    limits kinds.Endpoint = omega (arith, tidy.names.endpoints)
    limits kinds.Notification = omega (arith, tidy.names.notifications)
    limits kinds.Reply = omega (arith, tidy.names.replies)
    limits kinds.Context = kept.contexts

is_tidy : (s : Said) → IsInOrder s → IsTidy s
is_tidy s order =
    record {
      names =
          record {
            named = order.names;
            once = order.once;
            endpoints = omega (arith, order.limits kinds.Endpoint);
            notifications = omega (arith, order.limits kinds.Notification);
            replies = omega (arith, order.limits kinds.Reply);
          };
      spaces = order.spaces;
      ties = order.ties;
    }

are_kept : (s : Said) → IsInOrder s → AreKept s
are_kept s order = record { threads = order.limits kinds.Thread; contexts = order.limits kinds.Context; cnodes = order.limits kinds.CNode }

-- an object more
object_tidy : (kind : Kind) (name : List ℕ) (s : Said) → IsTidy s → IfOk (object_more kind name s) IsTidy
object_tidy kind name s tidy =
    may kind name s.names (Ok (with_object kind name s)) IsTidy (λ is fresh room.
    record { names = tidy_more kind name s.names tidy.names is fresh room; spaces = tidy.spaces; ties = tidy.ties })

context_tidy : (name : List ℕ) (core : CoreId) (s : Said) → IsTidy s → IfOk (context_more name core s) IsTidy
context_tidy name core s tidy =
    may kinds.Context name s.names (keeps_limit kinds.Context (with_context name core s) >> Ok (with_context name core s)) IsTidy (λ is fresh room.
    skipped (keeps_limit kinds.Context (with_context name core s)) (Ok (with_context name core s)) IsTidy
    (record { names = tidy_more kinds.Context name s.names tidy.names is fresh room; spaces = tidy.spaces; ties = tidy.ties }))

space_tidy : (name : List ℕ) (radix : Option ℕ) (s : Said) → IsTidy s → IfOk (space_more name radix s) IsTidy
space_tidy name radix s tidy =
    may kinds.CNode name s.names (keeps_limit kinds.CNode (with_space name radix s) >> Ok (with_space name radix s)) IsTidy (λ is fresh room.
    skipped (keeps_limit kinds.CNode (with_space name radix s)) (Ok (with_space name radix s)) IsTidy
    (record {
      names = tidy_more kinds.CNode name s.names tidy.names is fresh room;
      spaces = within_more s.spaces (record { radix = radix; slots = [] }) tidy.spaces tt (omega arith);
      ties = tidy.ties;
    }))

own_context_tidy : (name : List ℕ) (form : Form) (s : Said) → IsTidy s → IfOk (with_own_context name form s) IsTidy
own_context_tidy name form s tidy =
    chosen form.has_context (context_more (name ++ codes ".context") (record { 0 = form.core }) s) (Ok s) IsTidy
    (context_tidy (name ++ codes ".context") (record { 0 = form.core }) s tidy) tidy

own_space_tidy : (name : List ℕ) (space : Option (List ℕ)) (s : Said) → IsTidy s → IfOk (with_own_space name space s) (λ r. IsTidy r.1)
own_space_tidy name None s tidy =
    after (space_more (name ++ codes ".space") None s) _ IsTidy (λ (r : ℕ × Said). IsTidy r.1) (space_tidy (name ++ codes ".space") None s tidy) (λ more t. t)
own_space_tidy name (Some word) s tidy =
    whatever (named_as kinds.CNode word s.names) (λ cnode. Ok (cnode_place cnode, s)) (λ (r : ℕ × Said). IsTidy r.1) (λ cnode. tidy)

thread_tidy : (name : List ℕ) (priority : ℕ) (form : Form) (s : Said) → IsTidy s → IfOk (thread_more name priority form s) IsTidy
thread_tidy name priority form s tidy =
    after (object_more kinds.Thread name s) _ IsTidy IsTidy (object_tidy kinds.Thread name s tidy) (λ named t.
    after (with_own_context name form named) _ IsTidy IsTidy (own_context_tidy name form named t) (λ with_it u.
    after (with_own_space name form.space with_it) _ (λ (r : ℕ × Said). IsTidy r.1) IsTidy (own_space_tidy name form.space with_it u) (λ r v.
    record { names = v.names; spaces = v.spaces; ties = v.ties })))

-- a thread
said_tidy : (line : ℕ) (words : List (List ℕ)) (s : Said) → IsTidy s → IfOk (thread_said line words s) IsTidy
said_tidy line words s tidy =
    whatever (word_then words) _ IsTidy (λ named.
    whatever (form_said s.cores named.1) _ IsTidy (λ form.
    whatever (ok_or form.priority missing) _ IsTidy (λ priority.
    after (thread_more named.0 priority form s) _ IsTidy IsTidy (thread_tidy named.0 priority form s tidy) (λ more t.
    passive line (next_of kinds.Thread s.names) form.passive more t))))
  where
    passive : (line : ℕ) (thread : ObjId) (receiving : Option SaidReceiving) (more : Said) → IsTidy more → IsTidy (with_passive line thread receiving more)
    passive line thread None more t = t
    passive line thread (Some r) more t = record { names = t.names; spaces = t.spaces; ties = t.ties }

thread_in_order : (line : ℕ) (words : List (List ℕ)) (s : Said) → IsInOrder s → IfOk (thread_line line words s) IsInOrder
thread_in_order line words s order =
    after (thread_said line words s) _ IsTidy IsInOrder (said_tidy line words s (is_tidy s order)) (λ more t.
    tested (nat_le (made_of more kinds.Thread) (limit_of kinds.Thread)) (limit (limit_of kinds.Thread)) _ IsInOrder (λ a.
    tested (nat_le (made_of more kinds.Context) (limit_of kinds.Context)) (limit (limit_of kinds.Context)) _ IsInOrder (λ b.
    tested (nat_le (made_of more kinds.CNode) (limit_of kinds.CNode)) (limit (limit_of kinds.CNode)) _ IsInOrder (λ c.
    in_order more t (record { threads = at_most _ _ a; contexts = at_most _ _ b; cnodes = at_most _ _ c })))))

-- a context, and a space
context_in_order : (name : List ℕ) (core : CoreId) (s : Said) → IsInOrder s → IfOk (context_more name core s) IsInOrder
context_in_order name core s order =
    may kinds.Context name s.names (keeps_limit kinds.Context more >> Ok more) IsInOrder (λ is fresh room.
    tested (nat_le (made_of more kinds.Context) (limit_of kinds.Context)) (limit (limit_of kinds.Context)) (Ok more) IsInOrder (λ a.
    in_order more
    (record { names = tidy_more kinds.Context name s.names (is_tidy s order).names is fresh room; spaces = order.spaces; ties = order.ties })
    (record {
      threads = omega (arith, order.limits kinds.Thread, none_more kinds.Thread kinds.Context name s.names refl);
      contexts = at_most _ _ a;
      cnodes = omega (arith, order.limits kinds.CNode, none_more kinds.CNode kinds.Context name s.names refl);
    })))
  where
    more : Said
    more = with_context name core s

space_in_order : (name : List ℕ) (radix : Option ℕ) (s : Said) → IsInOrder s → IfOk (space_more name radix s) IsInOrder
space_in_order name radix s order =
    may kinds.CNode name s.names (keeps_limit kinds.CNode more >> Ok more) IsInOrder (λ is fresh room.
    tested (nat_le (made_of more kinds.CNode) (limit_of kinds.CNode)) (limit (limit_of kinds.CNode)) (Ok more) IsInOrder (λ a.
    in_order more
    (record {
      names = tidy_more kinds.CNode name s.names (is_tidy s order).names is fresh room;
      spaces = within_more s.spaces (record { radix = radix; slots = [] }) order.spaces tt (omega arith);
      ties = order.ties;
    })
    (record {
      threads = omega (arith, order.limits kinds.Thread, none_more kinds.Thread kinds.CNode name s.names refl);
      contexts = omega (arith, order.limits kinds.Context, none_more kinds.Context kinds.CNode name s.names refl);
      cnodes = at_most _ _ a;
    })))
  where
    more : Said
    more = with_space name radix s

context_line_in_order : (words : List (List ℕ)) (s : Said) → IsInOrder s → IfOk (context_line words s) IsInOrder
context_line_in_order words s order =
    whatever (word_then words) _ IsInOrder (λ named.
    whatever (on_then s.cores named.1) _ IsInOrder (λ core.
    skipped (end_of core.1) _ IsInOrder (context_in_order named.0 (record { 0 = core.0 }) s order)))

cnode_line_in_order : (words : List (List ℕ)) (s : Said) → IsInOrder s → IfOk (cnode_line words s) IsInOrder
cnode_line_in_order words s order =
    whatever (word_then words) _ IsInOrder (λ named.
    whatever (radix_then named.1) _ IsInOrder (λ radix.
    skipped (end_of radix.1) _ IsInOrder (space_in_order named.0 radix.0 s order)))

-- objects of a kind of which no thread has one
object_in_order : (kind : Kind) (name : List ℕ) (s : Said) → same_kind kind kinds.Thread ≡ false → same_kind kind kinds.Context ≡ false → same_kind kind kinds.CNode ≡ false
    → IsInOrder s → IfOk (object_more kind name s) IsInOrder
object_in_order kind name s t c n order =
    may kind name s.names (Ok (with_object kind name s)) IsInOrder (λ is fresh room.
    in_order (with_object kind name s)
    (record { names = tidy_more kind name s.names (is_tidy s order).names is fresh room; spaces = order.spaces; ties = order.ties })
    (record {
      threads = omega (arith, order.limits kinds.Thread, none_more kinds.Thread kind name s.names t);
      contexts = omega (arith, order.limits kinds.Context, none_more kinds.Context kind name s.names c);
      cnodes = omega (arith, order.limits kinds.CNode, none_more kinds.CNode kind name s.names n);
    }))

objects_in_order : (kind : Kind) (names : List (List ℕ)) (s : Said) → same_kind kind kinds.Thread ≡ false → same_kind kind kinds.Context ≡ false → same_kind kind kinds.CNode ≡ false
    → IsInOrder s → IfOk (objects_more kind names s) IsInOrder
objects_in_order kind [] s t c n order = order
objects_in_order kind (name ∷ names) s t c n order =
    after (object_more kind name s) (λ more. objects_more kind names more) IsInOrder IsInOrder (object_in_order kind name s t c n order)
    (λ more o. objects_in_order kind names more t c n o)

objects_line_in_order : (kind : Kind) (names : List (List ℕ)) (s : Said) → same_kind kind kinds.Thread ≡ false → same_kind kind kinds.Context ≡ false → same_kind kind kinds.CNode ≡ false
    → IsInOrder s → IfOk (objects_line kind names s) IsInOrder
objects_line_in_order kind [] s t c n order = tt
objects_line_in_order kind (name ∷ names) s t c n order = objects_in_order kind (name ∷ names) s t c n order

-- a slot, where the CNodes are looked at after it
record IsAhead (s : Said) : Type 0 where
  tidy : IsTidy s
  threads : made_of s kinds.Thread ≤ limit_of kinds.Thread
  contexts : made_of s kinds.Context ≤ limit_of kinds.Context

added_ahead : (place : ℕ) (name : List ℕ) (cap : Option Cap) (s : Said) → IsInOrder s → IfOk (slot_added place name cap s) IsAhead
added_ahead place name cap s order = go (may_have (slice_get s.spaces place) name) (slot_within s.spaces place name cap order.spaces)
  where
    go : (r : Read (Unit {0})) → IfOk r (λ _. AreWithin (at_place place (with_last name cap) s.spaces)) → IfOk (r >> Ok (with_slot place name cap s)) IsAhead
    go (Ok x) h =
        record {
          tidy = record { names = (is_tidy s order).names; spaces = h; ties = order.ties };
          threads = order.limits kinds.Thread;
          contexts = order.limits kinds.Context;
        }
    go (Err e) h = tt

slot_ahead : (place : ℕ) (word : List ℕ) (words : List (List ℕ)) (s : Said) → IsInOrder s → IfOk (slot_more place word words s) (λ r. IsAhead r.0)
slot_ahead place word words s order =
    whatever (held_by s.names word) _ (λ (r : Said × List (List ℕ)). IsAhead r.0) (λ cap.
    whatever (slot_name (slice_get s.spaces place) word words) _ (λ (r : Said × List (List ℕ)). IsAhead r.0) (λ named.
    after (slot_added place named.0 cap s) _ IsAhead (λ (r : Said × List (List ℕ)). IsAhead r.0) (added_ahead place named.0 cap s order) (λ more h. h)))

slot_in_order : (place : ℕ) (word : List ℕ) (words : List (List ℕ)) (s : Said) → IsInOrder s → IfOk (slot_kept place word words s) (λ r. IsInOrder r.0)
slot_in_order place word words s order =
    after (slot_more place word words s) _ (λ (r : Said × List (List ℕ)). IsAhead r.0) (λ (r : Said × List (List ℕ)). IsInOrder r.0) (slot_ahead place word words s order) (λ r h.
    tested (nat_le (made_of r.0 kinds.CNode) (limit_of kinds.CNode)) (limit (limit_of kinds.CNode)) _ (λ (x : Said × List (List ℕ)). IsInOrder x.0) (λ a.
    in_order r.0 h.tidy (record { threads = h.threads; contexts = h.contexts; cnodes = at_most _ _ a })))

slots_in_order : (turns place : ℕ) (words : List (List ℕ)) (s : Said) → IsInOrder s → IfOk (slots_more turns place words s) IsInOrder
slots_in_order zero place words s order = order
slots_in_order (suc turns) place [] s order = order
slots_in_order (suc turns) place (word ∷ words) s order =
    after (slot_kept place word words s) (λ (r : Said × List (List ℕ)). slots_more turns place r.1 r.0) (λ (r : Said × List (List ℕ)). IsInOrder r.0) IsInOrder
    (slot_in_order place word words s order) (λ r o. slots_in_order turns place r.1 r.0 o)

has_in_order : (name : List ℕ) (words : List (List ℕ)) (s : Said) → IsInOrder s → IfOk (has_line name words s) IsInOrder
has_in_order name words s order =
    whatever (space_named name s) _ IsInOrder (λ place.
    skipped (need (not (length words == 0)) missing) _ IsInOrder (slots_in_order (length words) place words s order))

-- a binding, and the cores
tie_in_order : (words : List (List ℕ)) (s : Said) → IsInOrder s → IfOk (tie_line words s) IsInOrder
tie_in_order words s order =
    whatever (word_then words) _ IsInOrder (λ first.
    whatever (named_as kinds.Thread first.0 s.names) _ IsInOrder (λ thread.
    whatever (word_then first.1) _ IsInOrder (λ second.
    whatever (named_as kinds.Notification second.0 s.names) _ IsInOrder (λ notification.
    skipped (end_of second.1) _ IsInOrder
    (tested (not (is_thread_bound s.ties thread)) (bound first.0) _ IsInOrder (λ a.
    tested (not (is_notification_bound s.ties notification)) (bound second.0) _ IsInOrder (λ b.
    record {
      names = order.names;
      once = order.once;
      limits = order.limits;
      spaces = order.spaces;
      ties = apart_more s.ties (record { thread = thread; notification = notification }) order.ties (denied _ a) (denied _ b);
    })))))))
  where
    denied : (b : Bool) → not b ≡ true → b ≡ false
    denied true h = absurd (cc)
    denied false h = refl

cores_in_order : (words : List (List ℕ)) (s : Said) → IsInOrder s → IfOk (cores_line words s) IsInOrder
cores_in_order words s order =
    whatever (number_then core_limit words) _ IsInOrder (λ cores.
    skipped (end_of cores.1) _ IsInOrder
    (skipped (need (not (cores.0 == 0)) (not_wanted zero_word)) _ IsInOrder
    (skipped (need (is_none s.cores) (twice (codes "cores"))) _ IsInOrder
    (skipped (need (length s.contexts == 0 && length s.threads == 0) late_cores) _ IsInOrder
    (record { names = order.names; once = order.once; limits = order.limits; spaces = order.spaces; ties = order.ties })))))

-- a line that begins with a word
begun_in_order : (line : ℕ) (first : List ℕ) (words : List (List ℕ)) (s : Said) → IsInOrder s → IfOk (line_begun line first words s) IsInOrder
begun_in_order line first words s order =
    chosen (bytes_eq first (codes "cores")) _ _ IsInOrder (cores_in_order words s order)
    (chosen (bytes_eq first (codes "endpoint")) _ _ IsInOrder (objects_line_in_order kinds.Endpoint words s refl refl refl order)
    (chosen (bytes_eq first (codes "notification")) _ _ IsInOrder (objects_line_in_order kinds.Notification words s refl refl refl order)
    (chosen (bytes_eq first (codes "reply")) _ _ IsInOrder (objects_line_in_order kinds.Reply words s refl refl refl order)
    (chosen (bytes_eq first (codes "context")) _ _ IsInOrder (context_line_in_order words s order)
    (chosen (bytes_eq first (codes "cnode")) _ _ IsInOrder (cnode_line_in_order words s order)
    (chosen (bytes_eq first (codes "thread")) _ _ IsInOrder (thread_in_order line words s order)
    (chosen (bytes_eq first (codes "tie")) _ _ IsInOrder (tie_in_order words s order) tt)))))))

-- what a line gives that is taken
given : (r : Read Said) (new : Said) → r ≡ Ok new → IfOk r IsInOrder → IsInOrder new
given r new taken h = subst (λ (x : Read Said). IfOk x IsInOrder) taken h

pub has_taken : (name : List ℕ) (words : List (List ℕ)) (s new : Said) → has_line name words s ≡ Ok new → IsInOrder s → IsInOrder new
has_taken name words s new taken order = given (has_line name words s) new taken (has_in_order name words s order)

pub begun_taken : (line : ℕ) (first : List ℕ) (words : List (List ℕ)) (s new : Said) → line_begun line first words s ≡ Ok new → IsInOrder s → IsInOrder new
begun_taken line first words s new taken order = given (line_begun line first words s) new taken (begun_in_order line first words s order)

-- a plan that says nothing
nothing_in_order : IsInOrder nothing_said
nothing_in_order = record { names = refl; once = tt; limits = limits; spaces = tt; ties = tt }
  where
    limits : (kind : Kind) → made_of nothing_said kind ≤ limit_of kind
    limits kinds.CNode = omega arith
    limits kinds.Thread = omega arith
    limits kinds.Endpoint = omega arith
    limits kinds.Notification = omega arith
    limits kinds.Reply = omega arith
    limits kinds.Context = omega arith

pub empty_in_order : (s : Said) → s ≡ nothing_said → IsInOrder s
empty_in_order s e = subst (λ (t : Said). IsInOrder t) (sym e) nothing_in_order
