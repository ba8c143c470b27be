use Rattle.std.proofs.Common.{◌≡◌, ◌^◌, ◌∷◌, nat_le, nat_lt, Some, true, cond, [], refl, sym, ap, subst, ◌∙◌, arith}
use Rattle.std.proofs.lemmas.Grind.{common_steps}
use Rattle.mcs_types.specs.declared.id.ObjId.{ObjId}
use Rattle.mcs_types.specs.declared.id.Kind.TheVariants as kind
use Rattle.mcs_types.specs.declared.boot.BootLine.TheVariants as boot
use Rattle.mcs_types.specs.declared.record.Rec.TheVariants as rec
use Rattle.mcs_types.specs.declared.record.Form.{Form}
use Rattle.mcs_types.specs.declared.record.Form.TheVariants as form
use Rattle.mcs_book.specs.Logs.{Log}
use Rattle.mcs_book.specs.Objects.{next_id, form_of}
use Rattle.mcs_book.specs.Lookup.{radix_kept}
use Rattle.mcs_book.specs.Sound.{Allowed}
use Rattle.mcs_types.proofs.Ids.{parts}
use Rattle.mcs_state.specs.Now.{Now, so_far, adds_all}
use Rattle.mcs_state.specs.Tables.{ROOM}
use Rattle.mcs_boots.proofs.Booting.{held-as, made-alive, object-there, few-made, has-room, gives-allowed, tie-allowed}
use Rattle.mcs_boots.proofs.boot.lines.takes_records.Goals as goal
use Rattle.std.specs.Option.{IfSome}

pub makes_cnode-requires-clause-allowed : goal.makes_cnode-requires-clause-allowed
makes_cnode-requires-clause-allowed g c =
    let R : Log = so_far c.args.state.now in
    let h = held-as c.args.state.now.book.boot.cores R c.args.line.now (boot.CNode c.in-CNode.radix) c.in-CNode.is c.requires.faultless in
    let few : nat_le c.in-CNode.radix 8 ≡ true = (parts (nat_le 1 c.in-CNode.radix) (nat_le c.in-CNode.radix 8) h.numbers).1 in
    (refl, grind (arith, common_steps, few))

pub makes_cnode-requires-clause-some : goal.makes_cnode-requires-clause-some
makes_cnode-requires-clause-some g c =
    let R : Log = so_far c.args.state.now in
    let h = held-as c.args.state.now.book.boot.cores R c.args.line.now (boot.CNode c.in-CNode.radix) c.in-CNode.is c.requires.faultless in
    let some : nat_le 1 c.in-CNode.radix ≡ true = (parts (nat_le 1 c.in-CNode.radix) (nat_le c.in-CNode.radix 8) h.numbers).0 in
    grind (arith, common_steps, some)

pub makes_cnode-requires-clause-few : goal.makes_cnode-requires-clause-few
makes_cnode-requires-clause-few g c =
    let R : Log = so_far c.args.state.now in
    let h = held-as c.args.state.now.book.boot.cores R c.args.line.now (boot.CNode c.in-CNode.radix) c.in-CNode.is c.requires.faultless in
    few-made R kind.CNode 64 c.requires.booting h.room

pub makes-requires-clause-few : goal.makes-requires-clause-few
makes-requires-clause-few g c =
    let R : Log = so_far c.args.state.now in
    let h = held-as c.args.state.now.book.boot.cores R c.args.line.now (boot.Endpoint) c.in-Endpoint.is c.requires.faultless in
    has-room R kind.Endpoint c.requires.booting h.room

pub makes-requires-in-Notification-clause-few : goal.makes-requires-in-Notification-clause-few
makes-requires-in-Notification-clause-few g c =
    let R : Log = so_far c.args.state.now in
    let h = held-as c.args.state.now.book.boot.cores R c.args.line.now (boot.Notification) c.in-Notification.is c.requires.faultless in
    has-room R kind.Notification c.requires.booting h.room

pub makes-requires-in-Reply-clause-few : goal.makes-requires-in-Reply-clause-few
makes-requires-in-Reply-clause-few g c =
    let R : Log = so_far c.args.state.now in
    let h = held-as c.args.state.now.book.boot.cores R c.args.line.now (boot.Reply) c.in-Reply.is c.requires.faultless in
    has-room R kind.Reply c.requires.booting h.room

pub makes_context-requires-clause-allowed : goal.makes_context-requires-clause-allowed
makes_context-requires-clause-allowed g c =
    let R : Log = so_far c.args.state.now in
    let h = held-as c.args.state.now.book.boot.cores R c.args.line.now (boot.Context c.in-Context.core) c.in-Context.is c.requires.faultless in
    let cores = c.requires.cores in
    let numbers = h.numbers in
    (refl, grind (arith, common_steps, numbers, cores))

pub makes_context-requires-clause-few : goal.makes_context-requires-clause-few
makes_context-requires-clause-few g c =
    let R : Log = so_far c.args.state.now in
    let h = held-as c.args.state.now.book.boot.cores R c.args.line.now (boot.Context c.in-Context.core) c.in-Context.is c.requires.faultless in
    has-room R kind.Context c.requires.booting h.room

pub takes_thread-thread-requires-clause-few : goal.takes_thread-thread-requires-clause-few
takes_thread-thread-requires-clause-few g c =
    let R : Log = so_far c.args.state.now in
    let h = held-as c.args.state.now.book.boot.cores R c.args.line.now (boot.Thread c.in-Thread.priority c.in-Thread.maximum c.in-Thread.root c.in-Thread.guard c.in-Thread.runs c.in-Thread.context) c.in-Thread.is c.requires.faultless in
    few-made R kind.Thread ROOM c.requires.booting h.room

pub takes_context-requires-clause-allowed : goal.takes_context-requires-clause-allowed
takes_context-requires-clause-allowed g c =
    let R : Log = so_far c.args.state.now in
    let h = held-as c.args.state.now.book.boot.cores R c.args.line.now (boot.Thread c.in-Thread.priority c.in-Thread.maximum c.in-Thread.root c.in-Thread.guard c.in-Thread.runs c.in-Thread.context) c.in-Thread.is c.requires.faultless in
    let P : Now → ObjId → Type 0 = λ n t. IfSome c.in-Thread.context (λ s. Allowed (so_far n) (rec.Holds s (Some t))) in
    let f : Form = form.Runner c.in-Thread.maximum c.cap_to.result in
    subst (λ n. P n c.takes_thread-thread.result) (sym c.takes_thread-thread.ensures.made)
    (subst (λ t. P (adds_all (rec.Made (next_id R kind.Thread) f ∷ rec.Prio (next_id R kind.Thread) c.in-Thread.priority ∷ rec.Turns (next_id R kind.Thread) c.first_mode.result ∷ []) c.args.state.now) t) (sym c.takes_thread-thread.ensures.thread)
    (gives-allowed R f c.in-Thread.priority c.first_mode.result c.in-Thread.context c.is_sound.ensures.sound c.requires.booting (parts _ _ h.objects).1))

pub fills-requires-clause-allowed : goal.fills-requires-clause-allowed
fills-requires-clause-allowed g c =
    let R : Log = so_far c.args.state.now in
    let h = held-as c.args.state.now.book.boot.cores R c.args.line.now (boot.Slot c.in-Slot.cnode c.in-Slot.index c.in-Slot.cap) c.in-Slot.is c.requires.faultless in
    let there = (parts _ _ h.objects).0 in
    let within : nat_lt c.in-Slot.index (2 ^ radix_kept (form_of R c.in-Slot.cnode)) ≡ true =
    ap (λ b. cond b (nat_lt c.in-Slot.index (2 ^ radix_kept (form_of R c.in-Slot.cnode))) true) (sym there) ∙ (parts _ _ h.numbers).0 in
    (object-there R kind.CNode c.in-Slot.cnode c.requires.booting there, grind (arith, common_steps, within), made-alive R c.in-Slot.cap.obj c.requires.booting (parts _ _ h.objects).1)

pub ties-requires-clause-allowed : goal.ties-requires-clause-allowed
ties-requires-clause-allowed g c =
    let R : Log = so_far c.args.state.now in
    let h = held-as c.args.state.now.book.boot.cores R c.args.line.now (boot.Tie c.in-Tie.thread c.in-Tie.notification) c.in-Tie.is c.requires.faultless in
    tie-allowed R c.in-Tie.thread c.in-Tie.notification c.is_sound.ensures.sound c.requires.booting h.objects h.free
