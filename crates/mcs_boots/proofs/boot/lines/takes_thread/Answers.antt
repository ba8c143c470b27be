use Rattle.std.proofs.Common.{◌≡◌, ◌+◌, ℕ, sym, ap, subst, ◌∙◌, arith}
use Rattle.mcs_types.specs.declared.id.ObjId.{ObjId}
use Rattle.mcs_types.specs.declared.id.Kind.TheVariants as kind
use Rattle.mcs_types.specs.declared.record.Rec.TheVariants as rec
use Rattle.mcs_types.specs.declared.record.Form.{Form}
use Rattle.mcs_types.specs.declared.record.Form.TheVariants as form
use Rattle.mcs_book.specs.Logs.{Log}
use Rattle.mcs_book.specs.Objects.{next_id}
use Rattle.mcs_book.specs.Sound.{Allowed}
use Rattle.mcs_state.specs.Now.{Now, so_far, adds}
use Rattle.mcs_boots.proofs.Booting.{new-there, new-turns}
use Rattle.mcs_boots.proofs.boot.lines.takes_thread.Goals as goal

-- the thread made after this many
abbrev next_thread : ℕ → ObjId
next_thread n = record { kind = kind.Thread; serial = n + 1 }

pub prio-requires-clause-allowed : goal.prio-requires-clause-allowed
prio-requires-clause-allowed g c =
    let R : Log = so_far c.args.state.now in
    let f : Form = form.Runner c.args.maximum c.args.root in
    let is : next_id R kind.Thread ≡ next_thread c.made.result = ap (λ (n : ℕ). next_thread n) (sym c.made.ensures) in
    let P : Now → ObjId → Type 0 = λ n t. Allowed (so_far n) (rec.Prio t c.args.priority) in
    subst (λ n. P n (next_thread c.made.result)) (sym c.makes_thread.ensures) (subst (λ t. P (adds (rec.Made (next_id R kind.Thread) f) c.args.state.now) t) is (new-there R f c.requires.booting, omega arith))

pub turns-requires-clause-allowed : goal.turns-requires-clause-allowed
turns-requires-clause-allowed g c =
    let R : Log = so_far c.args.state.now in
    let f : Form = form.Runner c.args.maximum c.args.root in
    let is : next_id R kind.Thread ≡ next_thread c.made.result = ap (λ (n : ℕ). next_thread n) (sym c.made.ensures) in
    let P : Now → ObjId → Type 0 = λ n t. Allowed (so_far n) (rec.Turns t c.args.mode) in
    subst (λ n. P n (next_thread c.made.result)) (sym (c.prio.ensures ∙ ap (λ n. adds (rec.Prio (next_thread c.made.result) c.args.priority) n) c.makes_thread.ensures))
    (subst (λ t. P (adds (rec.Prio t c.args.priority) (adds (rec.Made (next_id R kind.Thread) f) c.args.state.now)) t) is (new-turns R f c.args.priority c.args.mode c.requires.booting c.is_sound.ensures.sound))
