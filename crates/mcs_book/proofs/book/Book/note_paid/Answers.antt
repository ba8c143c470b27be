use Rattle.std.proofs.Common.{◌≡◌, List, ◌≤◌, ◌<◌, ◌-◌, ◌+◌, ◌∙◌, ◌∷◌, [], length, ap, arith}
use Rattle.mcs_types.specs.declared.record.Rec.{Rec}
use Rattle.mcs_types.specs.declared.record.Rec.TheVariants as rec
use Rattle.mcs_packing.specs.Packing.{records_of}
use Rattle.mcs_book.specs.Pages.{Written}
use Rattle.mcs_packing.proofs.Packings.{length-record_of}
use Rattle.mcs_packing.proofs.HeadLaws.{AllHeadsFit-grows, all_entered-grows}
use Rattle.mcs_book.proofs.Books.Appending.{HasRoom-fewer, HasSpace-of, hand-noted, lines-noted}
use Rattle.mcs_book.proofs.book.Book.note_paid.Goals as goal

pub invariant_of-self : goal.invariant_of-self
invariant_of-self c =
    let b = c.self.inside in
    let i = c.self.invariant in
    let p = c.push_paid.ensures in
    let ws = c.push_paid.new.arena.words.items in
    let room : b.room ≡ c.args.self.now.room = ap (λ (w : Written). w.room) c.self.view_is in
    let some : 0 < b.room = omega (arith, room, c.requires) in
    let fewer : (b.room - 1 - 1 + b.ahead) + 1 ≤ b.room - 1 + b.ahead = omega (arith, room, c.requires) in
    let left = p.grew.room (b.room - 1 - 1 + b.ahead) (HasRoom-fewer b.arena (b.room - 1 + b.ahead) ((b.room - 1 - 1 + b.ahead) + 1) fewer (i.4 some)) in (
      AllHeadsFit-grows b.heads.items b.arena.words.items ws p.grew.words i.0,
      p.fit,
      rw (all_entered-grows b.heads.items b.arena.words.items ws p.grew.words i.0) i.2,
      omega (arith, i.3, p.len),
      λ z. left,
      λ z. omega (arith, i.5 some, p.len, p.capacity, some),
      λ z. i.6 some,
      λ z. omega (arith, i.7 some, p.len, some),
      HasSpace-of _ _ _ b.ahead _ (omega arith) left i.8.heads (omega (arith, i.5 some, p.len, p.capacity, room, c.requires)) (omega (arith, i.7 some, p.len, room, c.requires)),
    )

pub returns-clause-hand : goal.returns-clause-hand
returns-clause-hand c =
    let b = c.self.inside in
    let fact : Rec = rec.Paid c.args.reply c.args.caller c.args.message in
    let p = c.push_paid.new in
    let was = records_of b.packed.items b.arena.words.items b.arena.wide.items in
    let now = records_of p.packed.items p.arena.words.items p.arena.wide.items in
    let within : b.start ≤ length was = omega (arith, c.self.invariant.3, b.packed.ok.0, length-record_of b.packed.items b.arena.words.items b.arena.wide.items) in
    hand-noted b.start was now fact c.push_paid.ensures.value within ∙ ap (λ (w : Written). fact ∷ w.hand) c.self.view_is

pub returns-clause-book : goal.returns-clause-book
returns-clause-book c =
    let b = c.self.inside in
    let fact : Rec = rec.Paid c.args.reply c.args.caller c.args.message in
    let p = c.push_paid.new in
    let e = c.push_paid.ensures in
    let was = records_of b.packed.items b.arena.words.items b.arena.wide.items in
    let within : b.start ≤ length was = omega (arith, c.self.invariant.3, b.packed.ok.0, length-record_of b.packed.items b.arena.words.items b.arena.wide.items) in
    let lines = lines-noted b.heads.items b.arena.words.items p.arena.words.items b.packed.items p.packed.items b.arena.wide.items p.arena.wide.items (fact ∷ []) b.start e.grew.words c.self.invariant.0 e.value within c.self.invariant.2 in
    rw lines (ap (λ (w : Written). w.book) c.self.view_is)

pub returns-clause-whole : goal.returns-clause-whole
returns-clause-whole c =
    let hand = ap (λ (l : List Rec). length l) (returns-clause-hand c) in
    let room : c.self.inside.room ≡ c.args.self.now.room = ap (λ (w : Written). w.room) c.self.view_is in
    let some = c.requires in
    omega (arith, hand, room, some)
