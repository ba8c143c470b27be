use Rattle.std.proofs.Common.{ℕ, ◌≡◌, ◌-◌, true, Option, Some, List, length, get_or, ap, sym, ◌∙◌, arith}
use Rattle.mcs_book.specs.History.{Book}
use Rattle.mcs_kernel.specs.Faults.{fault_of}
use Rattle.mcs_kernel.specs.declared.fault.EnterFault.{EnterFault}
use Rattle.mcs_seats.specs.declared.call.Call.{Call}
use Rattle.mcs_seats.specs.declared.call.Outcome.TheVariants.{Away}
use Rattle.mcs_seats.specs.Settling.{cut}
use Rattle.mcs_seats.specs.Trails.{Trail, Place, IsBeside}
use Rattle.mcs_seats.proofs.Trails.{call-at, wrong-torn, early-wrong, fault-wrong, away-right}
use Rattle.mcs_seats.proofs.retrace.Follower.follow_away.Goals as goal

-- what became of a call, by the list in which it is
became : (xs : List Call) (i n : ℕ) (f : EnterFault) (x : Call) → x ≡ get_or xs i x → (get_or xs i x).outcome ≡ Away n f → x.outcome ≡ Away n f
became xs i n f x is away = ap (λ (z : Call). z.outcome) is ∙ away

-- why a call would be skipped before the next line, as the replay tells it
fault-there : {t w : Trail} → t ≡ w → (p : Place) (xs : List Call) (i : ℕ) (x : Call) (found : Option EnterFault) → IsBeside p w → x ≡ get_or xs i x
    → found ≡ fault_of (cut p.book (p.at - 1)) t.core (get_or xs i x).thread → found ≡ fault_of (cut w.book (w.at - 1)) w.core x.thread
fault-there {w = w} same p xs i x found beside is e =
    let y = get_or xs i x in
    e ∙ ap (λ (s : Trail). fault_of (cut p.book (p.at - 1)) s.core y.thread) same
    ∙ ap (λ (b : Book). fault_of (cut b (p.at - 1)) w.core y.thread) (sym beside.book)
    ∙ ap (λ (n : ℕ). fault_of (cut w.book (n - 1)) w.core y.thread) (sym beside.at)
    ∙ ap (λ (z : Call). fault_of (cut w.book (w.at - 1)) w.core z.thread) (sym is)

pub returns-then-lines-self : goal.returns-then-lines-self
returns-then-lines-self g c =
    let w : Trail = c.args.self.now in
    let x : Call = c.index-self-i.result in
    let at : c.self.inside.at ≡ w.at = ap (λ (t : Trail). t.at) c.self.view_is in
    let away = became c.self.inside.calls.now c.loop-i.i c.in-Away.lines c.in-Away.fault x c.index-self-i.is c.in-Away.is in
    wrong-torn w c.loop-i.i x c.loop-i.invariant (call-at c.self.view_is c.loop-i.i x c.loop-i-test.true c.index-self-i.is)
    (early-wrong w x c.in-Away.lines c.in-Away.fault away (omega (arith, at, c.if-lines-self.true)))

pub returns-then-not-is_same_fault : goal.returns-then-not-is_same_fault
returns-then-not-is_same_fault g c =
    let w : Trail = c.args.self.now in
    let x : Call = c.index-self-i.result in
    let at : c.self.inside.at ≡ w.at = ap (λ (t : Trail). t.at) c.self.view_is in
    let away = became c.self.inside.calls.now c.loop-i.i c.in-Away.lines c.in-Away.fault x c.index-self-i.is c.in-Away.is in
    let found = fault-there c.self.view_is c.args.retrace.now c.self.inside.calls.now c.loop-i.i x c.fault.result c.requires c.index-self-i.is c.fault.ensures.found in
    let other : ¬ (fault_of (cut w.book (w.at - 1)) w.core x.thread ≡ Some c.in-Away.fault) =
    λ same. let yes : c.is_same_fault.result ≡ true = c.is_same_fault.ensures.1 (found ∙ same) in
    let no = c.if-not-is_same_fault.true in absurd cc in
    wrong-torn w c.loop-i.i x c.loop-i.invariant (call-at c.self.view_is c.loop-i.i x c.loop-i-test.true c.index-self-i.is)
    (fault-wrong w x c.in-Away.lines c.in-Away.fault away (omega (arith, at, c.if-self-lines.false, c.if-lines-self.false)) other)

pub loop-i-preserved : goal.loop-i-preserved
loop-i-preserved g c =
    let w : Trail = c.args.self.now in
    let x : Call = c.index-self-i.result in
    let at : c.self.inside.at ≡ w.at = ap (λ (t : Trail). t.at) c.self.view_is in
    let away = became c.self.inside.calls.now c.loop-i.i c.in-Away.lines c.in-Away.fault x c.index-self-i.is c.in-Away.is in
    let found = fault-there c.self.view_is c.args.retrace.now c.self.inside.calls.now c.loop-i.i x c.fault.result c.requires c.index-self-i.is c.fault.ensures.found in
    let same : c.is_same_fault.result ≡ true = let yes = c.if-not-is_same_fault.false in cc in
    let lines = ap (λ (b : Book). length b.lines) c.requires.book in
    away-right w c.loop-i.i x c.in-Away.lines c.in-Away.fault c.loop-i.invariant (call-at c.self.view_is c.loop-i.i x c.loop-i-test.true c.index-self-i.is)
    away (omega (arith, at, c.if-self-lines.false, c.if-lines-self.false)) (omega (arith, at, c.self.invariant.some))
    (omega (arith, lines, c.requires.at, c.fault.ensures.within)) (sym found ∙ c.is_same_fault.ensures.0 same)
