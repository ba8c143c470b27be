use Rattle.std.specs.Prelude.{ℕ, ◌≡◌, ◌++◌, ◌∷◌, [], Vec, IfNone, IfSome}
use Rattle.std.specs.declared.alloc.Global.{Global}
use Rattle.std.proofs.Common.{ap, sym, subst, ◌∙◌}
use mathlib.Core.List.{map-append}
use Rattle.mcs_turns.specs.Turns.{RunState}
use Rattle.mcs_explore_walk.specs.declared.walk.Turn.{Turn}
use Rattle.mcs_explore_orders.specs.Trails.{Leads}
use Rattle.mcs_explore_orders.specs.Exploring.{AreNextsOf, IsKeyIn, numbers_of}
use Rattle.mcs_explore_orders.specs.Watching.{Watching, counting}
use Rattle.mcs_explore_orders.specs.Shown.{HasCounted, IsShownTurn}
use Rattle.mcs_explore_orders.proofs.Telling.{none-reported, one-reported}
use Rattle.mcs_explore_orders.proofs.Nexts.{none-more, one-more}
use Rattle.mcs_explore_orders.proofs.explorer.Explorer.add_next.Goals as goal

pub returns-in_ok-push-clause-nexts : goal.returns-in_ok-push-clause-nexts
returns-in_ok-push-clause-nexts g c = λ ts are.
    let old = c.args.self.now.search in
    let new = c.after_turn.new.self.search in
    let at = c.args.walk.value in
    let key = c.in-Some.key in
    let label = c.in_ok-label.label in
    let next : Turn × Vec ℕ Global = (label, key) in
    let numbers : numbers_of c.push.new.nexts.items ≡ numbers_of c.args.nexts.now.items ++ (c.args.turn, key.items) ∷ [] =
    ap numbers_of c.in_ok-push.ensures ∙ map-append (λ (n : Turn × Vec ℕ Global). (n.0, n.1.items)) c.args.nexts.now.items (next ∷ [])
    ∙ ap (λ (t : Turn). numbers_of c.args.nexts.now.items ++ (t, key.items) ∷ []) c.in_ok-label.ensures in
    let some = subst (λ o. IfSome o (λ (k : Vec ℕ Global). (h : RunState) × (Leads old.users c.args.turn at h × IsKeyIn new h k.items))) c.in-Some.is c.in_ok-key.ensures.some in
    subst (λ ns. AreNextsOf new at (ts ++ c.args.turn ∷ []) ns) (sym numbers)
    (one-more old new c.in_ok-key.ensures.later.search at ts c.args.turn (numbers_of c.args.nexts.now.items) key.items some are)

pub returns-in_default-clause-nexts : goal.returns-in_default-clause-nexts
returns-in_default-clause-nexts g c = λ ts are.
    let old = c.args.self.now.search in
    let at = c.args.walk.value in
    let none = subst (λ o. IfNone o ((h : RunState) → Leads old.users c.args.turn at h → ⊥)) c.in_default.is c.in_ok-key.ensures.none in
    none-more old c.after_turn.new.self.search c.in_ok-key.ensures.later.search at ts c.args.turn (numbers_of c.args.nexts.now.items) none are

pub returns-in_ok-push-clause-reported : goal.returns-in_ok-push-clause-reported
returns-in_ok-push-clause-reported g c =
    let old = c.args.self.now in
    let new = c.after_turn.new.self in
    let at = c.args.walk.value in
    let reported = subst (λ o. IfSome o (λ (k : Vec ℕ Global). IsShownTurn (HasCounted g.W.Watch.HasSeen) (counting old) (counting new) old.search.users c.args.place c.args.turn at)) c.in-Some.is c.in_ok-key.ensures.reported in
    one-reported (HasCounted g.W.Watch.HasSeen) (counting old) (counting new) old.search.users c.args.place at c.args.turn reported

pub returns-in_default-clause-reported : goal.returns-in_default-clause-reported
returns-in_default-clause-reported g c =
    let old = c.args.self.now in
    let new = c.after_turn.new.self in
    let at = c.args.walk.value in
    let none = subst (λ o. IfNone o ((h : RunState) → Leads old.search.users c.args.turn at h → ⊥)) c.in_default.is c.in_ok-key.ensures.none in
    let same = subst (λ o. IfNone o (counting new ≡ counting old)) c.in_default.is c.in_ok-key.ensures.unseen in
    none-reported (HasCounted g.W.Watch.HasSeen) (counting old) (counting new) old.search.users c.args.place at c.args.turn same none
