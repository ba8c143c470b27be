-- A step more of what was reached.
use Rattle.std.specs.Prelude.{ℕ, ◌≡◌, ◌+◌, ◌⊎◌, suc, take, slice_get, List, Option, Some, None, Result, Ok, Err}
use Rattle.std.specs.Result.{IfOk, OnOk}
use Rattle.std.specs.Option.{IfSome, IfNone}
use Rattle.std.proofs.Common.{inl, inr, sym, subst}
use Rattle.mcs_book.specs.Boots.{Boot}
use Rattle.mcs_types.specs.declared.id.CoreId.{CoreId}
use Rattle.mcs_turns.specs.declared.position.Pick.{Pick}
use Rattle.mcs_turns.specs.Turns.{User, RunState, Follows, IsTurn}
use Rattle.mcs_turns.proofs.OneTurn.{one-turn}
use Rattle.mcs_explore_search.specs.Paths.{Path}
use Rattle.mcs_explore_search.proofs.Paths.{path-cut}
use Rattle.mcs_explore_walk.specs.declared.walk.Turn.{Turn}
use Rattle.mcs_explore_equivalence.specs.Runs.{IsReached}
use Rattle.mcs_explore_orders.specs.Steps.{Moves}
use Rattle.mcs_explore_orders.specs.Trails.{Leads}
use Rattle.mcs_explore_orders.proofs.Paths.{take-on}

-- a turn that was made, or nothing
pub moves : {A E : Type 0} (r : Result (Option A) E) (N T : Type 0) → IfOk r (λ o. IfSome o (λ a. T)) → IfOk r (λ o. IfNone o N) → OnOk r (N ⊎ T)
moves (Ok (Some a)) N T made none = inr made
moves (Ok None) N T made none = inl none
moves (Err e) N T made none = made

pub reached-on : (users : List User) (boot : Boot) (g h : RunState) → IsReached users boot g → Moves users g h → IsReached users boot h
reached-on users boot g h r (inl same) = subst (λ x. IsReached users boot x) (sym same) r
reached-on users boot g h r (inr turn) = record { turns = suc r.turns; run = (g, (r.run, turn)) }

-- where a turn was made, some core made one
pub ok-follows : {A E : Type 0} (r : Result (Option A) E) (users : List User) (core : CoreId) (k : Pick) (g h : RunState)
    → IfOk r (λ o. IfSome o (λ a. IsTurn users core k g h)) → IfOk r (λ o. IfSome o (λ a. Follows users g h))
ok-follows (Ok (Some a)) users core k g h turn = record { core = core; pick = k; turn = turn }
ok-follows (Ok None) users core k g h turn = turn
ok-follows (Err e) users core k g h turn = turn

-- a turn that the rule has was made
pub ok-leads : {A E : Type 0} (r : Result (Option A) E) (users : List User) → (core : CoreId) (k : Pick) (g h : RunState) → IfOk r (λ o. IfSome o (λ a. IsTurn users core k g h))
    → IfOk r (λ o. IfNone o ((x : RunState) → IsTurn users core k g x → ⊥)) → OnOk r ((x : RunState) → IsTurn users core k g x → h ≡ x)
ok-leads (Ok (Some a)) users core k g h turn none = λ x t. one-turn users core k g h x turn t
ok-leads (Ok None) users core k g h turn none = λ x t. absurd (none x t)
ok-leads (Err e) users core k g h turn none = turn

-- one turn more of a path
pub path-next : (users : List User) (begin : RunState) (turns : List Turn) (n : ℕ) (t : Turn) (w v : RunState) → slice_get turns n ≡ Some t → ((h : RunState) → Leads users t w h → v ≡ h)
    → ((g : RunState) → Path (Leads users) begin (take n turns) g → w ≡ g) → (g : RunState) → Path (Leads users) begin (take (n + 1) turns) g → v ≡ g
path-next users begin turns n t w v at on before g path =
    let whole = subst (λ ls. Path (Leads users) begin ls g) (take-on turns n t at) path in
    let cut = path-cut (Leads users) begin (take n turns) g t whole in
    on g (subst (λ u. Leads users t u g) (sym (before cut.0 cut.1.0)) cut.1.1)
