use Rattle.std.proofs.Common.{◌++◌, take, sym, ◌∙◌, ap, take-append-drop, arith}
use Rattle.std.proofs.lemmas.List.{take_rest}
use Rattle.mcs_trace.proofs.Outputs.{Moves-step}
use Rattle.mcs_trace.proofs.sink.write_out.Goals as goal

pub loop-rest-preserved : goal.loop-rest-preserved
loop-rest-preserved g c = record {
  moves = Moves-step _ _ _ _ c.loop-rest.rest.now (take c.in_ok-n.n c.loop-rest.rest.now) _ c.loop-rest.invariant.moves c.in_ok-n.ensures.wrote
      (sym (take-append-drop c.in_ok-n.n c.loop-rest.rest.now) ∙ ap (λ l. take c.in_ok-n.n c.loop-rest.rest.now ++ l) (sym (take_rest c.loop-rest.rest.now c.in_ok-n.n)));
  count = omega arith;
}
