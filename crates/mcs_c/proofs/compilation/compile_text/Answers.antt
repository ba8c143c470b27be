use Rattle.std.proofs.Common.{inl}
use Rattle.mcs_c.proofs.compilation.compile_text.Goals as goal

pub returns-in-Ok : goal.returns-in-Ok
returns-in-Ok c = inl (
  c.of_status.ensures,
  record {
    laid = c.in-Ok.field-0.compiled.script.laid;
    read = c.in-Ok.field-0.compiled.read.items;
    users = c.in-Ok.field-0.compiled.users.items;
    is = c.in_ok-whole_text-in-Ok.ensures;
    vouched = c.in-Ok.ensures;
  },
)
