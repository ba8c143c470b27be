use Rattle.std.proofs.Common.{rules, ap, ap₂, ◌≡◌, ◌∙◌, pos, to_z, of_z, w64}
use Rattle.std.specs.Prelude.{Option, Some, None}
use Rattle.clap.specs.declared.builder.value_parser.ValueParser.{ValueParser}
use Rattle.clap.specs.declared.builder.value_parser.ValueParser.TheVariants as value
use Rattle.clap.specs.Words.{Rule, rule_of}
use Rattle.mcs_types.specs.Limits.{core_limit}
use Rattle.mcs_command_line.specs.CommandLine.{cores_option}
use Rattle.mcs_command_line.proofs.command_line.cores.Goals as goal

pub returns-clause-rule : goal.returns-clause-rule
returns-clause-rule c =
    let end = c.new-2.ensures.end ∙ ap (λ z. to_z w64 (of_z w64 z)) c.from.ensures in
    let range : c.range.result ≡ value.Signed (pos 1) (pos core_limit) = rw
    (c.value_parser.ensures, c.new-2.ensures.start, end) at c.range.ensures in
    let given = c.value_parser-2.ensures.given in
    let named : rule_of c.help.result ≡ record cores_option { parser = None } = search rules in
    ap rule_of c.value_parser-2.ensures.others
    ∙ ap₂ (λ (r : Rule) (p : Option ValueParser). record r { parser = p }) named (given.1 ∙ ap Some (given.2 ∙ range))
