use Rattle.std.proofs.Common.{◌≡◌, ◌∙◌, Some, length}
use Rattle.mcs_book.specs.History.{line_of_number}
use Rattle.mcs_explore_report.specs.Judging.{is_line}
use Rattle.mcs_explore_report.proofs.Failing.{texts-some}
use Rattle.mcs_explore_report.proofs.judgement.tells.Goals as goal

pub returns : goal.returns
returns c =
    let at : line_of_number c.args.kernel.now (length c.args.kernel.now.lines) ≡ Some c.in-Some.line = cc in
    c.has_match.ensures ∙ texts-some (is_line c.args.pattern.now) c.args.kernel.now c.in-Some.line c.sent_before.result at c.sent_before.ensures.sent
