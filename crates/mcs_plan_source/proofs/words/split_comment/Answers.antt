use Rattle.std.proofs.Common.{true, rules, sym, subst, ap, ◌∙◌}
use Rattle.std.specs.Str.{IsCharBoundary}
use Rattle.mcs_plan_source.proofs.Comments.{cut_before, comment_is}
use Rattle.mcs_plan_source.specs.Cutting.{code_len}
use Rattle.mcs_plan_source.proofs.words.split_comment.Goals as goal

pub split_at-requires : goal.split_at-requires
split_at-requires c = subst (λ n. IsCharBoundary c.args.line.now n) (sym (c.code_len.ensures ∙ ap (λ l. code_len true l) c.as_bytes.ensures.value)) (cut_before c.args.line.now)

pub returns-clause-comment : goal.returns-clause-comment
returns-clause-comment c = comment_is c.args.line.now c.split_at.result.1.now c.strip_prefix.result (search rules) c.strip_prefix.ensures.cases
