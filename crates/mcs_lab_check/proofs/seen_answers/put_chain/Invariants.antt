use Rattle.std.proofs.Common.{◌≡◌, ◌++◌}
use Rattle.mcs_book.specs.History.{log_of}
use Rattle.mcs_book.specs.Chains.{chain_of}
use Rattle.mcs_replies.specs.Rest.{rest_of}
use Rattle.mcs_lab_check.specs.Seen.{names_text}
use Rattle.mcs_lab_check.proofs.seen_answers.put_chain.Given as goal

abbrev pub invariant-loop-reply : goal.invariant-loop-reply
invariant-loop-reply l = l.to ++ names_text (rest_of l.reply-iterator) ≡ l.fn.to ++ names_text (chain_of (log_of l.fn.kernel) l.fn.context)
