use Rattle.std.proofs.Common.{◌≡◌, ◌++◌}
use Rattle.mcs_book.specs.Chains.{chain_of}
use Rattle.mcs_book.specs.History.{log_of}
use Rattle.mcs_replies.specs.Rest.{rest_of}
use Rattle.mcs_explore_rows.specs.Numbers.{id_numbers, list_numbers}
use Rattle.mcs_explore_rows.proofs.exact.put_chain.Given as goal

abbrev pub invariant-loop-reply : goal.invariant-loop-reply
invariant-loop-reply g l = l.fn.row.items ++ list_numbers id_numbers (chain_of (log_of l.fn.kernel) l.fn.context) ≡ l.row.items ++ list_numbers id_numbers (rest_of l.reply-iterator)
