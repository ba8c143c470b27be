use Rattle.std.proofs.Common.{◌≡◌, ◌++◌, OnOk, subst, sym}
use Rattle.mcs_book.specs.History.{log_of}
use Rattle.mcs_explore_rows.specs.Rows.{kind_numbers}
use Rattle.mcs_explore_rows.proofs.exact.put_kind.Goals as goal

-- src/exact.rt:179:1
pub returns-in-CNode : goal.returns-in-CNode
returns-in-CNode g c = subst (λ k. OnOk c.put_cnode.result (c.put_cnode.new.row.items ≡ c.args.row.now.items ++ kind_numbers c.args.numbered (log_of c.args.kernel.now) k c.args.object)) (sym c.in-CNode.is) c.put_cnode.ensures
