use Rattle.std.proofs.Common.{◌++◌}
use Rattle.mcs_types.specs.declared.id.Kind.TheVariants as kind
use Rattle.mcs_book.specs.History.{log_of}
use Rattle.mcs_explore_rows.specs.Rows.{cnode_rows, rows_of_kind}
use Rattle.mcs_explore_rows.proofs.Naming.{adds-then}
use Rattle.mcs_explore_rows.proofs.exact.put_objects.Goals as goal

pub returns-clause-named : goal.returns-clause-named
returns-clause-named g c =
    let R = log_of c.args.kernel.now in
    (adds-then c.args.met.now c.put_cnodes.new.met c.put_rows-5.new.met c.args.numbers.now.items c.put_cnodes.new.numbers.items c.put_rows-5.new.numbers.items (cnode_rows c.args.changing c.args.numbered R) (rows_of_kind c.args.changing c.args.numbered R kind.Thread ++ (rows_of_kind c.args.changing c.args.numbered R kind.Endpoint ++ (rows_of_kind c.args.changing c.args.numbered R kind.Notification ++ (rows_of_kind c.args.changing c.args.numbered R kind.Reply ++ (rows_of_kind c.args.changing c.args.numbered R kind.Context))))) c.in_ok-put_cnodes.ensures.named
    (adds-then c.put_cnodes.new.met c.put_rows.new.met c.put_rows-5.new.met c.put_cnodes.new.numbers.items c.put_rows.new.numbers.items c.put_rows-5.new.numbers.items (rows_of_kind c.args.changing c.args.numbered R kind.Thread) (rows_of_kind c.args.changing c.args.numbered R kind.Endpoint ++ (rows_of_kind c.args.changing c.args.numbered R kind.Notification ++ (rows_of_kind c.args.changing c.args.numbered R kind.Reply ++ (rows_of_kind c.args.changing c.args.numbered R kind.Context)))) c.in_ok-put_rows.ensures.named
    (adds-then c.put_rows.new.met c.put_rows-2.new.met c.put_rows-5.new.met c.put_rows.new.numbers.items c.put_rows-2.new.numbers.items c.put_rows-5.new.numbers.items (rows_of_kind c.args.changing c.args.numbered R kind.Endpoint) (rows_of_kind c.args.changing c.args.numbered R kind.Notification ++ (rows_of_kind c.args.changing c.args.numbered R kind.Reply ++ (rows_of_kind c.args.changing c.args.numbered R kind.Context))) c.in_ok-put_rows-2.ensures.named
    (adds-then c.put_rows-2.new.met c.put_rows-3.new.met c.put_rows-5.new.met c.put_rows-2.new.numbers.items c.put_rows-3.new.numbers.items c.put_rows-5.new.numbers.items (rows_of_kind c.args.changing c.args.numbered R kind.Notification) (rows_of_kind c.args.changing c.args.numbered R kind.Reply ++ (rows_of_kind c.args.changing c.args.numbered R kind.Context)) c.in_ok-put_rows-3.ensures.named
    (adds-then c.put_rows-3.new.met c.put_rows-4.new.met c.put_rows-5.new.met c.put_rows-3.new.numbers.items c.put_rows-4.new.numbers.items c.put_rows-5.new.numbers.items (rows_of_kind c.args.changing c.args.numbered R kind.Reply) (rows_of_kind c.args.changing c.args.numbered R kind.Context) c.in_ok-put_rows-4.ensures.named
    c.in_ok-put_rows-5.ensures.named)))))
