use Rattle.mcs_explore_graph.proofs.graph.write_graph.Goals as goal

pub returns : goal.returns
returns g c =
    let o = c.in_ok-orders.orders in
    let w = c.in_ok-write_orders.ensures in
    record {
      script = c.in_ok-script.script;
      is = c.in_ok-script.ensures;
      found = o.search.map.entries;
      done = o.search.done;
      edges = o.search.edges.items;
      graph = c.in_ok-orders.ensures;
      all = λ whole. c.is_whole.ensures.0 whole;
      text = w.0;
      said = w.1.0;
      written = w.1.1;
    }
