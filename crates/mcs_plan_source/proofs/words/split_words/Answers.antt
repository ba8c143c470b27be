use Rattle.std.proofs.Common.{rules, tests}
use Rattle.std.proofs.lemmas.Iterator.Consumers.{YieldsList-from_filter, map_from_collect, YieldsList-at}
use Rattle.mcs_plan_source.proofs.Cuts.{white_parts}
use Rattle.mcs_plan_source.proofs.words.split_words.Goals as goal

pub returns : goal.returns
returns c =
    map_from_collect _ c.collect.ensures.ran (YieldsList-from_filter _ _ (YieldsList-at c.filter.ensures.source (white_parts c.args.line.now c.split.ensures.text c.split.ensures.has_more c.split.ensures.pattern)) c.filter.ensures.closure (λ x r q k. search (rules, tests)))
