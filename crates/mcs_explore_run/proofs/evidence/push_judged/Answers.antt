use Rattle.std.proofs.Common.{refl}
use Rattle.std.proofs.lemmas.Option.{slice_get_read}
use Rattle.mcs_explore_run.proofs.Judging.{judged-more}
use Rattle.mcs_explore_run.proofs.evidence.push_judged.Goals as goal

pub returns : goal.returns
returns c =
    let questions = c.args.script.now.asked.items in
    let here = slice_get_read questions _ c.args.number c.index-question.result.now refl c.requires c.index-question.ensures in
    judged-more c.push.result _ questions _ _ _ c.args.number c.index-question.result.now here _ _ _ c.push.ensures c.in_ok-showed.ensures
