use Rattle.std.specs.Prelude.{Bool, List}
use Rattle.std.proofs.Common.{ap, subst, ◌∙◌}
use Rattle.mcs_explore_orders.specs.Seen.{AreAllSeen, IsGraphOfRuns}
use Rattle.mcs_explore_script.specs.declared.questions.AskedLine.{AskedLine}
use Rattle.mcs_explore_script.specs.declared.lives.Live.{Live}
use Rattle.mcs_explore_report.specs.Found.{AreFirstFound, AreJudgedFound}
use Rattle.mcs_explore_report.specs.Kept.{Aims}
use Rattle.mcs_explore_report.specs.Stuck.{AreDecided, AreStuckUnled}
use Rattle.mcs_explore_report.proofs.Stuck.{decided, unled-stuck}
use Rattle.mcs_explore_report.proofs.Keeping.{counted-found, kept-found}
use Rattle.mcs_explore_report.proofs.Seeing.{begun}
use Rattle.mcs_explore_report.proofs.HeldRuns.{all-held}
use Rattle.mcs_explore_report.proofs.KeptRuns.{answers-in-runs, ends-in-runs}
use Rattle.mcs_explore_report.proofs.Shortest.{all-shortest}
use Rattle.mcs_explore_report.proofs.Unnamed.{all-decided, mode-numbered, mode-proved}
use Rattle.mcs_explore_report.proofs.exploration.watched.Goals as goal

pub returns-clause-whole : goal.returns-clause-whole
returns-clause-whole g c = λ is.
    let mode = c.mode_of-mode.ensures ∙ is.mode in
    let exact = c.is_proved.ensures ∙ mode-proved c.mode_of-mode.result is.numbered mode in
    let numbered = c.are_numbered.ensures ∙ mode-numbered c.mode_of-mode.result is.numbered mode in
    let seen = subst (λ (b : Bool). AreAllSeen b c.args.users.now c.args.boot.now c.in-Ok.orders.search.map.entries) numbered (c.in-Ok.ensures.whole (record { keys = record { exact = exact; faultless = c.is_faultless.ensures; in_range = c.are_in_range.ensures }; all = is.all })) in
    seen

pub returns-clause-ends : goal.returns-clause-ends
returns-clause-ends g c =
    let w = c.in_ok-watched.watched in
    let o = c.in-Ok.orders in
    let kept = begun c.args.users.now w.asked.now w.lives.lives w.ends w.answers w.failed.items w.lives.notes c.in_ok-watched.ensures.ends c.in_ok-watched.ensures.answers c.in_ok-watched.ensures.failed c.in_ok-watched.ensures.notes in
    let found = kept-found c.args.users.now c.args.boot.now o.search.map.entries o.search.done (c.in-Ok.ensures.shown kept) o.explorer.watch.asked.now o.explorer.watch.ends o.explorer.watch.answers o.explorer.watch.failed.items (λ shown has. has.kept) in
    found.ends

pub returns-clause-answers : goal.returns-clause-answers
returns-clause-answers g c =
    let w = c.in_ok-watched.watched in
    let o = c.in-Ok.orders in
    let kept = begun c.args.users.now w.asked.now w.lives.lives w.ends w.answers w.failed.items w.lives.notes c.in_ok-watched.ensures.ends c.in_ok-watched.ensures.answers c.in_ok-watched.ensures.failed c.in_ok-watched.ensures.notes in
    let found = kept-found c.args.users.now c.args.boot.now o.search.map.entries o.search.done (c.in-Ok.ensures.shown kept) o.explorer.watch.asked.now o.explorer.watch.ends o.explorer.watch.answers o.explorer.watch.failed.items (λ shown has. has.kept) in
    found.answers

pub returns-clause-mail : goal.returns-clause-mail
returns-clause-mail g c =
    let w = c.in_ok-watched.watched in
    let o = c.in-Ok.orders in
    let kept = begun c.args.users.now w.asked.now w.lives.lives w.ends w.answers w.failed.items w.lives.notes c.in_ok-watched.ensures.ends c.in_ok-watched.ensures.answers c.in_ok-watched.ensures.failed c.in_ok-watched.ensures.notes in
    let found = kept-found c.args.users.now c.args.boot.now o.search.map.entries o.search.done (c.in-Ok.ensures.shown kept) o.explorer.watch.asked.now o.explorer.watch.ends o.explorer.watch.answers o.explorer.watch.failed.items (λ shown has. has.kept) in
    found.mail

pub returns-clause-run_ends : goal.returns-clause-run_ends
returns-clause-run_ends g c = λ is.
    let mode = c.mode_of-mode.ensures ∙ is.mode in
    let exact = c.is_proved.ensures ∙ mode-proved c.mode_of-mode.result is.numbered mode in
    let numbered = c.are_numbered.ensures ∙ mode-numbered c.mode_of-mode.result is.numbered mode in
    let seen = subst (λ (b : Bool). AreAllSeen b c.args.users.now c.args.boot.now c.in-Ok.orders.search.map.entries) numbered (c.in-Ok.ensures.whole (record { keys = record { exact = exact; faultless = c.is_faultless.ensures; in_range = c.are_in_range.ensures }; all = is.all })) in
    let w = c.in_ok-watched.watched in
    let o = c.in-Ok.orders in
    let kept = begun c.args.users.now w.asked.now w.lives.lives w.ends w.answers w.failed.items w.lives.notes c.in_ok-watched.ensures.ends c.in_ok-watched.ensures.answers c.in_ok-watched.ensures.failed c.in_ok-watched.ensures.notes in
    let found = kept-found c.args.users.now c.args.boot.now o.search.map.entries o.search.done (c.in-Ok.ensures.shown kept) o.explorer.watch.asked.now o.explorer.watch.ends o.explorer.watch.answers o.explorer.watch.failed.items (λ shown has. has.kept) in
    ends-in-runs is.numbered c.args.users.now c.args.boot.now c.is_faultless.ensures c.are_in_range.ensures o.search.map.entries o.search.done is.all seen o.explorer.watch.ends found.ends

pub returns-clause-run_answers : goal.returns-clause-run_answers
returns-clause-run_answers g c = λ is.
    let mode = c.mode_of-mode.ensures ∙ is.mode in
    let exact = c.is_proved.ensures ∙ mode-proved c.mode_of-mode.result is.numbered mode in
    let numbered = c.are_numbered.ensures ∙ mode-numbered c.mode_of-mode.result is.numbered mode in
    let seen = subst (λ (b : Bool). AreAllSeen b c.args.users.now c.args.boot.now c.in-Ok.orders.search.map.entries) numbered (c.in-Ok.ensures.whole (record { keys = record { exact = exact; faultless = c.is_faultless.ensures; in_range = c.are_in_range.ensures }; all = is.all })) in
    let w = c.in_ok-watched.watched in
    let o = c.in-Ok.orders in
    let kept = begun c.args.users.now w.asked.now w.lives.lives w.ends w.answers w.failed.items w.lives.notes c.in_ok-watched.ensures.ends c.in_ok-watched.ensures.answers c.in_ok-watched.ensures.failed c.in_ok-watched.ensures.notes in
    let found = kept-found c.args.users.now c.args.boot.now o.search.map.entries o.search.done (c.in-Ok.ensures.shown kept) o.explorer.watch.asked.now o.explorer.watch.ends o.explorer.watch.answers o.explorer.watch.failed.items (λ shown has. has.kept) in
    answers-in-runs is.numbered c.args.users.now c.args.boot.now c.is_faultless.ensures c.are_in_range.ensures o.search.map.entries o.search.done is.all seen o.explorer.watch.answers found.answers found.mail

pub returns-clause-judged : goal.returns-clause-judged
returns-clause-judged g c =
    let w = c.in_ok-watched.watched in
    let o = c.in-Ok.orders in
    let kept = begun c.args.users.now w.asked.now w.lives.lives w.ends w.answers w.failed.items w.lives.notes c.in_ok-watched.ensures.ends c.in_ok-watched.ensures.answers c.in_ok-watched.ensures.failed c.in_ok-watched.ensures.notes in
    let found = kept-found c.args.users.now c.args.boot.now o.search.map.entries o.search.done (c.in-Ok.ensures.shown kept) o.explorer.watch.asked.now o.explorer.watch.ends o.explorer.watch.answers o.explorer.watch.failed.items (λ shown has. has.kept) in
    let same = ap (λ (a : Aims). a.asked) c.in-Ok.ensures.aim ∙ c.in_ok-watched.ensures.asked in
    subst (λ (qs : List AskedLine). AreJudgedFound c.args.users.now c.args.boot.now o.search.map.entries o.search.done qs o.explorer.watch.failed.items) same found.judged

pub returns-clause-held : goal.returns-clause-held
returns-clause-held g c = λ is.
    let mode = c.mode_of-mode.ensures ∙ is.mode in
    let exact = c.is_proved.ensures ∙ mode-proved c.mode_of-mode.result is.numbered mode in
    let numbered = c.are_numbered.ensures ∙ mode-numbered c.mode_of-mode.result is.numbered mode in
    let seen = subst (λ (b : Bool). AreAllSeen b c.args.users.now c.args.boot.now c.in-Ok.orders.search.map.entries) numbered (c.in-Ok.ensures.whole (record { keys = record { exact = exact; faultless = c.is_faultless.ensures; in_range = c.are_in_range.ensures }; all = is.all })) in
    let w = c.in_ok-watched.watched in
    let o = c.in-Ok.orders in
    let kept = begun c.args.users.now w.asked.now w.lives.lives w.ends w.answers w.failed.items w.lives.notes c.in_ok-watched.ensures.ends c.in_ok-watched.ensures.answers c.in_ok-watched.ensures.failed c.in_ok-watched.ensures.notes in
    let found = kept-found c.args.users.now c.args.boot.now o.search.map.entries o.search.done (c.in-Ok.ensures.shown kept) o.explorer.watch.asked.now o.explorer.watch.ends o.explorer.watch.answers o.explorer.watch.failed.items (λ shown has. has.kept) in
    let same = ap (λ (a : Aims). a.asked) c.in-Ok.ensures.aim ∙ c.in_ok-watched.ensures.asked in
    let judged = subst (λ (qs : List AskedLine). AreJudgedFound c.args.users.now c.args.boot.now o.search.map.entries o.search.done qs o.explorer.watch.failed.items) same found.judged in
    all-held is.numbered c.args.users.now c.args.boot.now o.search.map.entries o.search.done c.args.asked.now o.explorer.watch.failed.items judged c.is_faultless.ensures c.are_in_range.ensures is.all seen
    (all-decided c.args.boot.now c.args.users.now c.args.asked.now c.args.wanted.is_exact is.numbered is.mode)

pub returns-clause-counts : goal.returns-clause-counts
returns-clause-counts g c =
    let w = c.in_ok-watched.watched in
    let o = c.in-Ok.orders in
    let kept = begun c.args.users.now w.asked.now w.lives.lives w.ends w.answers w.failed.items w.lives.notes c.in_ok-watched.ensures.ends c.in_ok-watched.ensures.answers c.in_ok-watched.ensures.failed c.in_ok-watched.ensures.notes in
    counted-found c.args.users.now c.args.boot.now o.search.map.entries o.search.done (c.in-Ok.ensures.shown kept)

pub returns-clause-first : goal.returns-clause-first
returns-clause-first g c =
    let w = c.in_ok-watched.watched in
    let o = c.in-Ok.orders in
    let kept = begun c.args.users.now w.asked.now w.lives.lives w.ends w.answers w.failed.items w.lives.notes c.in_ok-watched.ensures.ends c.in_ok-watched.ensures.answers c.in_ok-watched.ensures.failed c.in_ok-watched.ensures.notes in
    let found = kept-found c.args.users.now c.args.boot.now o.search.map.entries o.search.done (c.in-Ok.ensures.shown kept) o.explorer.watch.asked.now o.explorer.watch.ends o.explorer.watch.answers o.explorer.watch.failed.items (λ shown has. has.kept) in
    let same = ap (λ (a : Aims). a.asked) c.in-Ok.ensures.aim ∙ c.in_ok-watched.ensures.asked in
    subst (λ (qs : List AskedLine). AreFirstFound c.args.users.now c.args.boot.now o.search.map.entries o.search.done qs o.explorer.watch.ends o.explorer.watch.answers o.explorer.watch.failed.items) same found.first

pub returns-clause-shortest : goal.returns-clause-shortest
returns-clause-shortest g c = λ is.
    let mode = c.mode_of-mode.ensures ∙ is.mode in
    let exact = c.is_proved.ensures ∙ mode-proved c.mode_of-mode.result is.numbered mode in
    let numbered = c.are_numbered.ensures ∙ mode-numbered c.mode_of-mode.result is.numbered mode in
    let seen = subst (λ (b : Bool). AreAllSeen b c.args.users.now c.args.boot.now c.in-Ok.orders.search.map.entries) numbered (c.in-Ok.ensures.whole (record { keys = record { exact = exact; faultless = c.is_faultless.ensures; in_range = c.are_in_range.ensures }; all = is.all })) in
    let w = c.in_ok-watched.watched in
    let o = c.in-Ok.orders in
    let kept = begun c.args.users.now w.asked.now w.lives.lives w.ends w.answers w.failed.items w.lives.notes c.in_ok-watched.ensures.ends c.in_ok-watched.ensures.answers c.in_ok-watched.ensures.failed c.in_ok-watched.ensures.notes in
    let found = kept-found c.args.users.now c.args.boot.now o.search.map.entries o.search.done (c.in-Ok.ensures.shown kept) o.explorer.watch.asked.now o.explorer.watch.ends o.explorer.watch.answers o.explorer.watch.failed.items (λ shown has. has.kept) in
    let same = ap (λ (a : Aims). a.asked) c.in-Ok.ensures.aim ∙ c.in_ok-watched.ensures.asked in
    let first = subst (λ (qs : List AskedLine). AreFirstFound c.args.users.now c.args.boot.now o.search.map.entries o.search.done qs o.explorer.watch.ends o.explorer.watch.answers o.explorer.watch.failed.items) same found.first in
    all-shortest is.numbered c.args.users.now c.args.boot.now c.is_faultless.ensures c.are_in_range.ensures o.search.map.entries o.search.done is.all seen c.in-Ok.ensures.sorted c.args.asked.now o.explorer.watch.ends o.explorer.watch.answers o.explorer.watch.failed.items first
    (all-decided c.args.boot.now c.args.users.now c.args.asked.now c.args.wanted.is_exact is.numbered is.mode)

pub returns-clause-decided : goal.returns-clause-decided
returns-clause-decided g c = λ is.
    let mode = c.mode_of-mode.ensures ∙ is.mode in
    let exact = c.is_proved.ensures ∙ mode-proved c.mode_of-mode.result is.numbered mode in
    let numbered = c.are_numbered.ensures ∙ mode-numbered c.mode_of-mode.result is.numbered mode in
    let w = c.in_ok-watched.watched in
    let o = c.in-Ok.orders in
    let seen = subst (λ (b : Bool). AreAllSeen b c.args.users.now c.args.boot.now o.search.map.entries) numbered (c.in-Ok.ensures.whole (record { keys = record { exact = exact; faultless = c.is_faultless.ensures; in_range = c.are_in_range.ensures }; all = is.all })) in
    let graph = subst (λ (b : Bool). IsGraphOfRuns b c.args.users.now c.args.boot.now o.search.map.entries o.search.done o.search.edges.items) numbered (c.in-Ok.ensures.graph (record { exact = exact; faultless = c.is_faultless.ensures; in_range = c.are_in_range.ensures })) in
    let kept = begun c.args.users.now w.asked.now w.lives.lives w.ends w.answers w.failed.items w.lives.notes c.in_ok-watched.ensures.ends c.in_ok-watched.ensures.answers c.in_ok-watched.ensures.failed c.in_ok-watched.ensures.notes in
    let shown = c.in-Ok.ensures.shown kept in
    let same = ap (λ (a : Aims). a.lives) c.in-Ok.ensures.aim ∙ c.in_ok-watched.ensures.lives in
    subst (λ (ls : List Live). AreDecided c.args.users.now c.args.boot.now ls o.search.map.entries o.search.edges.items o.explorer.watch.lives.notes) same
    (decided is.numbered c.args.users.now c.args.boot.now c.is_faultless.ensures c.are_in_range.ensures o.search.map.entries o.search.done o.search.edges.items graph shown.shown shown.are o.explorer.watch.lives.lives o.explorer.watch.lives.notes shown.has.has.noted is.all seen)

pub returns-clause-stuck : goal.returns-clause-stuck
returns-clause-stuck g c = λ number is.
    let mode = c.mode_of-mode.ensures ∙ is in
    let exact = c.is_proved.ensures ∙ mode-proved c.mode_of-mode.result number mode in
    let numbered = c.are_numbered.ensures ∙ mode-numbered c.mode_of-mode.result number mode in
    let w = c.in_ok-watched.watched in
    let o = c.in-Ok.orders in
    let graph = subst (λ (b : Bool). IsGraphOfRuns b c.args.users.now c.args.boot.now o.search.map.entries o.search.done o.search.edges.items) numbered (c.in-Ok.ensures.graph (record { exact = exact; faultless = c.is_faultless.ensures; in_range = c.are_in_range.ensures })) in
    let kept = begun c.args.users.now w.asked.now w.lives.lives w.ends w.answers w.failed.items w.lives.notes c.in_ok-watched.ensures.ends c.in_ok-watched.ensures.answers c.in_ok-watched.ensures.failed c.in_ok-watched.ensures.notes in
    let shown = c.in-Ok.ensures.shown kept in
    let same = ap (λ (a : Aims). a.lives) c.in-Ok.ensures.aim ∙ c.in_ok-watched.ensures.lives in
    subst (λ (ls : List Live). AreStuckUnled c.args.users.now c.args.boot.now ls o.search.map.entries o.search.edges.items o.explorer.watch.lives.notes) same
    (unled-stuck number c.args.users.now c.args.boot.now c.is_faultless.ensures c.are_in_range.ensures o.search.map.entries o.search.done o.search.edges.items graph shown.shown shown.are o.explorer.watch.lives.lives o.explorer.watch.lives.notes shown.has.has.noted)
