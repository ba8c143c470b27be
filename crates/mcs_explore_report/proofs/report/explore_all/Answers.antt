use Rattle.std.proofs.Common.{◌≡◌, ◌≤◌, true, List, Option, ℕ, length, ap, subst, ◌∙◌}
use Rattle.mcs_explore_script.specs.declared.lives.Live.{Live}
use Rattle.mcs_explore_script.specs.declared.questions.AskedLine.{AskedLine}
use Rattle.mcs_explore_script.specs.declared.script.UserScript.{UserScript}
use Rattle.mcs_explore_report.specs.Ends.{Kind}
use Rattle.mcs_explore_report.specs.Found.{AreHeldInRuns, AreJudgedFound}
use Rattle.mcs_explore_report.specs.Modes.{IsWholeSearch, mode_of}
use Rattle.mcs_explore_report.specs.Outcomes.{AreHeldBelow, HasMissed, any_fails, are_done, are_live, has_failure}
use Rattle.mcs_explore_report.specs.Stuck.{AreDecided, AreStuckUnled}
use Rattle.mcs_explore_report.proofs.Holding.{ends-among, holding}
use Rattle.mcs_explore_report.proofs.Judged.{no-failure}
use Rattle.mcs_explore_report.proofs.Refuting.{failing, kept-ends}
use Rattle.mcs_explore_report.proofs.report.explore_all.Goals as goal

pub returns-clause-holds : goal.returns-clause-holds
returns-clause-holds g c = λ is numbered mode.
    let script = c.args.script.now in
    let o = c.in_ok-orders.orders in
    let f = c.in_ok-findings.findings in
    let r = c.in_ok-report.report in
    let same = c.in_ok-report.ensures.findings in
    let orders = ap (λ (x : _). x.orders.now) same ∙ c.in_ok-findings.ensures.orders in
    let scripts = ap (λ (x : _). x.script.now) same ∙ c.in_ok-findings.ensures.script in
    let ends = ap (λ (x : _). x.ends) same in
    let all = subst (λ (x : _). length x.search.map.entries ≤ x.search.done) orders (c.explored.ensures.whole is) in
    let asked = c.deref.ensures.value in
    let lives = c.deref-2.ensures.value in
    let whole : IsWholeSearch script.boot script.users c.deref.result.now c.args.wanted.is_exact o.search.map.entries o.search.done = record { numbered = numbered; mode = ap (λ (qs : List AskedLine). mode_of script.boot script.users qs c.args.wanted.is_exact) asked ∙ mode; all = all } in
    let fails_nowhere = subst (λ (qs : List AskedLine). AreHeldInRuns script.users script.boot qs o.explorer.watch.failed.items) asked (c.in_ok-orders.ensures.held whole) in
    let decided = subst (λ (ls : List Live). AreDecided script.users script.boot ls o.search.map.entries o.search.edges.items o.explorer.watch.lives.notes) lives (c.in_ok-orders.ensures.decided whole) in
    let long = c.in_ok-orders.ensures.judged.long ∙ ap (λ (qs : List AskedLine). length qs) asked in
    let free = no-failure (any_fails r.judged.items) (are_live r.findings.places.items) (are_done r.findings.script.now.asked.items r.findings.ends) (c.explored.ensures.failure is) in
    let done = subst (λ (s : UserScript). are_done s.asked.items r.findings.ends ≡ true) scripts free.1 in
    let idle = subst (λ (ks : List Kind). are_done script.asked.items ks ≡ true) ends done in
    let live = subst (λ (ps : List (Option ℕ)). are_live ps ≡ true) (ap (λ (x : _). x.places.items) same) free.0 in
    let below = subst (λ (x : _). AreHeldBelow r.findings.script.now.users r.findings.ends x.explorer.watch.answers x.explorer.watch.failed.items r.findings.script.now.asked.items (length r.findings.script.now.asked.items)) orders (c.in_ok-report.ensures.held (c.explored.ensures.held is)) in
    let held_by = subst (λ (s : UserScript). AreHeldBelow s.users r.findings.ends o.explorer.watch.answers o.explorer.watch.failed.items s.asked.items (length s.asked.items)) scripts below in
    let held = subst (λ (ks : List Kind). AreHeldBelow script.users ks o.explorer.watch.answers o.explorer.watch.failed.items script.asked.items (length script.asked.items)) ends held_by in
    holding script o.search.map.entries o.search.done o.search.edges.items o.explorer.watch.lives.notes f.places.items f.ends o.explorer.watch.answers o.explorer.watch.failed.items
    (ends-among script.users script.boot o.explorer.watch.ends f.ends (c.in_ok-orders.ensures.run_ends whole) c.in_ok-findings.ensures.ends)
    c.in_ok-orders.ensures.answers (c.in_ok-orders.ensures.run_answers whole) fails_nowhere long decided c.in_ok-findings.ensures.places idle live held

pub returns-clause-fails : goal.returns-clause-fails
returns-clause-fails g c = λ is numbered mode.
    let script = c.args.script.now in
    let o = c.in_ok-orders.orders in
    let f = c.in_ok-findings.findings in
    let r = c.in_ok-report.report in
    let same = c.in_ok-report.ensures.findings in
    let orders = ap (λ (x : _). x.orders.now) same ∙ c.in_ok-findings.ensures.orders in
    let scripts = ap (λ (x : _). x.script.now) same ∙ c.in_ok-findings.ensures.script in
    let ends = ap (λ (x : _). x.ends) same in
    let places = ap (λ (x : _). x.places.items) same in
    let asked = c.deref.ensures.value in
    let lives = c.deref-2.ensures.value in
    let by_mode = ap (λ (qs : List AskedLine). mode_of script.boot script.users qs c.args.wanted.is_exact) asked ∙ mode in
    let judged = subst (λ (qs : List AskedLine). AreJudgedFound script.users script.boot o.search.map.entries o.search.done qs o.explorer.watch.failed.items) asked c.in_ok-orders.ensures.judged in
    let stuck = subst (λ (ls : List Live). AreStuckUnled script.users script.boot ls o.search.map.entries o.search.edges.items o.explorer.watch.lives.notes) lives (c.in_ok-orders.ensures.stuck numbered by_mode) in
    let shown = c.explored.ensures.shown is in
    let by_script = subst (λ (s : UserScript). has_failure r.judged.items r.findings.places.items s.asked.items r.findings.ends ≡ true) scripts shown in
    let by_places = subst (λ (ps : List (Option ℕ)). has_failure r.judged.items ps script.asked.items r.findings.ends ≡ true) places by_script in
    let any = subst (λ (ks : List Kind). has_failure r.judged.items f.places.items script.asked.items ks ≡ true) ends by_places in
    let missed = λ (one : any_fails r.judged.items ≡ true).
    let m = c.in_ok-report.ensures.missed one in
    let m_orders = subst (λ (x : _). HasMissed r.findings.script.now.users r.findings.ends x.explorer.watch.answers x.explorer.watch.failed.items r.findings.script.now.asked.items (are_live r.findings.places.items) (length x.search.map.entries) x.search.done) orders m in
    let m_script = subst (λ (s : UserScript). HasMissed s.users r.findings.ends o.explorer.watch.answers o.explorer.watch.failed.items s.asked.items (are_live r.findings.places.items) (length o.search.map.entries) o.search.done) scripts m_orders in
    let m_ends = subst (λ (ks : List Kind). HasMissed script.users ks o.explorer.watch.answers o.explorer.watch.failed.items script.asked.items (are_live r.findings.places.items) (length o.search.map.entries) o.search.done) ends m_script in
    subst (λ (ps : List (Option ℕ)). HasMissed script.users f.ends o.explorer.watch.answers o.explorer.watch.failed.items script.asked.items (are_live ps) (length o.search.map.entries) o.search.done) places m_ends in
    let real = c.in_ok-findings.ensures.real (kept-ends script.users script.boot o.search.map.entries o.search.done o.explorer.watch.ends c.in_ok-orders.ensures.ends) in
    let in_runs = λ (all : length o.search.map.entries ≤ o.search.done). c.in_ok-orders.ensures.run_answers (record { numbered = numbered; mode = by_mode; all = all }) in
    failing script o.search.map.entries o.search.done o.search.edges.items o.explorer.watch.lives.notes f.places.items f.ends o.explorer.watch.answers o.explorer.watch.failed.items c.in_ok-orders.ensures.runs real c.in_ok-orders.ensures.answers in_runs judged stuck
    c.in_ok-findings.ensures.places (any_fails r.judged.items) missed any
