use Rattle.std.proofs.Common.{◌≡◌, IsTrue, is_ok, List, ℕ, sym, ap, subst, ◌∙◌}
use Rattle.mcs_types.specs.declared.boot.BootLine.{BootLine}
use Rattle.mcs_book.specs.Logs.{Log}
use Rattle.mcs_book.specs.Boots.{boot_check}
use Rattle.mcs_state.specs.Now.{Now, so_far}
use Rattle.mcs_boots.proofs.Booting.{so-far-boot, faultless-at}
use Rattle.mcs_boots.proofs.boot.boot_state.Goals as goal
use Rattle.std.proofs.Common.{take, reverse, get_or}
use Rattle.mcs_book.specs.Boots.{boot_log}
use Rattle.mcs_book.specs.History.{Book}

pub takes_line-requires-clause-faultless : goal.takes_line-requires-clause-faultless
takes_line-requires-clause-faultless g c =
    let i = c.loop-line.invariant in
    let n : Now = c.loop-line.state in
    let old : List BootLine = reverse (take c.loop-line.line-index c.boot-line-items.result.now) in
    let log : so_far n ≡ boot_log old = so-far-boot n i.1 (ap (λ (b : Book). b.lines) i.2) ∙ ap (λ (b : Book). boot_log b.boot.lines) i.2 in
    let P : ℕ → Log → Type 0 = λ k R. IsTrue (is_ok (boot_check k R c.line-item.result)) in
    let inside : List BootLine = c.boot-line-items.result.now in
    let at = faultless-at c.args.book.now.book.boot.cores c.args.book.now.book.boot.lines inside c.loop-line.line-index c.line-item.result i.0 c.requires.lines c.loop-line-test.true in
    let it : get_or inside c.loop-line.line-index c.line-item.result ≡ c.line-item.result = sym c.line-item.is in
    subst (λ R. P n.book.boot.cores R) (sym log) (subst (λ k. P k (boot_log old)) (sym (ap (λ (b : Book). b.boot.cores) i.2)) (subst (λ l. IsTrue (is_ok (boot_check c.args.book.now.book.boot.cores (boot_log old) l))) it at))
