use Rattle.std.proofs.Common.{◌≡◌, Some, None, true, sym, ap, subst, ◌∙◌}
use Rattle.mcs_types.specs.declared.id.Kind.TheVariants as kind
use Rattle.mcs_book.specs.Logs.{Log}
use Rattle.mcs_book.specs.Objects.{form_of}
use Rattle.mcs_book.specs.Boots.{is_object}
use Rattle.mcs_book.specs.Lookup.{radix_kept}
use Rattle.mcs_state.specs.Now.{Now, so_far}
use Rattle.mcs_boots.proofs.Booting.{so-far-boot}
use Rattle.mcs_boots.proofs.boot.Boot.radix.Goals as goal
use Rattle.std.proofs.Common.{if◌then◌else◌}
use Rattle.mcs_book.specs.Boots.{Boot, boot_log}

pub returns : goal.returns
returns c =
    let n : Now = c.self.inside.state in
    let R : Log = so_far n in
    let there : is_object R kind.CNode c.args.cnode ≡ true = sym c.exists_as.ensures ∙ c.if-not-exists_as.false in
    let e : R ≡ boot_log c.args.self.now.lines = so-far-boot n c.self.invariant.0 c.self.invariant.1 ∙ ap (λ (b : Boot). boot_log b.lines) c.self.view_is in
    let P : Log → Type 0 = λ S. Some c.radix.result ≡ (if is_object S kind.CNode c.args.cnode then Some (radix_kept (form_of S c.args.cnode)) else None) in
    subst P e (ap (λ r. Some r) c.radix.ensures.value ∙ ap (λ b. if b then Some (radix_kept (form_of R c.args.cnode)) else None) (sym there))
