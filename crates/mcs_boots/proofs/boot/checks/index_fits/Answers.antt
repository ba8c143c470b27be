use Rattle.std.proofs.Common.{◌≡◌, ◌^◌, nat_lt, true, cond, sym, ap, ◌∙◌}
use Rattle.mcs_types.specs.declared.id.Kind.TheVariants as kind
use Rattle.mcs_book.specs.Logs.{Log}
use Rattle.mcs_book.specs.Objects.{form_of}
use Rattle.mcs_book.specs.Boots.{is_object}
use Rattle.mcs_book.specs.Lookup.{radix_kept}
use Rattle.mcs_state.specs.Now.{so_far}
use Rattle.mcs_boots.proofs.boot.checks.index_fits.Goals as goal

pub returns : goal.returns
returns g c =
    let R : Log = so_far c.args.state.now in
    let there : is_object R kind.CNode c.args.cnode ≡ true = sym c.exists_as.ensures ∙ c.if-not-exists_as.false in
    c.has_bits.ensures ∙ ap (λ n. nat_lt c.args.index (2 ^ n)) c.radix.ensures.value
    ∙ ap (λ b. cond b (nat_lt c.args.index (2 ^ radix_kept (form_of R c.args.cnode))) true) (sym there)
