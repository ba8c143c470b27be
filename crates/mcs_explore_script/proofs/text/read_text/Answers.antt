use Rattle.std.proofs.Common.{◌≡◌, List, ℕ, [], None, length, take, refl, ap, sym, subst, ◌∙◌, arith}
use Rattle.std.specs.Io.KnownBytes.{Consumes}
use Rattle.std.proofs.KnownBytes.{Consumes-trans}
use Rattle.std.proofs.lemmas.List.{length-take-le}
use Rattle.mcs_phases.specs.declared.fault.SimFault.TheVariants as fault
use Rattle.mcs_phases.specs.declared.fault.SimFault.{SimFault}
use Rattle.mcs_sim.specs.Users.{Users, no_users, IsKept, TakesUsers}
use Rattle.mcs_sim.specs.Running.{EndsUsers}
use Rattle.mcs_sim.proofs.RunLaws.{IfErr-same, Consumes-nil, no-more}
use Rattle.mcs_sim.proofs.UserLaws.{takes-nothing, takes-append, kept-nil, further, stops-here, ends-in, ends-at, users-read}
use Rattle.mcs_explore_script.proofs.text.read_text.Goals as goal

pub returns-in_default-clause-err : goal.returns-in_default-clause-err
returns-in_default-clause-err g c =
    ([], Consumes-nil (g.R.Read.remaining c.args.from.now.reader) [] refl, stops-here None [] (no_users None) (takes-nothing None) (kept-nil 0 [] (omega arith) refl))

pub loop-n-init : goal.loop-n-init
loop-n-init g c =
    let none : c.new-text.result.items ≡ [] = search in
    record {
      read = Consumes-nil _ _ none;
      takes = subst (λ (t : List ℕ). TakesUsers t (no_users None) c.in-Ok.users) (sym none) (subst (TakesUsers [] (no_users None)) (sym c.in-Ok.ensures) (takes-nothing None));
      kept = subst (λ (u : Users). IsKept u.lines u.line) (sym c.in-Ok.ensures) (kept-nil 0 [] (omega arith) refl);
    }

pub returns-in_default-read_piece-clause-err : goal.returns-in_default-read_piece-clause-err
returns-in_default-read_piece-clause-err g c =
    let i = c.loop-n.invariant in
    let read = no-more _ _ _ _ _ i.read c.in_default-read_piece.ensures.err refl in
    (c.loop-n.text.items, read, stops-here None c.loop-n.text.items c.loop-n.users i.takes i.kept)

pub loop-n-smaller : goal.loop-n-smaller
loop-n-smaller g c =
    let n = c.in-Ok-read_piece.n in
    let p = c.read_piece.new.piece in
    let count : length (take n p) ≡ n = length-take-le n p c.in-Ok-read_piece.ensures.ok in
    let come = further c.loop-n.users c.feed.new.self (take n p) c.in_ok-feed.ensures.ok c.in_ok-feed.ensures.kept in
    omega (arith, come.0, come.1, count)

pub loop-n-preserved : goal.loop-n-preserved
loop-n-preserved g c =
    let i = c.loop-n.invariant in
    let text = take c.in-Ok-read_piece.n c.read_piece.new.piece in
    record {
      read = subst (Consumes _ _) (sym c.in_ok-keep.ensures.kept) (Consumes-trans _ _ _ _ _ i.read c.in-Ok-read_piece.ensures.bytes);
      takes = subst (λ t. TakesUsers t (no_users None) c.feed.new.self) (sym c.in_ok-keep.ensures.kept) (takes-append (no_users None) c.loop-n.users c.feed.new.self c.loop-n.text.items text i.takes c.in_ok-feed.ensures.ok);
      kept = c.in_ok-feed.ensures.kept;
    }

pub returns-in_err-boot-clause-err : goal.returns-in_err-boot-clause-err
returns-in_err-boot-clause-err g c =
    let i = c.loop-n.invariant in
    let left = g.R.Read.remaining c.args.from.now.reader in
    let left' = g.R.Read.remaining c.read_piece.new.self.reader in
    let none : c.in-Ok-read_piece.n ≡ 0 = c.if-n-eq0.true in
    let read = no-more _ _ _ _ _ i.read c.in-Ok-read_piece.ensures.bytes (ap (λ (n : ℕ). take n c.read_piece.new.piece) none) in
    IfErr-same _ _ _ c.from_residual.ensures.1
    (ends-at c.in_err-boot.field-0.0 None left left' c.loop-n.text.items c.loop-n.users i.takes i.kept read (c.in-Ok-read_piece.ensures.end none) c.in_err-boot.ensures.err)

pub returns-then-n-eq0-clause-ok : goal.returns-then-n-eq0-clause-ok
returns-then-n-eq0-clause-ok g c =
    let i = c.loop-n.invariant in
    let none : c.in-Ok-read_piece.n ≡ 0 = c.if-n-eq0.true in
    record {
      read = no-more _ _ _ _ _ i.read c.in-Ok-read_piece.ensures.bytes (ap (λ (n : ℕ). take n c.read_piece.new.piece) none);
      ended = c.in-Ok-read_piece.ensures.end none;
      faultless = users-read None c.loop-n.text.items c.loop-n.users i.takes ∙ c.in_ok-boot.ensures.ok;
    }

pub returns-in_err-feed-clause-err : goal.returns-in_err-feed-clause-err
returns-in_err-feed-clause-err g c =
    let i = c.loop-n.invariant in
    let n = c.in-Ok-read_piece.n in
    let p = c.read_piece.new.piece in
    let left = g.R.Read.remaining c.args.from.now.reader in
    let left' = g.R.Read.remaining c.read_piece.new.self.reader in
    let count : length (take n p) ≡ n = length-take-le n p c.in-Ok-read_piece.ensures.ok in
    let read = Consumes-trans _ _ _ _ _ i.read c.in-Ok-read_piece.ensures.bytes in
    IfErr-same _ _ _ c.from_residual-in_err-feed.ensures.1
    (ends-in c.in_err-feed.field-0.0 None left left' c.loop-n.text.items (take n p) c.loop-n.users i.takes i.kept (omega (arith, count, c.in-Ok-read_piece.ensures.ok, c.read_piece.auto.piece)) read c.in_err-feed.ensures.err)

pub returns-in_err-keep-clause-err : goal.returns-in_err-keep-clause-err
returns-in_err-keep-clause-err g c =
    let i = c.loop-n.invariant in
    let n = c.in-Ok-read_piece.n in
    let p = c.read_piece.new.piece in
    let left = g.R.Read.remaining c.args.from.now.reader in
    let left' = g.R.Read.remaining c.read_piece.new.self.reader in
    let count : length (take n p) ≡ n = length-take-le n p c.in-Ok-read_piece.ensures.ok in
    let read = Consumes-trans _ _ _ _ _ i.read c.in-Ok-read_piece.ensures.bytes in
    IfErr-same _ _ _ c.from_residual-in_err-keep.ensures.1
    (subst (λ (e : SimFault). EndsUsers e None left left') (sym c.in_err-keep.ensures.fault)
    (ends-in fault.OutOfMemory None left left' c.loop-n.text.items (take n p) c.loop-n.users i.takes i.kept (omega (arith, count, c.in-Ok-read_piece.ensures.ok, c.read_piece.auto.piece)) read tt))
