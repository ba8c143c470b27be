use Rattle.std.proofs.Common.{◌≡◌, ℕ, ◌++◌, [], length, take, IfErr, refl, ap, sym, subst, arith}
use Rattle.std.specs.Prelude.{IsErrAnd}
use Rattle.std.proofs.KnownBytes.{Consumes-trans}
use Rattle.std.proofs.lemmas.List.{length-take-le}
use Rattle.mcs_sim.specs.Users.{Users, no_users, IsKept, TakesUsers, IsFaultIn, IsFaultAtEnd}
use Rattle.mcs_sim.proofs.RunLaws.{IfErr-same, IfOk-then, IfErr-then, Consumes-nil, no-more}
use Rattle.mcs_sim.proofs.UserLaws.{takes-nothing, takes-append, kept-nil, further, stops-here, ends-in, ends-at, reads-all}
use Rattle.mcs_sim.proofs.run.read_users.Goals as goal

pub returns-in_default-clause-err : goal.returns-in_default-clause-err
returns-in_default-clause-err g c =
    ([], Consumes-nil (g.R.Read.remaining c.args.from.now.reader) [] refl, stops-here c.args.cores [] (no_users c.args.cores) (takes-nothing c.args.cores) (kept-nil 0 [] (omega arith) refl))

pub loop-n-init : goal.loop-n-init
loop-n-init g c = record {
  reached = ([], Consumes-nil (g.R.Read.remaining c.args.from.now.reader) [] refl, subst (TakesUsers [] (no_users c.args.cores)) (sym c.in-Ok.ensures) (takes-nothing c.args.cores));
  kept = subst (λ (u : Users). IsKept u.lines u.line) (sym c.in-Ok.ensures) (kept-nil 0 [] (omega arith) refl);
  count = omega arith;
}

pub returns-in_default-read_piece-clause-err : goal.returns-in_default-read_piece-clause-err
returns-in_default-read_piece-clause-err g c =
    let i = c.loop-n.invariant in
    let read = no-more _ _ _ _ _ i.reached.1 c.in_default-read_piece.ensures.err refl in
    (i.reached.0, read, stops-here c.args.cores i.reached.0 c.loop-n.users i.reached.2 i.kept)

pub returns-then-n-eq0-clause-ok : goal.returns-then-n-eq0-clause-ok
returns-then-n-eq0-clause-ok g c =
    let i = c.loop-n.invariant in
    let left = g.R.Read.remaining c.args.from.now.reader in
    let left' = g.R.Read.remaining c.read_piece.new.self.reader in
    let none : c.in-Ok-read_piece.n ≡ 0 = c.if-n-eq0.true in
    let read = no-more _ _ _ _ _ i.reached.1 c.in-Ok-read_piece.ensures.bytes (ap (λ (n : ℕ). take n c.read_piece.new.piece) none) in
    IfOk-then c.end.result _ _ c.end.ensures.ok (λ r said. reads-all c.args.cores left left' i.reached.0 c.loop-n.users r.0 r.1.items i.reached.2 read (c.in-Ok-read_piece.ensures.end none) said)

pub returns-then-n-eq0-clause-err : goal.returns-then-n-eq0-clause-err
returns-then-n-eq0-clause-err g c =
    let i = c.loop-n.invariant in
    let left = g.R.Read.remaining c.args.from.now.reader in
    let left' = g.R.Read.remaining c.read_piece.new.self.reader in
    let none : c.in-Ok-read_piece.n ≡ 0 = c.if-n-eq0.true in
    let read = no-more _ _ _ _ _ i.reached.1 c.in-Ok-read_piece.ensures.bytes (ap (λ (n : ℕ). take n c.read_piece.new.piece) none) in
    IfErr-then c.end.result _ _ c.end.ensures.err (λ e bad. ends-at e c.args.cores left left' i.reached.0 c.loop-n.users i.reached.2 i.kept read (c.in-Ok-read_piece.ensures.end none) bad)

pub returns-then-n-eq0-clause-failed : goal.returns-then-n-eq0-clause-failed
returns-then-n-eq0-clause-failed g c = λ is. absurd (subst (λ r. IfErr r (IsFaultAtEnd c.loop-n.users)) is c.end.ensures.err)

pub returns-in_err-feed-clause-err : goal.returns-in_err-feed-clause-err
returns-in_err-feed-clause-err g c =
    let i = c.loop-n.invariant in
    let n = c.in-Ok-read_piece.n in
    let p = c.read_piece.new.piece in
    let left = g.R.Read.remaining c.args.from.now.reader in
    let left' = g.R.Read.remaining c.read_piece.new.self.reader in
    let count : length (take n p) ≡ n = length-take-le n p c.in-Ok-read_piece.ensures.ok in
    let read = Consumes-trans _ _ _ _ _ i.reached.1 c.in-Ok-read_piece.ensures.bytes in
    IfErr-same _ _ _ c.from_residual.ensures.1
    (ends-in c.in_err-feed.field-0.0 c.args.cores left left' i.reached.0 (take n p) c.loop-n.users i.reached.2 i.kept (omega (arith, count, c.in-Ok-read_piece.ensures.ok, c.read_piece.auto.piece)) read c.in_err-feed.ensures.err)

pub returns-in_err-feed-clause-failed : goal.returns-in_err-feed-clause-failed
returns-in_err-feed-clause-failed g c = λ is.
    let same = subst (λ r. IsErrAnd r (λ x. x ≡ c.in_err-feed.field-0.0)) is c.from_residual.ensures.1 in
    absurd (subst (IsFaultIn (take c.in-Ok-read_piece.n c.read_piece.new.piece) c.loop-n.users) (sym same) c.in_err-feed.ensures.err)

pub loop-n-smaller : goal.loop-n-smaller
loop-n-smaller g c =
    let n = c.in-Ok-read_piece.n in
    let p = c.read_piece.new.piece in
    let count : length (take n p) ≡ n = length-take-le n p c.in-Ok-read_piece.ensures.ok in
    let come = further c.loop-n.users c.feed.new.self (take n p) c.in_ok-feed.ensures.ok c.in_ok-feed.ensures.kept in
    omega (arith, come.0, come.1, count)

pub loop-n-preserved : goal.loop-n-preserved
loop-n-preserved g c =
    let i = c.loop-n.invariant in
    let text = take c.in-Ok-read_piece.n c.read_piece.new.piece in
    record {
      reached = (i.reached.0 ++ text, Consumes-trans _ _ _ _ _ i.reached.1 c.in-Ok-read_piece.ensures.bytes, takes-append (no_users c.args.cores) c.loop-n.users c.feed.new.self i.reached.0 text i.reached.2 c.in_ok-feed.ensures.ok);
      kept = c.in_ok-feed.ensures.kept;
      count = omega (arith, i.count, c.read_piece.ensures.count);
    }
