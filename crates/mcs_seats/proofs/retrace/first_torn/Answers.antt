use Rattle.std.proofs.Common.{ℕ, ◌≡◌, ◌<◌, ◌+◌, List, All, IfNone, IfSome, length, map, ap, sym, subst, ◌∙◌, arith}
use Rattle.std.proofs.lemmas.Option.{IfSome_then}
use Rattle.mcs_book.specs.History.{Book}
use Rattle.mcs_seats.specs.Seats.{Seat}
use Rattle.mcs_seats.specs.Trails.{Trail, Place, IsBeside, AllRight, HasTornTrail, past_line, trail_of}
use Rattle.mcs_seats.proofs.Cutting.{line-none}
use Rattle.mcs_seats.proofs.Seating.{all-beside, all-past, none-torn, has-torn}
use Rattle.mcs_seats.proofs.retrace.first_torn.Goals as goal

-- all followers are where the book was made again
beside : (b : Book) (at : ℕ) (seats : List Seat) (p : Place) (ws : List Trail) → p ≡ record { book = b; at = at } → ws ≡ map (trail_of b at) seats → All (IsBeside p) ws
beside b at seats p ws made followed =
    subst (λ (q : Place). All (IsBeside q) ws) (sym made)
    (subst (λ (xs : List Trail). All (IsBeside (record { book = b; at = at })) xs) (sym followed) (all-beside b at seats))

pub unreachable-requires : goal.unreachable-requires
unreachable-requires g c =
    let past : length c.args.book.now.book.lines < c.loop-at.at =
    line-none c.args.book.now.book c.loop-at.at c.loop-at.auto.at (sym c.line.ensures ∙ c.in-None.is) in
    omega (arith, past, c.lines-at-end.ensures, c.loop-at-test.true)

pub pass_next-requires-clause-beside : goal.pass_next-requires-clause-beside
pass_next-requires-clause-beside g c =
    beside c.args.book.now.book c.loop-at.at c.args.seats.now.items c.loop-at.retrace c.loop-at.followers.items c.loop-at.invariant.made c.loop-at.invariant.followed

pub loop-at-preserved : goal.loop-at-preserved
loop-at-preserved g c =
    let passed = c.in_ok-pass_next-in-Some.ensures in
    record {
      made = passed.made ∙ ap (λ (p : Place). record p { at = p.at + 1 }) c.loop-at.invariant.made;
      followed = passed.followed
          ∙ ap (λ (ws : List Trail). map past_line ws) c.loop-at.invariant.followed
          ∙ all-past c.args.book.now.book c.loop-at.at c.args.seats.now.items;
    }

pub torn_follower-requires-clause-beside : goal.torn_follower-requires-clause-beside
torn_follower-requires-clause-beside g c =
    beside c.args.book.now.book c.loop-at.at c.args.seats.now.items c.loop-at.retrace c.loop-at.followers.items c.loop-at.invariant.made c.loop-at.invariant.followed

pub returns-clause-none : goal.returns-clause-none
returns-clause-none g c =
    let found = c.torn_follower.result in
    none-torn c.args.book.now.book c.loop-at.at c.args.seats.now.items found
    (subst (λ (ws : List Trail). IfNone found (All AllRight ws)) c.loop-at.invariant.followed c.torn_follower.ensures.none)

pub returns-clause-torn : goal.returns-clause-torn
returns-clause-torn g c =
    let found = c.torn_follower.result in
    IfSome_then found
    (subst (λ (ws : List Trail). IfSome found (λ t. HasTornTrail ws t.0 t.1)) c.loop-at.invariant.followed
    c.torn_follower.ensures.torn)
    (λ t. has-torn c.args.book.now.book c.loop-at.at c.args.seats.now.items t.0 t.1)
