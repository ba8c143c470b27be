-- Seats, and the trails of their calls.
use Rattle.std.specs.Prelude.{ℕ, ◌≡◌, ◌<◌, ◌+◌, All, List, [], ◌∷◌, length, map, Option, Some, None, IfNone}
use Rattle.std.proofs.Common.{refl, ap, sym, ◌∙◌, subst, arith, get_or}
use Rattle.std.proofs.lemmas.List.{get_or-map, length-map, get_or_default}
use Rattle.std.proofs.lemmas.List.Elements.{All-get_or, All-map}
use Rattle.mcs_types.specs.declared.id.CoreId.{CoreId}
use Rattle.mcs_book.specs.History.{Book}
use Rattle.mcs_seats.specs.Seats.{Seat}
use Rattle.mcs_seats.specs.Settling.{AllAgree, HasTorn}
use Rattle.mcs_seats.specs.Trails.{Trail, IsBeside, trail_of, past_line, AllRight, IsTornOf, HasTornTrail}

-- all were followed as far as the book was made
pub all-beside : (b : Book) (at : ℕ) (seats : List Seat)
    → All (IsBeside (record { book = b; at = at })) (map (trail_of b at) seats)
all-beside b at seats =
    All-map (IsBeside (record { book = b; at = at })) (trail_of b at) seats (λ i d lt. record { book = refl; at = refl })

-- a line further
pub all-past : (b : Book) (at : ℕ) (seats : List Seat)
    → map past_line (map (trail_of b at) seats) ≡ map (trail_of b (at + 1)) seats
all-past b at [] = refl
all-past b at (s ∷ ss) = ap (λ ws. trail_of b (at + 1) s ∷ ws) (all-past b at ss)

-- seats agree whose calls are all right
pub all-agree : (b : Book) (at : ℕ) (seats : List Seat) → All AllRight (map (trail_of b at) seats) → AllAgree b seats
all-agree b at seats all i d lt =
    let f : Seat → Trail = trail_of b at in
    let there : i < length (map f seats) = omega (arith, lt, length-map seats f) in
    subst AllRight (get_or-map f seats i d (f d) lt) (All-get_or AllRight (map f seats) i (f d) there all)

-- so all seats agree where no torn call was found
pub none-torn : (b : Book) (at : ℕ) (seats : List Seat) (found : Option (CoreId × ℕ))
    → IfNone found (All AllRight (map (trail_of b at) seats)) → IfNone found (AllAgree b seats)
none-torn b at seats None right = all-agree b at seats right
none-torn b at seats (Some t) right = right

-- a seat is torn whose calls are
pub has-torn : (b : Book) (at : ℕ) (seats : List Seat) (c : CoreId) (n : ℕ) → HasTornTrail (map (trail_of b at) seats) c n
    → HasTorn b seats c n
has-torn b at seats c n h =
    let f : Seat → Trail = trail_of b at in
    let d : Seat = record { core = c; calls = [] } in
    let s : Seat = get_or seats h.place d in
    let few : h.place < length seats = let lt = h.few in omega (arith, lt, length-map seats f) in
    let same : h.trail ≡ f s = h.is ∙ get_or-map f seats h.place d h.trail few in
    record {
      place = h.place;
      seat = s;
      few = few;
      is = get_or_default seats h.place d s few;
      core = sym (ap (λ (w : Trail). w.core) same) ∙ h.core;
      torn = subst (λ w. IsTornOf w n) same h.torn;
    }
