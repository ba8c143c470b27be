-- The rows of the table are what the code does.
use Rattle.std.specs.Prelude.{ℕ, ◌≡◌, ◌==◌, Bool, true, false, cond, Ok, Err}
use Rattle.std.proofs.Common.{refl, ap, sym, ◌∙◌, subst}
use Rattle.mcs_types.specs.declared.id.ObjId.{ObjId}
use Rattle.mcs_types.specs.declared.id.CoreId.{CoreId}
use Rattle.mcs_types.specs.declared.id.Badge.{Badge}
use Rattle.mcs_types.specs.declared.cap.Cap.{Cap}
use Rattle.mcs_types.specs.declared.cap.Place.{Place}
use Rattle.mcs_types.specs.declared.entry.Entry.{Entry}
use Rattle.mcs_types.specs.declared.entry.Entry.TheVariants.{CopyCap, MintCap, MoveCap}
use Rattle.mcs_types.specs.declared.entry.Answer.{Answer}
use Rattle.mcs_types.specs.declared.entry.Answer.TheVariants.{Refused}
use Rattle.mcs_types.specs.declared.entry.Refusal.{Refusal}
use Rattle.mcs_types.specs.declared.entry.Refusal.TheVariants.{WrongKind, BadgeNotAllowed}
use Rattle.mcs_types.specs.declared.record.Mode.{Mode}
use Rattle.mcs_types.specs.declared.record.Mode.TheVariants.{Running, Restart, Inactive}
use Rattle.mcs_book.specs.Logs.{Log}
use Rattle.mcs_book.specs.Checks.{Checked, ◌>>=◌, ◌>>◌, need}
use Rattle.mcs_book.specs.Rights.{can_badge}
use Rattle.mcs_book.specs.Threads.{mode_of}
use Rattle.mcs_book.specs.Pieces.{◌then◌, Act, Outcome, before}
use Rattle.mcs_book.specs.Placing.{source_and_dest}
use Rattle.mcs_book.specs.Table.{row, wakes}
use Rattle.mcs_book.proofs.Books.TableLaws.{does-acts}
use Rattle.mcs_slots.specs.Masks.{masked, badged}
use Rattle.mcs_state.specs.Now.{Now, so_far}
use Rattle.mcs_state.specs.Checks.{act_of}
use Rattle.mcs_state.specs.Doing.{Gives, Holds, Acts, FitsAct, FitsAwake, Does, Fits}
use Rattle.mcs_state.proofs.Doing.{refused}
use Rattle.mcs_caps.specs.declared.checks.Placing.{Placing}
use Rattle.mcs_caps.specs.Rows.{placed_by, mintable, fills_act, moves_act}

-- the act of a copy, and of a mint
abbrev pub copies : ℕ → Placing → Act
copies rights at = fills_act at (masked at.cap rights)

abbrev pub mints : ℕ → Badge → Placing → Act
mints rights badge at = fills_act at (badged at.cap rights badge)

-- the row of CopyCap
pub row-copy : (R : Log) (core : CoreId) (t : ObjId) (s d : Place) (rights : ℕ) (m : Checked Placing) → placed_by m ≡ source_and_dest R t s d → row R core t (CopyCap s d rights) ≡ act_of m (copies rights)
unfolding row ◌>>=◌
row-copy R core t s d rights (Err why) e = rw (sym e) refl
row-copy R core t s d rights (Ok at) e = rw (sym e) refl

-- two tests, and then an act
tests : (b c : Bool) (at : Placing) (f : Placing → Act) → (need b WrongKind >> (need c BadgeNotAllowed >> Ok (f at))) ≡ act_of (cond b (cond c (Ok at) (Err BadgeNotAllowed)) (Err WrongKind)) f
unfolding ◌>>◌ need
tests true true at f = refl
tests true false at f = refl
tests false c at f = refl

-- the row of MintCap
pub row-mint : (R : Log) (core : CoreId) (t : ObjId) (s d : Place) (rights : ℕ) (badge : Badge) (m : Checked Placing) → placed_by m ≡ source_and_dest R t s d
    → row R core t (MintCap s d rights badge) ≡ act_of (mintable m) (mints rights badge)
unfolding row ◌>>=◌
row-mint R core t s d rights badge (Err why) e = rw (sym e) refl
row-mint R core t s d rights badge (Ok at) e = rw (sym e) (tests (can_badge at.cap) (at.cap.badge.0 == 0) at (mints rights badge))

-- the row of MoveCap
pub row-move : (R : Log) (core : CoreId) (t : ObjId) (s d : Place) (m : Checked Placing) → placed_by m ≡ source_and_dest R t s d → row R core t (MoveCap s d) ≡ act_of m moves_act
unfolding row ◌>>=◌ ◌then◌
row-move R core t s d (Err why) e = rw (sym e) refl
row-move R core t s d (Ok at) e = rw (sym e) refl

-- an entry whose checks failed does nothing
pub row-refused : {A : Type 0} (n : Now) (core : CoreId) (t : ObjId) (entry : Entry) (m : Checked A) (f : A → Act) (why : Refusal) → row (so_far n) core t entry ≡ act_of m f → m ≡ Err why → Does n core t entry (Refused why) n
row-refused n core t entry m f why e is = refused n core t entry why (e ∙ ap (λ k. act_of k f) is)

-- one whose checks were passed has room to wake its thread and to act
pub row-room : {A : Type 0} (n : Now) (core : CoreId) (t : ObjId) (entry : Entry) (m : Checked A) (f : A → Act) (x : A) → row (so_far n) core t entry ≡ act_of m f → m ≡ Ok x → Fits n core t entry
    → FitsAct (before (wakes (mode_of (so_far n) t) t) (f x)) n
row-room n core t entry m f x e is room = subst (λ (o : Outcome). Holds o.records n) (does-acts (so_far n) core t entry (f x) (e ∙ ap (λ k. act_of k f) is)) room

-- the room for a capability in a slot is that for any other there
pub room-any : (t : ObjId) (at : Placing) (a b : Cap) (n : Now) → FitsAwake t (fills_act at a) n → FitsAwake t (fills_act at b) n
unfolding before
room-any t at a b n = go (mode_of (so_far n) t)
  where
    go : (m : Mode) → FitsAct (before (wakes m t) (fills_act at a)) n → FitsAct (before (wakes m t) (fills_act at b)) n
    go Restart room = room
    go Running room = room
    go Inactive room = room

-- and does both
pub row-acts : {A : Type 0} (n l : Now) (core : CoreId) (t : ObjId) (entry : Entry) (m : Checked A) (f : A → Act) (x : A) (answer : Answer) → row (so_far n) core t entry ≡ act_of m f → m ≡ Ok x
    → Acts (before (wakes (mode_of (so_far n) t) t) (f x)) n answer l → Does n core t entry answer l
row-acts n l core t entry m f x answer e is acts = subst (λ (o : Outcome). Gives o n answer l) (sym (does-acts (so_far n) core t entry (f x) (e ∙ ap (λ k. act_of k f) is))) acts

-- what passed the tests of a mint is what was found
tested-ok : (m : Checked Placing) (found at : Placing) (b c : Bool) → m ≡ Ok found → cond b (cond c m (Err BadgeNotAllowed)) (Err WrongKind) ≡ Ok at → m ≡ Ok at
tested-ok m found at true true is h = h
tested-ok m found at true false is h = absurd cc
tested-ok m found at false c is h = absurd cc

pub mintable-ok : (m : Checked Placing) (at : Placing) → mintable m ≡ Ok at → m ≡ Ok at
mintable-ok (Err why) at h = absurd cc
mintable-ok (Ok found) at h = tested-ok (Ok found) found at (can_badge found.cap) (found.cap.badge.0 == 0) refl h
