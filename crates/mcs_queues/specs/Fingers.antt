-- Where a walk along a line may begin.
use Rattle.std.specs.Prelude.{ℕ, suc, ◌≡◌, ◌≢◌, ◌<◌, ◌+◌, ◌==◌, ◌&&◌, cond, List, [], ◌∷◌, length, slice_index_or, Option, Some, None, replicate}
use Rattle.mcs_queues.specs.declared.lines.ThreadNo.{ThreadNo}
use Rattle.mcs_queues.specs.declared.fingers.LineFingers.{LineFingers}
use Rattle.mcs_queues.specs.declared.fingers.TheConstants.{PRIORITIES, WORDS}
use Rattle.mcs_queues.specs.Links.{Links, slot_at, stands_at}

-- rows of fingers, and which of them each line has
pub record FingerRows : Type 0 where
  pub rows : List LineFingers
  pub places : List ℕ

-- a row with no finger
abbrev pub no_fingers : LineFingers
no_fingers = record { known = replicate WORDS 0; threads = replicate PRIORITIES None }

-- that many lines, with no finger
abbrev pub blank_rows : ℕ → FingerRows
blank_rows n = record { rows = no_fingers ∷ []; places = replicate n 0 }

-- the row of line q
abbrev pub row_of : FingerRows → ℕ → LineFingers
row_of f q = slice_index_or f.rows (slice_index_or f.places q 0) no_fingers

-- the finger of priority p in line q
abbrev pub finger : FingerRows → ℕ → ℕ → Option ThreadNo
finger f q p = slice_index_or (row_of f q).threads p None

-- how many lines have the first row
abbrev pub shared : List ℕ → ℕ
shared [] = 0
shared (n ∷ ns) = cond (n == 0) 1 0 + shared ns

-- the first row has no fingers, and each other is that of one line
pub record IsKept (f : FingerRows) : Type 0 where
  pub within : (k : ℕ) → slice_index_or f.places k 0 < length f.rows
  pub first : slice_index_or f.rows 0 no_fingers ≡ no_fingers
  pub apart : (j k : ℕ) → slice_index_or f.places j 0 ≡ slice_index_or f.places k 0 → slice_index_or f.places k 0 ≢ 0 → j ≡ k
  pub count : shared f.places + length f.rows ≡ suc (length f.places)
  pub few : length f.places < 65536

-- each finger is the same
abbrev pub SameFingers : FingerRows → FingerRows → Type 0
SameFingers old new = (k c : ℕ) → finger new k c ≡ finger old k c

-- the finger of priority p in line q is written
abbrev pub Points : FingerRows → FingerRows → ℕ → ℕ → Option ThreadNo → Type 0
Points old new q p o = (k c : ℕ) → finger new k c ≡ cond ((k == q) && (c == p)) o (finger old k c)

-- no finger points where it did not
abbrev pub NoneMoves : FingerRows → FingerRows → Type 0
NoneMoves old new = (k c : ℕ) (u : ThreadNo) → finger new k c ≡ Some u → finger old k c ≡ Some u

-- the finger of priority p in line q does not point at thread t any more, none points where it did
-- not, and every other is as it was
pub record IsReleased (old new : FingerRows) (q p : ℕ) (t : ThreadNo) : Type 0 where
  pub left : finger new q p ≢ Some t
  pub same : NoneMoves old new
  pub others : Points old new q p (finger new q p)

-- at most one finger is another, and that points nowhere any more
pub record AtMostOneGoes (old new : FingerRows) : Type 0 where
  pub line : ℕ
  pub priority : ℕ
  pub others : Points old new line priority (finger new line priority)
  pub none : NoneMoves old new

-- a thread is the finger of a priority below p
abbrev pub IsLower : FingerRows → ℕ → ℕ → ThreadNo → Type 0
IsLower f q p t = (c : ℕ) × (c < p) × (finger f q c ≡ Some t)

-- each finger points at a thread that is in its line with its priority
pub record Pointed (f : FingerRows) (l : Links) : Type 0 where
  pub lines : length f.places ≡ length l.lines
  pub stands : (q c : ℕ) (t : ThreadNo) → finger f q c ≡ Some t → stands_at l t.0 ≡ Some q
  pub priorities : (q c : ℕ) (t : ThreadNo) → finger f q c ≡ Some t → (slot_at l t.0).priority.0 ≡ c
