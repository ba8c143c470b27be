-- Lookup by numbers, a level at a time, is lookup by bits.
use Rattle.std.specs.Prelude.{ℕ, zero, suc, ◌≡◌, ◌==◌, cond, Option, Some, None, Ok, Err}
use Rattle.std.proofs.Common.{refl, ap, sym, ◌∙◌, arith}
use Rattle.mcs_types.specs.declared.cap.Cap.{Cap}
use Rattle.mcs_types.specs.declared.entry.Refusal.{Refusal}
use Rattle.mcs_book.specs.Checks.{Checked, ◌>>=◌}
use Rattle.mcs_book.specs.Lookup.{Space, Reached, bits_of, is_none_left, cnode_cap, goes_on, walk}
use Rattle.mcs_cspace.specs.declared.levels.Step.{Step}
use Rattle.mcs_cspace.specs.Levels.{level_at}
use Rattle.mcs_cspace.proofs.Numbering.{different}
use Rattle.mcs_cspace.proofs.LevelLaws.{reached, level-is}

-- no bits are left exactly where their number is 0
pub none-left : (n a : ℕ) → is_none_left (bits_of n a) ≡ (n == 0)
none-left zero a = refl
none-left (suc n) a = sym (different (suc n) 0 (λ e. omega (arith, e)))

-- the CNode at which lookup continues, by numbers
abbrev pub next_of : Space → Cap → Step → Option Cap
next_of S cap s = cond (s.left == 0) None (cnode_cap (S.slot cap.obj s.index))

-- it is the one by bits
goes-is : (S : Space) (cap : Cap) (a : ℕ) (s : Step) → goes_on S (reached cap a s) ≡ next_of S cap s
goes-is S cap a s = ap (λ b. cond b None (cnode_cap (S.slot cap.obj s.index))) (none-left s.left a)

-- what follows a level
on : ℕ → Space → Reached → Option Cap → Checked Reached
on steps S at o = elim o [ None ↦ Ok at | Some next ↦ walk steps S next at.left ]

-- what follows a level by numbers
step : (steps : ℕ) (S : Space) (cap : Cap) (n a : ℕ) (m : Checked Step) → level_at cap.guard (S.radix cap.obj) n a ≡ m
    → walk (suc steps) S cap (bits_of n a) ≡ ((m >>= λ s. Ok (reached cap a s)) >>= λ at. on steps S at (goes_on S at))
unfolding on ◌>>=◌
step steps S cap n a m is = ap (λ k. k >>= λ at. on steps S at (goes_on S at)) (level-is S cap n a ∙ ap (λ k. k >>= λ s. Ok (reached cap a s)) is)

-- a level that is refused
pub step-refused : (steps : ℕ) (S : Space) (cap : Cap) (n a : ℕ) (why : Refusal) → level_at cap.guard (S.radix cap.obj) n a ≡ Err why
    → walk (suc steps) S cap (bits_of n a) ≡ Err why
unfolding ◌>>=◌
step-refused steps S cap n a why is = step steps S cap n a (Err why) is

-- a level at which lookup ends
pub step-ends : (steps : ℕ) (S : Space) (cap : Cap) (n a : ℕ) (s : Step) → level_at cap.guard (S.radix cap.obj) n a ≡ Ok s
    → next_of S cap s ≡ None → walk (suc steps) S cap (bits_of n a) ≡ Ok (reached cap a s)
unfolding on ◌>>=◌
step-ends steps S cap n a s is none = step steps S cap n a (Ok s) is ∙ ap (on steps S (reached cap a s)) (goes-is S cap a s ∙ none)

-- a level after which it goes on
pub step-on : (steps : ℕ) (S : Space) (cap next : Cap) (n a : ℕ) (s : Step) → level_at cap.guard (S.radix cap.obj) n a ≡ Ok s
    → next_of S cap s ≡ Some next → walk (suc steps) S cap (bits_of n a) ≡ walk steps S next (bits_of s.left a)
unfolding on ◌>>=◌
step-on steps S cap next n a s is some = step steps S cap n a (Ok s) is ∙ ap (on steps S (reached cap a s)) (goes-is S cap a s ∙ some)
