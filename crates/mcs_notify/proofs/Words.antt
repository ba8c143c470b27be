-- Words that are taken, and waits: what is recorded, and what is allowed.
use Rattle.std.specs.Prelude.{ℕ, ◌≡◌, Bool, true, false, not, [], ◌∷◌, Option, Some, None}
use Rattle.std.proofs.Common.{refl, ◌∙◌}
use Rattle.mcs_types.specs.declared.id.ObjId.{ObjId}
use Rattle.mcs_types.specs.declared.record.Queue.TheVariants.{Waiters}
use Rattle.mcs_types.specs.declared.record.Rec.TheVariants as rec
use Rattle.mcs_types.specs.declared.entry.Answer.TheVariants.{Heard, Waits, Empty}
use Rattle.mcs_types.specs.Ids.{same}
use Rattle.mcs_types.proofs.Ids.{same-equal}
use Rattle.mcs_book.specs.Logs.{Log}
use Rattle.mcs_book.specs.Notifications.{bound_of, tied_to, pending}
use Rattle.mcs_book.specs.Receiving.{bound_elsewhere, pending_of_any, hear, stand, joins_or, wait_on}
use Rattle.mcs_book.specs.Sound.{Sound, Allowed}
use Rattle.mcs_book.proofs.Firm.Laws.{tied-bound, tied-none}
use Rattle.mcs_book.proofs.SoundLogs.KeptLaws.{bound-there, bound-one}
use Rattle.mcs_notify.specs.Waiting.{NoneElseBound, word_heard, takes_bound}

-- a wait where a word is pending
pub wait-hears : (R : Log) (b : Bool) (t n : ObjId) (word : ℕ) → pending R n ≡ Some word → wait_on t n b R ≡ record { answer = Heard word; records = rec.Heard t n word ∷ [] }
unfolding wait_on hear
wait-hears R b t n word is = rw is refl

-- a wait where none is
wait-silent : (R : Log) (b : Bool) (t n : ObjId) → pending R n ≡ None → wait_on t n b R ≡ joins_or b (stand t (Waiters n) None (Some n)) R
unfolding wait_on hear
wait-silent R b t n none = rw none refl

pub wait-joins : (R : Log) (t n : ObjId) → pending R n ≡ None → wait_on t n true R ≡ record { answer = Waits; records = stand t (Waiters n) None (Some n) R }
unfolding joins_or
wait-joins R t n none = wait-silent R true t n none

pub wait-empty : (R : Log) (t n : ObjId) → pending R n ≡ None → wait_on t n false R ≡ record { answer = Empty; records = [] }
unfolding joins_or
wait-empty R t n none = wait-silent R false t n none

-- the bound thread, whose word is pending
pub bound-hears : (R : Log) (t n : ObjId) (word : ℕ) → bound_of R t ≡ Some n → pending R n ≡ Some word → takes_bound t R ≡ rec.Heard t n word ∷ []
unfolding takes_bound
bound-hears R t n word bound is = rw (bound, is) refl

-- none is pending for it
pub bound-silent : (R : Log) (t : ObjId) → pending_of_any R (bound_of R t) ≡ None → takes_bound t R ≡ []
unfolding takes_bound
bound-silent R t none = go (bound_of R t) (pending_of_any R (bound_of R t)) none
  where
    go : (b : Option ObjId) (o : Option ℕ) → o ≡ None → word_heard t b o ≡ []
    go None o is = refl
    go (Some n) None is = refl
    go (Some n) (Some word) is = absurd cc

-- it may hear its word
pub bound-allowed : (R : Log) (t n : ObjId) (word : ℕ) → Sound R → bound_of R t ≡ Some n → pending R n ≡ Some word → Allowed R (rec.Heard t n word)
bound-allowed R t n word sound bound is = ((bound-there R t n sound bound).0, is, λ u other. bound-one R u t n sound other bound)

-- no other thread is bound where t may wait
pub may_wait-alone : (R : Log) (t n : ObjId) → Sound R → not (bound_elsewhere (tied_to R n) t) ≡ true → NoneElseBound R n t
may_wait-alone R t n sound may = go (tied_to R n) refl may
  where
    is_own : (u : ObjId) (b : Bool) → same u t ≡ b → not (not b) ≡ true → u ≡ t
    is_own u true is h = same-equal u t is
    is_own u false is h = absurd cc

    go : (b : Option ObjId) → tied_to R n ≡ b → not (bound_elsewhere b t) ≡ true → NoneElseBound R n t
    go None none h u bound = absurd (tied-none R n sound none u bound)
    go (Some x) tied h u bound = bound-one R u x n sound bound (tied-bound R n x tied) ∙ is_own x (same x t) refl h
