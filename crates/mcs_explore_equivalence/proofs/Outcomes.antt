-- What one turn is answered, and what it makes, in alike runs.
use Rattle.std.specs.Prelude.{◌≡◌, Bool, true, List}
use Rattle.mcs_types.specs.declared.id.CoreId.{CoreId}
use Rattle.mcs_types.specs.declared.entry.Step.{Step}
use Rattle.mcs_book.specs.Boots.{Boot, IsFaultless}
use Rattle.mcs_book.specs.History.{log_of}
use Rattle.mcs_book.proofs.SoundLogs.SoundBooks.{legal-sound}
use Rattle.mcs_state.proofs.Picking.{entrant-there}
use Rattle.mcs_turns.specs.declared.position.Pick.{Pick}
use Rattle.mcs_turns.specs.Turns.{User, RunState, AreInRange, IsTurn, given, outcome}
use Rattle.mcs_explore_equivalence.specs.ButNumbers.{SameButNumbers}
use Rattle.mcs_explore_equivalence.proofs.Exactly.{exact-same}
use Rattle.mcs_explore_equivalence.specs.Runs.{AreAlike}
use Rattle.mcs_explore_equivalence.proofs.Alikes.{legal, left, right, same}

module _ (users : List User) (boot : Boot) (whole : IsFaultless boot) (range : AreInRange users) (g h : RunState) where
  abbrev step_of : (core : CoreId) (k : Pick) (t : RunState) → IsTurn users core k g t → Step
  step_of core k t turn = record { core = core; thread = turn.user.thread; entry = given g turn.user k turn.entry }

  pub exact-outcomes : (a : AreAlike true users boot g h) (core : CoreId) (k : Pick) (t : RunState) (turn : IsTurn users core k g t) → outcome g.book (step_of core k t turn) ≡ outcome h.book (step_of core k t turn)
  exact-outcomes a core k t turn = exact-same (log_of g.book) (log_of h.book) core turn.user.thread (given g turn.user k turn.entry) a.close.logs (entrant-there (log_of g.book) core turn.user.thread turn.enters)
      (legal-sound _ (legal true users boot whole range _ (left true users boot whole range g h a core k t turn))) (legal-sound _ (legal true users boot whole range _ (right true users boot whole range g h a core k t turn)))

pub same-outcomes : (numbered : Bool) (users : List User) (boot : Boot) (whole : IsFaultless boot) (range : AreInRange users) (g h : RunState) (a : AreAlike numbered users boot g h) (core : CoreId) (k : Pick) (t : RunState) (turn : IsTurn users core k g t)
    → SameButNumbers (outcome g.book (record { core = core; thread = turn.user.thread; entry = given g turn.user k turn.entry })) (outcome h.book (record { core = core; thread = turn.user.thread; entry = given g turn.user k turn.entry }))
same-outcomes numbered users boot whole range g h a core k t turn = same numbered users boot whole range g h a core k t turn
