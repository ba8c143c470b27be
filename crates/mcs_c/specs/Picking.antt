-- The pick of a core, as C has it.
use Rattle.std.specs.Prelude.{◌≡◌, ℕ, List, [], Option, Some, None, ◌==◌, if◌then◌else◌}
use Rattle.mcs_types.specs.declared.id.ObjId.{ObjId}
use Rattle.mcs_types.specs.declared.id.Kind.TheVariants.{Thread}
use Rattle.mcs_book.specs.History.{Book, log_of}
use Rattle.mcs_book.specs.Picking.{IsPick}
use Rattle.mcs_phases.specs.Feeds.{answer_of}
use Rattle.mcs_c.specs.declared.output.McsEnd.{McsEnd}
use Rattle.mcs_c.specs.declared.picks.Pick.{Pick}
use Rattle.mcs_c.specs.Replays.{IsEnd, course_of}

-- the thread of a serial; none where that is 0
abbrev pub thread_of : ℕ → Option ObjId
thread_of serial = if serial == 0 then None else Some (record { kind = Thread; serial = serial })

-- the thread that a core runs next after a book, by its serial; 0 where there is none
abbrev pub IsPicked : Option Book → (core : ℕ) → (serial : ℕ) → Type 0
IsPicked None core serial = serial ≡ 0
IsPicked (Some b) core serial = IsPick (log_of b) (record { 0 = core }) [] (thread_of serial)

-- the pick of a core after a script, with what its replay answers
pub record IsPickOf (script : List ℕ) (core : ℕ) (p : Pick) : Type 0 where
  pub thread : IsPicked (course_of script).stands.book core p.thread
  pub answers : p.ended ≡ answer_of (course_of script).fault

-- what `mcs_pick` leaves: the thread that the core runs next after the script, or after its steps
-- before a fault
pub record Picks (script : List ℕ) (core status thread : ℕ) (end : McsEnd) : Type 0 where
  pub is : IsPicked (course_of script).stands.book core thread
  pub ends : IsEnd (answer_of (course_of script).fault) status end
  pub bytes : end.length ≡ 0

-- memory was refused: that was answered, and nothing was written
pub record IsPickRefused (status thread thread' : ℕ) (end end' : McsEnd) : Type 0 where
  pub answered : status ≡ 6
  pub thread_stays : thread' ≡ thread
  pub end_stays : end' ≡ end
