-- What questions are about (own).
use Rattle.std.specs.Prelude.{ℕ, ◌&&◌, Bool, true, false, nat_le}
use Rattle.mcs_types.specs.declared.id.ObjId.{ObjId}
use Rattle.mcs_types.specs.Ids.{same}
use Rattle.mcs_explore_questions.specs.declared.questions.Asked.{Asked}
use Rattle.mcs_explore_questions.specs.declared.questions.Asked.TheVariants as asked
use Rattle.mcs_explore_questions.specs.declared.questions.Entries.{Entries}

-- whether an entry is one of these, by its number
abbrev pub contain : Entries → ℕ → Bool
contain es n = nat_le es.first n && nat_le n es.last

-- whether it asks something that holds or does not
abbrev pub is_question : Asked → Bool
is_question (asked.Idle thread entries) = false
is_question (asked.Again event) = false
is_question (asked.Ruled rule) = false
is_question _ = true

-- whether it asks that a user never gets stuck
abbrev pub is_live : Asked → Bool
is_live (asked.Live thread number) = true
is_live _ = false

-- whether it lets a user wait for ever in an entry
abbrev pub excuses : Asked → ObjId → ℕ → Bool
excuses (asked.Idle thread entries) user number = same thread user && contain entries number
excuses _ user number = false

-- whether it is about the waits of a user
abbrev pub is_of_waits : Asked → ObjId → Bool
is_of_waits (asked.Idle thread entries) user = same thread user
is_of_waits (asked.Live thread number) user = same thread user
is_of_waits _ user = false
