-- How runs end, by what is asked (own).
use Rattle.std.specs.Prelude.{ℕ, ◌+◌, ◌-◌, ◌^◌, ◌&&◌, Bool, not, cond, min, is_some, List, Option, Some, None}
use Rattle.std.specs.List.{list_all, list_any}
use Rattle.mcs_types.specs.declared.id.ObjId.{ObjId}
use Rattle.mcs_types.specs.declared.record.Status.{Status}
use Rattle.mcs_types.specs.declared.record.Status.TheVariants as status
use Rattle.mcs_text.specs.Spelling.{queue_name}
use Rattle.mcs_explore_questions.specs.Asking.{excuses}
use Rattle.mcs_explore_script.specs.declared.questions.AskedLine.{AskedLine}
use Rattle.mcs_explore_report.specs.declared.endings.Ending.{Ending}
use Rattle.mcs_explore_report.specs.declared.endings.Ending.TheVariants as ending
use Rattle.mcs_explore_report.specs.declared.ends.Standing.{Standing}

-- the number of the entry in which a user waits, or which it has left
abbrev pub entry_of : Standing → ℕ
entry_of s = min (s.answered + 1) (2 ^ 64 - 1)

-- what a thread with this status waits for: the object of a queue, or the reply object that owes it
-- an answer
abbrev pub waits_for : Option Status → Option ObjId
waits_for (Some (status.Queued queue)) = Some (queue_name queue)
waits_for (Some (status.OnReply reply)) = Some reply
waits_for _ = None

-- whether a question excuses that the user waits in this entry
abbrev pub is_excused : List AskedLine → Standing → Bool
is_excused questions s = list_any (λ (q : AskedLine). excuses q.asked s.thread (entry_of s)) questions

-- whether a user waits for another, and a question lets it for ever
abbrev pub is_idle : List AskedLine → Standing → Bool
is_idle questions s = is_some (waits_for s.status) && is_excused questions s

-- whether each of these does
abbrev pub are_idle : List AskedLine → List Standing → Bool
are_idle questions ss = list_all (is_idle questions) ss

-- whether a user waits for another, and may not wait for ever
abbrev pub is_deadlocked : List AskedLine → Standing → Bool
is_deadlocked questions s = is_some (waits_for s.status) && not (is_excused questions s)

-- how a run ends in which these are not done
abbrev pub ending_of : List AskedLine → List Standing → Ending
ending_of questions ss = cond (are_idle questions ss) ending.AllDone (cond (list_any (is_deadlocked questions) ss) ending.Deadlock ending.EntriesLeft)
