-- What the words of a command say, where none of them fails.
use Rattle.std.proofs.Common.{refl, sym, subst, ap, ◌≡◌, ◌∙◌, ◌⊎◌, inl, inr, true≢false, codes, Bool, true, false, List, [], ◌∷◌}
use Rattle.std.specs.Prelude.{⊤, Option, Some, None}
use Rattle.clap.specs.Walk.{Held, Row, Text, Waiting, Walk, idle, used, value, walked}
use Rattle.clap.specs.Faults.{settle_fault, step_fault, turn_fault}
use Rattle.mcs_command_line.specs.Asked.{Choice, Says, ends, ends_with, explained, explains as says_explain, counts, names, of_file, on_cores}
use Rattle.mcs_command_line.specs.declared.choice.Task.{Task}
use Rattle.mcs_command_line.specs.declared.choice.Task.TheVariants.{Replay, Run}
use Rattle.mcs_command_line.proofs.Leaves.{between, end_fault, ended, fault_from, fault_from-cons, fault_from-nil, last_fault, place, rules, shape}
use Rattle.mcs_command_line.proofs.Refusals.{hold, not_none, or_else-first, or_else-next}
use Rattle.mcs_command_line.proofs.Rows.{Holds, cores_pass, explain_open, explain_pass, holds_cores, holds_explain, holds_file, task_open}
use Rattle.mcs_command_line.proofs.Turns.{Turn, cores, ends as turn_ends, explain, explains as turn_explains, file_fault, file_past, file_step, filed, files, fills, gives, opens, past}
use Rattle.mcs_command_line.proofs.Turns.{second_fault, turn, waits}

-- `--cores` with no value, and with one
abbrev pub opened : Option (Text × List Text)
opened = Some (codes "cores", [])

abbrev pub filled : Text → Option (Text × List Text)
filled text = Some (codes "cores", text ∷ [])

-- what is pending can be used, where nothing fails
end_settles : (is_run : Bool) (h : Held) → end_fault (shape is_run) h ≡ [] → settle_fault (rules is_run) false h ≡ []
end_settles true h e = or_else-first (settle_fault (rules true) false h) (last_fault (shape true) h) e
end_settles false h e = or_else-first (settle_fault (rules false) false h) (last_fault (shape false) h) e

-- what fails from a place fails from the same place
moved : (is_run : Bool) (v w : Walk) (rest : List Text) → v ≡ w → fault_from (shape is_run) v rest ≡ []
    → fault_from (shape is_run) w rest ≡ []
moved is_run v w rest same e = subst (λ x. fault_from (shape is_run) x rest ≡ []) same e

-- ---- after `--`

trailing_step : (is_run : Bool) (rows : List Row) (p : Option (Text × List Text)) (waiting : Waiting) (f : Option Text) (word : Text)
    → turn_fault (shape is_run) [] (ended (hold rows p) waiting f) word ≡ [] → step_fault (shape is_run) (place f) (hold rows p) value ≡ []
trailing_step is_run rows p waiting f word e = e

-- no second word alone
after_second : (is_run : Bool) (rows : List Row) (p : Option (Text × List Text)) (waiting : Waiting) (name : Text) (rest : List Text)
    → fault_from (shape is_run) (ended (hold rows p) waiting (Some name)) rest ≡ []
    → (settle_fault (rules is_run) false (hold rows p) ≡ []) × (rest ≡ [])
after_second is_run rows p waiting name [] e =
    (end_settles is_run (hold rows p) (fault_from-nil (shape is_run) (ended (hold rows p) waiting (Some name)) e), refl)
after_second is_run rows p waiting name (word ∷ rest) e =
    let parts = fault_from-cons (shape is_run) (ended (hold rows p) waiting (Some name)) word rest e in
    absurd (second_fault is_run (hold rows p) (trailing_step is_run rows p waiting (Some name) word parts.0))

-- no word, or the name of the file
abbrev IsTail : Option Text → List Text → Type 0
IsTail f rest = (rest ≡ []) ⊎ ((name : Text) × (rest ≡ name ∷ []) × (f ≡ None))

after_ended : (is_run : Bool) (rows : List Row) (p : Option (Text × List Text)) (waiting : Waiting) (f : Option Text) (rest : List Text)
    → fault_from (shape is_run) (ended (hold rows p) waiting f) rest ≡ []
    → (settle_fault (rules is_run) false (hold rows p) ≡ []) × IsTail f rest
unfolding walked
after_ended is_run rows p waiting (Some name) rest e =
    let none = after_second is_run rows p waiting name rest e in
    (none.0, inl none.1)
after_ended is_run rows p waiting None [] e =
    (end_settles is_run (hold rows p) (fault_from-nil (shape is_run) (ended (hold rows p) waiting None) e), inl refl)
after_ended is_run rows p waiting None (word ∷ rest) e =
    let parts = fault_from-cons (shape is_run) (ended (hold rows p) waiting None) word rest e in
    let settles = sym (file_fault is_run (hold rows p)) ∙ trailing_step is_run rows p waiting None word parts.0 in
    let after = moved is_run _ _ rest (file_step is_run rows p waiting word true) parts.1 in
    let none = after_second is_run (past is_run rows p) (filed word) idle word rest after in
    (settles, inr (word, ap (λ ws. word ∷ ws) none.1, refl))

-- ---- between the words

-- where no value is waited for, what is pending can be used
pub must_settle : (is_run : Bool) (rows : List Row) (p : Option (Text × List Text)) (f : Option Text) (words : List Text)
    → fault_from (shape is_run) (between (hold rows p) idle f) words ≡ [] → settle_fault (rules is_run) false (hold rows p) ≡ []
must_settle is_run rows p f [] e =
    end_settles is_run (hold rows p) (fault_from-nil (shape is_run) (between (hold rows p) idle f) e)
must_settle is_run rows p f (word ∷ rest) e =
    let parts = fault_from-cons (shape is_run) (between (hold rows p) idle f) word rest e in
    go (turn is_run rows p false f word parts.0) parts.1
  where
    go : Turn is_run rows p false f word (walked (rules is_run) [] (between (hold rows p) idle f) word)
        → fault_from (shape is_run) (walked (rules is_run) [] (between (hold rows p) idle f) word) rest ≡ []
        → settle_fault (rules is_run) false (hold rows p) ≡ []
    go (turn_ends is after) e =
        (after_ended is_run rows p idle f rest (moved is_run _ _ rest after e)).0
    go (gives run text is passes after) e = or_else-first (settle_fault (rules is_run) false (hold rows p)) _ passes
    go (opens run is passes after) e = passes
    go (turn_explains is passes after) e = or_else-first (settle_fault (rules is_run) false (hold rows p)) _ passes
    go (fills is after) e = cc
    go (files is named none passes after) e = passes

-- `--cores` is followed by its value
after_opened : (rows : List Row) (f : Option Text) (words : List Text)
    → fault_from (shape true) (between (hold rows opened) (waits true) f) words ≡ []
    → (text : Text) × (rest : List Text) × (words ≡ text ∷ rest)
    × (fault_from (shape true) (between (hold rows (filled text)) idle f) rest ≡ [])
after_opened rows f [] e = absurd (not_none _ _ (end_settles true (hold rows opened)
    (fault_from-nil (shape true) (between (hold rows opened) (waits true) f) e)))
after_opened rows f (word ∷ rest) e =
    let parts = fault_from-cons (shape true) (between (hold rows opened) (waits true) f) word rest e in
    go (turn true rows opened true f word parts.0) parts.1
  where
    go : Turn true rows opened true f word (walked (rules true) [] (between (hold rows opened) (waits true) f) word)
        → fault_from (shape true) (walked (rules true) [] (between (hold rows opened) (waits true) f) word) rest ≡ []
        → (text : Text) × (end : List Text) × (word ∷ rest ≡ text ∷ end)
        × (fault_from (shape true) (between (hold rows (filled text)) idle f) end ≡ [])
    go (turn_ends is after) e = absurd (not_none _ _
        (after_ended true rows opened (waits true) f rest (moved true _ _ rest after e)).0)
    go (gives run text is passes after) e = absurd (not_none _ _ passes)
    go (opens run is passes after) e = absurd (not_none _ _ passes)
    go (turn_explains is passes after) e = absurd (not_none _ _ passes)
    go (fills is after) e = (word, rest, refl, moved true _ _ rest after e)
    go (files is named none passes after) e = cc

-- ---- what the words say

abbrev pub runs_task : Task → Bool
runs_task Replay = false
runs_task (Run n) = true

-- words that are not refused say something
abbrev pub Talk : List Text → Type 0
Talk words = (is_run : Bool) (c : Choice) (rows : List Row) (p : Option (Text × List Text)) → runs_task c.task ≡ is_run
    → Holds (past is_run rows p) c → fault_from (shape is_run) (between (hold rows p) idle c.file) words ≡ []
    → (said : Choice) × Says c words said

-- and so do those after the first
abbrev TailTalk : List Text → Type 0
TailTalk [] = ⊤
TailTalk (word ∷ rest) = Talk rest

no_replay : (t : Task) → true ≡ runs_task t → t ≡ Replay → ⊥
no_replay t run is = true≢false (run ∙ ap runs_task is)

step : (word : Text) (rest : List Text) → Talk rest → TailTalk rest → Talk (word ∷ rest)
step word rest next later is_run c rows p runs h e =
    let parts = fault_from-cons (shape is_run) (between (hold rows p) idle c.file) word rest e in
    go (turn is_run rows p false c.file word parts.0) parts.1
  where
    now : List Row
    now = past is_run rows p

    last : word ≡ codes "--" → IsTail c.file rest → (said : Choice) × Says c (word ∷ rest) said
    last is (inl none) = (c, ends (inr (ap (λ w. w ∷ rest) is ∙ ap (λ ws. codes "--" ∷ ws) none)))
    last is (inr name) =
        (of_file name.0 c, ends_with name.0 (ap (λ w. w ∷ rest) is ∙ ap (λ ws. codes "--" ∷ ws) name.1) name.2)

    go : Turn is_run rows p false c.file word (walked (rules is_run) [] (between (hold rows p) idle c.file) word)
        → fault_from (shape is_run) (walked (rules is_run) [] (between (hold rows p) idle c.file) word) rest ≡ []
        → (said : Choice) × Says c (word ∷ rest) said
    go (turn_ends is after) e =
        last is (after_ended is_run rows p idle c.file rest (moved is_run _ _ rest after e)).1
    go (gives run text is passes after) e =
        let pass = cores_pass text now (or_else-next (settle_fault (rules is_run) false (hold rows p)) _ passes) in
        let count = pass.1 in
        let open_task = task_open now c.task (no_replay c.task (sym run ∙ sym runs)) pass.0 h.task in
        let holds = holds_cores now c text count.0 h open_task count.1 count.2 in
        let found = next is_run (on_cores count.0 c) (used cores (text ∷ []) now) None (sym run) holds
        (moved is_run _ _ rest after e) in
        (found.0, counts text rest count.0 (inr (ap (λ t. t ∷ rest) is)) count.1 count.2 open_task found.1)
    go (opens run is passes after) e =
        let found = after_opened now c.file rest (subst (λ b. fault_from (shape b) (between (hold now opened) (waits true) c.file) rest
        ≡ []) run (moved is_run _ _ rest after e)) in
        let text = found.0 in
        let tail = found.1 in
        let pass = cores_pass text now (must_settle true now (filled text) c.file tail found.3) in
        let count = pass.1 in
        let open_task = task_open now c.task (no_replay c.task (sym run ∙ sym runs)) pass.0 h.task in
        let holds = holds_cores now c text count.0 h open_task count.1 count.2 in
        let more : Talk tail = subst TailTalk found.2 later in
        let said = more true (on_cores count.0 c) now (filled text) refl holds found.3 in
        let words : word ∷ rest ≡ codes "--cores" ∷ text ∷ tail = ap (λ w. w ∷ rest) is ∙ ap (λ ws. codes "--cores" ∷ ws) found.2 in
        (said.0, counts {said = said.0} text tail count.0 (inl words) count.1 count.2 open_task said.1)
    go (turn_explains is passes after) e =
        let none = explain_pass now (or_else-next (settle_fault (rules is_run) false (hold rows p)) _ passes) in
        let unsaid = explain_open c.explain now none h.explain in
        let found = next is_run (explained c) (used explain [] now) None runs (holds_explain now c h unsaid)
        (moved is_run _ _ rest after e) in
        (found.0, says_explain rest (ap (λ w. w ∷ rest) is) unsaid found.1)
    go (fills is after) e = absurd (true≢false (sym is))
    go (files is named none passes after) e =
        let holds = subst (λ rs. Holds rs (of_file word c)) (sym (file_past is_run now word)) (holds_file now c word h none) in
        let found = next is_run (of_file word c) now (filed word) runs holds
        (moved is_run _ _ rest after e) in
        (found.0, names word rest refl named none found.1)

pub talks : (words : List Text) → Talk words
talks [] = λ is_run c rows p runs h e. (c, ends (inl refl))
talks (word ∷ []) = step word [] (talks []) tt
talks (word ∷ text ∷ rest) = step word (text ∷ rest) (talks (text ∷ rest)) (talks rest)
