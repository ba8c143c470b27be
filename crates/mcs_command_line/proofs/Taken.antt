-- The words that say something are taken, and are held as they say.
use Rattle.std.proofs.Common.{refl, sym, subst, ap, ap₂, ◌≡◌, ◌∙◌, ◌==◌, inl, inr, true≢false, codes, ℕ, Bool, true, false, List, [], ◌∷◌, ◌++◌}
use Rattle.std.proofs.Common.{length, slice_get}
use Rattle.std.specs.Prelude.{Option, Some, None, fold, option_map}
use Rattle.std.specs.Option.{option_map_or}
use Rattle.std.specs.Str.{bytes_eq, chars}
use Rattle.std.specs.Str.Parse.{starts_with_minus}
use Rattle.std.proofs.lemmas.Bool.{eqb-true}
use Rattle.clap.specs.Lexer.{long_of, short_of, strip_byte}
use Rattle.clap.specs.Kinds.{or_else}
use Rattle.clap.specs.Walk.{Held, Outcome, Row, Rule, Step, Text, Walk, after_flag, after_step, idle, plain, settled, short_or_plain, used, value, walked}
use Rattle.clap.specs.Faults.{bundle_fault, settle_fault, step_fault, turn_fault, use_fault, walk_fault}
use Rattle.clap.proofs.FaultLemmas.{fault_ends, past as passed}
use Rattle.clap.proofs.WalkLemmas.{bundle_ends}
use Rattle.mcs_command_line.specs.Asked.{Choice, GivesCores, IsCoreCount, IsEnd, IsFile, Says, Writes, counts, ends, ends_with, explained, explains, names, of_file, on_cores}
use Rattle.mcs_command_line.specs.declared.choice.Task.TheVariants.{Run}
use Rattle.mcs_command_line.proofs.Leaves.{between, ended, rules, shape}
use Rattle.mcs_command_line.proofs.Refusals.{hold}
use Rattle.mcs_command_line.proofs.Rows.{Holds, cores_taken, explain_taken, file_row, file_taken, flag_row, holds_cores, holds_explain, holds_file, no_cores, row_at}
use Rattle.mcs_command_line.proofs.Texts.{count_accepted, no_dashes, no_hyphen, no_minus}
use Rattle.mcs_command_line.proofs.Told.{filled, opened, runs_task}
use Rattle.mcs_command_line.proofs.Turns.{cores, explain, file_fault, file_past, file_step, filed, past, waits}

-- no word fails, what is pending then can be used, and the rows hold what was said
abbrev pub Ends : Bool → Walk → List Text → Choice → Type 0
Ends is_run w words said =
    let end = (fold (walked (rules is_run) []) w words).held in
    (walk_fault (shape is_run) [] w words ≡ []) × (settle_fault (rules is_run) false end ≡ [])
    × Holds (settled (rules is_run) end).rows said

ends-nil : (is_run : Bool) (w : Walk) (said : Choice) → settle_fault (rules is_run) false w.held ≡ []
    → Holds (settled (rules is_run) w.held).rows said → Ends is_run w [] said
unfolding walk_fault
ends-nil is_run w said settles holds = (refl, settles, holds)

ends-cons : (is_run : Bool) (w next : Walk) (word : Text) (rest : List Text) (said : Choice)
    → turn_fault (shape is_run) [] w word ≡ [] → walked (rules is_run) [] w word ≡ next → Ends is_run next rest said
    → Ends is_run w (word ∷ rest) said
unfolding walk_fault
ends-cons is_run w next word rest said passes step more =
    let from = subst (λ v. Ends is_run v rest said) (sym step) more in (
      passed (turn_fault (shape is_run) [] w word) (walk_fault (shape is_run) [] (walked (rules is_run) [] w word) rest) passes
          ∙ from.0,
      from.1,
      from.2,
    )

-- ---- a word that is no option

-- the lexer finds no option in it
abbrev IsPlain : Text → Type 0
IsPlain word = (bytes_eq word (codes "--") ≡ false) × (long_of word ≡ None)
    × ((c : List Rule) (again : Bool) (rows : List Row) (p : Option (Text × List Text))
    → (option_map_or (λ flags. bundle_fault c again flags (hold rows p)) (short_of word) [] ≡ [])
    × (short_or_plain c idle word (short_of word) (hold rows p) ≡ (hold rows p, value)))

plain_start : (word : Text) → starts_with_minus word ≡ false → IsPlain word
plain_start word minus =
    let hyphen = no_hyphen word minus in
    (no_dashes word minus, rw hyphen refl, λ c again rows p. (rw hyphen refl, rw hyphen refl))

no_first : (word : Text) → chars word ≡ [] → None ≡ slice_get (chars word) 0
no_first word none = ap (λ (cs : List ℕ). slice_get cs 0) (sym none)

plain_hyphen : (rest : Text) → chars rest ≡ [] → IsPlain (45 ∷ rest)
unfolding chars
plain_hyphen [] none = (refl, refl, λ c again rows p. (refl, refl))
plain_hyphen (y ∷ ys) none = go (y == 45) refl
  where
    no_second : y ≡ 45 → ⊥
    no_second is = first ys (subst (λ (n : ℕ). chars (n ∷ ys) ≡ []) is none)
      where
        first : (zs : Text) → chars (45 ∷ zs) ≡ [] → ⊥
        first [] e = cc
        first (z ∷ zs) e = cc

    go : (b : Bool) → (y == 45) ≡ b → IsPlain (45 ∷ y ∷ ys)
    go true is = absurd (no_second (eqb-true y 45 is))
    go false is = (
      rw is refl,
      rw is refl,
      λ c again rows p. (
        rw is (sym (fault_ends c again (length (y ∷ ys)) (y ∷ ys) 0 (hold rows p) (no_first (y ∷ ys) none))),
        rw is (ap (λ (m : Held × Outcome). after_flag c idle (45 ∷ y ∷ ys) m.0 m.1)
            (sym (bundle_ends c (length (y ∷ ys)) (y ∷ ys) 0 plain (hold rows p) (no_first (y ∷ ys) none)))),
      ),
    )

plain_file : (word : Text) → IsFile word → IsPlain word
plain_file word (inl minus) = plain_start word minus
plain_file word (inr found) = subst IsPlain (sym found.1) (plain_hyphen found.0 found.2)

module _ (is_run : Bool) (rows : List Row) (p : Option (Text × List Text)) (settles : settle_fault (rules is_run) false (hold rows p) ≡ []) where
  abbrev now : List Row
  now = past is_run rows p

  plain_passes : (word : Text) → IsPlain word → turn_fault (shape is_run) [] (between (hold rows p) idle None) word ≡ []
  plain_passes word is =
      let met = is.2 (rules is_run) (shape is_run).args_override_self rows p in
      rw (is.0, is.1) (ap₂ (λ a (m : Held × Step). or_else a (step_fault (shape is_run) 1 m.0 m.1)) met.0 met.1
      ∙ file_fault is_run (hold rows p) ∙ settles)

  dashes_pass : (f : Option Text) → turn_fault (shape is_run) [] (between (hold rows p) idle f) (codes "--") ≡ []
  dashes_pass f = refl

  dashes_walk : (f : Option Text) → walked (rules is_run) [] (between (hold rows p) idle f) (codes "--") ≡ ended (hold rows p) idle f
  unfolding walked
  dashes_walk f = refl

  name_passes : (word : Text) → turn_fault (shape is_run) [] (ended (hold rows p) idle None) word ≡ []
  name_passes word = file_fault is_run (hold rows p) ∙ settles

  plain_walk : (word : Text) → IsPlain word
      → walked (rules is_run) [] (between (hold rows p) idle None) word ≡ between (hold now (filed word)) idle (Some word)
  unfolding walked
  plain_walk word is =
      let met = is.2 (rules is_run) false rows p in
      rw (is.0, is.1) (ap (λ (m : Held × Step). after_step (rules is_run) word (between (hold rows p) idle None) m.0 m.1) met.1
      ∙ file_step is_run rows p idle word false)

  name_walk : (word : Text) → walked (rules is_run) [] (ended (hold rows p) idle None) word ≡ ended (hold now (filed word)) idle (Some word)
  unfolding walked
  name_walk word = file_step is_run rows p idle word true

-- a file that is pending can be used
file_settles : (is_run : Bool) (rows : List Row) (name : Text) → row_at (codes "file") rows ≡ None
    → settle_fault (rules is_run) false (hold rows (filed name)) ≡ []
file_settles true rows name none = file_taken name rows none
file_settles false rows name none = file_taken name rows none

-- a flag, where what is pending can be used
explain_passes : (is_run : Bool) (rows : List Row) (p : Option (Text × List Text)) (f : Option Text)
    → settle_fault (rules is_run) false (hold rows p) ≡ [] → use_fault false explain [] (past is_run rows p) ≡ []
    → turn_fault (shape is_run) [] (between (hold rows p) idle f) (codes "--explain") ≡ []
explain_passes true rows p f settles taken =
    ap (λ k. or_else (or_else k (use_fault false explain [] (past true rows p))) []) settles ∙ ap (λ k. or_else k []) taken
explain_passes false rows p f settles taken =
    ap (λ k. or_else (or_else k (use_fault false explain [] (past false rows p))) []) settles ∙ ap (λ k. or_else k []) taken

explain_walk : (is_run : Bool) (rows : List Row) (p : Option (Text × List Text)) (f : Option Text)
    → walked (rules is_run) [] (between (hold rows p) idle f) (codes "--explain")
    ≡ between (hold (used explain [] (past is_run rows p)) None) idle f
unfolding walked
explain_walk true rows p f = refl
explain_walk false rows p f = refl

-- the option of the cores
joined_passes : (text : Text) (rows : List Row) (p : Option (Text × List Text)) (f : Option Text)
    → settle_fault (rules true) false (hold rows p) ≡ [] → use_fault false cores (text ∷ []) (past true rows p) ≡ []
    → turn_fault (shape true) [] (between (hold rows p) idle f) (codes "--cores=" ++ text) ≡ []
joined_passes text rows p f settles taken =
    ap (λ k. or_else (or_else k (use_fault false cores (text ∷ []) (past true rows p))) []) settles ∙ ap (λ k. or_else k []) taken

joined_walk : (text : Text) (rows : List Row) (p : Option (Text × List Text)) (f : Option Text)
    → walked (rules true) [] (between (hold rows p) idle f) (codes "--cores=" ++ text)
    ≡ between (hold (used cores (text ∷ []) (past true rows p)) None) idle f
unfolding walked
joined_walk text rows p f = refl

cores_passes : (rows : List Row) (p : Option (Text × List Text)) (f : Option Text) → settle_fault (rules true) false (hold rows p) ≡ []
    → turn_fault (shape true) [] (between (hold rows p) idle f) (codes "--cores") ≡ []
cores_passes rows p f settles = ap (λ k. or_else k []) settles

cores_walk : (rows : List Row) (p : Option (Text × List Text)) (f : Option Text)
    → walked (rules true) [] (between (hold rows p) idle f) (codes "--cores")
    ≡ between (hold (past true rows p) opened) (waits true) f
unfolding walked
cores_walk rows p f = refl

module _ (text : Text) (dashes : bytes_eq text (codes "--") ≡ false) (hyphen : strip_byte 45 text ≡ None) where
  value_passes : (rows : List Row) (f : Option Text) → turn_fault (shape true) [] (between (hold rows opened) (waits true) f) text ≡ []
  value_passes rows f = rw (dashes, hyphen, hyphen) refl

  value_walk : (rows : List Row) (f : Option Text)
      → walked (rules true) [] (between (hold rows opened) (waits true) f) text ≡ between (hold rows (filled text)) idle f
  unfolding walked
  value_walk rows f = rw (dashes, hyphen, hyphen) refl

-- ---- the words that say something

-- what is said from there on is taken
abbrev Takes : Choice → List Text → Choice → Type 0
Takes c words said = (is_run : Bool) (rows : List Row) (p : Option (Text × List Text)) → runs_task c.task ≡ is_run
    → settle_fault (rules is_run) false (hold rows p) ≡ [] → Holds (past is_run rows p) c
    → Ends is_run (between (hold rows p) idle c.file) words said

takes_end : (c : Choice) (words : List Text) → IsEnd words → Takes c words c
takes_end c words (inl none) = λ is_run rows p runs settles holds.
    subst (λ ws. Ends is_run (between (hold rows p) idle c.file) ws c) (sym none)
    (ends-nil is_run (between (hold rows p) idle c.file) c settles holds)
takes_end c words (inr dashes) = λ is_run rows p runs settles holds.
    subst (λ ws. Ends is_run (between (hold rows p) idle c.file) ws c) (sym dashes)
    (ends-cons is_run (between (hold rows p) idle c.file) (ended (hold rows p) idle c.file) (codes "--") [] c
    (dashes_pass is_run rows p settles c.file) (dashes_walk is_run rows p settles c.file)
    (ends-nil is_run (ended (hold rows p) idle c.file) c settles holds))

-- the row of the file is not there where none was named
no_file : (rows : List Row) (c : Choice) → Holds rows c → c.file ≡ None → row_at (codes "file") rows ≡ None
no_file rows c h is = h.file ∙ ap (option_map file_row) is

holds_filed : (is_run : Bool) (rows : List Row) (c : Choice) (name : Text) → Holds rows c → c.file ≡ None
    → Holds (past is_run rows (filed name)) (of_file name c)
holds_filed is_run rows c name h is = subst (λ rs. Holds rs (of_file name c)) (sym (file_past is_run rows name))
    (holds_file rows c name h is)

takes_end_with : (c : Choice) (words : List Text) (name : Text) → words ≡ codes "--" ∷ name ∷ [] → c.file ≡ None
    → Takes c words (of_file name c)
takes_end_with c words name are none = λ is_run rows p runs settles holds.
    let now = past is_run rows p in
    let said = of_file name c in
    let last = ends-nil is_run (ended (hold now (filed name)) idle (Some name)) said
    (file_settles is_run now name (no_file now c holds none)) (holds_filed is_run now c name holds none) in
    let named = ends-cons is_run (ended (hold rows p) idle None) (ended (hold now (filed name)) idle (Some name)) name [] said
    (name_passes is_run rows p settles name) (name_walk is_run rows p settles name) last in
    let all = ends-cons is_run (between (hold rows p) idle None) (ended (hold rows p) idle None) (codes "--") (name ∷ []) said
    (dashes_pass is_run rows p settles None) (dashes_walk is_run rows p settles None) named in
    subst (λ f. Ends is_run (between (hold rows p) idle f) words said) (sym none)
    (subst (λ ws. Ends is_run (between (hold rows p) idle None) ws said) (sym are) all)

takes_name : (c said : Choice) (words : List Text) (name : Text) (rest : List Text) → words ≡ name ∷ rest → IsFile name
    → c.file ≡ None → Takes (of_file name c) rest said → Takes c words said
takes_name c said words name rest are is none more = λ is_run rows p runs settles holds.
    let now = past is_run rows p in
    let plain_is = plain_file name is in
    let tail = more is_run now (filed name) runs (file_settles is_run now name (no_file now c holds none))
    (holds_filed is_run now c name holds none) in
    let all = ends-cons is_run (between (hold rows p) idle None) (between (hold now (filed name)) idle (Some name)) name rest said
    (plain_passes is_run rows p settles name plain_is) (plain_walk is_run rows p settles name plain_is) tail in
    subst (λ f. Ends is_run (between (hold rows p) idle f) words said) (sym none)
    (subst (λ ws. Ends is_run (between (hold rows p) idle None) ws said) (sym are) all)

takes_explain : (c said : Choice) (words rest : List Text) → words ≡ codes "--explain" ∷ rest → c.explain ≡ false
    → Takes (explained c) rest said → Takes c words said
takes_explain c said words rest are unsaid more = λ is_run rows p runs settles holds.
    let now = past is_run rows p in
    let taken = explain_taken now (holds.explain ∙ ap flag_row unsaid) in
    let tail = more is_run (used explain [] now) None runs refl (holds_explain now c holds unsaid) in
    subst (λ ws. Ends is_run (between (hold rows p) idle c.file) ws said) (sym are)
    (ends-cons is_run (between (hold rows p) idle c.file) (between (hold (used explain [] now) None) idle c.file)
    (codes "--explain") rest said (explain_passes is_run rows p c.file settles taken) (explain_walk is_run rows p c.file) tail)

-- the cores are said of a run
counting : (c said : Choice) (words : List Text) (text : Text) (rest : List Text) (n : ℕ) → GivesCores words text rest
    → Writes text n → IsCoreCount n → c.task ≡ Run None → Takes (on_cores n c) rest said
    → (rows : List Row) (p : Option (Text × List Text)) → settle_fault (rules true) false (hold rows p) ≡ []
    → Holds (past true rows p) c → Ends true (between (hold rows p) idle c.file) words said
counting c said words text rest n give writes count task more rows p settles holds = go give
  where
    now : List Row
    now = past true rows p

    minus : starts_with_minus text ≡ false
    minus = no_minus text n writes

    taken : use_fault false cores (text ∷ []) (past true rows p) ≡ []
    taken = cores_taken text (past true rows p) (no_cores (past true rows p) c.task task holds.task)
        (count_accepted text n writes count)

    held : Holds (used cores (text ∷ []) (past true rows p)) (on_cores n c)
    held = holds_cores (past true rows p) c text n holds task writes count

    go : GivesCores words text rest → Ends true (between (hold rows p) idle c.file) words said
    go (inr one) =
        let tail = more true (used cores (text ∷ []) (past true rows p)) None refl refl held in
        subst (λ ws. Ends true (between (hold rows p) idle c.file) ws said) (sym one)
        (ends-cons true (between (hold rows p) idle c.file)
        (between (hold (used cores (text ∷ []) (past true rows p)) None) idle c.file) (codes "--cores=" ++ text) rest said
        (joined_passes text rows p c.file settles taken) (joined_walk text rows p c.file) tail)
    go (inl two) =
        let tail = more true (past true rows p) (filled text) refl taken held in
        let value_taken = ends-cons true (between (hold (past true rows p) opened) (waits true) c.file)
        (between (hold (past true rows p) (filled text)) idle c.file) text rest said
        (value_passes text (no_dashes text minus) (no_hyphen text minus) (past true rows p) c.file)
        (value_walk text (no_dashes text minus) (no_hyphen text minus) (past true rows p) c.file) tail in
        subst (λ ws. Ends true (between (hold rows p) idle c.file) ws said) (sym two)
        (ends-cons true (between (hold rows p) idle c.file) (between (hold (past true rows p) opened) (waits true) c.file)
        (codes "--cores") (text ∷ rest) said (cores_passes rows p c.file settles) (cores_walk rows p c.file) value_taken)

takes_count : (c said : Choice) (words : List Text) (text : Text) (rest : List Text) (n : ℕ) → GivesCores words text rest
    → Writes text n → IsCoreCount n → c.task ≡ Run None → Takes (on_cores n c) rest said → Takes c words said
takes_count c said words text rest n give writes count task more true rows p runs settles holds =
    counting c said words text rest n give writes count task more rows p settles holds
takes_count c said words text rest n give writes count task more false rows p runs settles holds =
    absurd (true≢false (sym (ap runs_task task) ∙ runs))

pub taken : {c : Choice} {words : List Text} {said : Choice} → Says c words said → Takes c words said
taken {c} {words} (ends end) = takes_end c words end
taken {c} {words} (ends_with name are none) = takes_end_with c words name are none
taken {c} {words} {said} (names name rest are is none more) = takes_name c said words name rest are is none (taken more)
taken {c} {words} {said} (explains rest are unsaid more) = takes_explain c said words rest are unsaid (taken more)
taken {c} {words} {said} (counts text rest n give writes count task more) =
    takes_count c said words text rest n give writes count task (taken more)
