-- The words that the whole command line does not refuse.
use Rattle.std.proofs.Common.{refl, sym, subst, ap, ◌≡◌, ◌∙◌, ◌⊎◌, ◌||◌, inl, inr, codes, Bool, true, false, List, [], ◌∷◌, cond}
use Rattle.std.specs.Prelude.{Option, Some, None, fold, is_some, option_map}
use Rattle.std.specs.List.{slice_index_or}
use Rattle.std.specs.Str.{bytes_eq}
use Rattle.std.proofs.lemmas.Slice.Eq.{bytes_eq-Decides}
use Rattle.clap.specs.Kinds.{Kinds, or_else}
use Rattle.clap.specs.Simple.{entered, names_of}
use Rattle.clap.specs.Walk.{Names, Text, Walk, finished, idle, nothing_held, settled, subcommand_or_other, value, walked}
use Rattle.clap.specs.Faults.{check_fault, defaults_fault, entered_fault, fault_of, other_fault, settle_fault}
use Rattle.clap.specs.Faults.{step_fault, turn_fault, walk_fault}
use Rattle.clap.proofs.FaultLemmas.{stopped_fault}
use Rattle.clap.proofs.WalkLemmas.{walk_stopped}
use Rattle.mcs_command_line.specs.Asked.{Asks, Choice, Says, command, meant, nothing_said}
use Rattle.mcs_command_line.specs.CommandLine.{mcssim_line}
use Rattle.mcs_command_line.proofs.Leaves.{between, fault_from, line, shape}
use Rattle.mcs_command_line.proofs.Refusals.{AllRequests, not_none, or_else-first, word_ends}
use Rattle.mcs_command_line.proofs.Rows.{Holds}
use Rattle.mcs_command_line.proofs.Told.{talks}

-- before the first word
abbrev pub start : Walk
start = between nothing_held idle None

-- no row holds that nothing is said
pub holds_nothing : (is_run : Bool) → Holds [] (nothing_said is_run)
holds_nothing true = record { task = refl; file = refl; explain = refl }
holds_nothing false = record { task = refl; file = refl; explain = refl }

-- the words after a command that are not refused
says : (is_run : Bool) (rest : List Text) → fault_from (shape is_run) start rest ≡ []
    → (said : Choice) × Says (nothing_said is_run) rest said
says true rest e = talks rest true (nothing_said true) [] None refl (holds_nothing true) e
says false rest e = talks rest false (nothing_said false) [] None refl (holds_nothing false) e

-- ---- the program's own words

abbrev names : Names
names = names_of line

-- what fails once the words are read, those of the command among them
abbrev line_end : Walk → Kinds
line_end w = or_else (entered_fault line w.stopped) (or_else (settle_fault line.top.rules line.top.args_override_self w.held)
    (or_else (defaults_fault (settled line.top.rules w.held).rows line.top.rules)
    (check_fault line.top (finished line.top.rules w.held) (is_some (entered line w.stopped)))))

-- the walk stops at the name of a command
abbrev stopped_at : Text → List Text → Walk
stopped_at name rest = record start { stopped = Some (name, rest) }

pub command_fault : (is_run : Bool) (name : Text) (rest : List Text) → fault_of mcssim_line (name ∷ command is_run ∷ rest)
    ≡ or_else (fault_from (shape is_run) start rest) []
unfolding walked walk_fault defaults_fault
command_fault true name rest =
    ap (λ k. or_else k (line_end (fold (walked line.top.rules names) (stopped_at (codes "run") []) rest)))
    (stopped_fault line.top names start (codes "run", []) rest)
    ∙ ap line_end (sym (walk_stopped line.top.rules names start (codes "run") [] rest))
command_fault false name rest =
    ap (λ k. or_else k (line_end (fold (walked line.top.rules names) (stopped_at (codes "replay") []) rest)))
    (stopped_fault line.top names start (codes "replay", []) rest)
    ∙ ap line_end (sym (walk_stopped line.top.rules names start (codes "replay") [] rest))

line_asks : AllRequests line.top.rules
line_asks = ((refl, λ again rows e. not_none _ _ e), ((refl, λ again rows e. not_none _ _ e), tt))

line_stray : step_fault line.top 1 nothing_held value ≡ [] → ⊥
line_stray e = not_none _ _ e

other_word : (word : Text)
    → or_else (other_fault line.top None word nothing_held)
    (step_fault line.top 1 (subcommand_or_other line.top.rules None idle 1 word nothing_held).0
    (subcommand_or_other line.top.rules None idle 1 word nothing_held).1) ≡ []
    → word ≡ codes "--"
other_word word e = word_ends line.top [] None word line_asks line_stray e

-- the command that a word names, by the tests whether it is this one or that
abbrev named : Bool → Bool → Bool → Option Text
named is_replay is_run is_help = option_map (λ s. s.0) (cond (is_replay || false) (Some (slice_index_or names 0 ([], [])))
    (cond (is_run || false) (Some (slice_index_or names 1 ([], [])))
    (cond (is_help || false) (Some (slice_index_or names 2 ([], []))) None)))

abbrev word_fault_by : Option Text → Text → Kinds
word_fault_by command word = or_else (other_fault line.top command word nothing_held)
    (step_fault line.top 1 (subcommand_or_other line.top.rules command idle 1 word nothing_held).0
    (subcommand_or_other line.top.rules command idle 1 word nothing_held).1)

first_word : (word : Text) → turn_fault line.top names start word ≡ []
    → (word ≡ codes "replay") ⊎ ((word ≡ codes "run") ⊎ (word ≡ codes "--"))
first_word word e = go (bytes_eq (codes "replay") word) (bytes_eq (codes "run") word) (bytes_eq (codes "help") word) refl refl e
  where
    go : (is_replay is_run is_help : Bool) → bytes_eq (codes "replay") word ≡ is_replay → bytes_eq (codes "run") word ≡ is_run
        → word_fault_by (named is_replay is_run is_help) word ≡ [] → (word ≡ codes "replay") ⊎
        ((word ≡ codes "run") ⊎ (word ≡ codes "--"))
    go true is_run is_help same other e = inl (sym ((bytes_eq-Decides (codes "replay") word).0 same))
    go false true is_help other same e = inr (inl (sym ((bytes_eq-Decides (codes "run") word).0 same)))
    go false false true other another e = absurd (not_none _ _ e)
    go false false false other another e = inr (inr (other_word word e))

-- after `--` there is no command
no_command : (name : Text) (rest : List Text) → fault_of mcssim_line (name ∷ codes "--" ∷ rest) ≡ [] → ⊥
unfolding walked walk_fault defaults_fault
no_command name [] e = not_none _ _ e
no_command name (word ∷ rest) e = not_none _ _ e

-- the words that are not refused ask for something
pub asks : (words : List Text) → fault_of mcssim_line words ≡ [] → (choice : Choice) × Asks words choice
unfolding walked walk_fault defaults_fault
asks [] e = absurd (not_none _ _ e)
asks (name ∷ []) e = absurd (not_none _ _ e)
asks (name ∷ word ∷ rest) e = go (first_word word (or_else-first _ _ (or_else-first _ _ e)))
  where
    at_word : (first : Text) → word ≡ first → fault_of mcssim_line (name ∷ first ∷ rest) ≡ []
    at_word first is = subst (λ w. fault_of mcssim_line (name ∷ w ∷ rest) ≡ []) is e

    of : (is_run : Bool) → word ≡ command is_run → (choice : Choice) × Asks (name ∷ word ∷ rest) choice
    of is_run is =
        let passes = or_else-first _ _ (sym (command_fault is_run name rest) ∙ at_word (command is_run) is) in
        let found = says is_run rest passes in
        (meant found.0, (is_run, rest, found.0, (name, ap (λ w. name ∷ w ∷ rest) is), found.1, refl))

    go : (word ≡ codes "replay") ⊎ ((word ≡ codes "run") ⊎ (word ≡ codes "--"))
        → (choice : Choice) × Asks (name ∷ word ∷ rest) choice
    go (inl is) = of false is
    go (inr (inl is)) = of true is
    go (inr (inr is)) = absurd (no_command name rest (at_word (codes "--") is))
