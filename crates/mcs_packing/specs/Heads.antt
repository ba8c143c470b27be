-- What a head stands for, over the words.
use Rattle.std.specs.Prelude.{ℕ, ◌<◌, ◌+◌, List, [], ◌∷◌, length}
use Rattle.mcs_types.specs.declared.entry.Step.{Step}
use Rattle.mcs_types.specs.declared.entry.Answer.{Answer}
use Rattle.mcs_types.specs.declared.entry.Answer.TheVariants.{Done as done, Got as got, Heard as heard, Empty as empty, Waits as waits, Refused as refused}
use Rattle.mcs_packing.specs.declared.heads.Head.{Head}
use Rattle.mcs_packing.specs.declared.heads.AnswerForm.{AnswerForm}
use Rattle.mcs_packing.specs.declared.heads.AnswerForm.TheVariants.{Done, Got, Heard, Empty, Waits, Refused}
use Rattle.mcs_packing.specs.Packing.{word_at, content_at, IsBadgedAt}
use Rattle.mcs_packing.specs.Entries.{EntryFits, entry_of}

-- the answer of a form, whose message or word is at a place
abbrev pub answer_of : AnswerForm → ℕ → List ℕ → Answer
answer_of Done at ws = done
answer_of (Got len) at ws = got (record { 0 = word_at ws (at + 1 + len) }) (content_at ws at len)
answer_of Heard at ws = heard (word_at ws at)
answer_of Empty at ws = empty
answer_of Waits at ws = waits
answer_of (Refused r) at ws = refused r

-- what an answer names is there
abbrev pub AnswerFits : AnswerForm → ℕ → List ℕ → Type 0
AnswerFits (Got len) at ws = IsBadgedAt ws at len
AnswerFits Heard at ws = at < length ws
AnswerFits _ at ws = Unit {0}

-- an entry that was accepted, its answer, and where its records end
pub record Entered : Type 0 where
  pub step : Step
  pub answer : Answer
  pub end : ℕ

-- what a head stands for
abbrev pub entered_of : Head → List ℕ → Entered
entered_of h ws = record {
  step = record { core = h.core; thread = record { kind = h.kind; serial = h.serial }; entry = entry_of h.entry ws };
  answer = answer_of h.answer h.answer_at ws;
  end = h.end;
}

-- what a head names is there
pub record HeadFits (h : Head) (ws : List ℕ) : Type 0 where
  pub entry : EntryFits h.entry ws
  pub answer : AnswerFits h.answer h.answer_at ws

-- what each of a list stands for
abbrev pub all_entered : List Head → List ℕ → List Entered
all_entered [] ws = []
all_entered (h ∷ hs) ws = entered_of h ws ∷ all_entered hs ws

-- what each of a list names is there
abbrev pub AllHeadsFit : List Head → List ℕ → Type 0
AllHeadsFit [] ws = Unit {0}
AllHeadsFit (h ∷ hs) ws = HeadFits h ws × AllHeadsFit hs ws
