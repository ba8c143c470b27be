-- The text and the answer of an entry, and what is written of them to the caller.
use Rattle.std.proofs.Common.{◌≡◌, ℕ, Option, None, Result, Ok, Err, List, [], refl, sym, ap, subst, ◌∙◌}
use Rattle.mcs_types.specs.declared.entry.Step.{Step}
use Rattle.mcs_book.specs.History.{Line}
use Rattle.mcs_text.specs.Table.{step_text}
use Rattle.mcs_phases.specs.Feeds.{FeedState}
use Rattle.mcs_c.specs.declared.answers.Brought.{Brought}
use Rattle.mcs_c.specs.declared.answers.McsAnswer.{McsAnswer}
use Rattle.mcs_c.specs.declared.answers.McsRecord.{McsRecord}
use Rattle.mcs_c.specs.declared.entries.EntryFault.{EntryFault}
use Rattle.mcs_c.specs.declared.output.Handed.{Handed}
use Rattle.mcs_c.specs.declared.output.McsEnd.{McsEnd}
use Rattle.mcs_c.specs.declared.pieces.RunOutput.{RunOutput}
use Rattle.mcs_c.specs.Answering.{Brings, FillsWith, IsAnswer, IsBrought, line_count, newest}
use Rattle.mcs_c.specs.Entering.{step_after}
use Rattle.mcs_c.specs.Handing.{Ends, HandsOut, at_line, with_status}
use Rattle.mcs_c.specs.Replays.{IsStep, Tells, after, going}
use Rattle.mcs_c.specs.Stepping.{Enters, HandsOutput, HasEntered, IsSpelled, IsTaken, Spells, entry_fault, line_added}
use Rattle.mcs_c.proofs.Replayed.{stepped, steps}

-- equal results are of equal values, and of equal faults
ok_same : {A B : Type 0} (r : Result A B) (x y : A) → r ≡ Ok x → r ≡ Ok y → x ≡ y
ok_same r x y e f = cc

err_same : {A B : Type 0} (r : Result A B) (x y : B) → r ≡ Err x → r ≡ Err y → x ≡ y
err_same r x y e f = cc

-- an entry that encodes a step
pub spelled : (said : Result Step EntryFault) (text : List ℕ) (h : Handed) → step_after [] said ≡ Ok text → h.text.items ≡ text → h.ending ≡ with_status 0 → IsSpelled said h
spelled (Ok s) text h is items ends = record { text = items ∙ sym (ok_same (step_after [] (Ok s)) (step_text s) text refl is); ending = ends }
spelled (Err f) text h is items ends = absurd cc

-- an entry that encodes none
pub unspelled : (said : Result Step EntryFault) (f : EntryFault) (h : Handed) → step_after [] said ≡ Err f → h.text.items ≡ [] → h.ending ≡ at_line 0 (entry_fault f) → IsSpelled said h
unspelled (Ok s) f h is items ends = absurd cc
unspelled (Err g) f h is items ends = record { text = items; ending = ends ∙ ap (λ (f : EntryFault). at_line 0 (entry_fault f)) (sym (err_same (step_after [] (Err g)) g f refl is)) }

-- the line of an entry is handed out
pub spells : (said : Result Step EntryFault) (h : Handed) (status : ℕ) (old new : List ℕ) (end : McsEnd) → IsSpelled said h → HandsOut h.text.items old new end.length → Ends h.ending status end → Spells said status old new end
spells said h status old new end is wrote ends = record {
  wrote = subst (λ (t : List ℕ). HandsOut t old new end.length) is.text wrote;
  ends = subst (λ e. Ends e status end) is.ending ends;
}

-- a line was taken after a script, and then the answer and the records of the line that it added
-- were read from the book
pub taken : (script line none : List ℕ) (g h : FeedState) (before : ℕ) (output : RunOutput) (b : Brought)
    → g ≡ going script → none ≡ [] → before ≡ line_count g.course.stands.book → Tells g line h none output.text.items output.ended → IsBrought (newest before h.course.stands.book) b → IsTaken script line output b
taken script line none g h before output b went empty many one brought = record {
  steps = stepped script line g h output.text.items output.ended went (subst (λ (l : List ℕ). Tells g line h l output.text.items output.ended) empty one);
  brings = subst (λ (l : Option Line). IsBrought l b) same brought;
}
  where
    same : newest before h.course.stands.book ≡ line_added script line
    same = ap (λ (n : ℕ). newest n h.course.stands.book) many
        ∙ ap (λ (h : FeedState). newest (line_count g.course.stands.book) h.course.stands.book) one.takes
        ∙ ap (λ (g : FeedState). newest (line_count g.course.stands.book) (after g line).course.stands.book) went

-- the step of an entry was taken
pub entered : (script : List ℕ) (said : Result Step EntryFault) (line : List ℕ) (output : RunOutput) (b : Brought) → step_after [] said ≡ Ok line → IsTaken script line output b → HasEntered script said (Ok output) b
entered script (Ok s) line output b is took =
    let same : line ≡ step_text s = sym (ok_same (step_after [] (Ok s)) (step_text s) line refl is) in
    (subst (λ (l : List ℕ). IsStep script l output.text.items output.ended) same took.steps, subst (λ (l : List ℕ). IsBrought (line_added script l) b) same took.brings)
entered script (Err f) line output b is took = absurd cc

-- an entry encodes none
pub not_entered : (script : List ℕ) (said : Result Step EntryFault) (f : EntryFault) (b : Brought) → step_after [] said ≡ Err f → IsBrought None b → HasEntered script said (Err f) b
not_entered script (Ok s) f b is none = absurd cc
not_entered script (Err g) f b is none = (sym (err_same (step_after [] (Err g)) g f refl is), none)

-- the answer and the records are written to the caller
pub brings : (l : Option Line) (b : Brought) (answer : McsAnswer) (from to : List McsRecord) → IsBrought l b → answer ≡ b.answer → FillsWith b.records.items from to → Brings l answer from to
brings l b answer from to is same fills = record {
  says = subst (λ (a : McsAnswer). IsAnswer l a) (sym same) is.answer;
  fills = subst (λ (rs : List McsRecord). FillsWith rs from to) is.records fills;
}

-- what an entry leaves is handed out
pub enters : (script : List ℕ) (said : Result Step EntryFault) (output : Result RunOutput EntryFault) (b : Brought) (status : ℕ) (old new : List ℕ) (end : McsEnd) (answer : McsAnswer) (from to : List McsRecord)
    → HasEntered script said output b → HandsOutput output status old new end → answer ≡ b.answer → FillsWith b.records.items from to → Enters script said status old new end answer from to
enters script (Ok s) (Ok output) b status old new end answer from to has hands same fills =
    (steps script (step_text s) output.text.items old new output.ended status end has.0 hands.0 hands.1, brings (line_added script (step_text s)) b answer from to has.1 same fills)
enters script (Err f) (Err g) b status old new end answer from to has hands same fills =
    (hands.0, subst (λ (e : EntryFault). Ends (at_line 0 (entry_fault e)) status end) has.0 hands.1, brings None b answer from to has.1 same fills)
enters script (Ok s) (Err g) b status old new end answer from to has hands same fills = absurd has
enters script (Err f) (Ok output) b status old new end answer from to has hands same fills = absurd has
