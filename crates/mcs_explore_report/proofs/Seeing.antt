-- What is kept and noted of a state or a turn more.
use Rattle.std.specs.Prelude.{ℕ, ◌≡◌, Bool, List, [], Option, Some, None, Result, Ok, Err, length, replicate}
use Rattle.std.specs.Result.{OnOk}
use Rattle.std.proofs.Common.{sym, subst}
use Rattle.mcs_types.specs.declared.entry.Answer.{Answer}
use Rattle.mcs_turns.specs.declared.position.Position.{Position}
use Rattle.mcs_turns.specs.Turns.{User, RunState}
use Rattle.mcs_explore_walk.specs.declared.walk.Turn.{Turn}
use Rattle.mcs_explore_orders.specs.Shown.{Shown, nothing, with_state, with_turn}
use Rattle.mcs_explore_report.specs.declared.judgement.Sighting.{Sighting}
use Rattle.mcs_explore_script.specs.declared.lives.Live.{Live}
use Rattle.mcs_turns.specs.declared.reached.Reached.{Reached}
use Rattle.mcs_explore_script.specs.declared.questions.AskedLine.{AskedLine}
use Rattle.mcs_explore_report.specs.Answers.{AreNotedMail, IsNotedTurn, Tables, no_answers}
use Rattle.mcs_explore_report.specs.Ends.{IsNotedIf, Kind}
use Rattle.mcs_explore_report.specs.Judged.{AreJudgedBy}
use Rattle.mcs_explore_report.specs.Kept.{HasKept}
use Rattle.mcs_turns.specs.Mail.{brought}
use Rattle.mcs_explore_report.specs.Standings.{standings}
use Rattle.mcs_explore_report.specs.Stuck.{AreNotedBy, AreNotedOn, Noted, with_made, with_sight}
use Rattle.mcs_explore_report.proofs.Keeping.{begun-kept, kept-state, kept-turn}
use Rattle.mcs_explore_report.proofs.Stuck.{none-noted, noted-state, noted-turn}

-- a state more
pub sees-state : {E : Type 0} (r : Result (Unit {0}) E) (users : List User) (questions : List AskedLine) (lives later : List Live) (place : ℕ) (g : RunState) (over : Bool) (old new : List Kind) (tables : Tables) (failed after : List (Option Sighting)) (notes noted : List Noted)
    → AreJudgedBy users questions (record { place = place; turn = None }) g failed after → IsNotedIf over (standings users g) place old new
    → later ≡ lives → OnOk r (AreNotedOn (with_sight users g) lives notes noted)
    → OnOk r ((shown : Shown) → HasKept users questions lives shown old tables failed notes → HasKept users questions later (with_state place g over shown) new tables after noted)
sees-state (Err e) users questions lives later place g over old new tables failed after notes noted by ends same on = on
sees-state {E} (Ok x) users questions lives later place g over old new tables failed after notes noted by ends same on = λ shown has. record {
  kept = kept-state ok users questions place g over old new tables failed after by ends shown has.kept;
  noted = subst (λ (ls : List Live). AreNotedBy users ls (with_state place g over shown) noted) (sym same) (noted-state users lives place g over shown notes noted on has.noted);
}
  where
    ok : Result (Unit {0}) E
    ok = Ok x

-- a turn more
pub sees-turn : {E : Type 0} (r : Result (Unit {0}) E) (users : List User) (questions : List AskedLine) (lives later : List Live) (place : ℕ) (t : Turn) (a : Answer) (from : List Position) (h : RunState) (kinds : List Kind) (start mid after : Tables) (failed then : List (Option Sighting)) (notes noted : List Noted)
    → AreJudgedBy users questions (record { place = place; turn = Some t }) h failed then → IsNotedTurn (record { answer = a; place = place; turn = t }) start mid
    → (all : List Reached) → all ≡ brought h.book → AreNotedMail users from place t all mid after
    → later ≡ lives → OnOk r (AreNotedOn (with_made users place t a from all) lives notes noted)
    → OnOk r ((shown : Shown) → HasKept users questions lives shown kinds start failed notes → HasKept users questions later (with_turn place t a from h shown) kinds after then noted)
sees-turn (Err e) users questions lives later place t a from h kinds start mid after failed then notes noted by own all is mail same on = on
sees-turn {E} (Ok x) users questions lives later place t a from h kinds start mid after failed then notes noted by own all is mail same on = λ shown has. record {
  kept = kept-turn ok users questions place t a from h kinds start mid after failed then by own all is mail shown has.kept;
  noted = subst (λ (ls : List Live). AreNotedBy users ls (with_turn place t a from h shown) noted) (sym same) (noted-turn users lives place t a from h shown notes noted (subst (λ (rs : List Reached). AreNotedOn (with_made users place t a from rs) lives notes noted) is on) has.noted);
}
  where
    ok : Result (Unit {0}) E
    ok = Ok x

-- before the search
pub begun : (users : List User) (questions : List AskedLine) (lives : List Live) (kinds : List Kind) (tables : Tables) (failed : List (Option Sighting)) (notes : List Noted) → kinds ≡ [] → tables ≡ no_answers users → failed ≡ replicate (length questions) None
    → notes ≡ replicate (length lives) (record { settled = []; answered = [] }) → HasKept users questions lives nothing kinds tables failed notes
begun users questions lives kinds tables failed notes no_kind empty no_failure none = record {
  kept = begun-kept users questions kinds tables failed no_kind empty no_failure;
  noted = subst (λ (ns : List Noted). AreNotedBy users lives nothing ns) (sym none) (none-noted users lives);
}
