-- What a run that takes a piece reports, and what is written to the caller of it.
use Rattle.std.proofs.Common.{◌≡◌, inl, inr, ℕ, eqb, length, Bool, true, false, Option, Some, None, Result, Ok, Err, List, [], ◌∷◌, ◌++◌, refl, sym, ap, subst, ◌∙◌, append_assoc}
use Rattle.std.specs.Io.KnownBytes.{Appends}
use Rattle.mcs_trace.specs.declared.sink.Sink.{Sink}
use Rattle.mcs_trace.specs.Output.{kept}
use Rattle.mcs_phases.specs.declared.fault.SimFault.{SimFault}
use Rattle.mcs_phases.specs.declared.fault.SimFault.TheVariants as fault
use Rattle.mcs_phases.specs.Feeds.{FeedState, Course, IsFairBook, Takes, TakesPiece, answer_of, at_line, ended, ended_by, fed, no_line}
use Rattle.mcs_sim.specs.Trace.{trace_of}
use Rattle.mcs_sim.specs.Runs.{TellsMore, answer_with}
use Rattle.mcs_sim.proofs.SimulateLaws.{appends-out}
use Rattle.mcs_sim.proofs.FeedScripts.{fed-as-read}
use Rattle.mcs_c.specs.declared.output.McsEnd.{McsEnd}
use Rattle.mcs_c.specs.Handing.{HandsOut}
use Rattle.mcs_c.specs.Replays.{after, going, course_of, trace_so_far, is_refused, Adds, Tells, IsReplay, IsStep, IsEnd, Replays, Steps}

-- a run that memory was refused answers that
pub not-refused : (h : FeedState) (c : Course) (r : Result (Unit {0}) SimFault) → h ≡ at_line (ended_by fault.OutOfMemory c) → r ≡ answer_of h.course.fault → is_refused r ≡ false → ⊥
not-refused h c r stopped answers well =
    let is : is_refused r ≡ true = ap is_refused (answers ∙ ap (λ (g : FeedState). answer_of g.course.fault) stopped) in cc

-- else it took all of the piece
pub took : (g : FeedState) (piece : List ℕ) (h : FeedState) (r : Result (Unit {0}) SimFault) → TakesPiece g piece h → r ≡ answer_of h.course.fault → is_refused r ≡ false → h ≡ after g piece
took g [] h r (inl e) answers well = e
took g [] h r (inr (n, e)) answers well = absurd (not-refused h g.course r e answers well)
took g (b ∷ bs) h r (inl e) answers well = e
took g (b ∷ bs) h r (inr refused) answers well = absurd (not-refused h (fed g refused.before).course r refused.stopped answers well)

-- bytes were taken, where memory was not refused
pub fed_took : (g : FeedState) (bytes : List ℕ) (h : FeedState) (r : Result (Unit {0}) SimFault) → Takes g bytes h → r ≡ answer_of h.course.fault → is_refused r ≡ false → h ≡ fed g bytes
fed_took g bytes h r (inl e) answers well = e
fed_took g bytes h r (inr refused) answers well = absurd (not-refused h (fed g refused.before).course r refused.stopped answers well)

-- what `take_piece` leaves, where its sink did not break and memory was there
pub tells : {W : Type 0} (f : W → Option (List ℕ)) (g h : FeedState) (piece : List ℕ) (s t : Sink W) (text text' : List ℕ) (r : Result (Unit {0}) SimFault)
    → f s.writer ≡ Some text → kept s ≡ [] → TakesPiece g piece h → TellsMore f s t g.course.stands.book h.course.stands.book → kept t ≡ [] → t.is_broken ≡ false → f t.writer ≡ Some text'
    → r ≡ answer_with t.is_broken h.course.fault → is_refused r ≡ false → IsFairBook h.course.stands.book → Tells g piece h text text' r
tells f g h piece s t text text' r from empty takes more sent whole to answers well fair = record {
  takes = took g piece h r takes answer well;
  adds = record { more = more.0; adds = more.1; grown = longer };
  answers = answer;
  fair = fair;
}
  where
    answer : r ≡ answer_of h.course.fault
    answer = answers ∙ ap (λ (b : Bool). answer_with b h.course.fault) whole

    out : Appends (f s.writer) (f t.writer) more.0
    out = appends-out f s s t more.0 refl empty more.2 whole sent

    longer : text' ≡ text ++ more.0
    longer = subst (λ (o : Option (List ℕ)). Appends o (Some text') more.0) from (subst (λ (o : Option (List ℕ)). Appends (f s.writer) o more.0) to out)

-- a script that is not empty was taken, and then its end
pub replayed : (script : List ℕ) (b : ℕ) (bs : List ℕ) (g h i : FeedState) (text text' : List ℕ) (first second : Result (Unit {0}) SimFault)
    → script ≡ b ∷ bs → g ≡ at_line no_line → Tells g script h [] text first → Tells h [] i text text' second → IsReplay script text' second
replayed script b bs g h i text text' first second some begins one two = record {
  is = output ∙ ap (λ (c : Course). trace_of c.stands.book) course;
  answers = two.answers ∙ ap (λ (c : Course). answer_of c.fault) course;
  fair = subst (λ (c : Course). IsFairBook c.stands.book) course two.fair;
}
  where
    went : h ≡ going script
    went = one.takes ∙ ap (λ (l : List ℕ). after g l) some ∙ ap (λ (g : FeedState). fed g (b ∷ bs)) begins ∙ ap (λ (l : List ℕ). fed (at_line no_line) l) (sym some)

    course : i.course ≡ course_of script
    course = ap (λ (g : FeedState). g.course) two.takes ∙ ap ended went

    none : trace_so_far g ≡ []
    none = ap trace_so_far begins

    output : text' ≡ trace_of i.course.stands.book
    output = two.adds.grown ∙ ap (λ (l : List ℕ). l ++ two.adds.more) (one.adds.grown ∙ sym (one.adds.adds ∙ ap (λ (l : List ℕ). l ++ one.adds.more) none)) ∙ sym two.adds.adds

-- the end of an empty script was taken
pub replayed_empty : (script : List ℕ) (g h : FeedState) (text : List ℕ) (r : Result (Unit {0}) SimFault) → script ≡ [] → g ≡ at_line no_line → Tells g [] h [] text r → IsReplay script text r
unfolding fed
replayed_empty script g h text r none begins one = record {
  is = one.adds.grown ∙ sym (one.adds.adds ∙ ap (λ (l : List ℕ). l ++ one.adds.more) (ap trace_so_far begins)) ∙ ap (λ (c : Course). trace_of c.stands.book) course;
  answers = one.answers ∙ ap (λ (c : Course). answer_of c.fault) course;
  fair = subst (λ (c : Course). IsFairBook c.stands.book) course one.fair;
}
  where
    course : h.course ≡ course_of script
    course = ap (λ (g : FeedState). g.course) one.takes ∙ ap ended begins ∙ ap course_of (sym none)

-- nothing was taken yet
pub began : (script : List ℕ) (g : FeedState) → script ≡ [] → g ≡ at_line no_line → g ≡ going script
unfolding fed
began script g none begins = begins ∙ ap going (sym none)

-- a script that is not empty was taken
pub went : (script : List ℕ) (b : ℕ) (bs : List ℕ) (g h : FeedState) (text text' : List ℕ) (r : Result (Unit {0}) SimFault) → script ≡ b ∷ bs → g ≡ at_line no_line → Tells g script h text text' r → h ≡ going script
went script b bs g h text text' r some begins one = one.takes ∙ ap (λ (l : List ℕ). after g l) some ∙ ap (λ (g : FeedState). fed g (b ∷ bs)) begins ∙ ap (λ (l : List ℕ). fed (at_line no_line) l) (sym some)

-- a line was taken after a script
pub stepped : (script line : List ℕ) (g h : FeedState) (text : List ℕ) (r : Result (Unit {0}) SimFault) → g ≡ going script → Tells g line h [] text r → IsStep script line text r
stepped script line g h text r went one = record {
  adds = subst (λ (g : FeedState). trace_so_far (after g line) ≡ trace_so_far g ++ text) went
      (ap trace_so_far (sym one.takes) ∙ one.adds.adds ∙ ap (λ (l : List ℕ). trace_so_far g ++ l) (sym one.adds.grown));
  answers = one.answers ∙ ap (λ (g : FeedState). answer_of g.course.fault) there;
  fair = subst (λ (g : FeedState). IsFairBook g.course.stands.book) there one.fair;
}
  where
    there : h ≡ after (going script) line
    there = one.takes ∙ ap (λ (g : FeedState). after g line) went

-- what is handed out of a replay
pub replays : (script text old new : List ℕ) (r : Result (Unit {0}) SimFault) (status : ℕ) (end : McsEnd) → IsReplay script text r → HandsOut text old new end.length → IsEnd r status end → Replays script status old new end
replays script text old new r status end is wrote ends = record {
  wrote = subst (λ (t : List ℕ). HandsOut t old new end.length) is.is wrote;
  ends = subst (λ (r : Result (Unit {0}) SimFault). IsEnd r status end) is.answers ends;
  comes = fed-as-read script;
  fair = is.fair;
}

-- what is handed out of a step
pub steps : (script line text old new : List ℕ) (r : Result (Unit {0}) SimFault) (status : ℕ) (end : McsEnd) → IsStep script line text r → HandsOut text old new end.length → IsEnd r status end → Steps script line status old new end
steps script line text old new r status end is wrote ends = record {
  more = text;
  adds = is.adds;
  wrote = wrote;
  ends = subst (λ (r : Result (Unit {0}) SimFault). IsEnd r status end) is.answers ends;
  fair = is.fair;
}

-- a script that is not empty, by its length, was taken, and then its end
pub replayed_on : (script : List ℕ) (g h i : FeedState) (text text' : List ℕ) (first second : Result (Unit {0}) SimFault)
    → eqb (length script) 0 ≡ false → g ≡ at_line no_line → Tells g script h [] text first → Tells h [] i text text' second → IsReplay script text' second
replayed_on [] g h i text text' first second some begins one two = absurd cc
replayed_on (b ∷ bs) g h i text text' first second some begins one two = replayed (b ∷ bs) b bs g h i text text' first second refl begins one two
