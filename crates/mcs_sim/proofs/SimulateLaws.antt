-- A run of a source to a sink, piece by piece.
use Rattle.std.proofs.Common.{◌≡◌, ◌⊎◌, ℕ, ◌<◌, ◌≤◌, inl, inr, Bool, true, false, Option, Some, None, Ok, Err, List, [], ◌∷◌, ◌++◌, length, refl, sym, ap, subst, ◌∙◌, append_assoc, append-nil, arith}
use Rattle.std.specs.Io.KnownBytes.{Appends, Consumes, IsAtEnd}
use Rattle.mcs_book.specs.History.{Book}
use Rattle.mcs_trace.specs.declared.sink.Sink.{Sink}
use Rattle.mcs_trace.specs.Output.{Moves, Puts, kept}
use Rattle.mcs_trace.proofs.Outputs.{Puts-then, Puts-text}
use Rattle.mcs_phases.specs.declared.fault.SimFault.{SimFault}
use Rattle.mcs_phases.specs.declared.fault.SimFault.TheVariants as fault
use Rattle.mcs_sim.specs.declared.trace_text.Written.{Written}
use Rattle.mcs_sim.specs.Trace.{IsLonger, IsWrittenBy, trace_of, unwritten_of}
use Rattle.mcs_sim.specs.Runs.{Ends, TellsMore, WritesMore, HasFailed, answer_with}
use Rattle.mcs_phases.specs.Feeds.{FeedState, at_line, no_line, fed, IsFairBook, TakesPiece}
use Rattle.mcs_sim.proofs.FeedLaws.{fed-append}
use Rattle.mcs_sim.proofs.FeedRuns.{ends-by, ends-write, fault-of-piece}
use Rattle.mcs_sim.proofs.FeedBooks.{written-more}
use Rattle.mcs_sim.proofs.FeedTakes.{answer-err, answer-ok}
use Rattle.mcs_sim.proofs.TraceLaws.{puts_nothing, puts_after}
use Rattle.mcs_sim.proofs.FeedWeights.{weight, IsWithin, HasCome, fed-come}

-- what was put by and by is the trace so far
pub tells-on : {W : Type 0} (f : W → Option (List ℕ)) (s t v : Sink W) (j k : Option Book) → Puts f s t (trace_of j) → TellsMore f t v j k → Puts f s v (trace_of k)
tells-on f s t v j k puts more = Puts-text f s v (trace_of j ++ more.0) (trace_of k) (Puts-then f s t v (trace_of j) more.0 puts more.2) (sym more.1)

-- what a sink that kept nothing back has sent out
pub moves-out : {W : Type 0} (f : W → Option (List ℕ)) (a s t : Sink W) (text : List ℕ) → s.writer ≡ a.writer → kept s ≡ [] → (puts : Puts f s t text) → Moves (f a.writer) (f t.writer) text puts.rest
moves-out {W = W} f a s t text same none puts =
    subst (λ (w : W). Moves (f w) (f t.writer) text puts.rest) same (subst (λ (l : List ℕ). Moves (f s.writer) (f t.writer) (l ++ text) puts.rest) none puts.moves)

pub appends-out : {W : Type 0} (f : W → Option (List ℕ)) (a s t : Sink W) (text : List ℕ) → s.writer ≡ a.writer → kept s ≡ [] → Puts f s t text → t.is_broken ≡ false → kept t ≡ [] → Appends (f a.writer) (f t.writer) text
appends-out f a s t text same none puts whole empty =
    let moves = moves-out f a s t text same none puts in
    subst (Appends (f a.writer) (f t.writer)) (sym (moves.split ∙ ap (λ (l : List ℕ). moves.sent ++ l) ((puts.whole whole).1 ∙ empty) ∙ append-nil moves.sent)) moves.grown

-- what a piece adds to the trace was put
pub tells-longer : {W : Type 0} (f : W → Option (List ℕ)) (written : Written) (g h i : FeedState) (s t : Sink W) → g ≡ h → IsWrittenBy written g.course.stands.book → IsLonger g.course.stands.book i.course.stands.book
    → Puts f s t (unwritten_of written i.course.stands.book) → TellsMore f s t h.course.stands.book i.course.stands.book
tells-longer f written g h i s t same is longer puts =
    let more = written-more written g.course.stands.book i.course.stands.book is longer in
    subst (λ (g : FeedState). TellsMore f s t g.course.stands.book i.course.stands.book) same (unwritten_of written i.course.stands.book, more, puts)

-- what was put of a book and then of a longer one
pub tells-then : {W : Type 0} (f : W → Option (List ℕ)) (s t v : Sink W) (j k l : Option Book) → TellsMore f s t j k → TellsMore f t v k l → TellsMore f s v j l
tells-then f s t v j k l one other =
    (one.0 ++ other.0, other.1 ∙ ap (λ (x : List ℕ). x ++ other.0) one.1 ∙ append_assoc (trace_of j) one.0 other.0, Puts-then f s t v one.0 other.0 one.2 other.2)

-- nothing was put
pub tells-none : {W : Type 0} (f : W → Option (List ℕ)) (s : Sink W) (k : Option Book) → TellsMore f s s k k
tells-none f s k = ([], sym (append-nil (trace_of k)), puts_nothing f s)

-- what was put, and then sent out
pub tells-sent : {W : Type 0} (f : W → Option (List ℕ)) (s t v : Sink W) (j k : Option Book) → TellsMore f s t j k → Puts f t v [] → TellsMore f s v j k
tells-sent f s t v j k one sent = (one.0, one.1, puts_after f s t v one.0 one.2 sent)

-- what a trace has more was written, where nothing is kept back and no call of the writer failed
pub writes-more : {W : Type 0} (f : W → Option (List ℕ)) (s t : Sink W) (j k : Option Book) → TellsMore f s t j k → kept t ≡ [] → WritesMore f s t j k ⊎ HasFailed s t
writes-more f s t j k tells none = go t.is_broken refl s.is_broken refl
  where
    moves : Moves (f s.writer) (f t.writer) (kept s ++ tells.0) tells.2.rest
    moves = tells.2.moves

    go : (now : Bool) → t.is_broken ≡ now → (before : Bool) → s.is_broken ≡ before → WritesMore f s t j k ⊎ HasFailed s t
    go false whole before was =
        let all : kept s ++ tells.0 ≡ moves.sent = moves.split ∙ ap (λ (l : List ℕ). moves.sent ++ l) ((tells.2.whole whole).1 ∙ none) ∙ append-nil moves.sent in
        inl (tells.0, tells.1, subst (Appends (f s.writer) (f t.writer)) (sym all) moves.grown)
    go true broken true was = inr (inl was)
    go true broken false was = inr (inr (tells.2.rose was broken))

-- ---- answers

-- the answer of a piece that was taken
pub answer-well : (broken : Bool) (o : Option SimFault) (u : Unit {0}) → Ok u ≡ answer_with broken o → (broken ≡ false) × (o ≡ None)
answer-well true o u is = absurd cc
answer-well false o u is = (refl, answer-ok o u is)

-- a piece goes on where the one before ended
pub piece-on : (g : FeedState) (text piece : List ℕ) (h : FeedState) → g ≡ fed (at_line no_line) text → 0 < length piece → TakesPiece g piece h → h.course.fault ≡ None → h ≡ fed (at_line no_line) (text ++ piece)
piece-on g text [] h is some takes goes = absurd (omega (arith, some))
piece-on g text (b ∷ bs) h is some (inl takes) goes = takes ∙ ap (λ (g : FeedState). fed g (b ∷ bs)) is ∙ sym (fed-append (at_line no_line) text (b ∷ bs))
piece-on g text (b ∷ bs) h is some (inr takes) goes = absurd (let other : Some fault.OutOfMemory ≡ None = ap (λ (g : FeedState). g.course.fault) (sym takes.stopped) ∙ goes in cc)

-- it comes nearer to the end
pub piece-nearer : (g : FeedState) (text piece : List ℕ) (h : FeedState) → g ≡ fed (at_line no_line) text → g.course.fault ≡ None → 0 < length piece → TakesPiece g piece h → h.course.fault ≡ None
    → (weight g < weight h) × (weight h ≤ 8194004096)
unfolding fed
piece-nearer g text piece h is live some takes goes =
    let there = piece-on g text piece h is some takes goes in
    let before = fed-come text (at_line no_line) (record { few = omega arith; short = omega arith }) refl (ap (λ (g : FeedState). g.course.fault) (sym is) ∙ live) in
    let same : fed g piece ≡ h = ap (λ (g : FeedState). fed g piece) is ∙ sym (fed-append (at_line no_line) text piece) ∙ sym there in
    let within = subst IsWithin (sym is) before.within in
    let come = fed-come piece g within live (ap (λ (g : FeedState). g.course.fault) same ∙ goes) in
    let last = subst (HasCome g (length piece)) same come in
    (omega (arith, some, last.further), omega (arith, last.within.few, last.within.short))

-- a piece ended the run
pub ends-piece : {W : Type 0} (f : W → Option (List ℕ)) (a s t v : Sink W) (left left' : Option (List ℕ)) (g : FeedState) (text piece : List ℕ) (h : FeedState) (e : SimFault)
    → s.writer ≡ a.writer → kept s ≡ [] → g ≡ fed (at_line no_line) text → g.course.fault ≡ None → length piece ≤ 4096 → Consumes left left' (text ++ piece) → (piece ≡ [] → IsAtEnd left') → TakesPiece g piece h
    → Puts f s t (trace_of g.course.stands.book) → TellsMore f t v g.course.stands.book h.course.stands.book → kept v ≡ [] → IsFairBook h.course.stands.book
    → Err e ≡ answer_with v.is_broken h.course.fault → Ends e left left' (f a.writer) (f v.writer)
ends-piece f a s t v left left' g text piece h e same none is goes few read end takes puts more empty fair answer = go v.is_broken refl answer
  where
    all : Puts f s v (trace_of h.course.stands.book)
    all = tells-on f s t v g.course.stands.book h.course.stands.book puts more

    go : (broken : Bool) → v.is_broken ≡ broken → Err e ≡ answer_with broken h.course.fault → Ends e left left' (f a.writer) (f v.writer)
    go true is_broken answer =
        let it : e ≡ fault.Write = cc in
        subst (λ (e : SimFault). Ends e left left' (f a.writer) (f v.writer)) (sym it)
        (ends-write left left' (f a.writer) (f v.writer) g text piece h all.rest is goes few read takes (moves-out f a s v (trace_of h.course.stands.book) same none all))
    go false is_broken answer =
        let ends = answer-err h.course.fault e answer in
        ends-by e left left' (f a.writer) (f v.writer) g text piece h all.rest is goes few read end takes (moves-out f a s v (trace_of h.course.stands.book) same none all) (appends-out f a s v (trace_of h.course.stands.book) same none all is_broken empty) fair ends

-- a piece answers no read fault, and a write fault only where the sink broke
pub never-read : (broken : Bool) (g : FeedState) (text piece : List ℕ) (h : FeedState) → g ≡ fed (at_line no_line) text → TakesPiece g piece h → Err fault.Read ≡ answer_with broken h.course.fault → ⊥
never-read true g text piece h is takes answer = let it : fault.Read ≡ fault.Write = cc in cc
never-read false g text piece h is takes answer = elim (fault-of-piece g text piece h fault.Read is takes (answer-err h.course.fault fault.Read answer)) [ inl it ↦ cc | inr of ↦ of ]

pub only-broken : (broken : Bool) (g : FeedState) (text piece : List ℕ) (h : FeedState) → g ≡ fed (at_line no_line) text → TakesPiece g piece h → Err fault.Write ≡ answer_with broken h.course.fault → broken ≡ true
only-broken true g text piece h is takes answer = refl
only-broken false g text piece h is takes answer = absurd (elim (fault-of-piece g text piece h fault.Write is takes (answer-err h.course.fault fault.Write answer)) [ inl it ↦ cc | inr of ↦ of ])
