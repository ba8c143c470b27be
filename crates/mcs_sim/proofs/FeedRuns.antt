-- What is written of a replay that continues is a beginning of what is written of its text, and all
-- of it in the end.
use Rattle.std.proofs.Common.{◌≡◌, ℕ, ◌+◌, ◌≤◌, ◌⊎◌, inl, inr, Option, Some, None, List, [], ◌∷◌, ◌++◌, refl, sym, ap, subst, ◌∙◌, append_assoc, append-nil, length, arith}
use Rattle.std.specs.Io.KnownBytes.{Appends, Consumes, IsAtEnd}
use Rattle.mcs_trace.specs.Output.{Moves}
use Rattle.mcs_sim.proofs.RunLaws.{Consumes-nil, Begins-nil}
use Rattle.mcs_types.specs.declared.entry.Step.{Step}
use Rattle.mcs_book.specs.Boots.{Boot}
use Rattle.mcs_book.specs.History.{Book, IsLegal, book_of}
use Rattle.mcs_book.specs.Fair.{IsFair}
use Rattle.mcs_text.specs.declared.fault.LineFault.{LineFault}
use Rattle.mcs_phases.specs.declared.fault.SimFault.{SimFault}
use Rattle.mcs_phases.specs.declared.fault.SimFault.TheVariants as fault
use Rattle.mcs_phases.specs.Script.{Script, steps}
use Rattle.mcs_sim.specs.Trace.{trace, trace_of}
use Rattle.mcs_sim.specs.Runs.{script_trace, trace_before, written_by, written, Begins, IsFull, IsFullAt, IsRoomy, IsFairBefore, IsNamed, StopsSoon, ReadsText, Finishes, Ends}
use Rattle.mcs_sim.specs.Trace.{IsLonger}
use Rattle.mcs_phases.specs.Feeds.{Course, FeedState, ended_by, at_line, no_line, fed, at_end, ended, IsFairBook, TakesEnd, TakesPiece}
use Rattle.mcs_sim.specs.Outcomes.{boot_or_book_of, IsTaken, IsTakenTo, IsTakenToFull, ComesOfScript}
use Rattle.mcs_sim.proofs.FeedLaws.{fed-append, fed-stopped}
use Rattle.mcs_sim.proofs.FeedScripts.{fed-as-read}
use Rattle.mcs_sim.proofs.FeedBooks.{steps-longer, longer-trans, fed-longer, ended-longer, IsBeginning, longer-begins}

-- all was taken
taken-written_by : (t : Script Step) (c : Course) → IsTaken t c → written_by t None ≡ trace_of c.stands.book
unfolding script_trace
taken-written_by t c is = ap (λ (b : Option Boot). script_trace b t.items) is.said ∙ sym (ap trace_of is.book)

-- all before a faulty line
before-written_by : (boot : Option Boot) (ss : List Step) → trace_before boot ss ≡ trace_of (boot_or_book_of boot ss).book
unfolding trace_before script_trace
before-written_by boot [] = refl
before-written_by None (s ∷ ss) = refl
before-written_by (Some b) (s ∷ ss) = refl

faulty-written_by : (t : Script Step) (line : ℕ) (why : LineFault) (c : Course) → IsTakenTo line why t c → written_by t (Some (line, why)) ≡ trace_of c.stands.book
faulty-written_by t line why c is = before-written_by t.boot t.items ∙ sym (ap trace_of is.book)

-- what was taken before a step for which the book is full
full-written_by : (f : Option (ℕ × LineFault)) (boot : Option Boot) (before after : List Step) → IsBeginning (trace_of (boot_or_book_of boot before).book) (written_by (record { boot = boot; items = before ++ after }) f)
unfolding trace_before script_trace
full-written_by f boot [] after = (written_by (record { boot = boot; items = after }) f, refl)
full-written_by f None (x ∷ xs) after = (written_by (record { boot = None; items = (x ∷ xs) ++ after }) f, refl)
full-written_by None (Some b) (x ∷ xs) after = longer-begins (Some (book_of b (x ∷ xs))) (Some (book_of b ((x ∷ xs) ++ after))) (steps-longer after b (x ∷ xs))
full-written_by (Some f) (Some b) (x ∷ xs) after = longer-begins (Some (book_of b (x ∷ xs))) (Some (book_of b ((x ∷ xs) ++ after))) (steps-longer after b (x ∷ xs))

same-begins : (x y : List ℕ) → y ≡ x → IsBeginning x y
same-begins x y same = ([], same ∙ sym (append-nil x))

begins-trans : (x y z : List ℕ) → IsBeginning x y → IsBeginning y z → IsBeginning x z
begins-trans x y z one other = (one.0 ++ other.0, other.1 ∙ ap (λ (t : List ℕ). t ++ other.0) one.1 ∙ append_assoc x one.0 other.0)

full-begins : (t : Script Step) (f : Option (ℕ × LineFault)) (c : Course) → IsTakenToFull t c → IsBeginning (trace_of c.stands.book) (written_by t f)
full-begins t f c is =
    subst (λ (k : Option Book). IsBeginning (trace_of k) (written_by t f)) (sym is.book)
    (subst (λ (ss : List Step). IsBeginning (trace_of (boot_or_book_of t.boot is.before).book) (written_by (record { boot = t.boot; items = ss }) f)) (sym is.split) (full-written_by f t.boot is.before (is.step ∷ is.after)))

outcome-begins : (r : Script Step × Option (ℕ × LineFault)) (c : Course) → ComesOfScript r c → IsBeginning (trace_of c.stands.book) (written_by r.0 r.1)
outcome-begins (t, None) c (inl is) = same-begins _ _ (taken-written_by t c is)
outcome-begins (t, None) c (inr is) = full-begins t None c is
outcome-begins (t, Some (line, why)) c (inl is) = same-begins _ _ (faulty-written_by t line why c is)
outcome-begins (t, Some (line, why)) c (inr is) = full-begins t (Some (line, why)) c is

-- at any time a beginning of what is written of the text
pub reached-begins : (before after : List ℕ) → IsBeginning (trace_of (fed (at_line no_line) before).course.stands.book) (written (before ++ after))
unfolding written
reached-begins before after =
    let here = fed (at_line no_line) before in
    let there = fed (at_line no_line) (before ++ after) in
    let later : (fed here after).course.stands.book ≡ there.course.stands.book = ap (λ (g : FeedState). g.course.stands.book) (sym (fed-append (at_line no_line) before after)) in
    let longer = longer-trans here.course.stands.book there.course.stands.book (ended there).stands.book (subst (λ k. IsLonger here.course.stands.book k) later (fed-longer after here)) (ended-longer there) in
    begins-trans _ _ _ (longer-begins here.course.stands.book (ended there).stands.book longer) (outcome-begins (steps (before ++ after)) (ended there) (fed-as-read (before ++ after)))

-- ---- how it ends

-- without a fault
pub record EndsWhole (text : List ℕ) (c : Course) : Type 0 where
  pub boot : Boot
  pub faultless : steps text ≡ (record { boot = Some boot; items = (steps text).0.items }, None)
  pub wrote : trace_of c.stands.book ≡ trace (book_of boot (steps text).0.items)
  pub fair : IsFairBook c.stands.book → IsLegal (book_of boot (steps text).0.items) × IsFair (book_of boot (steps text).0.items)

whole-of : (r : Script Step × Option (ℕ × LineFault)) (c : Course) → ComesOfScript r c → c.fault ≡ None → (boot : Boot) × (r ≡ (record { boot = Some boot; items = r.0.items }, None)) × (c.stands.book ≡ Some (book_of boot r.0.items))
whole-of (t, None) c (inl is) none = (is.boot, (λ i. (record { boot = is.said i; items = t.items }, None)), is.book)
whole-of (t, None) c (inr is) none = absurd (let other : Some fault.BookFull ≡ None = sym is.ended ∙ none in cc)
whole-of (t, Some (line, why)) c (inl is) none = absurd (let other : Some (fault.Script line why) ≡ None = sym is.ended ∙ none in cc)
whole-of (t, Some (line, why)) c (inr is) none = absurd (let other : Some fault.BookFull ≡ None = sym is.ended ∙ none in cc)

pub ends-whole : (text : List ℕ) → (ended (fed (at_line no_line) text)).fault ≡ None → EndsWhole text (ended (fed (at_line no_line) text))
ends-whole text none =
    let whole = whole-of (steps text) (ended (fed (at_line no_line) text)) (fed-as-read text) none in
    record {
      boot = whole.0;
      faultless = whole.1;
      wrote = ap trace_of whole.2;
      fair = λ fair. subst (λ k. IsFairBook k) whole.2 fair;
    }

-- at a faulty line
pub record EndsFaulty (text : List ℕ) (line : ℕ) (why : LineFault) (c : Course) : Type 0 where
  pub faulty : (steps text).1 ≡ Some (line, why)
  pub wrote : trace_of c.stands.book ≡ written text
  pub roomy : IsRoomy (steps text).0.boot (steps text).0.items
  pub fair : IsFairBook c.stands.book → IsFairBefore (steps text).0.boot (steps text).0.items

fair-before : (boot : Option Boot) (ss : List Step) → IsFairBook (boot_or_book_of boot ss).book → IsFairBefore boot ss
fair-before boot [] fair = tt
fair-before None (s ∷ ss) fair = tt
fair-before (Some b) (s ∷ ss) fair = fair

faulty-of : (r : Script Step × Option (ℕ × LineFault)) (c : Course) (line : ℕ) (why : LineFault) → ComesOfScript r c → c.fault ≡ Some (fault.Script line why) → (r.1 ≡ Some (line, why)) × IsTakenTo line why r.0 c
faulty-of (t, None) c line why (inl is) ends = absurd (let other : None ≡ Some (fault.Script line why) = sym is.goes ∙ ends in cc)
faulty-of (t, None) c line why (inr is) ends = absurd (let other : Some fault.BookFull ≡ Some (fault.Script line why) = sym is.ended ∙ ends in cc)
faulty-of (t, Some (l, w)) c line why (inl is) ends =
    let same : Some (fault.Script l w) ≡ Some (fault.Script line why) = sym is.ended ∙ ends in
    let lines : l ≡ line = cc in
    let whys : w ≡ why = cc in
    ((λ i. Some (lines i, whys i)), record { roomy = is.roomy; ended = ends; book = is.book })
faulty-of (t, Some (l, w)) c line why (inr is) ends = absurd (let other : Some fault.BookFull ≡ Some (fault.Script line why) = sym is.ended ∙ ends in cc)

pub ends-faulty : (text : List ℕ) (line : ℕ) (why : LineFault) → (ended (fed (at_line no_line) text)).fault ≡ Some (fault.Script line why) → EndsFaulty text line why (ended (fed (at_line no_line) text))
unfolding written
ends-faulty text line why ends =
    let faulty = faulty-of (steps text) (ended (fed (at_line no_line) text)) line why (fed-as-read text) ends in
    record {
      faulty = faulty.0;
      wrote = sym (ap (written_by (steps text).0) faulty.0 ∙ faulty-written_by (steps text).0 line why _ faulty.1);
      roomy = faulty.1.roomy;
      fair = λ fair. fair-before (steps text).0.boot (steps text).0.items (subst (λ k. IsFairBook k) faulty.1.book fair);
    }

-- at a step for which the book is full
full-at : (n : ℕ) (boot : Option Boot) (ss : List Step) → IsFullAt n boot ss → IsFull boot ss
full-at n None ss full = full
full-at n (Some b) ss full = (n, full)

full-of : (r : Script Step × Option (ℕ × LineFault)) (c : Course) → ComesOfScript r c → c.fault ≡ Some fault.BookFull → IsFull r.0.boot r.0.items
full-of (t, None) c (inl is) ends = absurd (let other : None ≡ Some fault.BookFull = sym is.goes ∙ ends in cc)
full-of (t, None) c (inr is) ends = full-at (length is.before + 1) t.boot t.items is.full
full-of (t, Some (line, why)) c (inl is) ends = absurd (let other : Some (fault.Script line why) ≡ Some fault.BookFull = sym is.ended ∙ ends in cc)
full-of (t, Some (line, why)) c (inr is) ends = full-at (length is.before + 1) t.boot t.items is.full

pub ends-full : (text : List ℕ) → (ended (fed (at_line no_line) text)).fault ≡ Some fault.BookFull → IsFull (steps text).0.boot (steps text).0.items
ends-full text ends = full-of (steps text) (ended (fed (at_line no_line) text)) (fed-as-read text) ends

-- the end of a replay that a fault had ended
pub ended-stopped : (g : FeedState) (e : SimFault) → g.course.fault ≡ Some e → ended g ≡ g.course
unfolding ended
ended-stopped g e is = ap (at_end g) is

-- a faulty line is the same whatever follows
pub faulty-stands : (text more : List ℕ) (line : ℕ) (why : LineFault) → (fed (at_line no_line) text).course.fault ≡ Some (fault.Script line why) → (steps (text ++ more)).1 ≡ Some (line, why)
faulty-stands text more line why ends =
    let same : fed (at_line no_line) (text ++ more) ≡ fed (at_line no_line) text = fed-append (at_line no_line) text more ∙ fed-stopped (fed (at_line no_line) text) (fault.Script line why) more ends in
    let here = ended-stopped (fed (at_line no_line) text) (fault.Script line why) ends in
    (ends-faulty (text ++ more) line why (ap (λ (g : FeedState). (ended g).fault) same ∙ ap (λ (c : Course). c.fault) here ∙ ends)).faulty

-- ---- how a run is left

-- a run took a text, all of it and then the end, or as far as memory was there
pub record IsAfter (text : List ℕ) (c : Course) (h : FeedState) : Type 0 where
  pub begins : IsBeginning (trace_of h.course.stands.book) (written text)
  pub comes : (e : SimFault) → h.course.fault ≡ Some e → (e ≡ fault.OutOfMemory) ⊎ ((c.fault ≡ Some e) × (h.course.stands.book ≡ c.stands.book))

-- after all of a text
after-text : (text : List ℕ) (h : FeedState) → h ≡ fed (at_line no_line) text → IsAfter text (ended (fed (at_line no_line) text)) h
after-text text h is = record {
  begins = subst (λ (g : FeedState). IsBeginning (trace_of g.course.stands.book) (written text)) (sym is) (subst (λ (t : List ℕ). IsBeginning (trace_of (fed (at_line no_line) text).course.stands.book) (written t)) (append-nil text) (reached-begins text []));
  comes = λ e ends.
      let there : (fed (at_line no_line) text).course.fault ≡ Some e = ap (λ (g : FeedState). g.course.fault) (sym is) ∙ ends in
      let same = ended-stopped (fed (at_line no_line) text) e there in
      inr (ap (λ (c : Course). c.fault) same ∙ there, ap (λ (g : FeedState). g.course.stands.book) is ∙ sym (ap (λ (c : Course). c.stands.book) same));
}

-- after its end
after-end : (text : List ℕ) (h : FeedState) → h ≡ at_line (ended (fed (at_line no_line) text)) → IsAfter text (ended (fed (at_line no_line) text)) h
unfolding written
after-end text h is = record {
  begins = subst (λ (g : FeedState). IsBeginning (trace_of g.course.stands.book) (written text)) (sym is) (outcome-begins (steps text) (ended (fed (at_line no_line) text)) (fed-as-read text));
  comes = λ e ends. inr (ap (λ (g : FeedState). g.course.fault) (sym is) ∙ ends, ap (λ (g : FeedState). g.course.stands.book) is);
}

-- where memory was refused
after-refusal : (before after : List ℕ) (h : FeedState) (c : Course) → h ≡ at_line (ended_by fault.OutOfMemory (fed (at_line no_line) before).course) → IsAfter (before ++ after) c h
after-refusal before after h c is = record {
  begins = subst (λ (g : FeedState). IsBeginning (trace_of g.course.stands.book) (written (before ++ after))) (sym is) (reached-begins before after);
  comes = λ e ends. let same : Some fault.OutOfMemory ≡ Some e = ap (λ (g : FeedState). g.course.fault) (sym is) ∙ ends in let it : fault.OutOfMemory ≡ e = cc in inl (sym it);
}

-- a piece more of a text, or its end
pub after-piece : (g : FeedState) (text piece : List ℕ) (h : FeedState) → g ≡ fed (at_line no_line) text → TakesPiece g piece h → IsAfter (text ++ piece) (ended (fed (at_line no_line) (text ++ piece))) h
after-piece g text [] h is (inl takes) =
    subst (λ (t : List ℕ). IsAfter t (ended (fed (at_line no_line) t)) h) (sym (append-nil text)) (after-end text h (takes ∙ ap (λ (g : FeedState). at_line (ended g)) is))
after-piece g text [] h is (inr takes) =
    after-refusal text [] h _ (takes.1 ∙ ap (λ (g : FeedState). at_line (ended_by fault.OutOfMemory g.course)) is)
after-piece g text (b ∷ bs) h is (inl takes) =
    after-text (text ++ b ∷ bs) h (takes ∙ ap (λ (g : FeedState). fed g (b ∷ bs)) is ∙ sym (fed-append (at_line no_line) text (b ∷ bs)))
after-piece g text (b ∷ bs) h is (inr takes) =
    let there : (fed g takes.before) ≡ fed (at_line no_line) (text ++ takes.before) = ap (λ (g : FeedState). fed g takes.before) is ∙ sym (fed-append (at_line no_line) text takes.before) in
    let split : text ++ b ∷ bs ≡ (text ++ takes.before) ++ takes.after = ap (λ (l : List ℕ). text ++ l) takes.split ∙ sym (append_assoc text takes.before takes.after) in
    subst (λ (t : List ℕ). IsAfter t (ended (fed (at_line no_line) (text ++ b ∷ bs))) h) (sym split)
    (after-refusal (text ++ takes.before) takes.after h (ended (fed (at_line no_line) (text ++ b ∷ bs))) (takes.stopped ∙ ap (λ (g : FeedState). at_line (ended_by fault.OutOfMemory g.course)) there))

-- a fault of a text is that of a line, or of a full book
abbrev pub IsOfText : SimFault → Type 0
IsOfText (fault.Script line why) = Unit {0}
IsOfText fault.BookFull = Unit {0}
IsOfText _ = ⊥

of-text : (r : Script Step × Option (ℕ × LineFault)) (c : Course) (e : SimFault) → ComesOfScript r c → c.fault ≡ Some e → IsOfText e
of-text (t, None) c e (inl is) ends = absurd (let other : None ≡ Some e = sym is.goes ∙ ends in cc)
of-text (t, None) c e (inr is) ends = let other : Some fault.BookFull ≡ Some e = sym is.ended ∙ ends in let it : fault.BookFull ≡ e = cc in subst IsOfText it tt
of-text (t, Some (line, why)) c e (inl is) ends = let other : Some (fault.Script line why) ≡ Some e = sym is.ended ∙ ends in let it : fault.Script line why ≡ e = cc in subst IsOfText it tt
of-text (t, Some (line, why)) c e (inr is) ends = let other : Some fault.BookFull ≡ Some e = sym is.ended ∙ ends in let it : fault.BookFull ≡ e = cc in subst IsOfText it tt

-- a longer text begins with it too
begins-more : (a b : Option (List ℕ)) (x y rest : List ℕ) → Moves a b x rest → IsBeginning x y → Begins a b y
begins-more a b x y rest moves is = (rest ++ is.0, record { sent = moves.sent; grown = moves.grown; split = is.1 ∙ ap (λ (l : List ℕ). l ++ is.0) moves.split ∙ append_assoc moves.sent rest is.0 })

-- a line's fault remains: the input has ended, or the fault came before
named : (left : Option (List ℕ)) (g : FeedState) (text piece : List ℕ) (h : FeedState) (line : ℕ) (why : LineFault) → g ≡ fed (at_line no_line) text → (piece ≡ [] → IsAtEnd left) → TakesPiece g piece h → h.course.fault ≡ Some (fault.Script line why) → IsNamed left (text ++ piece) line why
named left g text [] h line why is end takes ends = inl (end refl)
named left g text (b ∷ bs) h line why is end (inl takes) ends =
    let there : (fed (at_line no_line) (text ++ b ∷ bs)).course.fault ≡ Some (fault.Script line why) =
    ap (λ (g : FeedState). g.course.fault) (fed-append (at_line no_line) text (b ∷ bs) ∙ sym (takes ∙ ap (λ (g : FeedState). fed g (b ∷ bs)) is)) ∙ ends in
    inr (λ more. faulty-stands (text ++ b ∷ bs) more line why there)
named left g text (b ∷ bs) h line why is end (inr takes) ends = absurd (let other : Some fault.OutOfMemory ≡ Some (fault.Script line why) = ap (λ (g : FeedState). g.course.fault) (sym takes.stopped) ∙ ends in cc)

-- the run ends by this fault
pub ends-by : (e : SimFault) (left left' out out' : Option (List ℕ)) (g : FeedState) (text piece : List ℕ) (h : FeedState) (rest : List ℕ)
    → g ≡ fed (at_line no_line) text → g.course.fault ≡ None → length piece ≤ 4096 → Consumes left left' (text ++ piece) → (piece ≡ [] → IsAtEnd left') → TakesPiece g piece h
    → Moves out out' (trace_of h.course.stands.book) rest → Appends out out' (trace_of h.course.stands.book) → IsFairBook h.course.stands.book → h.course.fault ≡ Some e → Ends e left left' out out'
ends-by e left left' out out' g text piece h rest is goes few read end takes moves appends fair ends = go e refl (after.comes e ends)
  where
    after : IsAfter (text ++ piece) (ended (fed (at_line no_line) (text ++ piece))) h
    after = after-piece g text piece h is takes

    stops : StopsSoon (text ++ piece)
    stops = record { before = text; piece = piece; split = refl; few = few; goes = ap (λ (g : FeedState). g.course.fault) (sym is) ∙ goes }

    reads : ReadsText left left' (text ++ piece)
    reads = record { read = read; stops = stops }

    begins : Begins out out' (written (text ++ piece))
    begins = begins-more out out' (trace_of h.course.stands.book) (written (text ++ piece)) rest moves after.begins

    go : (f : SimFault) → f ≡ e → (f ≡ fault.OutOfMemory) ⊎ (((ended (fed (at_line no_line) (text ++ piece))).fault ≡ Some f) × (h.course.stands.book ≡ (ended (fed (at_line no_line) (text ++ piece))).stands.book)) → Ends f left left' out out'
    go fault.OutOfMemory same comes = (text ++ piece, reads, begins)
    go (fault.Script line why) same (inl other) = absurd cc
    go (fault.Script line why) same (inr comes) =
        let faulty = ends-faulty (text ++ piece) line why comes.0 in
        let wrote : Appends out out' (written (text ++ piece)) = subst (Appends out out') (ap trace_of comes.1 ∙ faulty.wrote) appends in
        (text ++ piece, reads, named left' g text piece h line why is end takes (ends ∙ ap (λ (e : SimFault). Some e) (sym same)), (wrote, faulty.faulty, faulty.roomy, faulty.fair (subst (λ (k : Option Book). IsFairBook k) comes.1 fair)))
    go fault.BookFull same (inl other) = absurd cc
    go fault.BookFull same (inr comes) = (text ++ piece, reads, (begins, ends-full (text ++ piece) comes.0))
    go fault.Argument same (inl other) = absurd cc
    go fault.Argument same (inr comes) = absurd (of-text (steps (text ++ piece)) _ fault.Argument (fed-as-read (text ++ piece)) comes.0)
    go fault.Read same (inl other) = absurd cc
    go fault.Read same (inr comes) = absurd (of-text (steps (text ++ piece)) _ fault.Read (fed-as-read (text ++ piece)) comes.0)
    go fault.Write same (inl other) = absurd cc
    go fault.Write same (inr comes) = absurd (of-text (steps (text ++ piece)) _ fault.Write (fed-as-read (text ++ piece)) comes.0)
    go fault.Failed same (inl other) = absurd cc
    go fault.NotStarted same (inl other) = absurd cc
    go fault.Failed same (inr comes) = absurd (of-text (steps (text ++ piece)) _ fault.Failed (fed-as-read (text ++ piece)) comes.0)
    go fault.NotStarted same (inr comes) = absurd (of-text (steps (text ++ piece)) _ fault.NotStarted (fed-as-read (text ++ piece)) comes.0)

-- the run ends by a failed write
pub ends-write : (left left' out out' : Option (List ℕ)) (g : FeedState) (text piece : List ℕ) (h : FeedState) (rest : List ℕ)
    → g ≡ fed (at_line no_line) text → g.course.fault ≡ None → length piece ≤ 4096 → Consumes left left' (text ++ piece) → TakesPiece g piece h → Moves out out' (trace_of h.course.stands.book) rest → Ends fault.Write left left' out out'
ends-write left left' out out' g text piece h rest is goes few read takes moves =
    let after = after-piece g text piece h is takes in
    let stops : StopsSoon (text ++ piece) = record { before = text; piece = piece; split = refl; few = few; goes = ap (λ (g : FeedState). g.course.fault) (sym is) ∙ goes } in
    (text ++ piece, record { read = read; stops = stops }, begins-more out out' (trace_of h.course.stands.book) (written (text ++ piece)) rest moves after.begins)

-- a run whose reading failed
pub ends-read : (left left' out out' : Option (List ℕ)) (g : FeedState) (text : List ℕ) (rest : List ℕ)
    → g ≡ fed (at_line no_line) text → g.course.fault ≡ None → Consumes left left' text → Moves out out' (trace_of g.course.stands.book) rest → Appends out out' (trace_of g.course.stands.book) → Ends fault.Read left left' out out'
ends-read left left' out out' g text rest is goes read moves appends =
    let stops : StopsSoon text = record { before = text; piece = []; split = sym (append-nil text); few = omega arith; goes = ap (λ (g : FeedState). g.course.fault) (sym is) ∙ goes } in
    let wrote = subst (λ (g : FeedState). Appends out out' (trace_of g.course.stands.book)) is appends in
    (text, record { read = read; stops = stops }, wrote, begins-more out out' (trace_of g.course.stands.book) (written text) rest moves (after-text text g is).begins)

-- a run to which no memory was given
pub ends-early : (left out : Option (List ℕ)) → Ends fault.OutOfMemory left left out out
unfolding fed
ends-early left out =
    let stops : StopsSoon [] = record { before = []; piece = []; split = refl; few = omega arith; goes = refl } in
    ([], record { read = Consumes-nil left [] refl; stops = stops }, Begins-nil out (written []))

-- a run that ended without fault
pub ends-well : (left left' out out' : Option (List ℕ)) (g : FeedState) (text : List ℕ) (h : FeedState) → g ≡ fed (at_line no_line) text → Consumes left left' text → IsAtEnd left' → TakesEnd g h
    → Appends out out' (trace_of h.course.stands.book) → IsFairBook h.course.stands.book → h.course.fault ≡ None → Finishes left left' out out'
ends-well left left' out out' g text h is read end (inl takes) appends fair goes =
    let there : h ≡ at_line (ended (fed (at_line no_line) text)) = takes ∙ ap (λ (g : FeedState). at_line (ended g)) is in
    let book : h.course.stands.book ≡ (ended (fed (at_line no_line) text)).stands.book = ap (λ (g : FeedState). g.course.stands.book) there in
    let whole = ends-whole text (ap (λ (g : FeedState). g.course.fault) (sym there) ∙ goes) in
    let laws = whole.fair (subst (λ (k : Option Book). IsFairBook k) book fair) in
    record {
      text = text;
      boot = whole.boot;
      taken = (steps text).0.items;
      read = read;
      ended = end;
      faultless = whole.faultless;
      wrote = subst (Appends out out') (ap trace_of book ∙ whole.wrote) appends;
      legal = laws.0;
      fair = laws.1;
    }
ends-well left left' out out' g text h is read end (inr takes) appends fair goes = absurd (let other : Some fault.OutOfMemory ≡ None = ap (λ (g : FeedState). g.course.fault) (sym takes.1) ∙ goes in cc)

-- the fault that a piece ended a run with
pub fault-of-piece : (g : FeedState) (text piece : List ℕ) (h : FeedState) (e : SimFault) → g ≡ fed (at_line no_line) text → TakesPiece g piece h → h.course.fault ≡ Some e → (e ≡ fault.OutOfMemory) ⊎ IsOfText e
fault-of-piece g text piece h e is takes ends = elim ((after-piece g text piece h is takes).comes e ends) [
  | inl it ↦ inl it
  | inr comes ↦ inr (of-text (steps (text ++ piece)) _ e (fed-as-read (text ++ piece)) comes.0)
]
