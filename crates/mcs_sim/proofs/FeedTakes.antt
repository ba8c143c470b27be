-- What the calls of a replay take, one after the other.
use Rattle.std.proofs.Common.{◌≡◌, ℕ, zero, suc, ◌+◌, ◌<◌, ◌≤◌, slice_index, take, drop, inl, inr, true, false, ltb, eqb, Option, Some, None, Ok, Err, List, [], ◌∷◌, ◌++◌, length, refl, sym, ap, subst, ◌∙◌, append_assoc, append-nil, arith}
use Rattle.std.proofs.lemmas.Bool.{lt-ltb, le-ltb, ne_eqb, eqb-true}
use Rattle.mcs_text.specs.declared.fault.LineFault.TheVariants as why
use Rattle.mcs_phases.specs.declared.fault.SimFault.{SimFault}
use Rattle.mcs_phases.specs.declared.fault.SimFault.TheVariants as fault
use Rattle.mcs_sim.specs.Trace.{IsLonger}
use Rattle.mcs_phases.specs.Feeds.{BootOrBook, Course, FeedState, ComesOf, ended_by, refused_for, after_line, past_line, with_line, after_end, past_boot, boot_ended_after, boot_ended, at_line, fed, with_last, at_end, ended, answer_of, HasNoNewline, feed_state_of, Takes, TakesLine, TakesEnd, TakesPiece, EndsBoot}
use Rattle.mcs_book.specs.History.{Book}
use Rattle.mcs_sim.proofs.FeedBooks.{longer-refl, with_line-longer, fed-longer, ended-longer}
use Rattle.mcs_phases.proofs.PhaseLaws.{comes-fault}
use Rattle.mcs_sim.proofs.FeedLaws.{fed-append, fed-stopped, fed-line, with_kept, fed-kept}

-- a replay that a fault ended takes nothing
pub takes-stopped : (g : FeedState) (e : SimFault) (bs : List ℕ) → g.course.fault ≡ Some e → Takes g bs g
takes-stopped g e bs is = inl (sym (fed-stopped g e bs is))

-- bytes, and then others
pub takes-append : (g h k : FeedState) (xs ys : List ℕ) → Takes g xs h → Takes h ys k → Takes g (xs ++ ys) k
takes-append g h k xs ys (inl one) (inl other) = inl (other ∙ ap (λ (g : FeedState). fed g ys) one ∙ sym (fed-append g xs ys))
takes-append g h k xs ys (inl one) (inr other) =
    let here : fed h other.before ≡ fed g (xs ++ other.before) = ap (λ (g : FeedState). fed g other.before) one ∙ sym (fed-append g xs other.before) in
    inr (record {
      before = xs ++ other.before;
      after = other.after;
      split = ap (λ (l : List ℕ). xs ++ l) other.split ∙ sym (append_assoc xs other.before other.after);
      goes = ap (λ (g : FeedState). g.course.fault) (sym here) ∙ other.goes;
      stopped = other.stopped ∙ ap (λ (g : FeedState). at_line (ended_by fault.OutOfMemory g.course)) here;
    })
takes-append g h k xs ys (inr one) other =
    let stops : h.course.fault ≡ Some fault.OutOfMemory = ap (λ (g : FeedState). g.course.fault) one.stopped in
    inr (record {
      before = one.before;
      after = one.after ++ ys;
      split = ap (λ (l : List ℕ). l ++ ys) one.split ∙ append_assoc one.before one.after ys;
      goes = one.goes;
      stopped = still stops other ∙ one.stopped;
    })
  where
    still : h.course.fault ≡ Some fault.OutOfMemory → Takes h ys k → k ≡ h
    still stops (inl is) = is ∙ fed-stopped h fault.OutOfMemory ys stops
    still stops (inr is) = absurd (let other : Some fault.OutOfMemory ≡ None = sym stops ∙ ap (λ (g : FeedState). g.course.fault) (sym (fed-stopped h fault.OutOfMemory is.before stops)) ∙ is.goes in cc)

-- the same of a text that is cut there
pub takes-split : (g h k : FeedState) (text xs ys : List ℕ) → text ≡ xs ++ ys → Takes g xs h → Takes h ys k → Takes g text k
takes-split g h k text xs ys split one other = subst (λ (t : List ℕ). Takes g t k) (sym split) (takes-append g h k xs ys one other)

-- a line and its newline
pub takes-line : (g : FeedState) (part : List ℕ) (c : Course) → g.course.fault ≡ None → HasNoNewline part → TakesLine g.course (g.line ++ part) c → Takes g (part ++ 10 ∷ []) (at_line c)
unfolding fed
takes-line g part c goes plain (inl is) = inl (ap at_line is ∙ sym (fed-line g part goes plain))
takes-line g part c goes plain (inr is) = inr (record { before = []; after = part ++ 10 ∷ []; split = refl; goes = goes; stopped = ap at_line is })

-- a replay that continues, by its fields
pub record IsGoing (fault : Option SimFault) (s : BootOrBook) (lines : ℕ) (line : List ℕ) (g : FeedState) : Type 0 where
  pub goes : fault ≡ None
  pub stands : s ≡ g.course.stands
  pub count : lines ≡ g.course.lines
  pub kept : line ≡ g.line

pub is-going : (f : Option SimFault) (s : BootOrBook) (n : ℕ) (line : List ℕ) (g : FeedState) → feed_state_of f s n line ≡ g → g.course.fault ≡ None → IsGoing f s n line g
is-going None s n line g is goes = record {
  goes = refl;
  stands = ap (λ (g : FeedState). g.course.stands) is;
  count = ap (λ (g : FeedState). g.course.lines) is;
  kept = ap (λ (g : FeedState). g.line) is;
}
is-going (Some e) s n line g is goes = absurd (let other : Some e ≡ None = ap (λ (g : FeedState). g.course.fault) is ∙ goes in cc)

-- with a part more of its line
pub going-kept : (f : Option SimFault) (s : BootOrBook) (n : ℕ) (line more part : List ℕ) (g : FeedState) → feed_state_of f s n line ≡ g → g.course.fault ≡ None → more ≡ line ++ part
    → feed_state_of f s n more ≡ record g { line = g.line ++ part }
going-kept None s n line more part g is goes same =
    subst (λ (g : FeedState). record { course = record { stands = s; lines = n; fault = None }; line = more } ≡ record g { line = g.line ++ part }) is
    (ap (λ (l : List ℕ). record { course = record { stands = s; lines = n; fault = None }; line = l }) same)
going-kept (Some e) s n line more part g is goes same = absurd (let other : Some e ≡ None = ap (λ (g : FeedState). g.course.fault) is ∙ goes in cc)

-- of no line is a part kept
pub at_line-is : (h : FeedState) → h.line ≡ [] → h ≡ at_line h.course
at_line-is h none = λ i. record { course = h.course; line = none i }

-- a line was taken
pub line-passed : (f : Option SimFault) (s s' : BootOrBook) (n : ℕ) (line text : List ℕ) (g : FeedState) → feed_state_of f s n line ≡ g → g.course.fault ≡ None → after_line s (n + 1) text ≡ Ok s'
    → TakesLine g.course text (record { stands = s'; lines = n + 1; fault = None })
unfolding with_line
line-passed None s s' n line text g is goes after =
    subst (λ (g : FeedState). TakesLine g.course text (record { stands = s'; lines = n + 1; fault = None })) is
    (inl (sym (ap (past_line (record { stands = s; lines = n; fault = None })) after)))
line-passed (Some e) s s' n line text g is goes after = absurd (let other : Some e ≡ None = ap (λ (g : FeedState). g.course.fault) is ∙ goes in cc)

-- a line was refused
pub line-failed : {X : Type 0} (view : X → BootOrBook) (f : Option SimFault) (s : BootOrBook) (n : ℕ) (line text : List ℕ) (g : FeedState) (e : SimFault) (c : Course) → feed_state_of f s n line ≡ g → g.course.fault ≡ None
    → ComesOf view (Err e) (after_line s (n + 1) text) → c ≡ ended_by e g.course → TakesLine g.course text c
unfolding with_line
line-failed view None s n line text g e c is goes comes ended = elim (comes-fault view e (after_line s (n + 1) text) comes) [
  | inl after ↦ inl (ended ∙ sym (subst (λ (g : FeedState). past_line g.course (after_line g.course.stands (g.course.lines + 1) text) ≡ ended_by e g.course) is (ap (past_line (record { stands = s; lines = n; fault = None })) after)))
  | inr memory ↦ inr (ended ∙ ap (λ (e : SimFault). ended_by e g.course) memory)
]
line-failed view (Some e') s n line text g e c is goes comes ended = absurd (let other : Some e' ≡ None = ap (λ (g : FeedState). g.course.fault) is ∙ goes in cc)

-- the boot was ended
pub boot-passed : (f : Option SimFault) (s s' : BootOrBook) (n : ℕ) (line : List ℕ) (g : FeedState) → feed_state_of f s n line ≡ g → g.course.fault ≡ None → after_end s (n + 1) ≡ Ok s'
    → EndsBoot g.course (record { stands = s'; lines = n; fault = None })
unfolding boot_ended
boot-passed None s s' n line g is goes after =
    subst (λ (g : FeedState). EndsBoot g.course (record { stands = s'; lines = n; fault = None })) is
    (inl (sym (ap (past_boot (record { stands = s; lines = n; fault = None })) after)))
boot-passed (Some e) s s' n line g is goes after = absurd (let other : Some e ≡ None = ap (λ (g : FeedState). g.course.fault) is ∙ goes in cc)

-- it could not be
pub boot-failed : {X : Type 0} (view : X → BootOrBook) (f : Option SimFault) (s : BootOrBook) (n : ℕ) (line : List ℕ) (g : FeedState) (e : SimFault) (c : Course) → feed_state_of f s n line ≡ g → g.course.fault ≡ None
    → ComesOf view (Err e) (after_end s (n + 1)) → (e ≡ fault.OutOfMemory → s.book ≡ None) → c ≡ ended_by e g.course → EndsBoot g.course c
unfolding boot_ended
boot-failed view None s n line g e c is goes comes none ended = elim (comes-fault view e (after_end s (n + 1)) comes) [
  | inl after ↦ inl (ended ∙ sym (subst (λ (g : FeedState). boot_ended g.course ≡ ended_by e g.course) is (ap (past_boot (record { stands = s; lines = n; fault = None })) after)))
  | inr memory ↦ inr (ap (λ (g : FeedState). g.course.stands.book) (sym is) ∙ none memory, ended ∙ ap (λ (e : SimFault). ended_by e g.course) memory)
]
boot-failed view (Some e') s n line g e c is goes comes none ended = absurd (let other : Some e' ≡ None = ap (λ (g : FeedState). g.course.fault) is ∙ goes in cc)

-- the end, where a fault had ended the replay
pub end-stopped : (f : Option SimFault) (s : BootOrBook) (n : ℕ) (line : List ℕ) (g : FeedState) (e : SimFault) → feed_state_of f s n line ≡ g → f ≡ Some e → TakesEnd g g
unfolding ended
end-stopped None s n line g e is ends = absurd cc
end-stopped (Some f) s n line g e is ends = subst (λ (g : FeedState). TakesEnd g g) is (inl refl)

-- ---- a part of a line

-- no byte
pub takes-none : (g : FeedState) (part : List ℕ) → eqb (length part) 0 ≡ true → Takes g part g
unfolding fed
takes-none g [] none = inl refl
takes-none g (b ∷ bs) none = absurd (let other : eqb (length (b ∷ bs)) 0 ≡ false = ne_eqb _ _ (λ e. omega arith) in cc)

-- what a part of at least a byte leaves
takes-kept : (g : FeedState) (part : List ℕ) (h : FeedState) → g.course.fault ≡ None → HasNoNewline part → eqb (length part) 0 ≡ false → h ≡ with_kept g part → Takes g part h
takes-kept g [] h goes plain some is = absurd cc
takes-kept g (b ∷ bs) h goes plain some is = inl (is ∙ sym (fed-kept bs g b goes plain))

-- it begins a line too many
pub keep-many : (g h : FeedState) (part : List ℕ) → g.course.fault ≡ None → HasNoNewline part → eqb (length part) 0 ≡ false → 2000000 ≤ g.course.lines
    → h ≡ at_line (refused_for why.ManyLines g.course) → Takes g part h
keep-many g h part goes plain some full is =
    let over : ltb 2000000 (g.course.lines + 1) ≡ true = lt-ltb _ _ (omega (arith, full)) in
    takes-kept g part h goes plain some (is ∙ (rw over refl))

-- it makes the line too long
pub keep-long : (g h : FeedState) (part : List ℕ) → g.course.fault ≡ None → HasNoNewline part → eqb (length part) 0 ≡ false → g.course.lines < 2000000
    → 4096 < length g.line + length part → h ≡ at_line (refused_for why.LongLine g.course) → Takes g part h
keep-long g h part goes plain some room over is =
    let few : ltb 2000000 (g.course.lines + 1) ≡ false = le-ltb _ _ (omega (arith, room)) in
    let long : ltb 4096 (length g.line + length part) ≡ true = lt-ltb _ _ over in
    takes-kept g part h goes plain some (is ∙ (rw (few, long) refl))

-- it is kept
pub keep-fits : (g h : FeedState) (part : List ℕ) → g.course.fault ≡ None → HasNoNewline part → eqb (length part) 0 ≡ false → g.course.lines < 2000000
    → length g.line + length part ≤ 4096 → h ≡ record g { line = g.line ++ part } → Takes g part h
keep-fits g h part goes plain some room fits is =
    let few : ltb 2000000 (g.course.lines + 1) ≡ false = le-ltb _ _ (omega (arith, room)) in
    let short : ltb 4096 (length g.line + length part) ≡ false = le-ltb _ _ fits in
    takes-kept g part h goes plain some (is ∙ (rw (few, short) refl))

-- memory is refused for it
pub keep-memory : (g h : FeedState) (part : List ℕ) → g.course.fault ≡ None → h ≡ at_line (ended_by fault.OutOfMemory g.course) → Takes g part h
unfolding fed
keep-memory g h part goes is = inr (record { before = []; after = part; split = refl; goes = goes; stopped = is })

-- ---- answers

pub answer-err : (o : Option SimFault) (e : SimFault) → Err e ≡ answer_of o → o ≡ Some e
answer-err None e is = absurd cc
answer-err (Some f) e is = let same : e ≡ f = cc in ap (λ (e : SimFault). Some e) (sym same)

pub answer-ok : (o : Option SimFault) (u : Unit {0}) → Ok u ≡ answer_of o → o ≡ None
answer-ok None u is = refl
answer-ok (Some f) u is = absurd cc

-- ---- whole lines

pub empty-is : (xs : List ℕ) → eqb (length xs) 0 ≡ true → xs ≡ []
empty-is [] is = refl
empty-is (x ∷ xs) is = absurd (let other : eqb (length (x ∷ xs)) 0 ≡ false = ne_eqb _ _ (λ e. omega arith) in cc)

-- a line that begins and ends in one piece
pub line-whole : (g h : FeedState) (part : List ℕ) → g.course.fault ≡ None → HasNoNewline part → g.line ≡ [] → TakesLine g.course part h.course → h.line ≡ [] → Takes g (part ++ 10 ∷ []) h
line-whole g h part goes plain none takes out =
    subst (Takes g (part ++ 10 ∷ [])) (sym (at_line-is h out))
    (takes-line g part h.course goes plain (subst (λ (l : List ℕ). TakesLine g.course (l ++ part) h.course) (sym none) takes))

-- no byte is no newline
no-newline : HasNoNewline []
no-newline = λ k lt is. omega (arith, lt)

-- a line that was kept, and its newline
pub line-kept : (g h : FeedState) → g.course.fault ≡ None → TakesLine g.course g.line h.course → h.line ≡ [] → Takes g (10 ∷ []) h
line-kept g h goes takes out =
    subst (Takes g (10 ∷ [])) (sym (at_line-is h out))
    (takes-line g [] h.course goes no-newline (subst (λ (l : List ℕ). TakesLine g.course l h.course) (sym (append-nil g.line)) takes))

-- a line of a piece, its newline, and what follows
pub line-cut : (rest : List ℕ) (i : ℕ) → i < length rest → eqb (slice_index rest i) 10 ≡ true → rest ≡ (take i rest ++ 10 ∷ []) ++ drop (i + 1) rest
line-cut [] i lt here = absurd (omega (arith, lt))
line-cut (b ∷ bs) zero lt here = ap (λ (x : ℕ). x ∷ bs) (eqb-true b 10 here)
line-cut (b ∷ bs) (suc i) lt here =
    let next : suc i + 1 ≡ suc (i + 1) = omega arith in
    ap (λ (xs : List ℕ). b ∷ xs) (line-cut bs i (omega (arith, lt)) here) ∙ ap (λ (n : ℕ). b ∷ ((take i bs ++ 10 ∷ []) ++ drop n (b ∷ bs))) (sym next)

-- ---- the end

-- the last line lacks its newline, and a fault ended the replay at it
pub end-line : (c : Course) (line : List ℕ) (h : FeedState) (e : SimFault) → c.fault ≡ None → eqb (length line) 0 ≡ false → TakesLine c line h.course → h.line ≡ [] → h.course.fault ≡ Some e
    → TakesEnd (record { course = c; line = line }) h
unfolding ended boot_ended
end-line c [] h e goes some takes none ends = absurd cc
end-line c (b ∷ bs) h e goes some (inl is) none ends =
    let stays : boot_ended (with_line c (b ∷ bs)) ≡ with_line c (b ∷ bs) = ap (boot_ended_after (with_line c (b ∷ bs))) (ap (λ (c : Course). c.fault) (sym is) ∙ ends) in
    inl (at_line-is h none ∙ ap at_line (is ∙ sym stays ∙ sym (ap (at_end (record { course = c; line = b ∷ bs })) goes)))
end-line c (b ∷ bs) h e goes some (inr is) none ends = inr (goes, at_line-is h none ∙ ap at_line is)

-- no line is left, and the boot is ended
pub end-boot : (c : Course) (line : List ℕ) (h : FeedState) → c.fault ≡ None → line ≡ [] → EndsBoot c h.course → h.line ≡ [] → TakesEnd (record { course = c; line = line }) h
unfolding ended
end-boot c line h goes none (inl is) out =
    let here : at_end (record { course = c; line = line }) None ≡ boot_ended c = ap (λ (l : List ℕ). boot_ended (with_last c l)) none in
    inl (at_line-is h out ∙ ap at_line (is ∙ sym here ∙ sym (ap (at_end (record { course = c; line = line })) goes)))
end-boot c line h goes none (inr is) out = inr (goes, at_line-is h out ∙ ap at_line is.1)

-- a last line, and then the end of the boot
pub end-both : (c m : Course) (line : List ℕ) (h : FeedState) → c.fault ≡ None → eqb (length line) 0 ≡ false → TakesLine c line m → m.fault ≡ None → EndsBoot m h.course → h.line ≡ []
    → TakesEnd (record { course = c; line = line }) h
unfolding ended
end-both c m [] h goes some takes on ends none = absurd cc
end-both c m (b ∷ bs) h goes some (inl is) on (inl end) none =
    inl (at_line-is h none ∙ ap at_line (end ∙ ap boot_ended is ∙ sym (ap (at_end (record { course = c; line = b ∷ bs })) goes)))
end-both c m (b ∷ bs) h goes some (inl is) on (inr end) none =
    let longer : IsLonger c.stands.book None = subst (IsLonger c.stands.book) (ap (λ (c : Course). c.stands.book) (sym is) ∙ end.0) (with_line-longer c (b ∷ bs)) in
    inr (goes, at_line-is h none ∙ ap at_line (end.1 ∙ ap (λ (k : Option Book). record { stands = record { boot = None; book = k }; lines = 0; fault = Some fault.OutOfMemory }) (end.0 ∙ sym (none-before c.stands.book longer))))
  where
    none-before : (k : Option Book) → IsLonger k None → k ≡ None
    none-before None longer = refl
    none-before (Some b) longer = absurd longer
end-both c m (b ∷ bs) h goes some (inr is) on ends none = absurd (let other : Some fault.OutOfMemory ≡ None = ap (λ (c : Course). c.fault) (sym is) ∙ on in cc)

-- ---- books

-- a piece leaves a longer book
pub piece-longer : (g : FeedState) (piece : List ℕ) (h : FeedState) → TakesPiece g piece h → IsLonger g.course.stands.book h.course.stands.book
piece-longer g [] h (inl is) = subst (IsLonger g.course.stands.book) (sym (ap (λ (g : FeedState). g.course.stands.book) is)) (ended-longer g)
piece-longer g [] h (inr is) = subst (IsLonger g.course.stands.book) (sym (ap (λ (g : FeedState). g.course.stands.book) is.1)) (longer-refl g.course.stands.book)
piece-longer g (b ∷ bs) h (inl is) = subst (IsLonger g.course.stands.book) (sym (ap (λ (g : FeedState). g.course.stands.book) is)) (fed-longer (b ∷ bs) g)
piece-longer g (b ∷ bs) h (inr is) = subst (IsLonger g.course.stands.book) (sym (ap (λ (g : FeedState). g.course.stands.book) is.stopped)) (fed-longer is.before g)

-- so do bytes
pub takes-longer : (g : FeedState) (bytes : List ℕ) (h : FeedState) → Takes g bytes h → IsLonger g.course.stands.book h.course.stands.book
takes-longer g bytes h (inl is) = subst (IsLonger g.course.stands.book) (sym (ap (λ (g : FeedState). g.course.stands.book) is)) (fed-longer bytes g)
takes-longer g bytes h (inr is) = subst (IsLonger g.course.stands.book) (sym (ap (λ (g : FeedState). g.course.stands.book) is.stopped)) (fed-longer is.before g)

-- bytes are a piece
pub piece-takes : (g : FeedState) (piece : List ℕ) (h : FeedState) → eqb (length piece) 0 ≡ false → Takes g piece h → TakesPiece g piece h
piece-takes g [] h some takes = absurd cc
piece-takes g (b ∷ bs) h some takes = takes
