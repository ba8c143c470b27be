-- A script that is taken line by line gives what is read of it as a whole.
use Rattle.std.proofs.Common.{◌≡◌, ℕ, ◌+◌, ◌<◌, ◌⊎◌, inl, inr, Bool, true, false, cond, ltb, eqb, if◌then◌else◌, Option, Some, None, Result, Ok, Err, List, [], ◌∷◌, ◌++◌, length, fold, refl, sym, ap, subst, ◌∙◌, append_assoc, append-nil, arith}
use Rattle.std.proofs.lemmas.Bool.{lt-ltb, ltb-true}
use Rattle.std.proofs.lemmas.List.{length-append}
use Rattle.std.proofs.lemmas.List.Sums.{fold-append}
use Rattle.mcs_types.specs.declared.entry.Step.{Step}
use Rattle.mcs_book.specs.Boots.{Boot}
use Rattle.mcs_book.specs.Statuses.{may_enter}
use Rattle.mcs_book.specs.History.{Book, log_of, with_step, book_of}
use Rattle.mcs_kernel.specs.Faults.{fault_of, entered}
use Rattle.mcs_kernel.specs.Runs.{is_book_full, full_after}
use Rattle.mcs_text.specs.declared.fault.LineFault.{LineFault}
use Rattle.mcs_text.specs.declared.fault.LineFault.TheVariants as why
use Rattle.mcs_text.specs.declared.key.Key.{Key}
use Rattle.mcs_text.specs.Keys.{boot_key}
use Rattle.mcs_text.specs.Reading.{◌>>=◌, onto_first, lines_of, words_of, step_of}
use Rattle.mcs_phases.specs.declared.fault.SimFault.{SimFault}
use Rattle.mcs_phases.specs.declared.fault.SimFault.TheVariants as fault
use Rattle.mcs_phases.specs.Script.{Script, of_steps, no_script, threads_of, says_something, first_boot, next_boot, next_items, later_line, by_boot, spelled, read_line, ending, script_from, script_of, steps}
use Rattle.mcs_phases.proofs.Opening.{IsFirstStep, IsOpening, read_line-opening}
use Rattle.mcs_sim.specs.Runs.{IsFullAt, IsRoomy}
use Rattle.mcs_phases.specs.Feeds.{BootOrBook, Course, FeedState, no_line, begun_by, stepped, behind_boot, step_spelled, step_line, read_at, stands, opened, after_boot_line, after_step, book_after, after_line, ended_by, refused_for, past_line, with_line, after_end, boot_ended_after, boot_ended, at_line, with_part, fed, with_last, at_end, ended}
use Rattle.mcs_sim.specs.Outcomes.{boot_or_book_of, IsTakenToFull, ComesOfScript}
use Rattle.mcs_sim.proofs.ScriptLaws.{script_from-ok, script_from-err}
use Rattle.mcs_sim.proofs.FeedLaws.{fed-stopped, fits-part, many-says, long-says}

-- ---- a line after the boot

-- a script after its boot with a step more, if the line said one
abbrev with_said : Boot → List Step → Result (Option Step) LineFault → Result (Script Step) LineFault
with_said b ss (Ok None) = Ok (record { boot = Some b; items = ss })
with_said b ss (Ok (Some y)) = Ok (record { boot = Some b; items = ss ++ y ∷ [] })
with_said b ss (Err e) = Err e

read_line-after : (b : Boot) (x : Step) (xs : List Step) (n : ℕ) (l : List ℕ)
    → read_line of_steps (record { boot = Some b; items = x ∷ xs }) n l ≡ with_said b (x ∷ xs) (step_line b.cores (threads_of b) n l)
unfolding read_line spelled by_boot later_line next_items step_line
read_line-after b x xs n l = go (says_something n l) (words_of l)
  where
    item : (r : Result Step LineFault) → (r >>= (λ y. Ok ((x ∷ xs) ++ y ∷ [])) >>= (λ more. Ok (record { boot = Some b; items = more }))) ≡ with_said b (x ∷ xs) (behind_boot None r)
    item (Ok y) = refl
    item (Err e) = refl

    key : (k : Option Key) (ws : List (List ℕ)) → later_line step_of b (x ∷ xs) l k ws ≡ with_said b (x ∷ xs) (behind_boot k (step_of b.cores (threads_of b) l))
    key (Some k) ws = refl
    key None ws = item (step_of b.cores (threads_of b) l)

    go : (r : Result Bool LineFault) (ws : List (List ℕ)) → (r >>= λ says. if says then spelled of_steps (record { boot = Some b; items = x ∷ xs }) l ws else Ok (record { boot = Some b; items = x ∷ xs }))
        ≡ with_said b (x ∷ xs) (r >>= λ says. if says then step_spelled b.cores (threads_of b) l ws else Ok None)
    go (Err e) ws = refl
    go (Ok false) ws = refl
    go (Ok true) [] = refl
    go (Ok true) (w ∷ ws) = key (boot_key w) ws

-- ---- books of steps

-- a book after a step, where it may enter or not
abbrev entered_if : Book → Step → Bool → Book
entered_if k s v = elim v [ true ↦ entered k s | false ↦ k ]

with_step-boot : (k : Book) (s : Step) → (with_step k s).boot ≡ k.boot
with_step-boot k s = go (may_enter (log_of k) s.core s.thread)
  where
    go : (v : Bool) → (entered_if k s v).boot ≡ k.boot
    go true = refl
    go false = refl

steps-boot : (ss : List Step) (k : Book) → (fold with_step k ss).boot ≡ k.boot
steps-boot [] k = refl
steps-boot (s ∷ ss) k = steps-boot ss (with_step k s) ∙ with_step-boot k s

book_of-boot : (b : Boot) (ss : List Step) → (book_of b ss).boot ≡ b
unfolding book_of
book_of-boot b ss = steps-boot ss (begun_by b)

pub book_of-end : (b : Boot) (ss : List Step) (s : Step) → book_of b (ss ++ s ∷ []) ≡ with_step (book_of b ss) s
unfolding book_of
book_of-end b ss s = fold-append with_step (begun_by b) ss (s ∷ [])

-- whether the book is full for a step
abbrev is_full_for : Book → Step → Bool
is_full_for k s = is_book_full (fault_of k s.core s.thread)

roomy-end : (ss : List Step) (n : ℕ) (k : Book) (s : Step) → full_after n k ss ≡ None → is_full_for (fold with_step k ss) s ≡ false → full_after n k (ss ++ s ∷ []) ≡ None
roomy-end [] n k s roomy room = rw room refl
roomy-end (x ∷ xs) n k s roomy room = go (is_full_for k x) (roomy-end xs (n + 1) (with_step k x) s) roomy
  where
    go : (v : Bool) → (full_after (n + 1) (with_step k x) xs ≡ None → is_full_for (fold with_step (with_step k x) xs) s ≡ false → full_after (n + 1) (with_step k x) (xs ++ s ∷ []) ≡ None)
        → cond v (Some (n + 1)) (full_after (n + 1) (with_step k x) xs) ≡ None → cond v (Some (n + 1)) (full_after (n + 1) (with_step k x) (xs ++ s ∷ [])) ≡ None
    go true next none = absurd cc
    go false next none = next none room

full-end : (ss : List Step) (n : ℕ) (k : Book) (s : Step) → full_after n k ss ≡ None → is_full_for (fold with_step k ss) s ≡ true → full_after n k (ss ++ s ∷ []) ≡ Some (n + (length ss + 1))
full-end [] n k s roomy full = rw full refl
full-end (x ∷ xs) n k s roomy full = go (is_full_for k x) (full-end xs (n + 1) (with_step k x) s) roomy
  where
    count : n + 1 + (length xs + 1) ≡ n + (length (x ∷ xs) + 1)
    count = omega arith

    go : (v : Bool) → (full_after (n + 1) (with_step k x) xs ≡ None → is_full_for (fold with_step (with_step k x) xs) s ≡ true → full_after (n + 1) (with_step k x) (xs ++ s ∷ []) ≡ Some (n + 1 + (length xs + 1)))
        → cond v (Some (n + 1)) (full_after (n + 1) (with_step k x) xs) ≡ None → cond v (Some (n + 1)) (full_after (n + 1) (with_step k x) (xs ++ s ∷ [])) ≡ Some (n + (length (x ∷ xs) + 1))
    go true next none = absurd cc
    go false next none = next none full ∙ ap (λ (m : ℕ). Some m) count

full-grows : (ss ts : List Step) (n : ℕ) (k : Book) (m : ℕ) → full_after n k ss ≡ Some m → full_after n k (ss ++ ts) ≡ Some m
full-grows [] ts n k m full = absurd cc
full-grows (x ∷ xs) ts n k m full = go (is_full_for k x) (full-grows xs ts (n + 1) (with_step k x) m) full
  where
    go : (v : Bool) → (full_after (n + 1) (with_step k x) xs ≡ Some m → full_after (n + 1) (with_step k x) (xs ++ ts) ≡ Some m)
        → cond v (Some (n + 1)) (full_after (n + 1) (with_step k x) xs) ≡ Some m → cond v (Some (n + 1)) (full_after (n + 1) (with_step k x) (xs ++ ts)) ≡ Some m
    go true next full = full
    go false next full = next full

-- ---- a line of a script

-- steps are read after a boot
abbrev IsKnown : Option Boot → List Step → Type 0
IsKnown None (s ∷ ss) = ⊥
IsKnown _ _ = Unit {0}

-- a script is read on
pub record GoesOn (t : Script Step) (r : Result BootOrBook SimFault) : Type 0 where
  pub known : IsKnown t.boot t.items
  pub roomy : IsRoomy t.boot t.items
  pub standing : r ≡ Ok (boot_or_book_of t.boot t.items)

-- the book is full for the step that a line added to a script
pub record IsFullNow (s t : Script Step) (r : Result BootOrBook SimFault) : Type 0 where
  pub by : Boot
  pub last : Step
  pub before : s.boot ≡ Some by
  pub script : t ≡ record { boot = Some by; items = s.items ++ last ∷ [] }
  pub full : IsFullAt (length s.items + 1) (Some by) (s.items ++ last ∷ [])
  pub ended : r ≡ Err fault.BookFull

abbrev AfterRead : ℕ → Script Step → Result BootOrBook SimFault → Result (Script Step) LineFault → Type 0
AfterRead n s r (Ok t) = GoesOn t r ⊎ IsFullNow s t r
AfterRead n s r (Err e) = r ≡ Err (fault.Script n e)

-- after a step after the boot
after-step : (n : ℕ) (b : Boot) (ss : List Step) (y : Step) (boot : Option Boot) → boot ≡ None → IsRoomy (Some b) ss
    → AfterRead n (record { boot = Some b; items = ss }) (stands boot (stepped (book_of b ss) y)) (Ok (record { boot = Some b; items = ss ++ y ∷ [] }))
unfolding stepped book_of
after-step n b ss y boot none roomy = go (is_full_for (book_of b ss) y) refl
  where
    known : (ss : List Step) → IsKnown (Some b) (ss ++ y ∷ [])
    known [] = tt
    known (s ∷ ss) = tt

    there : (ss : List Step) → boot_or_book_of (Some b) (ss ++ y ∷ []) ≡ record { boot = None; book = Some (book_of b (ss ++ y ∷ [])) }
    there [] = refl
    there (s ∷ ss) = refl

    go : (v : Bool) → is_full_for (book_of b ss) y ≡ v → AfterRead n (record { boot = Some b; items = ss }) (stands boot (if v then Err fault.BookFull else Ok (with_step (book_of b ss) y))) (Ok (record { boot = Some b; items = ss ++ y ∷ [] }))
    go true e =
        let count : 0 + (length ss + 1) ≡ length ss + 1 = omega arith in
        inr (record { by = b; last = y; before = refl; script = refl; full = full-end ss 0 (begun_by b) y roomy e ∙ ap (λ (n : ℕ). Some n) count; ended = refl })
    go false e =
        let same : Ok (record { boot = None; book = Some (book_of b (ss ++ y ∷ [])) }) ≡ Ok (boot_or_book_of (Some b) (ss ++ y ∷ [])) = ap (λ (s : BootOrBook). Ok s) (sym (there ss)) in
        let all : Ok (record { boot = boot; book = Some (with_step (book_of b ss) y) }) ≡ Ok (boot_or_book_of (Some b) (ss ++ y ∷ [])) =
        (λ i. Ok (record { boot = none i; book = Some (sym (book_of-end b ss y) i) })) ∙ same in
        inl (record { known = known ss; roomy = roomy-end ss 0 (begun_by b) y roomy e; standing = all })

-- a line while the boot continues
after-opening : (n : ℕ) (boot : Option Boot) (q : Result (Script Step) LineFault) → IsOpening boot q → AfterRead n (record { boot = boot; items = [] }) (after_boot_line (read_at n q)) q
unfolding book_of
after-opening n boot (Err e) is = refl
after-opening n boot (Ok t) is = elim is [ inl none ↦ still none | inr first ↦ begun first ]
  where
    still : t.items ≡ [] → AfterRead n (record { boot = boot; items = [] }) (opened t.boot t.items) (Ok t)
    still none = inl (record {
      known = subst (λ (ss : List Step). IsKnown t.boot ss) (sym none) (known t.boot);
      roomy = subst (λ (ss : List Step). IsRoomy t.boot ss) (sym none) (roomy t.boot);
      standing = ap (opened t.boot) none ∙ sym (ap (λ (ss : List Step). Ok (boot_or_book_of t.boot ss)) none);
    })
      where
        known : (b : Option Boot) → IsKnown b []
        known None = tt
        known (Some b) = tt

        roomy : (b : Option Boot) → IsRoomy b []
        roomy None = tt
        roomy (Some b) = refl

    begun : IsFirstStep boot t → AfterRead n (record { boot = boot; items = [] }) (opened t.boot t.items) (Ok t)
    begun f = subst (λ (u : Script Step). AfterRead n (record { boot = boot; items = [] }) (opened u.boot u.items) (Ok u)) (sym f.script)
        (subst (λ (o : Option Boot). AfterRead n (record { boot = o; items = [] }) (opened (Some f.by) (f.first ∷ [])) (Ok (record { boot = Some f.by; items = f.first ∷ [] }))) (sym f.said)
        (after-step n f.by [] f.first None refl refl))

-- a line after the boot
after-following : (n : ℕ) (b : Boot) (x : Step) (xs : List Step) → IsRoomy (Some b) (x ∷ xs) → (r : Result (Option Step) LineFault)
    → AfterRead n (record { boot = Some b; items = x ∷ xs }) (stands None (after_step (book_of b (x ∷ xs)) (read_at n r))) (with_said b (x ∷ xs) r)
after-following n b x xs roomy (Err e) = refl
after-following n b x xs roomy (Ok None) = inl (record { known = tt; roomy = roomy; standing = refl })
after-following n b x xs roomy (Ok (Some y)) = after-step n b (x ∷ xs) y None refl roomy

pub after-read : (n : ℕ) (s : Script Step) (l : List ℕ) → IsKnown s.boot s.items → IsRoomy s.boot s.items → AfterRead n s (after_line (boot_or_book_of s.boot s.items) n l) (read_line of_steps s n l)
unfolding after_line book_after
after-read n s l known roomy = go s.boot s.items known roomy
  where
    go : (boot : Option Boot) (ss : List Step) → IsKnown boot ss → IsRoomy boot ss → AfterRead n (record { boot = boot; items = ss }) (after_line (boot_or_book_of boot ss) n l) (read_line of_steps (record { boot = boot; items = ss }) n l)
    go boot [] known roomy = after-opening n boot (read_line of_steps (record { boot = boot; items = [] }) n l) (read_line-opening boot n l)
    go None (x ∷ xs) known roomy = absurd known
    go (Some b) (x ∷ xs) known roomy =
        let same : (book_of b (x ∷ xs)).boot ≡ b = book_of-boot b (x ∷ xs) in
        subst (λ (q : Result (Script Step) LineFault). AfterRead n (record { boot = Some b; items = x ∷ xs }) (stands None (after_step (book_of b (x ∷ xs)) (read_at n (step_line (book_of b (x ∷ xs)).boot.cores (threads_of (book_of b (x ∷ xs)).boot) n l)))) q)
        (sym (read_line-after b x xs n l))
        (subst (λ (a : Boot). AfterRead n (record { boot = Some b; items = x ∷ xs }) (stands None (after_step (book_of b (x ∷ xs)) (read_at n (step_line a.cores (threads_of a) n l)))) (with_said b (x ∷ xs) (step_line b.cores (threads_of b) n l)))
        (sym same) (after-following n b x xs roomy (step_line b.cores (threads_of b) n l)))

-- ---- lines

-- a script after its boot that has grown by steps
Grown : Boot → List Step → Script Step → Type 0
Grown b ss t = (t.boot ≡ Some b) × ((more : List Step) × (t.items ≡ ss ++ more))

grown-end : (b : Boot) (ss : List Step) (y : Step) (t : Script Step) → Grown b (ss ++ y ∷ []) t → Grown b ss t
unfolding Grown
grown-end b ss y t g = (g.0, (y ∷ g.1.0, g.1.1 ∙ append_assoc ss (y ∷ []) g.1.0))

grown : (ls : List (List ℕ)) (b : Boot) (x : Step) (xs : List Step) (n : ℕ) → Grown b (x ∷ xs) (script_from of_steps (record { boot = Some b; items = x ∷ xs }) n ls).0
unfolding Grown script_from
grown [] b x xs n = (refl, ([], sym (append-nil (x ∷ xs))))
grown (l ∷ ls) b x xs n = subst (λ (q : Result (Script Step) LineFault). Grown b (x ∷ xs) (after q).0) (sym (read_line-after b x xs n l)) (go (step_line b.cores (threads_of b) n l) (λ ys. grown ls b x ys (n + 1)))
  where
    after : Result (Script Step) LineFault → Script Step × Option (ℕ × LineFault)
    after q = elim q [ Ok t ↦ script_from of_steps t (n + 1) ls | Err e ↦ (record { boot = Some b; items = x ∷ xs }, Some (n, e)) ]

    go : (r : Result (Option Step) LineFault) → ((ys : List Step) → Grown b (x ∷ ys) (script_from of_steps (record { boot = Some b; items = x ∷ ys }) (n + 1) ls).0) → Grown b (x ∷ xs) (after (with_said b (x ∷ xs) r)).0
    go (Err e) next = (refl, ([], sym (append-nil (x ∷ xs))))
    go (Ok None) next = next xs
    go (Ok (Some y)) next = grown-end b (x ∷ xs) y _ (next (xs ++ y ∷ []))

-- where the book was full for a step of a script, whatever follows
comes-full : (r : Script Step × Option (ℕ × LineFault)) (c : Course) → IsTakenToFull r.0 c → ComesOfScript r c
comes-full (t, None) c full = inr full
comes-full (t, Some (n, e)) c full = inr full

full-stands : (ls : List (List ℕ)) (s t : Script Step) (n : ℕ) (c : Course) (r : Result BootOrBook SimFault) → IsFullNow s t r → c.fault ≡ Some fault.BookFull → c.stands.book ≡ (boot_or_book_of s.boot s.items).book
    → ComesOfScript (script_from of_steps t n ls) c
unfolding Grown
full-stands ls s t n c r full ended book =
    subst (λ (u : Script Step). ComesOfScript (script_from of_steps u n ls) c) (sym full.script) (go s.items refl)
  where
    from : Script Step × Option (ℕ × LineFault)
    from = script_from of_steps (record { boot = Some full.by; items = s.items ++ full.last ∷ [] }) n ls

    taken : Grown full.by (s.items ++ full.last ∷ []) from.0 → IsTakenToFull from.0 c
    taken g = record {
      before = s.items;
      step = full.last;
      after = g.1.0;
      split = g.1.1 ∙ append_assoc s.items (full.last ∷ []) g.1.0;
      full = subst (λ (o : Option Boot). IsFullAt (length s.items + 1) o from.0.items) (sym g.0)
          (subst (λ (ss : List Step). IsFullAt (length s.items + 1) (Some full.by) ss) (sym g.1.1) (full-grows (s.items ++ full.last ∷ []) g.1.0 0 (begun_by full.by) (length s.items + 1) full.full));
      ended = ended;
      book = book ∙ ap (λ (o : Option Boot). (boot_or_book_of o s.items).book) (full.before ∙ sym g.0);
    }

    go : (ss : List Step) → s.items ≡ ss → ComesOfScript from c
    go [] is = comes-full from c (taken (subst (λ (ss : List Step). Grown full.by (ss ++ full.last ∷ []) (script_from of_steps (record { boot = Some full.by; items = ss ++ full.last ∷ [] }) n ls).0) (sym is) (grown ls full.by full.last [] n)))
    go (x ∷ xs) is = comes-full from c (taken (subst (λ (ss : List Step). Grown full.by (ss ++ full.last ∷ []) (script_from of_steps (record { boot = Some full.by; items = ss ++ full.last ∷ [] }) n ls).0) (sym is) (grown ls full.by x (xs ++ full.last ∷ []) n)))

-- between two lines of a script
abbrev live : Script Step → ℕ → Course
live s m = record { stands = boot_or_book_of s.boot s.items; lines = m; fault = None }

-- what follows leaves a replay that a fault ended
abbrev LeavesEnded : (Course → Course) → Type 0
LeavesEnded follow = (c : Course) (e : SimFault) → c.fault ≡ Some e → follow c ≡ c

-- a line, and what follows
line-follows : (follow : Course → Course) → LeavesEnded follow → (s : Script Step) (m : ℕ) (l : List ℕ) (ls : List (List ℕ)) → IsKnown s.boot s.items → IsRoomy s.boot s.items
    → ((t : Script Step) → IsKnown t.boot t.items → IsRoomy t.boot t.items → ComesOfScript (script_from of_steps t (m + 1 + 1) ls) (follow (live t (m + 1))))
    → ComesOfScript (script_from of_steps s (m + 1) (l ∷ ls)) (follow (with_line (live s m) l))
unfolding with_line
line-follows follow leaves s m l ls known roomy next = go (read_line of_steps s (m + 1) l) refl (after-read (m + 1) s l known roomy)
  where
    r : Result BootOrBook SimFault
    r = after_line (boot_or_book_of s.boot s.items) (m + 1) l

    goes : (t : Script Step) → GoesOn t r → ComesOfScript (script_from of_steps t (m + 1 + 1) ls) (follow (past_line (live s m) r))
    goes t g = subst (λ (x : Result BootOrBook SimFault). ComesOfScript (script_from of_steps t (m + 1 + 1) ls) (follow (past_line (live s m) x))) (sym g.standing) (next t g.known g.roomy)

    stops : (t : Script Step) → IsFullNow s t r → ComesOfScript (script_from of_steps t (m + 1 + 1) ls) (follow (past_line (live s m) r))
    stops t full =
        let ended : follow (past_line (live s m) r) ≡ ended_by fault.BookFull (live s m) = ap (λ (x : Result BootOrBook SimFault). follow (past_line (live s m) x)) full.ended ∙ leaves (ended_by fault.BookFull (live s m)) fault.BookFull refl in
        subst (ComesOfScript (script_from of_steps t (m + 1 + 1) ls)) (sym ended) (full-stands ls s t (m + 1 + 1) (ended_by fault.BookFull (live s m)) r full refl refl)

    go : (q : Result (Script Step) LineFault) → read_line of_steps s (m + 1) l ≡ q → AfterRead (m + 1) s r q → ComesOfScript (script_from of_steps s (m + 1) (l ∷ ls)) (follow (past_line (live s m) r))
    go (Err e) is after =
        let ended : follow (past_line (live s m) r) ≡ refused_for e (live s m) = ap (λ (x : Result BootOrBook SimFault). follow (past_line (live s m) x)) after ∙ leaves (refused_for e (live s m)) _ refl in
        subst (ComesOfScript (script_from of_steps s (m + 1) (l ∷ ls))) (sym ended)
        (subst (λ (x : Script Step × Option (ℕ × LineFault)). ComesOfScript x (refused_for e (live s m))) (sym (script_from-err of_steps s (m + 1) l ls e is)) (inl (record { roomy = roomy; ended = refl; book = refl })))
    go (Ok t) is after =
        subst (λ (x : Script Step × Option (ℕ × LineFault)). ComesOfScript x (follow (past_line (live s m) r))) (sym (script_from-ok of_steps s t (m + 1) l ls is))
        (elim after [ inl g ↦ goes t g | inr full ↦ stops t full ])

-- no line, and the end
end-follows : (t : Script Step) (m : ℕ) → IsKnown t.boot t.items → IsRoomy t.boot t.items → ComesOfScript (script_from of_steps t (m + 1) []) (boot_ended (live t m))
unfolding boot_ended after_end script_from book_of
end-follows t m known roomy = go t.boot t.items known roomy
  where
    go : (boot : Option Boot) (ss : List Step) → IsKnown boot ss → IsRoomy boot ss → ComesOfScript (ending (record { boot = boot; items = ss }) (m + 1) boot) (boot_ended (live (record { boot = boot; items = ss }) m))
    go None [] known roomy = inl (record { roomy = roomy; ended = refl; book = refl })
    go None (x ∷ xs) known roomy = absurd known
    go (Some b) [] known roomy = inl (record { boot = b; said = refl; roomy = roomy; goes = refl; book = refl })
    go (Some b) (x ∷ xs) known roomy = inl (record { boot = b; said = refl; roomy = roomy; goes = refl; book = refl })

-- ---- bytes

-- no byte is a newline
Plain : List ℕ → Type 0
Plain [] = Unit {0}
Plain (b ∷ bs) = (eqb b 10 ≡ false) × Plain bs

plain-end : (p : List ℕ) (b : ℕ) → Plain p → eqb b 10 ≡ false → Plain (p ++ b ∷ [])
unfolding Plain
plain-end [] b plain other = (other, tt)
plain-end (q ∷ qs) b plain other = (plain.0, plain-end qs b plain.1 other)

lines-other : (b : ℕ) (bs : List ℕ) → eqb b 10 ≡ false → lines_of (b ∷ bs) ≡ onto_first b (lines_of bs)
lines-other b bs other = ap (λ (t : Bool). if t then [] ∷ lines_of bs else onto_first b (lines_of bs)) other

-- a line that ends
lines-ended : (p : List ℕ) (b : ℕ) (bs : List ℕ) → Plain p → eqb b 10 ≡ true → lines_of (p ++ b ∷ bs) ≡ p ∷ lines_of bs
unfolding Plain
lines-ended [] b bs plain is = ap (λ (t : Bool). if t then [] ∷ lines_of bs else onto_first b (lines_of bs)) is
lines-ended (q ∷ qs) b bs plain is = lines-other q (qs ++ b ∷ bs) plain.0 ∙ ap (onto_first q) (lines-ended qs b bs plain.1 is)

-- a line that goes on
record Begins (p : List ℕ) (lines : List (List ℕ)) : Type 0 where
  pub rest : List ℕ
  pub later : List (List ℕ)
  pub is : lines ≡ (p ++ rest) ∷ later

begins-onto : (b : ℕ) (ls : List (List ℕ)) → Begins (b ∷ []) (onto_first b ls)
begins-onto b [] = record { rest = []; later = []; is = refl }
begins-onto b (l ∷ ls) = record { rest = l; later = ls; is = refl }

lines-begun : (p : List ℕ) (b : ℕ) (bs : List ℕ) → Plain p → eqb b 10 ≡ false → Begins (p ++ b ∷ []) (lines_of (p ++ b ∷ bs))
unfolding Plain
lines-begun [] b bs plain other = subst (Begins (b ∷ [])) (sym (lines-other b bs other)) (begins-onto b (lines_of bs))
lines-begun (q ∷ qs) b bs plain other =
    let later = lines-begun qs b bs plain.1 other in
    record { rest = later.rest; later = later.later; is = lines-other q (qs ++ b ∷ bs) plain.0 ∙ ap (onto_first q) later.is }

-- a last line
lines-last : (p : List ℕ) (b : ℕ) → Plain p → eqb b 10 ≡ false → lines_of (p ++ b ∷ []) ≡ (p ++ b ∷ []) ∷ []
unfolding Plain
lines-last [] b plain other = lines-other b [] other
lines-last (q ∷ qs) b plain other = lines-other q (qs ++ b ∷ []) plain.0 ∙ ap (onto_first q) (lines-last qs b plain.1 other)

-- a line that may not be there
refused-follows : (s : Script Step) (m : ℕ) (p : List ℕ) (lines : List (List ℕ)) (e : LineFault) → IsRoomy s.boot s.items → Begins p lines
    → ((rest : List ℕ) → says_something (m + 1) (p ++ rest) ≡ Err e) → ComesOfScript (script_from of_steps s (m + 1) lines) (refused_for e (live s m))
unfolding read_line
refused-follows s m p lines e roomy begins refused =
    let read : read_line of_steps s (m + 1) (p ++ begins.rest) ≡ Err e = rw (refused begins.rest) refl in
    subst (λ (ls : List (List ℕ)). ComesOfScript (script_from of_steps s (m + 1) ls) (refused_for e (live s m))) (sym begins.is)
    (subst (λ (x : Script Step × Option (ℕ × LineFault)). ComesOfScript x (refused_for e (live s m))) (sym (script_from-err of_steps s (m + 1) (p ++ begins.rest) begins.later e read))
    (inl (record { roomy = roomy; ended = refl; book = refl })))

-- within a line of a script
abbrev within : Script Step → ℕ → List ℕ → FeedState
within s m p = record { course = live s m; line = p }

-- what the bytes that follow come to
Follows : List ℕ → Type 0
Follows bs = (s : Script Step) (m : ℕ) (p : List ℕ) → IsKnown s.boot s.items → IsRoomy s.boot s.items → Plain p → ComesOfScript (script_from of_steps s (m + 1) (lines_of (p ++ bs))) (ended (fed (within s m p) bs))

leaves-boot_ended : LeavesEnded boot_ended
unfolding boot_ended
leaves-boot_ended c e is = ap (boot_ended_after c) is

leaves-fed : (bs : List ℕ) → LeavesEnded (λ c. ended (fed (at_line c) bs))
unfolding ended
leaves-fed bs c e is = ap ended (fed-stopped (at_line c) e bs is) ∙ ap (λ (o : Option SimFault). at_end (at_line c) o) is

-- the end of the text
follows-end : (s : Script Step) (m : ℕ) (p : List ℕ) → IsKnown s.boot s.items → IsRoomy s.boot s.items → Plain p → ComesOfScript (script_from of_steps s (m + 1) (lines_of p)) (boot_ended (with_last (live s m) p))
unfolding Plain
follows-end s m [] known roomy plain = end-follows s m known roomy
follows-end s m (b ∷ bs) known roomy plain =
    subst (λ (ls : List (List ℕ)). ComesOfScript (script_from of_steps s (m + 1) ls) (boot_ended (with_line (live s m) (b ∷ bs)))) (sym (lines-whole b bs plain))
    (line-follows boot_ended leaves-boot_ended s m (b ∷ bs) [] known roomy (λ t. end-follows t (m + 1)))
  where
    lines-whole : (b : ℕ) (bs : List ℕ) → Plain (b ∷ bs) → lines_of (b ∷ bs) ≡ (b ∷ bs) ∷ []
    lines-whole b [] plain = lines-other b [] plain.0
    lines-whole b (c ∷ cs) plain = lines-other b (c ∷ cs) plain.0 ∙ ap (onto_first b) (lines-whole c cs plain.1)

-- a byte more of the text
follows-next : (b : ℕ) (bs : List ℕ) → Follows bs → Follows (b ∷ bs)
unfolding Follows Plain fed
follows-next b bs later s m p known roomy plain = go (eqb b 10) refl
  where
    part : eqb b 10 ≡ false → ComesOfScript (script_from of_steps s (m + 1) (lines_of (p ++ b ∷ bs))) (ended (fed (with_part (within s m p) b) bs))
    part other = many (ltb 2000000 (m + 1)) refl
      where
        begun : Begins (p ++ b ∷ []) (lines_of (p ++ b ∷ bs))
        begun = lines-begun p b bs plain other

        stopped : (e : LineFault) → with_part (within s m p) b ≡ at_line (refused_for e (live s m)) → ((rest : List ℕ) → says_something (m + 1) ((p ++ b ∷ []) ++ rest) ≡ Err e)
            → ComesOfScript (script_from of_steps s (m + 1) (lines_of (p ++ b ∷ bs))) (ended (fed (with_part (within s m p) b) bs))
        stopped e stops refused =
            subst (ComesOfScript (script_from of_steps s (m + 1) (lines_of (p ++ b ∷ bs)))) (sym (ap (λ (h : FeedState). ended (fed h bs)) stops ∙ leaves-fed bs (refused_for e (live s m)) _ refl))
            (refused-follows s m (p ++ b ∷ []) (lines_of (p ++ b ∷ bs)) e roomy begun refused)

        long : ltb 2000000 (m + 1) ≡ false → (t : Bool) → ltb 4096 (length p + 1) ≡ t → ComesOfScript (script_from of_steps s (m + 1) (lines_of (p ++ b ∷ bs))) (ended (fed (with_part (within s m p) b) bs))
        long few true e =
            let over : 4096 < length p + 1 = ltb-true _ _ e in
            stopped why.LongLine (rw (few, e) refl) (λ rest. long-says (m + 1) ((p ++ b ∷ []) ++ rest) few (lt-ltb _ _ (omega (arith, over, length-append (p ++ b ∷ []) rest, length-append p (b ∷ [])))))
        long few false e =
            subst (λ (h : FeedState). ComesOfScript (script_from of_steps s (m + 1) (lines_of (p ++ b ∷ bs))) (ended (fed h bs))) (sym (fits-part (within s m p) b few e))
            (subst (λ (text : List ℕ). ComesOfScript (script_from of_steps s (m + 1) (lines_of text)) (ended (fed (within s m (p ++ b ∷ [])) bs))) (append_assoc p (b ∷ []) bs)
            (later s m (p ++ b ∷ []) known roomy (plain-end p b plain other)))

        many : (t : Bool) → ltb 2000000 (m + 1) ≡ t → ComesOfScript (script_from of_steps s (m + 1) (lines_of (p ++ b ∷ bs))) (ended (fed (with_part (within s m p) b) bs))
        many true e = stopped why.ManyLines (rw e refl) (λ rest. many-says (m + 1) ((p ++ b ∷ []) ++ rest) e)
        many false e = long e (ltb 4096 (length p + 1)) refl

    go : (t : Bool) → eqb b 10 ≡ t → ComesOfScript (script_from of_steps s (m + 1) (lines_of (p ++ b ∷ bs))) (ended (fed (within s m p) (b ∷ bs)))
    go true e =
        let next : fed (within s m p) (b ∷ bs) ≡ fed (at_line (with_line (live s m) p)) bs = ap (λ (t : Bool). fed (if t then at_line (with_line (live s m) p) else with_part (within s m p) b) bs) e in
        subst (λ (h : FeedState). ComesOfScript (script_from of_steps s (m + 1) (lines_of (p ++ b ∷ bs))) (ended h)) (sym next)
        (subst (λ (ls : List (List ℕ)). ComesOfScript (script_from of_steps s (m + 1) ls) (ended (fed (at_line (with_line (live s m) p)) bs))) (sym (lines-ended p b bs plain e))
        (line-follows (λ c. ended (fed (at_line c) bs)) (leaves-fed bs) s m p (lines_of bs) known roomy (λ t known roomy. later t (m + 1) [] known roomy tt)))
    go false e =
        let next : fed (within s m p) (b ∷ bs) ≡ fed (with_part (within s m p) b) bs = ap (λ (t : Bool). fed (if t then at_line (with_line (live s m) p) else with_part (within s m p) b) bs) e in
        subst (λ (h : FeedState). ComesOfScript (script_from of_steps s (m + 1) (lines_of (p ++ b ∷ bs))) (ended h)) (sym next) (part e)

follows : (bs : List ℕ) → Follows bs
unfolding Follows fed ended
follows [] s m p known roomy plain =
    subst (λ (text : List ℕ). ComesOfScript (script_from of_steps s (m + 1) (lines_of text)) (boot_ended (with_last (live s m) p))) (sym (append-nil p)) (follows-end s m p known roomy plain)
follows (b ∷ bs) s m p known roomy plain = follows-next b bs (follows bs) s m p known roomy plain

-- the law: a text that is taken byte by byte gives what is read of it as a whole
pub fed-as-read : (text : List ℕ) → ComesOfScript (steps text) (ended (fed (at_line no_line) text))
unfolding script_of Follows Plain
fed-as-read text = follows text no_script 0 [] tt tt tt
