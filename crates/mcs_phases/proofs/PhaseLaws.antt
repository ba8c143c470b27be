-- What is after a line, by the book before.
use Rattle.std.proofs.Common.{◌≡◌, ℕ, ◌⊎◌, inl, inr, Option, Some, None, Result, Ok, Err, List, [], ◌++◌, ◌-◌, length, take, refl, sym, ap, subst, ◌∙◌}
use Rattle.std.specs.Prelude.{option_to_list}
use Rattle.mcs_types.specs.declared.entry.Step.{Step}
use Rattle.mcs_book.specs.Boots.{Boot}
use Rattle.mcs_book.specs.History.{Book}
use Rattle.mcs_phases.specs.Script.{Script, of_steps, read_line}
use Rattle.mcs_phases.specs.declared.fault.SimFault.{SimFault}
use Rattle.mcs_phases.specs.declared.fault.SimFault.TheVariants as fault
use Rattle.mcs_phases.specs.Feeds.{ComesOf, stands, read_at, after_boot_line, book_after, after_line}
use Rattle.mcs_phases.specs.Phases.{opened_to}
use Rattle.mcs_phases.proofs.Opening.{IsOpening, IsFirstStep, read_line-opening}

-- a fault is passed on
pub comes-err : {X Y V W : Type 0} (view : X → Y) (other : V → W) (e : SimFault) (out : Result Y SimFault) (f : Result Y SimFault → Result W SimFault) → ((e : SimFault) → f (Err e) ≡ Err e) → ComesOf view (Err e) out → ComesOf other (Err e) (f out)
comes-err view other fault.OutOfMemory out f is comes = tt
comes-err view other fault.Argument out f is comes = ap f comes ∙ is fault.Argument
comes-err view other (fault.Script line why) out f is comes = ap f comes ∙ is (fault.Script line why)
comes-err view other fault.Read out f is comes = ap f comes ∙ is fault.Read
comes-err view other fault.Write out f is comes = ap f comes ∙ is fault.Write
comes-err view other fault.BookFull out f is comes = ap f comes ∙ is fault.BookFull
comes-err view other fault.Failed out f is comes = ap f comes ∙ is fault.Failed
comes-err view other fault.NotStarted out f is comes = ap f comes ∙ is fault.NotStarted

-- what is where a book is
pub comes-stands : {X : Type 0} (boot : Option Boot) (r : Result X SimFault) (k : Book) (out : Result Book SimFault) → ComesOf (λ u. k) r out → ComesOf (λ u. record { boot = boot; book = Some k }) r (stands boot out)
comes-stands {X = X} boot (Ok u) k out comes = ap (stands boot) comes
comes-stands {X = X} boot (Err e) k out comes = comes-err {X = X} {V = X} (λ u. k) (λ u. record { boot = boot; book = Some k }) e out (stands boot) (λ e. refl) comes

-- a fault is refused memory, or what comes of it
pub comes-fault : {X Y : Type 0} (view : X → Y) (e : SimFault) (out : Result Y SimFault) → ComesOf view (Err e) out → (out ≡ Err e) ⊎ (e ≡ fault.OutOfMemory)
comes-fault view fault.OutOfMemory out comes = inr refl
comes-fault view fault.Argument out comes = inl comes
comes-fault view (fault.Script line why) out comes = inl comes
comes-fault view fault.Read out comes = inl comes
comes-fault view fault.Write out comes = inl comes
comes-fault view fault.BookFull out comes = inl comes
comes-fault view fault.Failed out comes = inl comes
comes-fault view fault.NotStarted out comes = inl comes

-- while the boot continues
pub after-open : (t : Script Step) (n : ℕ) (l : List ℕ) → t.items ≡ [] → after_line (opened_to t.boot None) n l ≡ after_boot_line (read_at n (read_line of_steps t n l))
unfolding after_line
after-open t n l none = ap (λ (ss : List Step). after_boot_line (read_at n (read_line of_steps (record { boot = t.boot; items = ss }) n l))) (sym none)

-- after the boot
pub after-run : (k : Book) (n : ℕ) (l : List ℕ) → after_line (opened_to None (Some k)) n l ≡ stands None (book_after k n l)
unfolding after_line
after-run k n l = refl

-- a line adds at most one step to a boot, and the last of those leaves none
pub opened-one : (t u : Script Step) (n : ℕ) (l : List ℕ) → t.items ≡ [] → read_line of_steps t n l ≡ Ok u → take (length u.items - 1) u.items ≡ []
opened-one t u n l none read = few (subst (IsOpening t.boot) (same ∙ read) (read_line-opening t.boot n l))
  where
    same : read_line of_steps (record { boot = t.boot; items = [] }) n l ≡ read_line of_steps t n l
    same = ap (λ (ss : List Step). read_line of_steps (record { boot = t.boot; items = ss }) n l) (sym none)

    few : (u.items ≡ []) ⊎ IsFirstStep t.boot u → take (length u.items - 1) u.items ≡ []
    few (inl is) = ap (λ (ss : List Step). take (length ss - 1) ss) is
    few (inr is) = ap (λ (s : Script Step). take (length s.items - 1) s.items) is.script

-- so it is all that was added
pub opened-all : (u : Script Step) (left : List Step) (step : Option Step) → left ≡ [] → u.items ≡ left ++ option_to_list step → record { boot = u.boot; items = option_to_list step } ≡ u
opened-all u left step none split = λ i. record { boot = u.boot; items = (ap (λ (ss : List Step). ss ++ option_to_list step) (sym none) ∙ sym split) i }
