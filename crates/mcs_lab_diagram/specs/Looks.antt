-- The bars of a picture: in each row, of each thread, what it does and which context it holds.
use Rattle.std.specs.Prelude.{ℕ, zero, suc, List, [], ◌∷◌, ◌++◌}
use Rattle.mcs_types.specs.declared.id.ObjId.{ObjId}
use Rattle.mcs_types.specs.declared.id.Kind.TheVariants.{Thread}
use Rattle.mcs_book.specs.Logs.{Log, counted}
use Rattle.mcs_book.specs.Objects.{makes_kind}
use Rattle.mcs_book.specs.Statuses.{status_of}
use Rattle.mcs_book.specs.Contexts.{context_of}
use Rattle.mcs_book.specs.History.{Line, past}
use Rattle.mcs_lab_diagram.specs.declared.looks.Look.{Look}

-- the thread of a serial
abbrev pub thread_of : ℕ → ObjId
thread_of n = record { kind = Thread; serial = n }

-- how a thread looks: what it does, and the context that it holds, whose colour its bar has
abbrev pub look_of : Log → ObjId → Look
look_of R t = record { status = status_of R t; context = context_of R t }

-- the looks of the threads up to this serial
abbrev pub looks_to : Log → ℕ → List Look
looks_to R zero = []
looks_to R (suc n) = looks_to R n ++ look_of R (thread_of (suc n)) ∷ []

-- a row: the looks of all threads
abbrev pub looks_in : Log → List Look
looks_in R = looks_to R (counted (makes_kind Thread) R)

-- the rows after the boot and after each of these lines, the newest of which is first
abbrev pub looks_of : Log → List Line → List Look
looks_of B [] = looks_in B
looks_of B (l ∷ ls) = looks_of B ls ++ looks_in (past B (l ∷ ls))

-- the rows after all but the last of these lines
abbrev pub looks_before : Log → List Line → List Look
looks_before B [] = []
looks_before B (l ∷ ls) = looks_of B ls
