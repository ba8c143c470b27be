-- The programs of a script (own): the lines `#! THREAD: STATEMENT`, and users with them.
use Rattle.std.specs.Prelude.{ℕ, ◌≡◌, ◌++◌, ◌-◌, ◌==◌, ◌&&◌, Bool, false, cond, length, slice_get, List, [], ◌∷◌, Option, Some, None}
use Rattle.std.specs.List.{All, list_any}
use Rattle.mcs_types.specs.declared.id.ObjId.{ObjId}
use Rattle.mcs_text.specs.Reading.{lines_of, words_of}
use Rattle.mcs_turns.specs.Turns.{User}
use Rattle.mcs_users.specs.Users.{with_entry, with_program}
use Rattle.mcs_explore_programs.specs.declared.code.ProgramEntry.{ProgramEntry}
use Rattle.mcs_explore_programs.specs.declared.program.Label.{Label}
use Rattle.mcs_explore_programs.specs.declared.program.Program.{Program}
use Rattle.mcs_explore_programs.specs.Programs.{IsProgram}

-- the text after `#! ` of a line that begins so
abbrev pub mark_text : List ℕ → Option (List ℕ)
mark_text (a ∷ b ∷ c ∷ text) = cond (a == 35 && b == 33 && c == 32) (Some text) None
mark_text _ = None

-- whether a word ends with a colon
abbrev pub ends_with_colon : List ℕ → Bool
ends_with_colon word = elim (slice_get word (length word - 1)) [ None ↦ false | Some b ↦ b == 58 ]

-- whether the first of these words does
abbrev pub begins_program : List (List ℕ) → Bool
begins_program [] = false
begins_program (word ∷ words) = ends_with_colon word

-- whether a line is one of a program: `#! `, and a word that ends with a colon
abbrev pub is_program_line : List ℕ → Bool
is_program_line line = elim (mark_text line) [ None ↦ false | Some text ↦ begins_program (words_of text) ]

-- users with these entries more, at the end of the list of a thread
abbrev pub with_program_entries : List User → ObjId → List ProgramEntry → List User
with_program_entries us t [] = us
with_program_entries us t (e ∷ es) = with_program_entries (with_entry us t e.entry) t es

-- users with a program more: its thread has its entries, and continues by its lines
abbrev pub with_one_program : List User → Program → List User
with_one_program us p = with_program (with_program_entries us p.thread p.entries.items) p.thread p.ops.items p.fills.items

-- users with these programs more
abbrev pub with_programs : List User → List Program → List User
with_programs us [] = us
with_programs us (p ∷ ps) = with_programs (with_one_program us p) ps

-- the names of the entries and blocks of programs
abbrev pub labels_of : List Program → List Label
labels_of [] = []
labels_of (p ∷ ps) = p.labels.items ++ labels_of ps

-- what was read of the programs of a text: none where it has no line of one, and of each that its
-- lines name entries and lines that are there
pub record ArePrograms (text : List ℕ) (programs : List Program) : Type 0 where
  pub none : list_any is_program_line (lines_of text) ≡ false → programs ≡ []
  pub each : All IsProgram programs
