-- What a script of users says (own).
use Rattle.std.specs.Prelude.{ℕ, ◌≡◌, map, reverse, List, [], Option}
use Rattle.mcs_book.specs.Boots.{Boot}
use Rattle.mcs_lab_check.specs.Naming.{Naming, text_names}
use Rattle.mcs_explore_programs.specs.declared.program.Label.{Label}
use Rattle.mcs_explore_questions.specs.There.{Scene}
use Rattle.mcs_text.specs.declared.steps.UserEntry.{UserEntry}
use Rattle.mcs_text.specs.Reading.{lines_of}
use Rattle.mcs_turns.specs.Turns.{User}
use Rattle.mcs_explore_script.specs.declared.script.UserScript.{UserScript}
use Rattle.mcs_explore_programs.specs.declared.program.Program.{Program}
use Rattle.mcs_explore_script.specs.Lives.{lives_of}
use Rattle.mcs_explore_script.specs.Programs.{ArePrograms, labels_of, with_programs}
use Rattle.mcs_explore_script.specs.Questions.{questions_from, said_by}
use Rattle.mcs_explore_script.specs.Texts.{IsText}
use Rattle.mcs_explore_script.specs.UserLists.{ruled, with_entries}

-- users of a text: those of its entries, with its programs, which give their entries these names
pub record AreUsers (text : List ℕ) (entries : List UserEntry) (users : List User) (labels : List Label) : Type 0 where
  pub programs : List Program
  pub read : ArePrograms text programs
  pub are : users ≡ with_programs (with_entries [] entries) programs
  pub named : labels ≡ labels_of programs

-- what a question may name: what the boot makes, users with their entries, and names
abbrev pub scene : Boot → List User → List Naming → List Label → Scene
scene boot users names labels = record { boot = reverse boot.lines; users = users; names = names; labels = labels }

-- what a text of users says, with these entries: its users, which have lists or programs, the names
-- of its objects, for each of its lines that ask something what its words ask, and the users that
-- may not get stuck
pub record SaysScript (text : List ℕ) (entries : List UserEntry) (s : UserScript) : Type 0 where
  pub given : List User
  pub labels : List Label
  pub users_are : AreUsers text entries given labels
  pub users : s.users ≡ ruled given s.asked.items
  pub names : s.names ≡ text_names text
  pub asked : map said_by s.asked.items ≡ questions_from (scene s.boot given s.names labels) 1 (lines_of text)
  pub lives : s.lives.items ≡ lives_of s.users s.asked.items

-- all of an input was read, and this is what it says: its boot, its users, the names of its
-- objects, and what it asks
pub record IsScript (left left' : Option (List ℕ)) (s : UserScript) : Type 0 where
  pub text : List ℕ
  pub entries : List UserEntry
  pub is : IsText left left' text s.boot entries
  pub says : SaysScript text entries s
