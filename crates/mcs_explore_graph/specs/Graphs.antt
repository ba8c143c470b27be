-- The graph of all orders, as text (own).
use Rattle.std.specs.Prelude.{◌≡◌, ◌≤◌, ◌-◌, ◌++◌, Bool, true, ℕ, zero, suc, List, [], ◌∷◌, Option, Some, None, Vec, codes, decimal, length, slice_get, take}
use Rattle.std.specs.declared.alloc.Global.{Global}
use Rattle.std.specs.Io.KnownBytes.{Appends}
use Rattle.std.specs.List.{flat_map}
use Rattle.mcs_book.specs.Boots.{Boot}
use Rattle.mcs_book.specs.History.{Book, Line, line_of_number}
use Rattle.mcs_text.specs.Spelling.{name_text}
use Rattle.mcs_text.specs.Table.{step_text}
use Rattle.mcs_turns.specs.Mail.{reached_from}
use Rattle.mcs_turns.specs.Turns.{RunState, User, beginning}
use Rattle.mcs_turns.specs.declared.reached.Reached.{Reached}
use Rattle.mcs_explore_search.specs.declared.search.Edge.{Edge}
use Rattle.mcs_explore_search.specs.Paths.{Path}
use Rattle.mcs_explore_search.specs.Reaching.{AreWithin}
use Rattle.mcs_explore_search.specs.Search.{Entries, path_of}
use Rattle.mcs_explore_walk.specs.declared.walk.Turn.{Turn}
use Rattle.mcs_explore_orders.specs.Seen.{AreFoundRuns, IsGraphOfRuns}
use Rattle.mcs_explore_orders.specs.Trails.{Leads}
use Rattle.mcs_explore_script.specs.declared.script.UserScript.{UserScript}
use Rattle.mcs_explore_script.specs.Scripts.{IsScript}
use Rattle.mcs_explore_report.specs.Modes.{mode_of}
use Rattle.mcs_explore_report.specs.Saying.{said}
use Rattle.mcs_explore_report.specs.declared.modes.Mode.TheVariants.{Proved}
use Rattle.mcs_explore_graph.specs.declared.lines.Form.{Form}
use Rattle.mcs_explore_graph.specs.declared.lines.Form.TheVariants.{Aut, Dot}

-- a text without its last byte
abbrev pub but_last : List ℕ → List ℕ
but_last text = take (length text - 1) text

-- the step of a line, and its answer
abbrev pub answered_text : Line → List ℕ
answered_text l = but_last (step_text l.step) ++ codes " -> " ++ said l.answer

-- what reached a waiting thread
abbrev pub reached_text : Reached → List ℕ
reached_text r = codes "; " ++ name_text r.thread ++ codes " " ++ said r.answer

-- the label of a turn that added a line: its step, its answer, and what it brought to threads that
-- waited
abbrev pub label_text : Line → List ℕ
label_text l = answered_text l ++ flat_map reached_text (reached_from None l.records)

-- the label of the turn that added the newest line of a book
abbrev pub newest_label : Book → List ℕ
newest_label b = elim (line_of_number b (length b.lines)) [ None ↦ [] | Some l ↦ label_text l ]

-- an edge in Aldebaran's form
abbrev pub aut_line : ℕ → List ℕ → ℕ → List ℕ
aut_line from label to = codes "(" ++ decimal from ++ codes ",\"" ++ label ++ codes "\"," ++ decimal to ++ codes ")\n"

-- an edge for Graphviz
abbrev pub dot_line : ℕ → List ℕ → ℕ → List ℕ
dot_line from label to = codes "  " ++ decimal from ++ codes " -> " ++ decimal to ++ codes " [label=\"" ++ label ++ codes "\"];\n"

-- the line of an edge
abbrev pub line_text : Form → ℕ → List ℕ → ℕ → List ℕ
line_text Aut from label to = aut_line from label to
line_text Dot from label to = dot_line from label to

-- the first line in Aldebaran's form: the first state, and how many turns and states there are
abbrev pub aut_head : ℕ → ℕ → List ℕ
aut_head states turns = codes "des (0," ++ decimal turns ++ codes "," ++ decimal states ++ codes ")\n"

-- the first line of a graph
abbrev pub head_text : Form → ℕ → ℕ → List ℕ
head_text Aut states turns = aut_head states turns
head_text Dot states turns = codes "digraph orders {\n"

-- the last line of a graph
abbrev pub end_text : Form → List ℕ
end_text Aut = []
end_text Dot = codes "}\n"

-- the label of an edge is that of its turn, made after the turns to its state
abbrev pub IsLabel : {K : Type 0} → List User → Boot → Entries K Turn → Edge Turn → List ℕ → Type 0
IsLabel users boot E e label = (g : RunState) → Path (Leads users) (beginning users boot) (path_of E e.from ++ e.label ∷ []) g → label ≡ newest_label g.book

-- the line of an edge
abbrev pub IsLine : {K : Type 0} → Form → List User → Boot → Entries K Turn → Edge Turn → List ℕ → Type 0
IsLine form users boot E e text = (label : List ℕ) × (IsLabel users boot E e label × (text ≡ line_text form e.from label e.to))

-- the lines of the first n edges, one after another
abbrev pub AreLines : {K : Type 0} → Form → List User → Boot → Entries K Turn → List (Edge Turn) → ℕ → List ℕ → Type 0
AreLines form users boot E edges zero text = text ≡ []
AreLines form users boot E edges (suc n) text =
    (before : List ℕ) × ((line : List ℕ) × (AreLines form users boot E edges n before × (((e : Edge Turn) → slice_get edges n ≡ Some e → IsLine form users boot E e line) × (text ≡ before ++ line))))

-- the text of a graph: its first line, its edges, and its last line
pub record IsGraphText {K : Type 0} (form : Form) (users : List User) (boot : Boot) (E : Entries K Turn) (edges : List (Edge Turn)) (text : List ℕ) : Type 0 where
  pub lines : List ℕ
  pub are : AreLines form users boot E edges (length edges) lines
  pub whole : text ≡ head_text form (length E) (length edges) ++ lines ++ end_text form

-- a text of this sort was appended to what a writer holds
abbrev pub Wrote : {W : Type 0} → (W → Option (List ℕ)) → W → W → (List ℕ → Type 0) → Type 0
Wrote contents old new Is = (text : List ℕ) × (Is text × Appends (contents old) (contents new) text)

-- a graph of the users of a script: its states are those of runs, and its edges lie between them;
-- if its states are distinguished by proved keys, its edges are the turns of the users from the
-- states that were expanded
pub record IsGraphOf {K : Type 0} (exact : Bool) (s : UserScript) (E : Entries K Turn) (done : ℕ) (edges : List (Edge Turn)) : Type 0 where
  pub runs : AreFoundRuns s.users s.boot E
  pub within : AreWithin edges (length E)
  pub turns : (numbered : Bool) → mode_of s.boot s.users s.asked.items exact ≡ Proved numbered → IsGraphOfRuns numbered s.users s.boot E done edges

-- a script was read, and the text of a graph of its users was written
pub record HasReadGraph (form : Form) (exact whole : Bool) (left left' held held' : Option (List ℕ)) : Type 0 where
  pub script : UserScript
  pub is : IsScript left left' script
  pub found : Entries (Vec ℕ Global) Turn
  pub done : ℕ
  pub edges : List (Edge Turn)
  pub graph : IsGraphOf exact script found done edges
  pub all : whole ≡ true → length found ≤ done
  pub text : List ℕ
  pub said : IsGraphText form script.users script.boot found edges text
  pub written : Appends held held' text
