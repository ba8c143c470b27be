-- The words that a command refuses whose flags but ask for a text, and that takes no word alone.
use Rattle.std.proofs.Common.{refl, subst, ◌≡◌, codes, ℕ, Bool, true, false, List, [], ◌∷◌, length, cond, slice_get}
use Rattle.std.specs.Prelude.{⊤, Option, Some, None, find, is_some, if◌then◌else◌}
use Rattle.std.specs.Option.{option_map_or}
use Rattle.std.specs.Str.{bytes_eq, chars}
use Rattle.std.proofs.lemmas.Slice.Eq.{bytes_eq-Decides}
use Rattle.clap.specs.Lexer.{long_of, short_of}
use Rattle.clap.specs.Kinds.{Kinds, or_else}
use Rattle.clap.specs.Simple.{Shape}
use Rattle.clap.specs.Walk.{Held, Row, Rule, Step, Text, Waiting, after_flag, arg_by_long, arg_by_short, bundle_met}
use Rattle.clap.specs.Walk.{bundle_step, idle, long_or_other}
use Rattle.clap.specs.Walk.{plain, plain_word, short_or_plain, subcommand_or_other, takes_values, trailing, value}
use Rattle.clap.specs.Faults.{bundle_fault, bundle_step_fault, flag_word_fault, flags_fault, long_fault, other_fault}
use Rattle.clap.specs.Faults.{react_fault, short_fault, step_fault, use_fault}
use Rattle.clap.specs.declared.error.kind.ErrorKind.{ErrorKind}
use Rattle.clap.specs.declared.error.kind.ErrorKind.TheVariants as kind

-- a list with an element is not empty
pub not_none : (k : ErrorKind) (ks : Kinds) → k ∷ ks ≡ [] → ⊥
not_none k ks e = cc

-- where no step fails, the first does not, and the others do not
pub or_else-first : (a b : Kinds) → or_else a b ≡ [] → a ≡ []
or_else-first [] b e = refl
or_else-first (k ∷ ks) b e = e

pub or_else-next : (a b : Kinds) → or_else a b ≡ [] → b ≡ []
or_else-next [] b e = e
or_else-next (k ∷ ks) b e = absurd (not_none k ks e)

pub or_else-both : (a b c : Kinds) → or_else (or_else a b) c ≡ [] → (a ≡ []) × (or_else b c ≡ [])
or_else-both [] b c e = (refl, e)
or_else-both (k ∷ ks) b c e = absurd (not_none _ _ e)

-- what is held before the words, but for the rows so far and the option that waits
abbrev pub hold : List Row → Option (Text × List Text) → Held
hold rows pending = record { rows = rows; pending = pending; skip = 0 }

-- a flag that but asks for a text, as for the help: a use of it ends the parse
abbrev pub IsRequest : Rule → Type 0
IsRequest a = (takes_values a ≡ false) × ((again : Bool) (rows : List Row) → use_fault again a [] rows ≡ [] → ⊥)

abbrev pub OnlyRequest : Option Rule → Type 0
OnlyRequest None = ⊤
OnlyRequest (Some a) = IsRequest a

pub first_or_next : (b : Bool) (a : Rule) (o : Option Rule) → IsRequest a → OnlyRequest o → OnlyRequest (cond b (Some a) o)
first_or_next true a o is rest = is
first_or_next false a o is rest = rest

abbrev pub AllRequests : List Rule → Type 0
AllRequests [] = ⊤
AllRequests (a ∷ rest) = IsRequest a × AllRequests rest

find_request : (test : Rule → Bool) (c : List Rule) → AllRequests c → OnlyRequest (find test c)
find_request test [] all = tt
find_request test (a ∷ rest) all = first_or_next (test a) a (find test rest) all.0 (find_request test rest all.1)

long_request : (c : List Rule) → AllRequests c → (name : Text) → OnlyRequest (arg_by_long c name)
long_request c all name = find_request _ c all

short_request : (c : List Rule) → AllRequests c → (x : ℕ) → OnlyRequest (arg_by_short c x)
short_request c all x = find_request _ c all

react_refused : (c : List Rule) (again : Bool) (a : Rule) (h : Held) → IsRequest a → react_fault c again a [] h ≡ [] → ⊥
react_refused c again a h is e = is.1 again _ (or_else-next _ _ e)

flag_refused : (c : List Rule) (again : Bool) (a : Rule) (v : Option Text) (h : Held) → IsRequest a
    → (if is_some v then kind.TooManyValues ∷ [] else react_fault c again a [] h) ≡ [] → ⊥
flag_refused c again a None h is e = react_refused c again a h is e
flag_refused c again a (Some t) h is e = not_none _ _ e

pub long_refused : (c : List Rule) (again : Bool) (o : Option Rule) (v : Option Text) (h : Held) → OnlyRequest o
    → long_fault c again o v h ≡ [] → ⊥
long_refused c again None v h is e = not_none _ _ e
long_refused c again (Some a) v h is e = flag_refused c again a v h is (rw is.0 at e)

pub short_refused : (c : List Rule) (again : Bool) (o : Option Rule) (rest : Text) (h : Held) (next : Held → Kinds) → OnlyRequest o
    → short_fault c again o rest h next ≡ [] → ⊥
short_refused c again None rest h next is e = not_none _ _ e
short_refused c again (Some a) rest h next is e = react_refused c again a h is (or_else-first _ _ (rw is.0 at e))

-- a bundle of flags that is not refused has none
bundle_plain : (c : List Rule) (again : Bool) (waiting : Waiting) (word : Text) (rows : List Row)
    (p : Option (Text × List Text)) (k : ℕ) (flags : Text) (first : Option ℕ)
    → ((x : ℕ) → OnlyRequest (arg_by_short c x))
    → bundle_step_fault c again first flags 0 (hold rows p) (flags_fault c again k) ≡ []
    → after_flag c waiting word (bundle_step c first flags 0 plain (hold rows p) (bundle_met c k)).0
    (bundle_step c first flags 0 plain (hold rows p) (bundle_met c k)).1
    ≡ plain_word c waiting word (hold rows p)
bundle_plain c again waiting word rows p k flags None shorts e = refl
bundle_plain c again waiting word rows p k flags (Some x) shorts e = absurd
    (short_refused c again (arg_by_short c x) _ _ _ (shorts x) e)

pub short_plain : (c : List Rule) (again : Bool) (waiting : Waiting) (word : Text) (rows : List Row)
    (p : Option (Text × List Text)) (f : Option Text)
    → ((x : ℕ) → OnlyRequest (arg_by_short c x))
    → option_map_or (λ flags. bundle_fault c again flags (hold rows p)) f [] ≡ []
    → short_or_plain c waiting word f (hold rows p) ≡ plain_word c waiting word (hold rows p)
unfolding bundle_met flags_fault
short_plain c again waiting word rows p None shorts e = refl
short_plain c again waiting word rows p (Some []) shorts e = refl
short_plain c again waiting word rows p (Some (x ∷ xs)) shorts e = bundle_plain c again waiting word rows p (length xs)
    (x ∷ xs) (slice_get (chars (x ∷ xs)) 0) shorts e

-- a word that names no subcommand is refused, but for `--`
module _ (s : Shape) (rows : List Row) (p : Option (Text × List Text)) (word : Text) (all : AllRequests s.rules)
    (strays : step_fault s 1 (hold rows p) value ≡ [] → ⊥) where
  abbrev met_fault : Held × Step → Kinds
  met_fault met = step_fault s 1 met.0 met.1

  flag_ends : (o : Option (Text × Option Text))
      → or_else (flag_word_fault s.rules s.args_override_self o word (hold rows p))
      (met_fault (long_or_other s.rules idle word o (hold rows p))) ≡ [] → ⊥
  flag_ends (Some q) e = long_refused s.rules s.args_override_self (arg_by_long s.rules q.0) q.1 _
      (long_request s.rules all q.0) (or_else-first _ _ e)
  flag_ends None e =
      let same = short_plain s.rules s.args_override_self idle word rows p (short_of word) (short_request s.rules all)
      (or_else-first _ _ e) in
      strays (subst (λ met. met_fault met ≡ []) same (or_else-next _ _ e))

  pub word_ends : or_else (other_fault s None word (hold rows p)) (met_fault
      (subcommand_or_other s.rules None idle 1 word (hold rows p))) ≡ [] → word ≡ codes "--"
  word_ends e = go (bytes_eq word (codes "--")) refl e
    where
      go : (b : Bool) → bytes_eq word (codes "--") ≡ b
          → or_else (cond b [] (flag_word_fault s.rules s.args_override_self (long_of word) word (hold rows p)))
          (met_fault (cond b (hold rows p, trailing 1) (long_or_other s.rules idle word (long_of word) (hold rows p)))) ≡ []
          → word ≡ codes "--"
      go true is e = (bytes_eq-Decides word (codes "--")).0 is
      go false is e = absurd (flag_ends (long_of word) e)
