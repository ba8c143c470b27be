-- What one word of a command does, where it is not refused.
use Rattle.std.proofs.Common.{refl, sym, subst, ap, ◌≡◌, ◌∙◌, ◌||◌, ◌&&◌, ◌==◌, inl, inr, true≢false, codes, ℕ, Bool, true, false, List, [], ◌∷◌, ◌++◌, cond}
use Rattle.std.proofs.Common.{length, slice_get}
use Rattle.std.specs.Prelude.{Option, Some, None}
use Rattle.std.specs.List.{slice_index_or}
use Rattle.std.specs.Option.{option_map_or}
use Rattle.std.specs.Str.{bytes_eq, chars}
use Rattle.std.proofs.lemmas.Bool.{eqb-true}
use Rattle.std.proofs.lemmas.Slice.Eq.{bytes_eq-Decides}
use Rattle.clap.specs.Lexer.{long_of, short_of}
use Rattle.clap.specs.Kinds.{Kinds, or_else}
use Rattle.clap.specs.Simple.{new_rule}
use Rattle.clap.specs.Walk.{Held, Row, Rule, Step, Text, Waiting, Walk, after_flag, after_step, arg_by_long}
use Rattle.clap.specs.Walk.{arg_by_short, idle, is_pending, long_met, long_or_other, option, plain_word}
use Rattle.clap.specs.Walk.{settled_rows, trailing, used, value, walked}
use Rattle.clap.specs.Faults.{bundle_fault, bundle_step_fault, flag_word_fault, flags_fault, long_fault, react_fault}
use Rattle.clap.specs.Faults.{settle_fault, step_fault, turn_fault}
use Rattle.mcs_command_line.specs.Asked.{IsFile}
use Rattle.mcs_command_line.proofs.Leaves.{between, ended, place, rules, shape, standing}
use Rattle.mcs_command_line.proofs.Refusals.{IsRequest, OnlyRequest, first_or_next, hold, long_refused, not_none}
use Rattle.mcs_command_line.proofs.Refusals.{or_else-first, or_else-next, short_plain, short_refused}
use Rattle.mcs_command_line.proofs.Texts.{joined, long_is}

-- the rules of the commands, and the flag that asks for the help
abbrev pub cores : Rule
cores = slice_index_or (rules true) 0 (new_rule [])

abbrev pub explain : Rule
explain = slice_index_or (rules false) 0 (new_rule [])

abbrev pub file : Rule
file = slice_index_or (rules false) 1 (new_rule [])

abbrev pub help : Rule
help = slice_index_or (rules false) 2 (new_rule [])

help_asks : IsRequest help
help_asks = (refl, λ again rows e. not_none _ _ e)

-- no rule but that of the help has a short name
shorts : (is_run : Bool) (x : ℕ) → OnlyRequest (arg_by_short (rules is_run) x)
shorts true x = first_or_next _ help None help_asks tt
shorts false x = first_or_next _ help None help_asks tt

-- the option of a long name, where tests say whether it is this one or that
abbrev named : Bool → Bool → Bool → Text → Option Rule
named true is_cores is_explain name = cond (is_cores || false) (Some cores) (cond (is_explain || false) (Some explain)
    (cond (bytes_eq (codes "help") name || false) (Some help) None))
named false is_cores is_explain name = cond (is_explain || false) (Some explain)
    (cond (bytes_eq (codes "help") name || false) (Some help) None)

named_is : (is_run : Bool) (name : Text) → arg_by_long (rules is_run) name
    ≡ named is_run (bytes_eq (codes "cores") name) (bytes_eq (codes "explain") name) name
named_is true name = refl
named_is false name = refl

-- `--cores` waits for its value, or nothing waits
abbrev pub waits : Bool → Waiting
waits true = option (codes "cores")
waits false = idle

-- ---- a word alone goes to the file, where none was named

no_several : (a : Bool) → (a && false) ≡ false
no_several true = refl
no_several false = refl

pub file_fault : (is_run : Bool) (h : Held) → step_fault (shape is_run) 1 h value ≡ settle_fault (rules is_run) false h
file_fault true h = rw (no_several (is_pending file h.pending)) refl
file_fault false h = rw (no_several (is_pending file h.pending)) refl

pub second_fault : (is_run : Bool) (h : Held) → step_fault (shape is_run) 2 h value ≡ [] → ⊥
second_fault true h e = not_none _ _ e
second_fault false h e = not_none _ _ e

-- what is pending once it did
abbrev pub filed : Text → Option (Text × List Text)
filed name = Some (codes "file", name ∷ [])

-- the rows once what is pending is used
abbrev pub past : Bool → List Row → Option (Text × List Text) → List Row
past is_run rows p = settled_rows (rules is_run) p rows

pub file_step : (is_run : Bool) (rows : List Row) (p : Option (Text × List Text)) (waiting : Waiting) (word : Text) (trails : Bool)
    → after_step (rules is_run) word (standing (hold rows p) waiting None trails) (hold rows p) value
    ≡ standing (hold (past is_run rows p) (filed word)) idle (Some word) trails
file_step true rows p waiting word true = rw (no_several (is_pending file p)) refl
file_step true rows p waiting word false = rw (no_several (is_pending file p)) refl
file_step false rows p waiting word true = rw (no_several (is_pending file p)) refl
file_step false rows p waiting word false = rw (no_several (is_pending file p)) refl

-- the file that is pending is used
pub file_past : (is_run : Bool) (rows : List Row) (name : Text) → past is_run rows (filed name) ≡ used file (name ∷ []) rows
file_past true rows name = refl
file_past false rows name = refl

-- ---- what a word is that is no option

no_char : (cs : List ℕ) → slice_get cs 0 ≡ None → cs ≡ []
no_char [] e = refl
no_char (c ∷ cs) e = cc

-- a bundle of flags that is not refused has none
bundle_chars : (c : List Rule) (rows : List Row) (p : Option (Text × List Text)) (flags : Text)
    → ((x : ℕ) → OnlyRequest (arg_by_short c x)) → bundle_fault c false flags (hold rows p) ≡ [] → chars flags ≡ []
unfolding flags_fault chars
bundle_chars c rows p [] shorts e = refl
bundle_chars c rows p (y ∷ ys) shorts e = no_char (chars (y ∷ ys)) (go (slice_get (chars (y ∷ ys)) 0) refl e)
  where
    go : (o : Option ℕ) → slice_get (chars (y ∷ ys)) 0 ≡ o
        → bundle_step_fault c false o (y ∷ ys) 0 (hold rows p) (flags_fault c false (length ys)) ≡ []
        → slice_get (chars (y ∷ ys)) 0 ≡ None
    go None is e = is
    go (Some x) is e = absurd (short_refused c false (arg_by_short c x) _ _ _ (shorts x) e)

bundle_none : (c : List Rule) (rows : List Row) (p : Option (Text × List Text)) (o : Option Text) (flags : Text)
    → ((x : ℕ) → OnlyRequest (arg_by_short c x))
    → option_map_or (λ flags. bundle_fault c false flags (hold rows p)) o [] ≡ [] → o ≡ Some flags → chars flags ≡ []
bundle_none c rows p None flags shorts e is = cc
bundle_none c rows p (Some given) flags shorts e is =
    let same : given ≡ flags = cc in
    ap chars (sym same) ∙ bundle_chars c rows p given shorts e

-- a word that is no option, where its flags have no character
file_word : (word : Text) → bytes_eq word (codes "--") ≡ false → long_of word ≡ None
    → ((flags : Text) → short_of word ≡ Some flags → chars flags ≡ []) → IsFile word
unfolding chars
file_word [] dashes long short = inl refl
file_word (x ∷ xs) dashes long short = first (x == 45) refl dashes long short
  where
    after : (ws : Text) → bytes_eq (45 ∷ ws) (codes "--") ≡ false → long_of (45 ∷ ws) ≡ None
        → ((flags : Text) → short_of (45 ∷ ws) ≡ Some flags → chars flags ≡ []) → chars ws ≡ []
    after [] d l s = refl
    after (y ∷ ys) d l s = go (y == 45) refl d l s
      where
        tail : (zs : Text) → bytes_eq (45 ∷ 45 ∷ zs) (codes "--") ≡ false → long_of (45 ∷ 45 ∷ zs) ≡ None → ⊥
        tail [] d l = true≢false d
        tail (z ∷ zs) d l = cc

        go : (b : Bool) → (y == 45) ≡ b → bytes_eq (45 ∷ y ∷ ys) (codes "--") ≡ false → long_of (45 ∷ y ∷ ys) ≡ None
            → ((flags : Text) → short_of (45 ∷ y ∷ ys) ≡ Some flags → chars flags ≡ []) → chars (y ∷ ys) ≡ []
        go true is d l s =
            let dash : y ≡ 45 = eqb-true y 45 is in
            absurd (tail ys (subst (λ (n : ℕ). bytes_eq (45 ∷ n ∷ ys) (codes "--") ≡ false) dash d)
            (subst (λ (n : ℕ). long_of (45 ∷ n ∷ ys) ≡ None) dash l))
        go false is d l s = s (y ∷ ys) (rw is refl)

    first : (b : Bool) → (x == 45) ≡ b → bytes_eq (x ∷ xs) (codes "--") ≡ false → long_of (x ∷ xs) ≡ None
        → ((flags : Text) → short_of (x ∷ xs) ≡ Some flags → chars flags ≡ []) → IsFile (x ∷ xs)
    first false is d l s = inl is
    first true is d l s =
        let dash : x ≡ 45 = eqb-true x 45 is in
        inr (
          xs,
          ap (λ (n : ℕ). n ∷ xs) dash,
          after xs (subst (λ (n : ℕ). bytes_eq (n ∷ xs) (codes "--") ≡ false) dash d)
              (subst (λ (n : ℕ). long_of (n ∷ xs) ≡ None) dash l)
              (subst (λ (n : ℕ). (flags : Text) → short_of (n ∷ xs) ≡ Some flags → chars flags ≡ []) dash s),
        )

-- ---- a word, where it is not refused

-- what it does
pub data Turn (is_run : Bool) (rows : List Row) (p : Option (Text × List Text)) (waiting : Bool) (f : Option Text) (word : Text)
    (after : Walk) : Type 0 where
  -- `--` ends the options
  ends : word ≡ codes "--" → after ≡ ended (hold rows p) (waits waiting) f → Turn is_run rows p waiting f word after
  -- `--cores=` gives its value
  gives : is_run ≡ true → (text : Text) → word ≡ codes "--cores=" ++ text
      → react_fault (rules is_run) false cores (text ∷ []) (hold rows p) ≡ []
      → after ≡ between (hold (used cores (text ∷ []) (past is_run rows p)) None) idle f
      → Turn is_run rows p waiting f word after
  -- `--cores` waits for its value
  opens : is_run ≡ true → word ≡ codes "--cores" → settle_fault (rules is_run) false (hold rows p) ≡ []
      → after ≡ between (hold (past is_run rows p) (Some (codes "cores", []))) (waits true) f
      → Turn is_run rows p waiting f word after
  -- `--explain` is a flag
  explains : word ≡ codes "--explain" → react_fault (rules is_run) false explain [] (hold rows p) ≡ []
      → after ≡ between (hold (used explain [] (past is_run rows p)) None) idle f → Turn is_run rows p waiting f word after
  -- the word is the value that was waited for
  fills : waiting ≡ true
      → after ≡ after_step (rules is_run) word (between (hold rows p) (waits true) f)
      (plain_word (rules is_run) (waits true) word (hold rows p)).0 (plain_word (rules is_run) (waits true) word (hold rows p)).1
      → Turn is_run rows p waiting f word after
  -- the word names the file
  files : waiting ≡ false → IsFile word → f ≡ None → settle_fault (rules is_run) false (hold rows p) ≡ []
      → after ≡ between (hold (past is_run rows p) (filed word)) idle (Some word) → Turn is_run rows p waiting f word after

-- a word that is no option
plain_turn : (is_run : Bool) (rows : List Row) (p : Option (Text × List Text)) (waiting : Bool) (f : Option Text) (word : Text)
    → IsFile word
    → step_fault (shape is_run) (place f) (plain_word (rules is_run) (waits waiting) word (hold rows p)).0
    (plain_word (rules is_run) (waits waiting) word (hold rows p)).1 ≡ []
    → Turn is_run rows p waiting f word (after_step (rules is_run) word (between (hold rows p) (waits waiting) f)
    (plain_word (rules is_run) (waits waiting) word (hold rows p)).0 (plain_word (rules is_run) (waits waiting) word (hold rows p)).1)
plain_turn is_run rows p true f word is e = fills refl refl
plain_turn is_run rows p false (Some name) word is e = absurd (second_fault is_run (hold rows p) e)
plain_turn is_run rows p false None word is e =
    files refl is refl (sym (file_fault is_run (hold rows p)) ∙ e) (file_step is_run rows p idle word false)

module _ (is_run : Bool) (rows : List Row) (p : Option (Text × List Text)) (waiting : Bool) (f : Option Text) (word : Text) where
  abbrev met_fault : Held × Step → Kinds
  met_fault met = step_fault (shape is_run) (place f) met.0 met.1

  abbrev after : Held × Step → Walk
  after met = after_step (rules is_run) word (between (hold rows p) (waits waiting) f) met.0 met.1

  -- the step of an option, where this is the rule of its name
  abbrev option_met : Option Rule → Option Text → Held × Step
  option_met o v = after_flag (rules is_run) (waits waiting) word (long_met (rules is_run) o v (hold rows p)).0
      (long_met (rules is_run) o v (hold rows p)).1

  abbrev OptionTurn : Option Rule → Option Text → Type 0
  OptionTurn o v = or_else (long_fault (rules is_run) false o v (hold rows p)) (met_fault (option_met o v)) ≡ []
      → Turn is_run rows p waiting f word (after (option_met o v))

  explain_turn : (name : Text) (v : Option Text) → long_of word ≡ Some (name, v) → bytes_eq (codes "explain") name ≡ true
      → OptionTurn (Some explain) v
  explain_turn name (Some text) is same e = absurd (not_none _ _ e)
  explain_turn name None is same e =
      let name_is : codes "explain" ≡ name = (bytes_eq-Decides (codes "explain") name).0 same in
      explains (long_is word name None is ∙ ap (λ t. 45 ∷ 45 ∷ t) (sym name_is)) (or_else-first _ _ e) refl

  cores_turn : (name : Text) (v : Option Text) → is_run ≡ true → long_of word ≡ Some (name, v)
      → bytes_eq (codes "cores") name ≡ true → OptionTurn (Some cores) v
  cores_turn name None run is same e =
      let name_is : codes "cores" ≡ name = (bytes_eq-Decides (codes "cores") name).0 same in
      opens run (long_is word name None is ∙ ap (λ t. 45 ∷ 45 ∷ t) (sym name_is)) (or_else-first _ _ e) refl
  cores_turn name (Some text) run is same e =
      let name_is : codes "cores" ≡ name = (bytes_eq-Decides (codes "cores") name).0 same in
      gives run text (long_is word name (Some text) is ∙ ap (λ t. 45 ∷ 45 ∷ joined t (Some text)) (sym name_is))
      (or_else-first _ _ e) refl

  no_turn : (name : Text) (v : Option Text) → OptionTurn (cond (bytes_eq (codes "help") name || false) (Some help) None) v
  no_turn name v e =
      let is_help = bytes_eq (codes "help") name || false in
      let option = cond is_help (Some help) None in
      absurd (long_refused (rules is_run) false option v (hold rows p) (first_or_next is_help help None help_asks tt)
      (or_else-first (long_fault (rules is_run) false option v (hold rows p)) (met_fault (option_met option v)) e))

  option_turn : (run is_cores is_explain : Bool) (name : Text) (v : Option Text) → is_run ≡ run → long_of word ≡ Some (name, v)
      → bytes_eq (codes "cores") name ≡ is_cores → bytes_eq (codes "explain") name ≡ is_explain
      → OptionTurn (named run is_cores is_explain name) v
  option_turn true true is_explain name v run is one two e = cores_turn name v run is one e
  option_turn true false true name v run is one two e = explain_turn name v is two e
  option_turn true false false name v run is one two e = no_turn name v e
  option_turn false is_cores true name v run is one two e = explain_turn name v is two e
  option_turn false is_cores false name v run is one two e = no_turn name v e

  other_turn : (o : Option (Text × Option Text)) → bytes_eq word (codes "--") ≡ false → long_of word ≡ o
      → or_else (flag_word_fault (rules is_run) false o word (hold rows p)) (met_fault
      (long_or_other (rules is_run) (waits waiting) word o (hold rows p))) ≡ []
      → Turn is_run rows p waiting f word (after (long_or_other (rules is_run) (waits waiting) word o (hold rows p)))
  other_turn (Some q) dashes is e =
      let turn = option_turn is_run (bytes_eq (codes "cores") q.0) (bytes_eq (codes "explain") q.0) q.0 q.1 refl is refl refl in
      subst (λ o. OptionTurn o q.1) (sym (named_is is_run q.0)) turn e
  other_turn None dashes is e =
      let passes = or_else-first (option_map_or (λ flags. bundle_fault (rules is_run) false flags (hold rows p)) (short_of word) []) _ e in
      let same = short_plain (rules is_run) false (waits waiting) word rows p (short_of word) (shorts is_run) passes in
      let file_is = file_word word dashes is (λ flags. bundle_none (rules is_run) rows p (short_of word) flags (shorts is_run) passes) in
      subst (λ met. Turn is_run rows p waiting f word (after met)) (sym same)
      (plain_turn is_run rows p waiting f word file_is (subst (λ met. met_fault met ≡ []) same (or_else-next _ _ e)))

  word_turn : (b : Bool) → bytes_eq word (codes "--") ≡ b
      → or_else (cond b [] (flag_word_fault (rules is_run) false (long_of word) word (hold rows p)))
      (met_fault (cond b (hold rows p, trailing (place f))
      (long_or_other (rules is_run) (waits waiting) word (long_of word) (hold rows p)))) ≡ []
      → Turn is_run rows p waiting f word (after (cond b (hold rows p, trailing (place f))
      (long_or_other (rules is_run) (waits waiting) word (long_of word) (hold rows p))))
  word_turn true is e = ends ((bytes_eq-Decides word (codes "--")).0 is) refl
  word_turn false is e = other_turn (long_of word) is refl e

-- a word that does not fail does one of these
pub turn : (is_run : Bool) (rows : List Row) (p : Option (Text × List Text)) (waiting : Bool) (f : Option Text) (word : Text)
    → turn_fault (shape is_run) [] (between (hold rows p) (waits waiting) f) word ≡ []
    → Turn is_run rows p waiting f word (walked (rules is_run) [] (between (hold rows p) (waits waiting) f) word)
unfolding walked
turn true rows p true f word e = word_turn true rows p true f word (bytes_eq word (codes "--")) refl e
turn true rows p false f word e = word_turn true rows p false f word (bytes_eq word (codes "--")) refl e
turn false rows p true f word e = word_turn false rows p true f word (bytes_eq word (codes "--")) refl e
turn false rows p false f word e = word_turn false rows p false f word (bytes_eq word (codes "--")) refl e
