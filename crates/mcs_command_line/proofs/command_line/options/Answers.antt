use Rattle.std.proofs.Common.{ap, refl, sym, subst, ◌≡◌, ◌≢◌, ◌∙◌, ◌<◌, ◌^◌, inl, inr, arith, codes, cond, Bool, true, false, map, ℕ, List, []}
use Rattle.std.proofs.Common.{◌∷◌, Result, Ok, Err}
use Rattle.std.specs.Prelude.{IsErrAnd, Some, None, decimal}
use Rattle.std.specs.Borrow.{Bor}
use Rattle.std.specs.Str.{bytes_eq}
use Rattle.std.proofs.lemmas.Slice.Eq.{bytes_eq-Decides}
use Rattle.std.proofs.lemmas.Fmt.{decimal_is_IsNumeral}
use Rattle.std.proofs.lemmas.Str.Parse.{digit_at, without_leading_plus_none}
use Rattle.clap.specs.declared.error.Error.{Error}
use Rattle.clap.specs.declared.error.kind.ErrorKind.TheVariants as kind
use Rattle.clap.specs.declared.parser.ArgMatches.{ArgMatches}
use Rattle.clap.specs.Words.{App, HasKind, HasMatchesOf, Text, fault_of, is_simple, is_simple_and_free, subcommand_of}
use Rattle.clap.specs.Words.{subcommand_rows_of}
use Rattle.clap.proofs.OnLiterals.{clap_on_literals}
use Rattle.mcs_command_line.specs.Asked.{Asks, Choice, Gives, IsChoice, IsChosen, IsCoreCount, IsFile, Says, Writes, choice_of, counts, ends}
use Rattle.mcs_command_line.specs.Asked.{ends_with, explains, named, names, nothing_said, of_file, replays, runs}
use Rattle.mcs_command_line.specs.CommandLine.{AsksFor, AsksForCores, AsksForFile, IsMemory, IsVersion, mcssim_line}
use Rattle.mcs_command_line.specs.declared.choice.Options.{Options}
use Rattle.mcs_command_line.proofs.Found.{chosen, no_fault}
use Rattle.mcs_command_line.proofs.Line.{asks}
use Rattle.mcs_command_line.proofs.Refusals.{not_none}
use Rattle.mcs_command_line.proofs.command_line.options.Goals as goal

-- no rule of the command line is on another
is_plain_line : is_simple_and_free mcssim_line ≡ true
unfolding clap_on_literals
is_plain_line = refl

is_simple_line : is_simple mcssim_line ≡ true
unfolding clap_on_literals
is_simple_line = refl

-- the version is asked for
version_kinds : (name : Text) → fault_of mcssim_line (name ∷ codes "--version" ∷ []) ≡ kind.DisplayVersion ∷ []
unfolding clap_on_literals
version_kinds name = refl

-- ---- what the plain lines ask for

asks_replay : (words : List (Bor Text)) → AsksFor words (codes "replay") → Asks (map (λ w. w.now) words) replays
asks_replay words asked = (false, [], replays, asked, ends (inl refl), refl)

asks_run : (words : List (Bor Text)) → AsksFor words (codes "run") → Asks (map (λ w. w.now) words) (runs None)
asks_run words asked = (true, [], runs None, asked, ends (inl refl), refl)

-- a word that is not `-` is the file that it names
named_is : (name : Text) → name ≢ codes "-" → Some name ≡ named (Some name)
named_is name other = go (bytes_eq name (codes "-")) refl
  where
    go : (b : Bool) → bytes_eq name (codes "-") ≡ b → Some name ≡ cond b None (Some name)
    go true is = absurd (other ((bytes_eq-Decides name (codes "-")).0 is))
    go false is = refl

asks_file : (words : List (Bor Text)) (name : Text) → IsFile name → name ≢ codes "-" → AsksForFile words name
    → Asks (map (λ w. w.now) words) (of_file name replays)
asks_file words name is other asked = (
  false,
  name ∷ [],
  of_file name replays,
  asked,
  names name [] refl is refl (ends (inl refl)),
  ap (λ f. record replays { file = f }) (named_is name other),
)

-- a number in decimal writes it
decimal_writes : (n : ℕ) → IsCoreCount n → Writes (decimal n) n
decimal_writes n count =
    let small : n < 2 ^ 64 = omega arith in
    let is = decimal_is_IsNumeral n small in
    let first = digit_at (decimal n) 0 is.0.1 is.0.0 in
    let plain = without_leading_plus_none (decimal n) (λ plus. absurd (omega arith)) in
    rw plain is

asks_cores : (words : List (Bor Text)) (n : ℕ) → IsCoreCount n → AsksForCores words n
    → Asks (map (λ w. w.now) words) (runs (Some n))
asks_cores words n count asked = (
  true,
  codes "--cores" ∷ decimal n ∷ [],
  runs (Some n),
  asked,
  counts (decimal n) [] n (inl refl) (decimal_writes n count) count refl (ends (inl refl)),
  refl,
)

-- ---- what the line gives

-- what is asked for has a number of cores that a machine may have
said_counts : {c : Choice} {words : List Text} {said : Choice} → Says c words said → IsChoice c.task → IsChoice said.task
said_counts (ends end) is = is
said_counts (ends_with name are none) is = is
said_counts (names name rest are file none more) is = said_counts more is
said_counts (explains rest are unsaid more) is = said_counts more is
said_counts (counts text rest n give writes count task more) is = said_counts more count

is_choice : (words : List Text) (choice : Choice) → Asks words choice → IsChoice choice.task
is_choice words choice asked = subst (λ t. IsChoice t) (ap (λ (c : Choice). c.task) (sym asked.5)) (go asked.0 asked.4)
  where
    go : (is_run : Bool) → Says (nothing_said is_run) asked.1 asked.2 → IsChoice asked.2.task
    go true says = said_counts says tt
    go false says = said_counts says tt

-- what is given of a line that was not refused is what it asks for
found_asked : (words : List Text) (found : Choice) → fault_of mcssim_line words ≡ []
    → IsChosen (subcommand_of mcssim_line words) found → Asks words found
found_asked words found passes is =
    let one = asks words passes in
    subst (Asks words) (sym (chosen words one.0 found one.1 is)) one.1

-- what the parse says of the line
kinds_are : (a : App) (words : List Text) (e : Error) → a ≡ mcssim_line
    → (is_simple_and_free a ≡ true → HasKind (fault_of a words) e) → HasKind (fault_of mcssim_line words) e
kinds_are a words e line kinds = subst (λ b. HasKind (fault_of b words) e) line
    (kinds (ap is_simple_and_free line ∙ is_plain_line))

none_failed : (a : App) (words : List Text) → a ≡ mcssim_line → (is_simple_and_free a ≡ true → fault_of a words ≡ [])
    → fault_of mcssim_line words ≡ []
none_failed a words line kinds = subst (λ b. fault_of b words ≡ []) line (kinds (ap is_simple_and_free line ∙ is_plain_line))

found_is : (a : App) (words : List Text) (m : ArgMatches) (found : Choice) → a ≡ mcssim_line → HasMatchesOf a words m
    → IsChosen (subcommand_rows_of m) found
    → IsChosen (subcommand_of mcssim_line words) found
found_is a words m found line matches is =
    subst (λ rows. IsChosen rows found) ((matches (ap is_simple line ∙ is_simple_line)).1
    ∙ ap (λ b. subcommand_of b words) line) is

-- an error that a line gives, by the kinds that it has: what is asked for was not given for want of
-- memory alone
refused_given : (words : List Text) (e : Error) → HasKind (fault_of mcssim_line words) e → (choice : Choice)
    → Asks words choice → IsMemory e
refused_given words e has choice asked = go (subst (λ kinds. HasKind kinds e) (no_fault words choice asked) has)
  where
    go : HasKind [] e → IsMemory e
    go (inl memory) = memory
    go (inr none) = absurd none

tells_version : (words : List (Bor Text)) (e : Error) → AsksFor words (codes "--version")
    → HasKind (fault_of mcssim_line (map (λ w. w.now) words)) e → IsVersion e
tells_version words e asked has = subst (λ kinds. HasKind kinds e) (ap (fault_of mcssim_line) asked.1 ∙ version_kinds asked.0) has

no_version : (words : List (Bor Text)) → AsksFor words (codes "--version")
    → fault_of mcssim_line (map (λ w. w.now) words) ≡ [] → ⊥
no_version words asked passes = not_none _ _ (sym (ap (fault_of mcssim_line) asked.1 ∙ version_kinds asked.0) ∙ passes)

-- what an error hands on
gives-passed : (choice : Choice) (r : Result Options Error) (e : Error) → IsErrAnd r (λ x. x ≡ e) → IsMemory e → Gives choice r
gives-passed choice (Ok x) e same memory = absurd same
gives-passed choice (Err x) e same memory = subst IsMemory (sym same) memory

version-passed : (r : Result Options Error) (e : Error) → IsErrAnd r (λ x. x ≡ e) → IsVersion e → IsErrAnd r IsVersion
version-passed (Ok x) e same version = absurd same
version-passed (Err x) e same version = subst IsVersion (sym same) version

-- ---- where the words were refused

pub returns-in_err-matches-clause-given : goal.returns-in_err-matches-clause-given
returns-in_err-matches-clause-given c = λ choice asked.
    let e = c.in_err-matches.field-0.0 in
    let has = kinds_are _ _ e c.in_ok-commands.ensures.line c.in_err-matches.ensures.kinds in
    gives-passed choice _ e c.from_residual-in_err-matches.ensures.1 (refused_given _ e has choice asked)

pub returns-in_err-matches-clause-replay : goal.returns-in_err-matches-clause-replay
returns-in_err-matches-clause-replay c = λ asked. returns-in_err-matches-clause-given c replays (asks_replay _ asked)

pub returns-in_err-matches-clause-run : goal.returns-in_err-matches-clause-run
returns-in_err-matches-clause-run c = λ asked. returns-in_err-matches-clause-given c (runs None) (asks_run _ asked)

pub returns-in_err-matches-clause-cores : goal.returns-in_err-matches-clause-cores
returns-in_err-matches-clause-cores c = λ n count asked. returns-in_err-matches-clause-given c (runs (Some n))
    (asks_cores _ n count asked)

pub returns-in_err-matches-clause-file : goal.returns-in_err-matches-clause-file
returns-in_err-matches-clause-file c = λ name is other asked. returns-in_err-matches-clause-given c (of_file name replays)
    (asks_file _ name is other asked)

pub returns-in_err-matches-clause-version : goal.returns-in_err-matches-clause-version
returns-in_err-matches-clause-version c = λ asked.
    let e = c.in_err-matches.field-0.0 in
    let has = kinds_are _ _ e c.in_ok-commands.ensures.line c.in_err-matches.ensures.kinds in
    version-passed _ e c.from_residual-in_err-matches.ensures.1 (tells_version _ e asked has)

-- ---- where they were taken

pub returns-clause-asked : goal.returns-clause-asked
returns-clause-asked c =
    let line = c.in_ok-commands.ensures.line in
    let passes = none_failed _ _ line c.in_ok-matches.ensures.kinds in
    let is = found_is _ _ c.in_ok-matches.matches (choice_of c.chosen.result) line c.in_ok-matches.ensures.matches c.chosen.ensures in
    found_asked _ (choice_of c.chosen.result) passes is

pub returns-clause-given : goal.returns-clause-given
returns-clause-given c = λ choice asked.
    let line = c.in_ok-commands.ensures.line in
    let is = found_is _ _ c.in_ok-matches.matches (choice_of c.chosen.result) line c.in_ok-matches.ensures.matches c.chosen.ensures in
    chosen _ choice (choice_of c.chosen.result) asked is

pub returns-clause-choice : goal.returns-clause-choice
returns-clause-choice c = is_choice _ (choice_of c.chosen.result) (returns-clause-asked c)

pub returns-clause-replay : goal.returns-clause-replay
returns-clause-replay c = λ asked. returns-clause-given c replays (asks_replay _ asked)

pub returns-clause-run : goal.returns-clause-run
returns-clause-run c = λ asked. returns-clause-given c (runs None) (asks_run _ asked)

pub returns-clause-cores : goal.returns-clause-cores
returns-clause-cores c = λ n count asked. returns-clause-given c (runs (Some n)) (asks_cores _ n count asked)

pub returns-clause-file : goal.returns-clause-file
returns-clause-file c = λ name is other asked. returns-clause-given c (of_file name replays) (asks_file _ name is other asked)

pub returns-clause-version : goal.returns-clause-version
returns-clause-version c = λ asked. no_version _ asked (none_failed _ _ c.in_ok-commands.ensures.line
    c.in_ok-matches.ensures.kinds)

pub returns-clause-fails : goal.returns-clause-fails
returns-clause-fails c = none_failed _ _ c.in_ok-commands.ensures.line c.in_ok-matches.ensures.kinds
