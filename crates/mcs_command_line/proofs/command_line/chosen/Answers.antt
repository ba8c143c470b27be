use Rattle.std.proofs.Common.{refl, sym, subst, ap, ◌≡◌, ◌∙◌, codes, Bool, List}
use Rattle.std.specs.Prelude.{Option, Some, None, option_map}
use Rattle.clap.specs.declared.parser.ArgMatches.{ArgMatches}
use Rattle.clap.specs.declared.parser.ArgMatches.TheViews.{out-ArgMatches}
use Rattle.clap.specs.Words.{Row, Text, found_of, one_of, one_text, rows_of, subcommand_name_of, subcommand_rows_of}
use Rattle.clap.proofs.WalkLemmas.{first_value-rows, one_text-rows}
use Rattle.mcs_command_line.specs.Asked.{Choice, IsChosen, ReadsFlag, named}
use Rattle.mcs_command_line.proofs.command_line.chosen.Goals as goal

-- a flag that was read is that of the rows
flag_of : (m : ArgMatches) (flag : Bool) → ReadsFlag (one_text (found_of m) (codes "explain")) flag
    → ReadsFlag (one_of (codes "explain") (rows_of (found_of m))) flag
flag_of m flag = subst (λ v. ReadsFlag v flag) (one_text-rows (found_of m) (codes "explain"))

-- the name of the subcommand is in its rows
chosen_by : (found : Option (Text × List Row)) (name : Text) (rows : List Row) (choice : Choice)
    → option_map (λ p. p.0) found ≡ Some name → option_map (λ p. p.1) found ≡ Some rows
    → IsChosen (Some (name, rows)) choice → IsChosen found choice
chosen_by None name rows choice name_is rows_are is = cc
chosen_by (Some p) name rows choice name_is rows_are is =
    let same_name : name ≡ p.0 = cc in
    let same_rows : rows ≡ p.1 = cc in
    let same : (name, rows) ≡ p = λ i. (same_name i, same_rows i) in
    subst (λ q. IsChosen (Some q) choice) same is

map_twice : {A B C : Type 0} (f : B → C) (g : A → B) (o : Option A) → option_map (λ x. f (g x)) o ≡ option_map f (option_map g o)
map_twice f g None = refl
map_twice f g (Some x) = refl

name_of_rows : (m : ArgMatches) → subcommand_name_of m ≡ option_map (λ p. p.0) (subcommand_rows_of m)
name_of_rows m = map_twice (λ (p : Text × List Row). p.0) _ (out-ArgMatches m).subcommand

pub returns-in-Some : goal.returns-in-Some
returns-in-Some c =
    let m = c.args.matches.now in
    let found = c.in-Some.found.now in
    let file = c.named.ensures ∙ ap named (c.get_str.ensures ∙ first_value-rows (found_of found) (codes "file")) in
    let flag = flag_of found c.get_flag.result (c.get_flag.ensures.none, c.get_flag.ensures.value, c.get_flag.ensures.other) in
    chosen_by (subcommand_rows_of m) c.in-Some.name.now (rows_of (found_of found)) _
    (sym (name_of_rows m) ∙ sym c.in-Some.ensures.name) (sym c.in-Some.ensures.rows)
    (c.task.ensures, file, flag)
