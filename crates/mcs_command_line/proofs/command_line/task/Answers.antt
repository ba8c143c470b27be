use Rattle.std.proofs.Common.{rules, refl, subst, ◌≡◌, codes, ℕ}
use Rattle.std.specs.Prelude.{Option, Some, None, Result}
use Rattle.std.specs.Str.Parse.{ExplainsUnsignedError, HasUnsignedDigitsIfOk, ParsesUnsigned}
use Rattle.std.specs.declared.num.ParseIntError.{ParseIntError}
use Rattle.clap.specs.declared.parser.ArgMatches.{ArgMatches}
use Rattle.clap.specs.Words.{ReadsOne, Text, found_of, one_of, one_text, rows_of}
use Rattle.clap.proofs.WalkLemmas.{one_text-rows}
use Rattle.mcs_command_line.specs.Asked.{ReadsCores}
use Rattle.mcs_command_line.proofs.command_line.task.Goals as goal

-- `parse` at a `u8`
abbrev Parses : Text → Result ℕ ParseIntError → Type 0
Parses text r = ParsesUnsigned 8 10 text r × ExplainsUnsignedError 10 text r × HasUnsignedDigitsIfOk text r

only_parses : (text : Text) (r : Option ℕ) → ReadsOne Parses text r → ReadsCores (Some text) r
only_parses text (Some n) h = h.0
only_parses text None h = (h.0, h.1.0)

-- the value that was read is that of the rows
read_of : (m : ArgMatches) (r : Option ℕ) → (one_text (found_of m) (codes "cores") ≡ None → r ≡ None)
    → ((text : Text) → one_text (found_of m) (codes "cores") ≡ Some text → ReadsOne Parses text r)
    → ReadsCores (one_of (codes "cores") (rows_of (found_of m))) r
read_of m r none value = subst (λ v. ReadsCores v r) (one_text-rows (found_of m) (codes "cores"))
    (go (one_text (found_of m) (codes "cores")) refl)
  where
    go : (v : Option Text) → one_text (found_of m) (codes "cores") ≡ v → ReadsCores v r
    go None is = none is
    go (Some text) is = only_parses text r (value text is)

pub returns-then-eq : goal.returns-then-eq
returns-then-eq c =
    let name : c.args.name.now ≡ codes "run" = search rules in
    (name, read_of c.args.found.now c.get_one.result c.get_one.ensures.none c.get_one.ensures.value)
