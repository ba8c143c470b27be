use Rattle.std.proofs.Common.{subst, sym, ap, ◌∙◌, ◌≡◌, ℕ, List, Option}
use Rattle.std.specs.Prelude.{option_map}
use Rattle.std.specs.Global.{Vec}
use Rattle.mcs_lab_check.specs.NamesHad.{name_in, named_now}
use Rattle.mcs_lab_check.proofs.NamesHad.{found-seen, put-seen, seen}
use Rattle.mcs_lab_check.proofs.latest.Latest.put.Goals as goal

pub returns-clause-had : goal.returns-clause-had
returns-clause-had c =
    ap (λ (v : Option (Vec ℕ)). option_map (λ (n : Vec ℕ). n.items) v) c.in_ok-had.ensures.old
    ∙ sym (found-seen c.self.inside.names.entries c.args.object c.key_of-key.result c.key_of-key.ensures)
    ∙ ap (λ (names : List (ℕ × List ℕ)). name_in names c.args.object) c.self.view_is

pub returns-clause-given : goal.returns-clause-given
returns-clause-given c = λ o.
    subst (λ (before : List (ℕ × List ℕ)). name_in (seen c.insert.new.self.entries) o ≡ named_now c.args.object c.args.name.items (name_in before o) o) c.self.view_is
    (put-seen c.self.inside.names.entries c.insert.new.self.entries c.args.object c.key_of-key.result c.args.name c.key_of-key.ensures c.in_ok-had.ensures.updates.0 o)
