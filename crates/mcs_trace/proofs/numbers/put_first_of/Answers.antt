use Rattle.std.proofs.Common.{◌+◌, ◌++◌, List, ℕ, take, ap, sym, ◌∙◌, arith}
use Rattle.std.proofs.lemmas.List.{take_all}
use Rattle.std.proofs.lemmas.Slice.{take-put_mid}
use Rattle.mcs_trace.proofs.Parts.{fewer-after}
use Rattle.mcs_trace.proofs.numbers.put_first_of.Goals as goal

pub returns-clause-text : goal.returns-clause-text
returns-clause-text c =
    let a = c.args in
    let old = a.buffer.now in
    let part = c.copy_from_slice.new.self in
    let front : List ℕ = take a.at old in
    fewer-after old _ part a.at 4 a.count (omega (arith, c.requires.room)) c.requires.few
    (take-put_mid a.at _ old part (a.at + 4) (omega (arith, c.copy_from_slice.ensures.len)) (omega (arith, c.requires.room))
    ∙ ap (λ (l : List ℕ). front ++ l) (sym (take_all 4 part (omega (arith, c.copy_from_slice.ensures.len)))))
    ∙ ap (λ (l : List ℕ). front ++ take a.count l) c.copy_from_slice.ensures.after
