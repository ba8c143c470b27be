use Rattle.std.proofs.Common.{◌∙◌, ◌++◌, ◌∷◌, [], ap}
use Rattle.mcs_packing.specs.Packing.{record_of, records_of}
use Rattle.mcs_packing.proofs.Packings.{AllFit-grows, AllFit-push, records_of-grows, records_of-push}
use Rattle.mcs_book.proofs.book.push_paid.Goals as goal

pub returns-clause-value : goal.returns-clause-value
returns-clause-value c =
    let ps = c.args.packed.now.items in
    let p = c.pack_lent_paid-one.result in
    let old = c.args.arena.now in
    let ws = c.pack_lent_paid-one.new.self.words.items in
    let rs = c.pack_lent_paid-one.new.self.wide.items in
    let grew = c.pack_lent_paid-one.ensures.grew in
    let same = records_of-grows ps old.words.items ws old.wide.items rs grew.words grew.wide c.requires.fit in
    ap (λ l. records_of l ws rs) c.push_reserved.ensures.items ∙ records_of-push ps p ws rs ∙ ap (λ l. l ++ record_of p ws rs ∷ []) same ∙ ap (λ r. records_of ps old.words.items old.wide.items ++ r ∷ []) c.pack_lent_paid-one.ensures.value

pub returns-clause-fit : goal.returns-clause-fit
returns-clause-fit c =
    let ps = c.args.packed.now.items in
    let p = c.pack_lent_paid-one.result in
    let old = c.args.arena.now in
    let ws = c.pack_lent_paid-one.new.self.words.items in
    let rs = c.pack_lent_paid-one.new.self.wide.items in
    let grew = c.pack_lent_paid-one.ensures.grew in
    rw c.push_reserved.ensures.items (AllFit-push ps p ws rs (AllFit-grows ps old.words.items ws old.wide.items rs grew.words grew.wide c.requires.fit) c.pack_lent_paid-one.ensures.fits)
