use Rattle.std.proofs.Common.{ap, subst, ◌∙◌}
use Rattle.std.specs.Prelude.{Bool, List}
use Rattle.mcs_book.specs.History.{Book, log_of}
use Rattle.mcs_users.specs.Users.{change_slots}
use Rattle.mcs_turns.specs.declared.position.Pick.{Pick}
use Rattle.mcs_turns.proofs.OneTurn.{one-picks}
use Rattle.mcs_explore_rows.specs.Naming.{Names}
use Rattle.mcs_explore_rows.specs.Rows.{choice_rows, count_numbers, object_rows, place_rows, rows_of}
use Rattle.mcs_explore_rows.proofs.Naming.{key-from}
use Rattle.mcs_explore_rows.proofs.exact.exact_numbers.Goals as goal

pub returns-clause-named : goal.returns-clause-named
returns-clause-named g c =
    let picks = c.args.picks.now in
    let users = c.args.users.now in
    let book = c.args.walk.now.book in
    let named : Names c.put_objects.new.met c.put_objects.new.numbers.items (rows_of c.args.numbered users c.args.walk.now picks) =
    key-from c.args.met.now c.put.new.self c.put_places.new.met c.put_choices.new.met c.put_objects.new.met
    c.new-numbers.result.items c.put.new.numbers.items c.put_places.new.numbers.items c.put_choices.new.numbers.items c.put_objects.new.numbers.items
    c.in_ok-counts.counts.items (count_numbers c.args.numbered (log_of book))
    (place_rows users c.args.walk.now) (choice_rows c.args.walk.now picks)
    (object_rows c.change_slots-changing.result c.args.numbered (log_of c.kernel-kernel.result.now)) (object_rows (change_slots users) c.args.numbered (log_of book))
    (c.in_ok-counts.ensures ∙ ap (λ (b : Book). count_numbers c.args.numbered (log_of b)) c.kernel-kernel.ensures)
    (ap (λ (b : Bool). object_rows b c.args.numbered (log_of c.kernel-kernel.result.now)) c.change_slots-changing.ensures ∙ ap (λ (b : Book). object_rows (change_slots users) c.args.numbered (log_of b)) c.kernel-kernel.ensures)
    c.new-numbers.ensures.items c.in_ok-put.ensures.named c.in_ok-put_places.ensures.named c.in_ok-put_choices.ensures.named c.in_ok-put_objects.ensures.named in
    record {
      picks = picks;
      are = c.requires;
      so = λ ks are. subst (λ (js : List (List Pick)). Names c.put_objects.new.met c.put_objects.new.numbers.items (rows_of c.args.numbered users c.args.walk.now js))
          (one-picks users c.args.walk.now picks ks c.requires are) named;
    }
