use Rattle.std.proofs.Common.{rules, ap}
use Rattle.mcs_replies.proofs.OwingLaws.{no-reply, no-chain, sound-none}
use Rattle.mcs_replies.proofs.replies.Replies.new.Goals as goal

pub invariant_of-result : goal.invariant_of-result
invariant_of-result c =
    let links = c.in_ok-from_elem.ensures.items_if_clones_equal (λ y h. search rules) in
    record {
      room = ap (λ n. n.room) c.in_ok-with_room.ensures.shape;
      kind = ap (λ n. n.kind) c.in_ok-with_room.ensures.shape;
      sound = sound-none c.in_ok-from_elem.field-0.items c.in_ok-new.field-0 links c.in_ok-new.ensures.homes c.in_ok-new.ensures.others;
      owners = λ u r h. absurd (no-reply c.in_ok-from_elem.field-0.items links u r h);
      owing = λ u r h. absurd (no-reply c.in_ok-from_elem.field-0.items links u r h);
    }

pub returns-clause-chains : goal.returns-clause-chains
returns-clause-chains c = no-chain c.in_ok-from_elem.field-0.items c.in_ok-new.field-0 c.in_ok-new.ensures.homes c.in_ok-new.ensures.others
