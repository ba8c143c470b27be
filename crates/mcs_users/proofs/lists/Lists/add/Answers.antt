use Rattle.std.proofs.Common.{◌≡◌, List, length, arith, Some, nat_lt, ◌||◌, sym, ap, ◌∙◌}
use Rattle.std.specs.Prelude.{position, get_or}
use Rattle.std.proofs.lemmas.Result.{on_ok_weaker}
use Rattle.mcs_types.specs.declared.id.ObjId.{ObjId}
use Rattle.mcs_types.specs.declared.entry.Entry.{Entry}
use Rattle.mcs_types.specs.Ids.{same}
use Rattle.mcs_turns.specs.Turns.{User}
use Rattle.mcs_users.specs.Users.{begun_with}
use Rattle.mcs_users.proofs.Adding.{user-at, added-within, added-before, added-after}
use Rattle.mcs_users.proofs.lists.Lists.add.Goals as goal

pub returns-in_default-clause-added : goal.returns-in_default-clause-added
returns-in_default-clause-added c =
    let us : List User = c.args.self.now in
    let view : c.self.inside.lists.items ≡ us = c.self.view_is in
    let many = ap (λ (l : List User). length l) view in
    let long : c.len-end.result ≡ length us = omega (arith, c.len-end.ensures, c.self.inside.lists.ok.0, many) in
    let none = sym c.place_for.ensures ∙ c.in_default.is in
    on_ok_weaker c.insert_at.result (λ added. added ∙ added-after us c.args.thread c.args.entry c.len-end.result long none) c.insert_at.ensures.added

pub returns-then-is_at-clause-added : goal.returns-then-is_at-clause-added
returns-then-is_at-clause-added c =
    let us : List User = c.args.self.now in
    let t : ObjId = c.args.thread in
    let e : Entry = c.args.entry in
    let found : position (λ (u : User). same u.thread t || nat_lt t.serial u.thread.serial) us ≡ Some c.in-Some.place = sym c.place_for.ensures ∙ c.in-Some.is in
    let u : User = get_or us c.in-Some.place (begun_with t e) in
    let at = user-at us t e c.in-Some.place found in
    on_ok_weaker c.push_at.result (λ added. added u at ∙ added-within us t e c.in-Some.place u found at (sym (c.is_at.ensures u at) ∙ c.if-is_at.true)) c.push_at.ensures.added

pub returns-else-is_at-clause-added : goal.returns-else-is_at-clause-added
returns-else-is_at-clause-added c =
    let us : List User = c.args.self.now in
    let t : ObjId = c.args.thread in
    let e : Entry = c.args.entry in
    let found : position (λ (u : User). same u.thread t || nat_lt t.serial u.thread.serial) us ≡ Some c.in-Some.place = sym c.place_for.ensures ∙ c.in-Some.is in
    let u : User = get_or us c.in-Some.place (begun_with t e) in
    let at = user-at us t e c.in-Some.place found in
    on_ok_weaker c.insert_at-else-is_at.result (λ added. added ∙ added-before us t e c.in-Some.place u found at (sym (c.is_at.ensures u at) ∙ c.if-is_at.false)) c.insert_at-else-is_at.ensures.added
