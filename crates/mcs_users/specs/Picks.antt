-- Picks that are added, and picks that are dropped.
use Rattle.std.specs.Prelude.{ℕ, List, Option, Some, None}
use Rattle.mcs_turns.specs.declared.position.Pick.{Pick}
use Rattle.mcs_turns.specs.Due.{with_pick, without_user}

-- picks in order, with one more, if there is one
abbrev pub with_any_pick : Option Pick → List Pick → List Pick
with_any_pick None js = js
with_any_pick (Some k) js = with_pick k js

-- those of all users but one, if there is one
abbrev pub without_any_user : Option ℕ → List Pick → List Pick
without_any_user None js = js
without_any_user (Some user) js = without_user user js
