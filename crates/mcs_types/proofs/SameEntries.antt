-- `==` of entries and of answers tells exactly whether they are the same: a line for each shape of
-- fields.
use Rattle.std.proofs.Common.{◌==◌, rules}
use Rattle.std.specs.Cmp.{unsigned_Decides, first_so, second_so}
use Rattle.std.specs.Cmp.Lexicographic.{pointwise, pointwise_decides}
use Rattle.mcs_types.specs.contracts.cap.PlacePartialEq.TheImpl as place_eq
use Rattle.mcs_types.specs.contracts.cap.RightsPartialEq.TheImpl as rights_eq
use Rattle.mcs_types.specs.contracts.entry.Answer as answer_type
use Rattle.mcs_types.specs.contracts.entry.AnswerPartialEq.TheImpl as answer_eq
use Rattle.mcs_types.specs.contracts.entry.Entry as entry_type
use Rattle.mcs_types.specs.contracts.entry.EntryPartialEq.TheImpl as entry_eq
use Rattle.mcs_types.specs.contracts.entry.RefusalPartialEq.TheImpl as refusal_eq
use Rattle.mcs_types.specs.contracts.id.BadgePartialEq.TheImpl as badge_eq
use Rattle.mcs_types.specs.contracts.id.PrioPartialEq.TheImpl as prio_eq
use Rattle.mcs_types.specs.contracts.message.MessagePartialEq.TheImpl as message_eq
use Rattle.mcs_types.proofs.Same.{Tells, fields, last, values_tell}

word : Tells ◌==◌
word = record { told = λ m n. (unsigned_Decides m n).0; itself = λ n. search rules }

words : Tells (pointwise ◌==◌)
words = record { told = λ xs ys. (pointwise_decides unsigned_Decides xs ys).0; itself = λ xs. (pointwise_decides unsigned_Decides xs xs).1 (search rules) }

message : Tells message_eq.ghosts.eq
message = record {
  told = λ m n e. search (rules, unsigned_Decides, first_so, second_so, words.told);
  itself = λ m. search (rules, words.itself);
}

place : Tells place_eq.ghosts.eq
place = record { told = λ p q e. search rules; itself = λ p. search rules }

rights : Tells rights_eq.ghosts.eq
rights = record { told = λ p q e. search rules; itself = λ p. search rules }

badge : Tells badge_eq.ghosts.eq
badge = record { told = λ p q e. search rules; itself = λ p. search rules }

prio : Tells prio_eq.ghosts.eq
prio = record { told = λ p q e. search rules; itself = λ p. search rules }

refusal : Tells refusal_eq.ghosts.eq
refusal = record { told = λ p q e. search rules; itself = λ p. search rules }

pub entry_tells : Tells entry_eq.ghosts.eq
entry_tells = values_tell entry_type.enum _ (assumption (
  last word,
  last place,
  fields word (last word),
  fields word (last message),
  fields place (last place),
  fields word (fields word (last message)),
  fields word (fields word (last prio)),
  fields place (fields place (last rights)),
  fields place (fields place (fields rights (last badge))),
  fields word (fields word (fields word (last message))),
))

pub answer_tells : Tells answer_eq.ghosts.eq
answer_tells = values_tell answer_type.enum _ (assumption (
  last word,
  last refusal,
  fields badge (last message),
))
