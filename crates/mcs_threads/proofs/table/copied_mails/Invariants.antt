use Rattle.std.proofs.Common.{◌≡◌, ◌≤◌, length, take, vec_capacity, vec_len}
use Rattle.mcs_threads.proofs.table.copied_mails.Given as goal

abbrev pub invariant-loop-mail : goal.invariant-loop-mail
invariant-loop-mail l = (l.copied.items ≡ take l.mail-index l.mails) × (vec_len l.copied ≡ l.mail-index) × (length l.mails ≤ 256) × (256 ≤ vec_capacity l.copied)
