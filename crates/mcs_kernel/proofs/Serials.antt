-- No book gives each serial of a kind: its boot makes at most 256 objects of it, and each line few.
use Rattle.std.specs.Prelude.{ℕ, ◌≡◌, ◌<◌, ◌≤◌, ◌+◌, ◌*◌, Bool, true, false, cond, nat_lt, List, [], ◌∷◌, length, IsTrue, is_ok, Some, None}
use Rattle.std.proofs.Common.{ap, subst, refl, arith}
use Rattle.mcs_types.specs.declared.id.Kind.{Kind}
use Rattle.mcs_types.specs.declared.id.Kind.TheVariants as kind
use Rattle.mcs_types.specs.declared.boot.BootLine.{BootLine}
use Rattle.mcs_types.specs.declared.boot.BootLine.TheVariants as boot
use Rattle.mcs_types.specs.declared.record.Rec.{Rec}
use Rattle.mcs_types.specs.Ids.{same_kind}
use Rattle.mcs_types.specs.Limits.{object_limit, cnode_limit, line_limit, record_limit}
use Rattle.mcs_types.proofs.Ids.{same_kind-equal}
use Rattle.mcs_book.specs.Logs.{Log, onto, counted}
use Rattle.mcs_book.specs.Objects.{makes_kind, number_of}
use Rattle.mcs_book.specs.Threads.{threads}
use Rattle.mcs_book.specs.Boots.{boot_line, boot_log, boot_check, AreFaultless}
use Rattle.mcs_book.specs.History.{Book, Line, IsLegal, AreLegal, past, log_of}
use Rattle.mcs_book.specs.Table.{does}
use Rattle.mcs_book.proofs.Lengths.Rows.{does-short, past-threads}
use Rattle.mcs_caps.specs.NewObjects.{HasSerials}
use Rattle.mcs_boots.specs.Booted.{IsBooting}
use Rattle.mcs_boots.proofs.Booting.{length-made, few-made, held, boot-begun}

-- one more at most
pub one-more : (b : Bool) (n : ℕ) → cond b (n + 1) n ≤ n + 1
one-more true n = omega arith
one-more false n = omega arith

-- records are counted once at most
counted-onto : (p : Rec → Bool) (recs : List Rec) (R : Log) → counted p (onto recs R) ≤ counted p R + length recs
counted-onto p [] R = omega arith
counted-onto p (r ∷ recs) R =
    let one = one-more (p r) (counted p R) in
    let all = counted-onto p recs (r ∷ R) in
    omega (arith, one, all)

-- one more of a kind j, of which fewer than the limit are there
one-few : (R : Log) (j k : Kind) (limit : ℕ) → IsBooting R → nat_lt (number_of R j) limit ≡ true → limit ≤ object_limit → counted (makes_kind k) R ≤ object_limit
    → cond (same_kind j k) (counted (makes_kind k) R + 1) (counted (makes_kind k) R) ≤ object_limit
one-few R j k limit boots room le few = go (same_kind j k) refl
  where
    go : (b : Bool) → same_kind j k ≡ b → cond b (counted (makes_kind k) R + 1) (counted (makes_kind k) R) ≤ object_limit
    go true e =
        let made : counted (makes_kind k) R < limit = subst (λ (x : Kind). counted (makes_kind x) R < limit) (same_kind-equal j k e) (few-made R j limit boots room) in
        omega (arith, made, le)
    go false e = few

-- a line of the boot that is without fault leaves few of a kind
line-few : (cores : ℕ) (R : Log) (k : Kind) (line : BootLine) → IsBooting R → IsTrue (is_ok (boot_check cores R line)) → counted (makes_kind k) R ≤ object_limit → counted (makes_kind k) (onto (boot_line R line) R) ≤ object_limit
line-few cores R k (boot.Thread priority maximum root guard runs (Some s)) boots h few =
    one-few R kind.Thread k object_limit boots (held cores R (boot.Thread priority maximum root guard runs (Some s)) h).room (omega arith) few
line-few cores R k (boot.Thread priority maximum root guard runs None) boots h few = one-few R kind.Thread k object_limit boots (held cores R (boot.Thread priority maximum root guard runs None) h).room (omega arith) few
line-few cores R k (boot.CNode radix) boots h few = one-few R kind.CNode k cnode_limit boots (held cores R (boot.CNode radix) h).room (omega arith) few
line-few cores R k boot.Endpoint boots h few = one-few R kind.Endpoint k object_limit boots (held cores R boot.Endpoint h).room (omega arith) few
line-few cores R k boot.Notification boots h few = one-few R kind.Notification k object_limit boots (held cores R boot.Notification h).room (omega arith) few
line-few cores R k boot.Reply boots h few = one-few R kind.Reply k object_limit boots (held cores R boot.Reply h).room (omega arith) few
line-few cores R k (boot.Context core) boots h few = one-few R kind.Context k object_limit boots (held cores R (boot.Context core) h).room (omega arith) few
line-few cores R k (boot.Slot c i cap) boots h few = few
line-few cores R k (boot.Tie t n) boots h few = few

-- a boot without fault makes few of a kind
boot-few : (cores : ℕ) (k : Kind) (lines : List BootLine) → AreFaultless cores lines → counted (makes_kind k) (boot_log lines) ≤ object_limit
unfolding boot_log
boot-few cores k [] h = omega arith
boot-few cores k (line ∷ lines) h = line-few cores (boot_log lines) k line (boot-begun lines) h.0 (boot-few cores k lines h.1)

-- each line makes fewer of a kind than it may have records
lines-few : (B : Log) (k : Kind) (ls : List Line) → AreLegal B ls → length (threads B) ≤ object_limit → counted (makes_kind k) (past B ls) ≤ counted (makes_kind k) B + record_limit * length ls
lines-few B k [] legal few = omega arith
lines-few B k (l ∷ ls) legal few =
    let R : Log = past B ls in
    let short = does-short R l.step.core l.step.thread l.step.entry in
    let records : length l.records ≡ length ((does R l.step.core l.step.thread l.step.entry).records) = ap length legal.0.records in
    let same_threads : length (threads R) ≡ length (threads B) = ap length (past-threads B ls legal.1) in
    let made = counted-onto (makes_kind k) l.records R in
    let before = lines-few B k ls legal.1 few in
    omega (arith, short, records, same_threads, made, before, few)

-- in a legal book with room for a line, of no kind was each serial given
pub serials-left : (b : Book) → IsLegal b → length b.lines < line_limit → HasSerials (log_of b)
serials-left b legal room k =
    let B : Log = boot_log b.boot.lines in
    let few : counted (makes_kind kind.Thread) B ≤ object_limit = boot-few b.boot.cores kind.Thread b.boot.lines legal.boot.lines in
    let all : length (threads B) ≡ counted (makes_kind kind.Thread) B = length-made B kind.Thread in
    let made = lines-few B k b.lines legal.lines (omega (arith, few, all)) in
    let begun = boot-few b.boot.cores k b.boot.lines legal.boot.lines in
    omega (arith, made, begun, room)
