-- In every legal book each message is taken or dropped at most once.
use Rattle.std.specs.Prelude.{true, ◌≡◌}
use Rattle.mcs_types.specs.declared.id.ObjId.{ObjId}
use Rattle.mcs_types.specs.declared.id.CoreId.{CoreId}
use Rattle.mcs_types.specs.declared.entry.Entry.{Entry}
use Rattle.mcs_types.specs.declared.record.Rec.{Rec}
use Rattle.mcs_types.specs.declared.record.Rec.TheVariants as rec
use Rattle.mcs_book.specs.Logs.{Log, onto}
use Rattle.mcs_book.specs.Boots.{boot_log}
use Rattle.mcs_book.specs.Table.{does}
use Rattle.mcs_book.specs.History.{Book, IsLegal}
use Rattle.mcs_book.specs.Each.{Each, EachRecord}
use Rattle.mcs_book.specs.Fair.{EndsOpen}
use Rattle.mcs_book.proofs.SoundLogs.Keeping.{is_aside, Steps}
use Rattle.mcs_book.proofs.SoundLogs.KeepingRows.{Entering, keeps-does}
use Rattle.mcs_book.proofs.Books.HistoryLaws.{boot-keeps, legal-past}
use Rattle.mcs_book.proofs.Messages.MessageLaws.{open_of-open, sent-open_at}

-- a record aside settles nothing
pub aside-ends : (R : Log) (r : Rec) → is_aside r ≡ true → EndsOpen R r
aside-ends R (rec.Took m p) e = absurd cc
aside-ends R (rec.Dropped m) e = absurd cc
aside-ends R _ e = tt

-- the steps of t that keep it
ends-steps : Steps (Each EndsOpen)
ends-steps = record {
  aside = λ R r e h. (aside-ends R r e, h);
  drops = λ R e x s at is h. (tt, ((open_of-open R x s is).1, h));
  leaves_none = λ R e x at is h. (tt, h);
  leaves_receiver = λ R e x at h. (tt, h);
  leaves_waiter = λ R n x at h. (tt, h);
}

-- the steps of t
ends-entering : (t : ObjId) → Entering t (Each EndsOpen) (Each EndsOpen)
ends-entering t = record {
  steps = ends-steps;
  ends = λ R h. h;
  hands = λ R s p number sender first h. (tt, (sent-open_at R s number h, (tt, h)));
  takes = λ R e x s first is h. (tt, ((open_of-open R x s is).1, h));
  sends_alone = λ R s number sender none h. (tt, (tt, h));
  receives = λ R e r none h. (tt, h);
  waits = λ R n h. (tt, h);
  gives_up = λ R s h. (tt, h);
}

-- each entry keeps it
pub does-ends_open : (R : Log) (core : CoreId) (t : ObjId) (entry : Entry) → Each EndsOpen R → Each EndsOpen (onto ((does R core t entry).records) R)
does-ends_open R core t entry = keeps-does t (Each EndsOpen) (Each EndsOpen) (ends-entering t) R core entry

-- the law: a legal book takes each message at most once
pub legal-taken_once : (b : Book) → IsLegal b → EachRecord EndsOpen b
legal-taken_once b legal =
    legal-past (Each EndsOpen) (λ R core t entry enters. does-ends_open R core t entry) (boot_log b.boot.lines) b.lines legal.lines
    (boot-keeps (Each EndsOpen) tt (λ R r e h. (aside-ends R r e, h)) b.boot.lines)
