-- Logs that are alike are so but for numbers; and where numbers too are alike, so is what an entry
-- does.
use Rattle.std.specs.Prelude.{ℕ, ◌≡◌, ◌+◌, cond, List, [], ◌∷◌, Some, option_map}
use Rattle.std.proofs.Common.{refl, ap, sym, ◌∙◌, subst}
use Rattle.mcs_types.specs.declared.id.ObjId.{ObjId}
use Rattle.mcs_types.specs.declared.id.CoreId.{CoreId}
use Rattle.mcs_types.specs.declared.id.Kind.TheVariants as kind
use Rattle.mcs_types.specs.declared.entry.Entry.{Entry}
use Rattle.mcs_types.specs.declared.record.Letter.{Letter}
use Rattle.mcs_types.specs.declared.record.Rec.{Rec}
use Rattle.mcs_types.specs.declared.record.Rec.TheVariants as rec
use Rattle.mcs_types.specs.Ids.{same}
use Rattle.mcs_book.specs.Logs.{Log, onto}
use Rattle.mcs_book.specs.Growing.{growing_open, unless_number}
use Rattle.mcs_book.specs.Messages.{next_message, is_sent}
use Rattle.mcs_book.specs.Pieces.{Outcome}
use Rattle.mcs_book.specs.Sound.{Sound, Allowed, IsThere}
use Rattle.mcs_book.specs.Table.{does}
use Rattle.mcs_explore_equivalence.specs.Alike.{Alike}
use Rattle.mcs_explore_equivalence.specs.ButNumbers.{unnumbered, AlikeButNumbers, open_number, Matches, MatchAll}
use Rattle.mcs_explore_equivalence.proofs.Adding.{sound-before, alike-after, alike-took, alike-dropped}
use Rattle.mcs_explore_equivalence.proofs.Acting.{MatchOut}
use Rattle.mcs_explore_equivalence.proofs.Entries.{entry-same}

pub but-numbers : (R S : Log) → Alike R S → AlikeButNumbers R S
but-numbers R S a = record {
  left = a.left;
  right = a.right;
  counts = a.counts;
  lists = a.lists;
  made = a.made;
  closed = a.closed;
  forms = a.forms;
  radices = a.radices;
  prios = a.prios;
  modes = a.modes;
  words = a.words;
  queues = a.queues;
  replies = a.replies;
  bounds = a.bounds;
  owed = a.owed;
  holders = a.holders;
  homes = a.homes;
  slots = a.slots;
  held = a.held;
  lines = a.lines;
  chains = a.chains;
  letters = λ x. ap (λ o. option_map unnumbered o) (a.letters x);
}

pub with-numbers : (R S : Log) → AlikeButNumbers R S → ((x : ObjId) → growing_open R x ≡ growing_open S x) → next_message R ≡ next_message S → Alike R S
with-numbers R S a letters sent = record {
  left = a.left;
  right = a.right;
  counts = a.counts;
  lists = a.lists;
  made = a.made;
  closed = a.closed;
  forms = a.forms;
  radices = a.radices;
  prios = a.prios;
  modes = a.modes;
  words = a.words;
  queues = a.queues;
  replies = a.replies;
  bounds = a.bounds;
  owed = a.owed;
  holders = a.holders;
  homes = a.homes;
  slots = a.slots;
  held = a.held;
  lines = a.lines;
  chains = a.chains;
  letters = letters;
  sent = sent;
}

-- after the same record, allowed in both
after-but : (r : Rec) (R S : Log) → Alike R S → Allowed R r → Allowed S r → AlikeButNumbers (r ∷ R) (r ∷ S)
after-but (rec.Took m p) R S a ok ok' = alike-took m m p R S (but-numbers R S a) (λ y. ap (λ o. option_map unnumbered (unless_number m o)) (a.letters y)) ok ok'
after-but (rec.Dropped m) R S a ok ok' = alike-dropped m m R S (but-numbers R S a) (λ y. ap (λ o. option_map unnumbered (unless_number m o)) (a.letters y)) ok ok'
after-but r R S a ok ok' = alike-after r R S (but-numbers R S a) refl ok ok'

letters-exact : (r : Rec) (R S : Log) → Alike R S → (x : ObjId) → growing_open (r ∷ R) x ≡ growing_open (r ∷ S) x
letters-exact (rec.Sent y e mode badge message) R S a x =
    ap (λ o. cond (same y x) (Some (record { number = next_message R; sender = y; endpoint = e; mode = mode; badge = badge; message = message })) o) (a.letters x)
    ∙ ap (λ n. cond (same y x) (Some (record { number = n; sender = y; endpoint = e; mode = mode; badge = badge; message = message })) (growing_open S x)) a.sent
letters-exact (rec.Took m p) R S a x = ap (λ o. unless_number m o) (a.letters x)
letters-exact (rec.Dropped m) R S a x = ap (λ o. unless_number m o) (a.letters x)
letters-exact _ R S a x = a.letters x

pub exact-after : (r : Rec) (R S : Log) → Alike R S → Allowed R r → Allowed S r → Alike (r ∷ R) (r ∷ S)
exact-after r R S a ok ok' = with-numbers (r ∷ R) (r ∷ S) (after-but r R S a ok ok') (letters-exact r R S a) (ap (λ n. cond (is_sent r) (n + 1) n) a.sent)

pub exact-onto : (made : List Rec) (R S : Log) → Alike R S → Sound (onto made R) → Sound (onto made S) → Alike (onto made R) (onto made S)
exact-onto [] R S a h k = a
exact-onto (r ∷ made) R S a h k = exact-onto made (r ∷ R) (r ∷ S) (exact-after r R S a (sound-before made (r ∷ R) h).0 (sound-before made (r ∷ S) k).0) h k

-- records that match after alike logs are the same
record-same : (r s : Rec) (R S : Log) → Alike R S → Matches R S r s → r ≡ s
record-same (rec.Took m p) s R S a h = ap (λ n. rec.Took n p) (number-same h.0 m h.1.1.0 h.1.1.1.0 h.1.1.1.1) ∙ h.1.0
  where
    number-same : (n m : ℕ) (x : ObjId) → open_number R x ≡ Some m → open_number S x ≡ Some n → m ≡ n
    number-same n m x e f = let both : Some m ≡ Some n = sym e ∙ ap (λ o. option_map (λ (z : Letter). z.number) o) (a.letters x) ∙ f in cc
record-same (rec.Dropped m) s R S a h = ap (λ n. rec.Dropped n) (number-same h.0 m h.1.1.0 h.1.1.1.0 h.1.1.1.1) ∙ h.1.0
  where
    number-same : (n m : ℕ) (x : ObjId) → open_number R x ≡ Some m → open_number S x ≡ Some n → m ≡ n
    number-same n m x e f = let both : Some m ≡ Some n = sym e ∙ ap (λ o. option_map (λ (z : Letter). z.number) o) (a.letters x) ∙ f in cc
record-same r s R S a h = h

pub records-same : (made more : List Rec) (R S : Log) → Alike R S → MatchAll R S made more → Sound (onto made R) → Sound (onto more S) → made ≡ more
records-same [] [] R S a m h k = refl
records-same [] (s ∷ more) R S a m h k = absurd m
records-same (r ∷ made) [] R S a m h k = absurd m
records-same (r ∷ made) (s ∷ more) R S a m h k =
    let e : r ≡ s = record-same r s R S a m.0 in
    let m' : MatchAll (r ∷ R) (r ∷ S) made more = subst (λ (z : Rec). MatchAll (r ∷ R) (z ∷ S) made more) (sym e) m.1 in
    let k' : Sound (onto more (r ∷ S)) = subst (λ (z : Rec). Sound (onto more (z ∷ S))) (sym e) k in
    let b : Alike (r ∷ R) (r ∷ S) = exact-after r R S a (sound-before made (r ∷ R) h).0 (sound-before more (r ∷ S) k').0 in
    ap (λ (z : Rec). z ∷ made) e ∙ ap (λ l. s ∷ l) (records-same made more (r ∷ R) (r ∷ S) b m' h k')

module _ (R S : Log) (core : CoreId) (t : ObjId) (e : Entry) (a : Alike R S) (there : IsThere R kind.Thread t) (h : Sound (onto (does R core t e).records R)) (k : Sound (onto (does S core t e).records S)) where
  -- an entry has the same answer and the same records on alike logs
  pub exact-same : does R core t e ≡ does S core t e
  exact-same =
      let m : MatchOut R S (does R core t e) (does S core t e) = entry-same R S core t e (but-numbers R S a) there h k in
      let rs : (does R core t e).records ≡ (does S core t e).records = records-same (does R core t e).records (does S core t e).records R S a m.records h k in
      λ i. record { answer = m.answer i; records = rs i }

  -- and leaves alike logs
  pub exact-alike : Alike (onto (does R core t e).records R) (onto (does S core t e).records S)
  exact-alike =
      let same : (does R core t e).records ≡ (does S core t e).records = ap (λ (o : Outcome). o.records) exact-same in
      subst (λ l. Alike (onto (does R core t e).records R) (onto l S)) same (exact-onto (does R core t e).records R S a h (subst (λ l. Sound (onto l S)) (sym same) k))
