-- Lines that a pattern matches, and how many messages were sent before them.
use Rattle.std.specs.Prelude.{ℕ, ◌≡◌, ◌+◌, ◌-◌, ◌==◌, ◌++◌, Bool, true, false, cond, List, [], ◌∷◌, Some, None, drop, length, reverse, slice_get}
use Rattle.std.specs.List.{list_any}
use Rattle.std.proofs.Common.{refl, ap, sym, ◌∙◌, arith}
use Rattle.std.proofs.lemmas.Bool.{ne_eqb}
use Rattle.std.proofs.lemmas.List.{length-reverse}
use mathlib.Core.List.{reverse-cons}
use Rattle.mcs_types.specs.declared.record.Rec.{Rec}
use Rattle.mcs_types.specs.declared.record.Rec.TheVariants.{Sent}
use Rattle.mcs_book.specs.Boots.{boot_log}
use Rattle.mcs_book.specs.History.{Book, Line, line_of_number, log_of, past}
use Rattle.mcs_book.specs.Logs.{Log, onto}
use Rattle.mcs_book.specs.Messages.{next_message}
use Rattle.mcs_text.specs.Table.{record_text}
use Rattle.mcs_sim.specs.Trace.{sent_after, sent_with}
use Rattle.mcs_lab_check.proofs.Finding.{from-there}
use Rattle.mcs_explore_report.specs.Judging.{line_texts, record_lines, newest_texts, last_texts}
use Rattle.mcs_explore_walk.proofs.LastLine.{newest-is}

-- a record whose line is wanted, and one whose line is not
pub line-here : (p : List ℕ → Bool) (n i : ℕ) (rs : List Rec) (r : Rec) → slice_get rs i ≡ Some r → p (record_text n r) ≡ true → list_any p (record_lines n (drop i rs)) ≡ true
line-here p n i rs r at is_it = rw (from-there i rs r at) (rw is_it refl)

pub line-later : (p : List ℕ → Bool) (n m i : ℕ) (rs : List Rec) (r : Rec) → slice_get rs i ≡ Some r → p (record_text n r) ≡ false → m ≡ sent_with n r
    → list_any p (record_lines n (drop i rs)) ≡ list_any p (record_lines m (drop (i + 1) rs))
line-later p n m i rs r at other is = rw (from-there i rs r at) (rw other (ap (λ k. list_any p (record_lines k (drop (i + 1) rs))) (sym is)))

-- how many messages were sent with a record more
pub sent-later : (n m i : ℕ) (rs : List Rec) (r : Rec) → slice_get rs i ≡ Some r → m ≡ sent_with n r → sent_after n (drop i rs) ≡ sent_after m (drop (i + 1) rs)
sent-later n m i rs r at is = rw (from-there i rs r at) (ap (λ k. sent_after k (drop (i + 1) rs)) (sym is))

sent-one : (r : Rec) (R : Log) → next_message (r ∷ R) ≡ sent_with (next_message R) r
sent-one (Sent x e mode badge message) R = refl
sent-one r R = refl

sent-onto : (rs : List Rec) (R : Log) → next_message (onto rs R) ≡ sent_after (next_message R) rs
sent-onto [] R = refl
sent-onto (r ∷ rs) R = sent-onto rs (r ∷ R) ∙ ap (λ n. sent_after n rs) (sent-one r R)

with-from : (n : ℕ) (r : Rec) → sent_with n r ≡ n + sent_with 0 r
with-from n (Sent x e mode badge message) = omega arith
with-from n r = omega arith

sent-from : (n : ℕ) (rs : List Rec) → sent_after n rs ≡ n + sent_after 0 rs
sent-from n [] = omega arith
sent-from n (r ∷ rs) =
    let a = sent-from (sent_with n r) rs in
    let b = sent-from (sent_with 0 r) rs in
    let w = with-from n r in
    omega (arith, a, b, w)

-- the messages that were sent before a line
before-line : (l : Line) (R : Log) → next_message (onto l.records R) - sent_after 0 l.records ≡ next_message R
before-line l R = let a = sent-onto l.records R in let b = sent-from (next_message R) l.records in omega (arith, a, b)

-- the lines that a trace has of the newest line
pub texts-some : (p : List ℕ → Bool) (b : Book) (l : Line) (n : ℕ) → line_of_number b (length b.lines) ≡ Some l → n ≡ next_message (log_of b) - sent_after 0 l.records → list_any p (line_texts n l) ≡ list_any p (last_texts b)
texts-some p b l n at sent = go b.lines refl
  where
    B : Log
    B = boot_log b.boot.lines

    go : (ls : List Line) → b.lines ≡ ls → list_any p (line_texts n l) ≡ list_any p (newest_texts B b.lines)
    go [] none = absurd (nothing none)
      where
        nothing : b.lines ≡ [] → ⊥
        nothing e = let gone = sym at ∙ ap (λ (ls : List Line). line_of_number (record b { lines = ls }) (length ls)) e in absurd cc
    go (k ∷ ls) is =
        let same : k ≡ l = newest-is b l k ls is at in
        let count : n ≡ next_message (past B ls) = sent ∙ ap (λ (ks : List Line). next_message (past B ks) - sent_after 0 l.records) is ∙ ap (λ (x : Line). next_message (onto k.records (past B ls)) - sent_after 0 x.records) (sym same) ∙ before-line k (past B ls) in
        ap (λ m. list_any p (line_texts m l)) count ∙ ap (λ (x : Line). list_any p (line_texts (next_message (past B ls)) x)) (sym same) ∙ ap (λ (ks : List Line). list_any p (newest_texts B ks)) (sym is)
