-- How a program continues, line by line, and what it puts into a message.
use Rattle.std.specs.Prelude.{ℕ, zero, suc, ◌≡◌, ◌<◌, ◌≤◌, ◌%◌, ◌^◌, ◌==◌, ◌&&◌, Bool, true, false, cond, set, is_none, length, List, [], ◌∷◌, Option, Some, None, slice_get}
use Rattle.std.specs.List.{All}
use Rattle.std.proofs.Common.{refl, ap, sym, ◌∙◌, subst, lit<}
use Rattle.std.proofs.lemmas.Nat.{mod_below}
use Rattle.std.proofs.lemmas.List.Elements.{All-set}
use Rattle.std.proofs.lemmas.List.{length-set}
use Rattle.mcs_types.specs.Limits.{label_bits, word_limit}
use Rattle.mcs_types.specs.Ranges.{InRange, IsMessage, IsWord}
use Rattle.mcs_types.specs.Views.{Content}
use Rattle.mcs_types.specs.declared.entry.Answer.{Answer}
use Rattle.mcs_types.specs.declared.entry.Entry.{Entry}
use Rattle.mcs_types.specs.declared.entry.Entry.TheVariants as entry
use Rattle.mcs_turns.specs.declared.program.Op.{Op}
use Rattle.mcs_turns.specs.declared.program.Saved.{Saved}
use Rattle.mcs_turns.specs.declared.program.Fill.{Fill}
use Rattle.mcs_turns.specs.declared.program.Settled.{Settled}
use Rattle.mcs_turns.specs.Programs.{settled, op_given, op_saved, op_next, saved_in, label_by, filled_label, words_by, filled_words, filled_message, filled}

module _ (ops : List Op) (t : Answer) where
  abbrev by : ℕ → Saved → ℕ → Option Op → Settled
  by n s at o = elim o [
    | None ↦ record { number = None; saved = s }
    | Some o ↦ elim (op_given o) [ Some number ↦ record { number = Some number; saved = s } | None ↦ settled n ops t (op_saved t s o) (op_next t s at o) ]
  ]

  abbrev by_given : ℕ → Saved → ℕ → Op → Option ℕ → Settled
  by_given n s at o g = elim g [ Some number ↦ record { number = Some number; saved = s } | None ↦ settled n ops t (op_saved t s o) (op_next t s at o) ]

  -- a line that gives no entry
  pub settled-on : (m n : ℕ) (s : Saved) (at : ℕ) (o : Op) → m ≡ suc n → slice_get ops at ≡ Some o → op_given o ≡ None → settled m ops t s at ≡ settled n ops t (op_saved t s o) (op_next t s at o)
  settled-on m n s at o e is none = ap (λ k. settled k ops t s at) e ∙ ap (by n s at) is ∙ ap (by_given n s at o) none

  -- a line that gives one
  pub settled-given : (m n : ℕ) (s : Saved) (at : ℕ) (o : Op) (number : ℕ) → m ≡ suc n → slice_get ops at ≡ Some o → op_given o ≡ Some number → settled m ops t s at ≡ record { number = Some number; saved = s }
  settled-given m n s at o number e is some = ap (λ k. settled k ops t s at) e ∙ ap (by n s at) is ∙ ap (by_given n s at o) some

  -- no line
  pub settled-none : (m : ℕ) (s : Saved) (at : ℕ) → slice_get ops at ≡ None → settled m ops t s at ≡ record { number = None; saved = s }
  settled-none zero s at is = refl
  settled-none (suc n) s at is = ap (by n s at) is

label-range : (f : Fill) (number : ℕ) (s : Saved) (l : ℕ) → l < 2 ^ label_bits → label_by f number s l < 2 ^ label_bits
label-range f number s l low = go (is_none f.word && (f.number == number))
  where
    go : (b : Bool) → cond b (saved_in s f.from % 2 ^ label_bits) l < 2 ^ label_bits
    go true = mod_below (saved_in s f.from) (2 ^ label_bits) (lit< tt)
    go false = low

labels-range : (fs : List Fill) (number : ℕ) (s : Saved) (l : ℕ) → l < 2 ^ label_bits → filled_label fs number s l < 2 ^ label_bits
labels-range [] number s l low = low
labels-range (f ∷ fs) number s l low = labels-range fs number s (label_by f number s l) (label-range f number s l low)

word-range : (f : Fill) (number : ℕ) (s : Saved) (ws : List ℕ) → All IsWord ws → All IsWord (words_by f number s ws)
word-range f number s ws all = go (f.number == number) f.word
  where
    go : (b : Bool) (o : Option ℕ) → All IsWord (cond b (elim o [ None ↦ ws | Some i ↦ set ws i (saved_in s f.from % 2 ^ 64) ]) ws)
    go false o = all
    go true None = all
    go true (Some i) = All-set IsWord ws i (saved_in s f.from % 2 ^ 64) (mod_below (saved_in s f.from) (2 ^ 64) (lit< tt)) all

word-length : (f : Fill) (number : ℕ) (s : Saved) (ws : List ℕ) → length (words_by f number s ws) ≡ length ws
word-length f number s ws = go (f.number == number) f.word
  where
    go : (b : Bool) (o : Option ℕ) → length (cond b (elim o [ None ↦ ws | Some i ↦ set ws i (saved_in s f.from % 2 ^ 64) ]) ws) ≡ length ws
    go false o = refl
    go true None = refl
    go true (Some i) = length-set ws i (saved_in s f.from % 2 ^ 64)

words-range : (fs : List Fill) (number : ℕ) (s : Saved) (ws : List ℕ) → All IsWord ws → All IsWord (filled_words fs number s ws)
words-range [] number s ws all = all
words-range (f ∷ fs) number s ws all = words-range fs number s (words_by f number s ws) (word-range f number s ws all)

pub words-length : (fs : List Fill) (number : ℕ) (s : Saved) (ws : List ℕ) → length (filled_words fs number s ws) ≡ length ws
words-length [] number s ws = refl
words-length (f ∷ fs) number s ws = words-length fs number s (words_by f number s ws) ∙ word-length f number s ws

message-range : (fs : List Fill) (number : ℕ) (s : Saved) (m : Content) → IsMessage m → IsMessage (filled_message fs number s m)
message-range fs number s m is = record {
  label = labels-range fs number s m.label is.label;
  few = subst (λ n. n ≤ word_limit) (sym (words-length fs number s m.words)) is.few;
  words = words-range fs number s m.words is.words;
}

-- what is kept is in range
pub filled-range : (fs : List Fill) (number : ℕ) (s : Saved) (e : Entry) → InRange e → InRange (filled fs number s e)
filled-range fs number s (entry.Send x m) h = (h.0, message-range fs number s m h.1)
filled-range fs number s (entry.NbSend x m) h = (h.0, message-range fs number s m h.1)
filled-range fs number s (entry.Call x m) h = (h.0, message-range fs number s m h.1)
filled-range fs number s (entry.ReplyRecv x r m) h = (h.0, h.1, message-range fs number s m h.2)
filled-range fs number s (entry.NbSendRecv x y r m) h = (h.0, h.1, h.2, message-range fs number s m h.3)
filled-range fs number s (entry.NbSendWait x y m) h = (h.0, h.1, message-range fs number s m h.2)
filled-range fs number s e h = h
