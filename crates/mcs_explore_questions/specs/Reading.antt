-- The words of a question, which are taken one after another (own).
use Rattle.std.specs.Prelude.{ℕ, ◌≡◌, Bool, true, false, List, [], ◌∷◌, Option, Some, None, bytes_eq, map, if◌then◌else◌}
use denote.Ref.{Bor}
use Rattle.mcs_explore_questions.specs.declared.fault.QuestionFault.{QuestionFault}
use Rattle.mcs_explore_questions.specs.declared.fault.QuestionFault.TheVariants as fault

-- a reading that gives something, and then one that continues with it
infixl 10 ◌>>=◌
abbrev pub ◌>>=◌ : {A B : Type 0} → Option A → (A → Option B) → Option B
(Some x) >>= f = f x
None >>= f = None

-- a test, and then a reading
infixl 10 ◌>>◌
abbrev pub ◌>>◌ : {A B : Type 0} → Option A → Option B → Option B
(Some x) >> next = next
None >> next = None

-- nothing is read where the test fails
abbrev pub need : Bool → Option (Unit {0})
need true = Some tt
need false = None

-- the first reading that gives something
abbrev pub either : {A : Type 0} → Option A → Option A → Option A
either None next = next
either (Some x) next = Some x

-- a word, and those after it
abbrev pub word_then : List (List ℕ) → Option (List ℕ × List (List ℕ))
word_then [] = None
word_then (word ∷ words) = Some (word, words)

-- the words after one that is expected
abbrev pub after_word : List ℕ → List (List ℕ) → Option (List (List ℕ))
after_word wanted [] = None
after_word wanted (word ∷ words) = if bytes_eq word wanted then Some words else None

-- no word is left
abbrev pub end_of : List (List ℕ) → Option (Unit {0})
end_of [] = Some tt
end_of (word ∷ words) = None

-- whether a word is left
abbrev pub has_words : List (List ℕ) → Bool
has_words [] = false
has_words (word ∷ words) = true

-- the texts of words
abbrev pub texts : List (Bor (List ℕ)) → List (List ℕ)
texts words = map (λ w. w.now) words

-- whether a fault says that memory was refused
abbrev pub is_of_memory : QuestionFault → Bool
is_of_memory fault.OutOfMemory = true
is_of_memory e = false

-- a fault that does not say that memory was refused is one of words that say nothing
abbrev pub Refuses : {A : Type 0} → Option A → QuestionFault → Type 0
Refuses read e = is_of_memory e ≡ false → read ≡ None
