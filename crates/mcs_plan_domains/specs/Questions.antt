-- Questions in the words of Microkit: `in protected 1` is in the block `protected.1`.
use Rattle.std.specs.Prelude.{ℕ, Bool, false, ◌&&◌, ◌||◌, nat_le, cond, List, [], ◌∷◌, bytes_eq, codes}
use denote.Ref.{Bor}
use Rattle.mcs_plan_domains.specs.declared.questions.Before.{Before}
use Rattle.mcs_plan_domains.specs.declared.questions.Before.TheVariants as before
use Rattle.mcs_plan_domains.specs.declared.statements.Statement.{Statement}
use Rattle.mcs_plan_domains.specs.Pages.{Page, put, ended}

-- the word of a handler of a channel
abbrev pub is_event : List ℕ → Bool
is_event word = bytes_eq word (codes "protected") || bytes_eq word (codes "notified")

-- a word that begins with a digit
abbrev pub is_channel : List ℕ → Bool
is_channel [] = false
is_channel (b ∷ bs) = nat_le 48 b && nat_le b 57

-- what is before the word that follows this one
abbrev pub after_other : Before → List ℕ → Before
after_other before.In word = cond (is_event word) before.Event before.Word
after_other b word = before.Word

abbrev pub after_word : Before → List ℕ → Before
after_word b word = cond (bytes_eq word (codes "in")) before.In (after_other b word)

-- what is put before a word: the number of a handler's channel follows a dot
abbrev pub between : Before → List ℕ → List ℕ
between before.Nothing word = []
between before.Event word = cond (is_channel word) (codes ".") (codes " ")
between b word = codes " "

abbrev pub word_put : Page → Before → List ℕ → Page
word_put p b word = put (put p (between b word)) word

abbrev pub words_asked : Page → Before → List (Bor (List ℕ)) → Page
words_asked p b [] = p
words_asked p b (w ∷ ws) = words_asked (word_put p b w.now) (after_word b w.now) ws

abbrev pub question_put : Page → Statement → Page
question_put p q = ended (words_asked p before.Nothing q.words.items) q.line

abbrev pub questions_put : Page → List Statement → Page
questions_put p [] = p
questions_put p (q ∷ qs) = questions_put (question_put p q) qs
