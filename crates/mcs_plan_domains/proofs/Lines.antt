-- Lines that a plan has stay in it, whatever follows.
use Rattle.std.proofs.Common.{◌≡◌, ℕ, zero, suc, Bool, true, false, cond, List, [], ◌∷◌, ◌++◌, Option, Some, None, sym, ap, ◌∙◌, append_assoc, append-nil}
use Rattle.std.specs.List.{concat}
use denote.Ref.{Bor}
use Rattle.mcs_plan_domains.specs.declared.questions.Before.{Before}
use Rattle.mcs_plan_domains.specs.declared.questions.Before.TheVariants as stands
use Rattle.mcs_plan_domains.specs.declared.statements.Statement.{Statement}
use Rattle.mcs_plan_domains.specs.declared.system.Domain.{Domain}
use Rattle.mcs_plan_domains.specs.declared.system.Plain.{Plain}
use Rattle.mcs_plan_domains.specs.Boots.{passive_line}
use Rattle.mcs_plan_domains.specs.Channels.{HasLine, IsWhole}
use Rattle.mcs_plan_domains.specs.Lowered.{plain_put}
use Rattle.mcs_plan_domains.specs.Monitors.{arms_put, bound_put, head_put, idle_put, program_if, program_put, programs_put, tail_put, unbound_put}
use Rattle.mcs_plan_domains.specs.Pages.{Page, blank, ended, joined, last_put, put}
use Rattle.mcs_plan_domains.specs.Questions.{after_word, question_put, questions_put, word_put, words_asked}

abbrev page : List ℕ → List ℕ → Page
page text lines = record { text = text; lines = lines }

page_same : (t u l m : List ℕ) → t ≡ u → l ≡ m → page t l ≡ page u m
page_same t u l m a b = ap (λ x. page x l) a ∙ ap (λ x. page u x) b

put_after : (p q : Page) (t : List ℕ) → put (joined p q) t ≡ joined p (put q t)
unfolding put joined
put_after p q t = ap (λ x. page x (p.lines ++ q.lines)) (append_assoc p.text q.text t)

ended_after : (p q : Page) (n : ℕ) → ended (joined p q) n ≡ joined p (ended q n)
unfolding ended joined
ended_after p q n = page_same _ _ _ _ (append_assoc p.text q.text (10 ∷ [])) (append_assoc p.lines q.lines (n ∷ []))

joined_after : (p q r : Page) → joined (joined p q) r ≡ joined p (joined q r)
unfolding joined
joined_after p q r = page_same _ _ _ _ (append_assoc p.text q.text r.text) (append_assoc p.lines q.lines r.lines)

joined_blank : (p : Page) → joined p blank ≡ p
unfolding joined
joined_blank p = page_same _ _ _ _ (append-nil p.text) (append-nil p.lines)

put_nothing : (p : Page) → put p [] ≡ p
unfolding put
put_nothing p = ap (λ x. page x p.lines) (append-nil p.text)

put_both : (p : Page) (t u : List ℕ) → put (put p t) u ≡ put p (t ++ u)
unfolding put
put_both p t u = ap (λ x. page x p.lines) (append_assoc p.text t u)

-- texts, one after another
abbrev pub texts_put : Page → List (List ℕ) → Page
texts_put p [] = p
texts_put p (t ∷ ts) = texts_put (put p t) ts

pub texts_joined : (p : Page) (ts : List (List ℕ)) → texts_put p ts ≡ put p (concat ts)
texts_joined p [] = sym (put_nothing p)
texts_joined p (t ∷ ts) = texts_joined (put p t) ts ∙ put_both p t (concat ts)

-- a page has the line by which it ends
pub last_line : (p : Page) (text : List ℕ) (line : ℕ) → IsWhole p → HasLine (last_put p text line) text line
last_line p text line whole = record { before = p; after = blank; whole = whole; is = sym (joined_blank (last_put p text line)) }

pub kept_put : (p : Page) (more text : List ℕ) (line : ℕ) → HasLine p text line → HasLine (put p more) text line
kept_put p more text line h = record { before = h.before; after = put h.after more; whole = h.whole; is = ap (λ q. put q more) h.is ∙ put_after _ h.after more }

pub kept_ended : (p : Page) (n : ℕ) (text : List ℕ) (line : ℕ) → HasLine p text line → HasLine (ended p n) text line
kept_ended p n text line h = record { before = h.before; after = ended h.after n; whole = h.whole; is = ap (λ q. ended q n) h.is ∙ ended_after _ h.after n }

pub kept_joined : (p more : Page) (text : List ℕ) (line : ℕ) → HasLine p text line → HasLine (joined p more) text line
kept_joined p more text line h = record { before = h.before; after = joined h.after more; whole = h.whole; is = ap (λ q. joined q more) h.is ∙ joined_after _ h.after more }

pub either : (P : Page → Type 0) (b : Bool) (p q : Page) → P p → P q → P (cond b p q)
either P true p q a b = a
either P false p q a b = b

module _ (text : List ℕ) (line : ℕ) where
  pub kept_plain : (p : Page) (ls : List Plain) → HasLine p text line → HasLine (plain_put p ls) text line
  kept_plain p [] h = h
  kept_plain p (l ∷ ls) h = kept_plain (last_put p l.text.now l.line) ls (kept_ended _ l.line text line (kept_put p l.text.now text line h))

  kept_words : (p : Page) (b : Before) (ws : List (Bor (List ℕ))) → HasLine p text line → HasLine (words_asked p b ws) text line
  kept_words p b [] h = h
  kept_words p b (w ∷ ws) h = kept_words (word_put p b w.now) (after_word b w.now) ws (kept_put _ w.now text line (kept_put p _ text line h))

  pub kept_questions : (p : Page) (qs : List Statement) → HasLine p text line → HasLine (questions_put p qs) text line
  kept_questions p [] h = h
  kept_questions p (q ∷ qs) h = kept_questions (question_put p q) qs (kept_ended _ q.line text line (kept_words p stands.Nothing q.words.items h))

  more_put : (p : Page) (more : List ℕ) → HasLine p text line → HasLine (put p more) text line
  more_put p more h = kept_put p more text line h

  more_last : (p : Page) (more : List ℕ) (n : ℕ) → HasLine p text line → HasLine (last_put p more n) text line
  more_last p more n h = kept_ended _ n text line (kept_put p more text line h)

  kept_bound : (p : Page) (d : Domain) → HasLine p text line → HasLine (bound_put p d) text line
  kept_bound p d h = more_last _ _ d.line (more_put _ _ (more_put _ _ (more_put _ _ (more_put p _ h))))

  kept_arm : (p : Page) (d : Domain) (first : Bool) → HasLine p text line → HasLine (unbound_put p d first) text line
  kept_arm p d first h =
      kept_bound _ d (more_last _ _ d.line (more_put _ _ (more_put _ _ (more_last _ _ d.line (more_put _ _ (more_put p _ h))))))

  kept_head : (p : Page) (core n : ℕ) → HasLine p text line → HasLine (head_put p core n) text line
  kept_head p core n h =
      kept_ended _ n text line (more_put _ _ (more_put _ _ (more_last _ _ n (more_last _ _ n (more_put _ _ (more_put p _ h))))))

  kept_tail : (p : Page) (n : ℕ) → HasLine p text line → HasLine (tail_put p n) text line
  kept_tail p n h = more_last _ _ n (more_last _ _ n (more_last p _ n h))

  kept_idle : (p : Page) (core n : ℕ) → HasLine p text line → HasLine (idle_put p core n) text line
  kept_idle p core n h = more_last _ _ n (more_put _ _ (more_put p _ h))

  kept_arms : (p : Page) (core : ℕ) (first : Bool) (ds : List Domain) → HasLine p text line → HasLine (arms_put p core first ds) text line
  kept_arms p core first [] h = h
  kept_arms p core first (d ∷ ds) h =
      either (λ q. HasLine q text line) _ _ _ (kept_arms (unbound_put p d first) core false ds (kept_arm p d first h)) (kept_arms p core first ds h)

  kept_program : (p : Page) (ds : List Domain) (core n : ℕ) → HasLine p text line → HasLine (program_put p ds core n) text line
  kept_program p ds core n h = kept_idle _ core n (kept_tail _ n (kept_arms _ core true ds (kept_head p core n h)))

  kept_program_if : (p : Page) (ds : List Domain) (core : ℕ) (n : Option ℕ) → HasLine p text line → HasLine (program_if p ds core n) text line
  kept_program_if p ds core None h = h
  kept_program_if p ds core (Some n) h = kept_program p ds core n h

  pub kept_programs : (p : Page) (ds : List Domain) (n : ℕ) → HasLine p text line → HasLine (programs_put p ds n) text line
  kept_programs p ds zero h = h
  kept_programs p ds (suc n) h = kept_program_if (programs_put p ds n) ds n (passive_line ds n) (kept_programs p ds n h)
