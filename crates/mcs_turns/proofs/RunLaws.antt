-- What holds of every run, by one turn after another.
use Rattle.std.specs.Prelude.{ℕ, zero, suc, ◌≡◌, ◌+◌, map, length, List, [], ◌∷◌, None}
use Rattle.std.proofs.Common.{refl, ap, sym, ◌∙◌, subst}
use Rattle.mcs_book.specs.Boots.{Boot, IsFaultless}
use Rattle.mcs_book.specs.History.{IsLegal}
use Rattle.mcs_turns.specs.declared.position.Pick.{Pick}
use Rattle.mcs_turns.specs.declared.position.Position.{Position}
use Rattle.mcs_turns.specs.declared.reached.Reached.{Reached}
use Rattle.mcs_turns.specs.Due.{stale_after, none_stale}
use Rattle.mcs_turns.specs.Turns.{User, RunState, put_at, all_answered, position_after, entered, given, outcome, saved_at, started, AreInRange, IsRun}
use Rattle.mcs_turns.specs.Mail.{reached_from}
use Rattle.mcs_types.specs.declared.entry.Step.{Step}
use Rattle.mcs_turns.proofs.Settling.{filled-range}

pub run-legal : (users : List User) (boot : Boot) → IsFaultless boot → AreInRange users → (n : ℕ) (g : RunState) → IsRun users boot n g → IsLegal g.book
run-legal users boot whole range zero g run = subst (λ (h : RunState). IsLegal h.book) (sym run) (record { boot = whole; lines = tt })
run-legal users boot whole range (suc n) h (g, (run, f)) =
    let before : IsLegal g.book = run-legal users boot whole range n g run in
    subst (λ (k : RunState). IsLegal k.book) (sym f.turn.after) (record {
      boot = before.boot;
      lines = (record { enters = f.turn.enters; in_range = filled-range f.turn.user.fills f.pick.number (saved_at g f.pick.user) f.turn.entry (range f.pick.user f.pick.number f.turn.user f.turn.entry f.turn.is_user f.turn.is_entry); answer = refl; records = refl }, before.lines);
    })

length-put : {A : Type 0} (i : ℕ) (x : A) (ys : List A) → length (put_at i x ys) ≡ length ys
length-put i x [] = refl
length-put zero x (y ∷ ys) = refl
length-put (suc i) x (y ∷ ys) = ap (λ n. suc n) (length-put i x ys)

length-stale : (core user i : ℕ) (picks : List (List Pick)) (ss : List (List Pick)) → length (stale_after core user i picks ss) ≡ length ss
length-stale core user i picks [] = refl
length-stale core user i [] (s ∷ ss) = ap (λ n. suc n) (length-stale core user (i + 1) [] ss)
length-stale core user i (k ∷ ks) (s ∷ ss) = ap (λ n. suc n) (length-stale core user (i + 1) ks ss)

length-none : (n : ℕ) → length (none_stale n) ≡ n
length-none zero = refl
length-none (suc n) = ap (λ m. suc m) (length-none n)

length-map : (users : List User) → length (map started users) ≡ length users
length-map [] = refl
length-map (u ∷ us) = ap (λ n. suc n) (length-map us)

length-answered : (rs : List Reached) (own i : ℕ) (us : List User) (ps : List Position) → length (all_answered rs own i us ps) ≡ length ps
length-answered rs own i us [] = refl
length-answered rs own i us (p ∷ ps) = ap (λ n. suc n) (length-answered rs own (i + 1) us ps)

long-entered : (users : List User) (picks : List (List Pick)) (u : User) (s : Step) (k : Pick) (g : RunState) → length (entered users picks u s k g).places ≡ length g.places
long-entered users picks u s k g =
    let there = position_after u k.number (saved_at g k.user) (outcome g.book s).answer in
    length-answered (reached_from None (outcome g.book s).records) k.user 0 users (put_at k.user there g.places) ∙ length-put k.user there g.places

-- how long the parts of a run are
pub record IsLong (users : List User) (boot : Boot) (n : ℕ) (g : RunState) : Type 0 where
  pub kept : g.book.boot ≡ boot
  pub lines : length g.book.lines ≡ n
  pub places : length g.places ≡ length users
  pub stale : length g.stale ≡ boot.cores

pub run-long : (users : List User) (boot : Boot) (n : ℕ) (g : RunState) → IsRun users boot n g → IsLong users boot n g
run-long users boot zero g run = subst (λ (h : RunState). IsLong users boot zero h) (sym run) (record { kept = refl; lines = refl; places = length-map users; stale = length-none boot.cores })
run-long users boot (suc n) h (g, (run, f)) =
    let before : IsLong users boot n g = run-long users boot n g run in
    subst (λ (k : RunState). IsLong users boot (suc n) k) (sym f.turn.after) (record {
      kept = before.kept;
      lines = ap (λ m. suc m) before.lines;
      places = long-entered users f.turn.picks f.turn.user (record { core = f.core; thread = f.turn.user.thread; entry = given g f.turn.user f.pick f.turn.entry }) f.pick g ∙ before.places;
      stale = length-stale _ f.pick.user 0 f.turn.picks g.stale ∙ before.stale;
    })
