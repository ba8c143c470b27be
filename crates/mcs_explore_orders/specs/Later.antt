-- What stays true of a search that has interned more rows, and what equal keys imply (own).
use Rattle.std.specs.Prelude.{◌≡◌, ◌↔◌, true, nat_eq, ℕ, zero, suc, List, [], ◌∷◌}
use Rattle.std.specs.Cmp.Lexicographic.{pointwise, same_text}
use Rattle.std.proofs.Common.{refl, sym, ◌∙◌, ap, subst}
use Rattle.mcs_book.specs.Boots.{Boot, IsFaultless}
use Rattle.mcs_turns.specs.Turns.{User, RunState, AreInRange, IsRun, beginning}
use Rattle.mcs_explore_search.specs.Paths.{Path}
use Rattle.mcs_explore_walk.specs.declared.walk.Turn.{Turn}
use Rattle.mcs_explore_equivalence.specs.Runs.{AreAlike, IsReached}
use Rattle.mcs_explore_rows.specs.Rows.{IsKey}
use Rattle.mcs_explore_rows.proofs.Deciding.{rows-alike}
use Rattle.mcs_explore_rows.proofs.Naming.{key-kept, key-one}
use Rattle.mcs_explore_orders.specs.Trails.{Leads}
use Rattle.mcs_explore_orders.specs.Exploring.{Exploring, IsKeyIn, IsLater, HasExactKeys, LooksLike}
use Rattle.mcs_explore_orders.specs.Watching.{GoesOn, Watching}

pub later-self : (e : Exploring) → IsLater e e
later-self e = record { users = refl; boot = refl; exact = refl; numbered = refl; met = λ n r h. h }

pub later-on : (e f g : Exploring) → IsLater e f → IsLater f g → IsLater e g
later-on e f g a b = record {
  users = b.users ∙ a.users;
  boot = b.boot ∙ a.boot;
  exact = b.exact ∙ a.exact;
  numbered = b.numbered ∙ a.numbered;
  met = λ n r h. b.met n r (a.met n r h);
}

pub goes-itself : {W A : Type 0} (by : W → A) (e : Watching W) → GoesOn by e e
goes-itself by e = record { search = later-self e.search; aim = refl }

pub goes-further : {W A : Type 0} (by : W → A) (e f g : Watching W) → GoesOn by e f → GoesOn by f g → GoesOn by e g
goes-further by e f g a b = record { search = later-on e.search f.search g.search a.search b.search; aim = b.aim ∙ a.aim }

pub keeps-start : (e f : Exploring) → IsLater e f → beginning f.users f.boot ≡ beginning e.users e.boot
keeps-start e f a = ap (λ us. beginning us f.boot) a.users ∙ ap (λ b. beginning e.users b) a.boot

pub keeps-steps : (e f : Exploring) → IsLater e f → (l : Turn) (g h : RunState) → Leads e.users l g h ↔ Leads f.users l g h
keeps-steps e f a l g h = (λ x. subst (λ us. Leads us l g h) (sym a.users) x, λ x. subst (λ us. Leads us l g h) a.users x)

exact-on : (e f : Exploring) → IsLater e f → HasExactKeys e → HasExactKeys f
exact-on e f a t = record {
  exact = a.exact ∙ t.exact;
  boot = subst IsFaultless (sym a.boot) t.boot;
  in_range = subst AreInRange (sym a.users) t.in_range;
}

exact-before : (e f : Exploring) → IsLater e f → HasExactKeys f → HasExactKeys e
exact-before e f a t = record {
  exact = sym a.exact ∙ t.exact;
  boot = subst IsFaultless a.boot t.boot;
  in_range = subst AreInRange a.users t.in_range;
}

pub keeps-likeness : (e f : Exploring) → IsLater e f → (g h : RunState) → LooksLike e g h ↔ LooksLike f g h
keeps-likeness e f a g h = (
  λ x known. subst (λ n. AreAlike n f.users f.boot g h) (sym a.numbered) (subst (λ b. AreAlike e.keys.numbered f.users b g h) (sym a.boot) (subst (λ us. AreAlike e.keys.numbered us e.boot g h) (sym a.users) (x (exact-before e f a known)))),
  λ x known. subst (λ n. AreAlike n e.users e.boot g h) a.numbered (subst (λ b. AreAlike f.keys.numbered e.users b g h) a.boot (subst (λ us. AreAlike f.keys.numbered us f.boot g h) a.users (x (exact-on e f a known)))),
)

-- the turns of a path from a run on
path-run : (users : List User) (boot : Boot) (n : ℕ) (g : RunState) (ls : List Turn) (h : RunState) → IsRun users boot n g → Path (Leads users) g ls h → IsReached users boot h
path-run users boot n g [] h r p = record { turns = n; run = subst (IsRun users boot n) p r }
path-run users boot n g (l ∷ ls) h r p = path-run users boot (suc n) p.0 ls h (g, (r, record { core = l.core; pick = l.pick; turn = p.1.0 })) p.1.1

pub path-reaches : (users : List User) (boot : Boot) (ls : List Turn) (h : RunState) → Path (Leads users) (beginning users boot) ls h → IsReached users boot h
path-reaches users boot ls h p = path-run users boot zero (beginning users boot) ls h refl p

pub keeps-keys : (e f : Exploring) → IsLater e f → (g : RunState) (k : List ℕ) → IsKeyIn e g k → IsKeyIn f g k
keeps-keys e f a g k is exact =
    subst (λ n. IsKey n f.keys.met f.users g k) (sym a.numbered) (subst (λ us. IsKey e.keys.numbered f.keys.met us g k) (sym a.users) (key-kept e.keys.numbered e.keys.met f.keys.met e.users g k a.met (is (sym a.exact ∙ exact))))

pub one-key : (e : Exploring) (p q : List Turn) (g h : RunState) (k : List ℕ) → Path (Leads e.users) (beginning e.users e.boot) p g → Path (Leads e.users) (beginning e.users e.boot) q h
    → IsKeyIn e g k → IsKeyIn e h k → LooksLike e g h
one-key e p q g h k x y a b known =
    rows-alike e.keys.numbered e.users e.boot known.boot known.in_range g h (path-reaches e.users e.boot p g x) (path-reaches e.users e.boot q h y)
    (key-one e.keys.numbered e.keys.met e.users g h k (a known.exact) (b known.exact))

pub same-key : (e : Exploring) (g : RunState) (k c : List ℕ) → pointwise nat_eq k c ≡ true → IsKeyIn e g k → IsKeyIn e g c
same-key e g k c same is = subst (λ ns. IsKeyIn e g ns) (same_text k c (sym same)) is
