-- The lines that fill spaces, one by one.
use Rattle.std.proofs.Common.{◌≡◌, ◌++◌, ◌+◌, ◌<◌, ℕ, List, Some, length, take, get_or, suc, sym, ap, ◌∙◌, append_assoc, slice_get, subst, arith}
use Rattle.std.specs.List.{sum_by}
use Rattle.std.proofs.lemmas.List.Sums.{sum_by_more}
use Rattle.std.proofs.lemmas.Option.{slice_get-get_or}
use Rattle.mcs_types.specs.declared.boot.BootLine.{BootLine}
use Rattle.mcs_plan_source.specs.declared.plan.Space.{Space}
use Rattle.mcs_plan_source.specs.Slots.{leaves_of}
use Rattle.mcs_plan_layout.specs.declared.layout.Layout.{Layout}
use Rattle.mcs_plan_layout.specs.declared.boot.Site.{Site}
use Rattle.mcs_plan_layout.specs.Boot.{each, space_lines, before_of, site_of, filling}

module _ (layouts : List Layout) (spaces : List Space) (i : ℕ) (space : Space) (xs : List Space) (same : xs ≡ spaces) (inside : i < length xs)
    (is : space ≡ get_or xs i space) where
  within : i < length spaces
  within = let P : List Space → Type 0 = λ (ys : List Space). i < length ys in subst P same inside

  there : space ≡ get_or spaces i space
  there = is ∙ ap (λ ys. get_or ys i space) same

  -- how many CNodes are before the next space
  pub counted : (before leaves : ℕ) → before ≡ before_of spaces i → leaves ≡ leaves_of space → before + leaves ≡ before_of spaces (i + 1)
  counted before leaves e f =
      let more : sum_by leaves_of (take (i + 1) spaces) ≡ sum_by leaves_of (take i spaces) + leaves_of (get_or spaces i space) = sum_by_more leaves_of spaces i space within in
      let here : leaves_of (get_or spaces i space) ≡ leaves_of space = ap (λ (s : Space). leaves_of s) (sym there) in
      omega (arith, e, f, more, here)

  -- the lines of one space more
  pub filled : (before leaves : ℕ) (first to new : List BootLine) → before ≡ before_of spaces i → leaves ≡ leaves_of space
      → to ≡ first ++ each i (λ p. filling layouts spaces p (slice_get spaces p))
      → new ≡ to ++ space_lines layouts (record { place = i; before = before; leaves = leaves }) space
      → new ≡ first ++ each (i + 1) (λ p. filling layouts spaces p (slice_get spaces p))
  filled before leaves first to new e f done added =
      let lines : ℕ → List BootLine = λ (p : ℕ). filling layouts spaces p (slice_get spaces p) in
      let site : ℕ → ℕ → Site = λ (b : ℕ) (l : ℕ). record { place = i; before = b; leaves = l } in
      let found : slice_get spaces i ≡ Some space = slice_get-get_or spaces i space within ∙ ap Some (sym there) in
      let own : space_lines layouts (site before leaves) space ≡ space_lines layouts (site_of spaces i space) space =
      (λ k. space_lines layouts (site (e k) (f k)) space) in
      let here : space_lines layouts (site before leaves) space ≡ lines i = own ∙ sym (ap (λ o. filling layouts spaces i o) found) in
      let next : suc i ≡ i + 1 = omega arith in
      added ∙ (λ k. done k ++ here k) ∙ append_assoc first (each i lines) (lines i) ∙ ap (λ k. first ++ each k lines) next
