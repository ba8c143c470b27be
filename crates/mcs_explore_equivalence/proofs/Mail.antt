-- What a line delivers to threads is what its records do, up to the numbers of messages.
use Rattle.std.specs.Prelude.{◌≡◌, ◌++◌, map, List, [], ◌∷◌, Option}
use Rattle.std.proofs.Common.{refl, ap, sym, ◌∙◌}
use Rattle.mcs_types.specs.declared.entry.Answer.{Answer}
use Rattle.mcs_types.specs.declared.record.Rec.{Rec}
use Rattle.mcs_types.specs.declared.record.Rec.TheVariants as rec
use Rattle.mcs_turns.specs.Mail.{got_with, listed, reached_from, reaching}
use Rattle.mcs_explore_equivalence.specs.ButNumbers.{bare}

-- what reaches threads by a record is what does by the bare one
got-bare : (got : Option Answer) (r : Rec) → got_with got (bare r) ≡ got_with got r
got-bare got (rec.Took m t) = refl
got-bare got (rec.Dropped m) = refl
got-bare got _ = refl

reaching-bare : (got : Option Answer) (r : Rec) → reaching got (bare r) ≡ reaching got r
reaching-bare got (rec.Took m t) = refl
reaching-bare got (rec.Dropped m) = refl
reaching-bare got _ = refl

reached-bare : (got : Option Answer) (rs : List Rec) → reached_from got (map bare rs) ≡ reached_from got rs
reached-bare got [] = refl
reached-bare got (r ∷ rs) =
    ap (λ g. listed (reaching g (bare r)) ++ reached_from g (map bare rs)) (got-bare got r) ∙ ap (λ o. listed o ++ reached_from (got_with got r) (map bare rs)) (reaching-bare (got_with got r) r)
    ∙ ap (λ l. listed (reaching (got_with got r) r) ++ l) (reached-bare (got_with got r) rs)

pub mail-same : (got : Option Answer) (rs ss : List Rec) → map bare rs ≡ map bare ss → reached_from got rs ≡ reached_from got ss
mail-same got rs ss e = sym (reached-bare got rs) ∙ ap (reached_from got) e ∙ reached-bare got ss
