-- The lineages of the picks of a group, added one by one.
use Rattle.std.proofs.Common.{◌≡◌, ◌∙◌, ◌+◌, ◌<◌, ◌≤◌, ap, sym, ℕ, List, drop, get_or, map, length, Bor}
use Rattle.std.proofs.lemmas.List.{drop_all}
use Rattle.ldv_value.proofs.Places.{drop_item}
use Rattle.lineage.specs.Lineage.{Lineage, IsUnion, union_of}
use Rattle.lineage.specs.declared.answer.Pick.{Pick}
use Rattle.lineage.proofs.Unions.{none_union, union_step}
use Rattle.group_eval.specs.inner.Uniting.{lineage_of_picks}

abbrev united_in : List (Bor Pick) → Lineage
united_in group = lineage_of_picks (map (λ r. r.now) group)

module _ (group : List (Bor Pick)) (i : ℕ) (old all : Lineage) (left : union_of old (united_in (drop i group)) ≡ all) where
  -- one pick more
  pub one_united : (pick : Bor Pick) (new : Lineage) → i < length group → pick ≡ get_or group i pick → IsUnion old pick.now.lineage new → union_of new (united_in (drop (i + 1) group)) ≡ all
  one_united pick new below is added =
      union_step old pick.now.lineage new (united_in (drop (i + 1) group)) added
      ∙ ap (λ (l : List (Bor Pick)). union_of old (united_in l)) (sym (drop_item group i pick below is))
      ∙ left

  -- no pick is left
  pub all_of_group : length group ≤ i → old ≡ all
  all_of_group past =
      sym (none_union old)
      ∙ ap (λ (l : List (Bor Pick)). union_of old (united_in l)) (sym (drop_all i group past))
      ∙ left
