-- Groups one by one.
use Rattle.std.proofs.Common.{◌≡◌, ◌∙◌, sym, ap, Bool, true, false, cond, List, [], ◌∷◌, ◌++◌, map, append_assoc, append-nil}
use Rattle.std.specs.Prelude.{filter, not}
use Rattle.std.specs.FinMap.{empty}
use Rattle.lineage.specs.Lineage.{Lineage}
use Rattle.lineage.specs.declared.answer.Answer.{Answer}
use Rattle.lineage.specs.declared.answer.Pick.{Pick}
use Rattle.lineage.proofs.Unions.{union_assoc, none_union, union_none}
use Rattle.group_eval.specs.Evaluating.{is_group_kept, group_answer, answers_of, rejected_of, IsGroupedBy, AddsGroup}
use Rattle.lineage.specs.Lineage.{union_of}
use Rattle.group_eval.specs.inner.Uniting.{lineage_of_picks, lineage_of_groups}
use Rattle.group_eval.specs.declared.grouping.Grouped.{Grouped}
use Rattle.group_eval.specs.declared.plan.Plan.{Plan}
use Rattle.sql_model.specs.Scope.{InScope}

module _ (scope : List InScope) (plan : Plan) (group : List Pick) where
  abbrev is-kept : List Pick → Bool
  is-kept g = is_group_kept scope plan.having g

  abbrev rows-if : Bool → List (List Pick) → List Answer
  rows-if b rest = map (group_answer scope plan) (cond b (group ∷ filter is-kept rest) (filter is-kept rest))

  abbrev lineage-if : Bool → List (List Pick) → Lineage
  lineage-if b rest = lineage_of_groups (cond (not b) (group ∷ filter (λ g. not (is-kept g)) rest) (filter (λ g. not (is-kept g)) rest))

  -- a group that HAVING keeps
  pub kept_on : (old new : Grouped) → is_group_kept scope plan.having group ≡ true → new.answers ≡ old.answers ++ group_answer scope plan group ∷ [] → new.rejected ≡ old.rejected
      → AddsGroup scope plan group old new
  kept_on old new keeps made same = record {
    answers = λ rest.
        ap (λ (l : List Answer). l ++ answers_of scope plan rest) made
        ∙ append_assoc old.answers (group_answer scope plan group ∷ []) (answers_of scope plan rest)
        ∙ ap (λ b. old.answers ++ rows-if b rest) (sym keeps);
    rejected = λ rest.
        ap (λ (s : Lineage). union_of s (rejected_of scope plan rest)) same
        ∙ ap (λ b. union_of old.rejected (lineage-if b rest)) (sym keeps);
  }

  -- a group that HAVING rejects
  pub rejected_on : (old new : Grouped) → is_group_kept scope plan.having group ≡ false → new.answers ≡ old.answers → new.rejected ≡ union_of old.rejected (lineage_of_picks group)
      → AddsGroup scope plan group old new
  rejected_on old new rejects same made = record {
    answers = λ rest.
        ap (λ (l : List Answer). l ++ answers_of scope plan rest) same
        ∙ ap (λ b. old.answers ++ rows-if b rest) (sym rejects);
    rejected = λ rest.
        ap (λ (s : Lineage). union_of s (rejected_of scope plan rest)) made
        ∙ union_assoc old.rejected (lineage_of_picks group) (rejected_of scope plan rest)
        ∙ ap (λ b. union_of old.rejected (lineage-if b rest)) (sym rejects);
  }

  -- the only group
  pub only_group : (old new : Grouped) → old.answers ≡ [] → old.rejected ≡ empty → AddsGroup scope plan group old new → IsGroupedBy scope plan (group ∷ []) new
  only_group old new none nothing adds = record {
    answers = sym (append-nil new.answers) ∙ adds.answers [] ∙ ap (λ (l : List Answer). l ++ answers_of scope plan (group ∷ [])) none;
    rejected = sym (none_union new.rejected) ∙ adds.rejected [] ∙ ap (λ (s : Lineage). union_of s (rejected_of scope plan (group ∷ []))) nothing ∙ union_none (rejected_of scope plan (group ∷ []));
  }
