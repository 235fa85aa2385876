use Rattle.std.proofs.Common.{◌≡◌, ◌+◌, ◌++◌, ◌∷◌, [], List, map, drop, ap, sym, ◌∙◌, arith, append-nil}
use Rattle.std.proofs.lemmas.List.{drop_all}
use Rattle.ldv_value.proofs.Places.{drop_item}
use Rattle.lineage.specs.Lineage.{Lineage}
use Rattle.lineage.specs.declared.answer.Answer.{Answer}
use Rattle.lineage.specs.declared.answer.Pick.{Pick}
use Rattle.lineage.proofs.Unions.{none_union, union_none}
use Rattle.group_eval.specs.Evaluating.{answers_of, rejected_of}
use Rattle.group_eval.specs.inner.Grouping.{own_picks}
use Rattle.group_eval.specs.declared.groups.KeyedGroup.{KeyedGroup}
use Rattle.lineage.specs.Lineage.{union_of}
use Rattle.group_eval.proofs.grouping.evaluate_groups.Goals as goal

pub loop-group-init : goal.loop-group-init
loop-group-init c = λ scope placed.
    let plan = c.args.plan.now in
    let all : List (List Pick) = map own_picks c.args.groups.now in (
      ap (λ (l : List Answer). l ++ answers_of scope plan all) c.no_group-grouped.ensures.answers,
      ap (λ (s : Lineage). union_of s (rejected_of scope plan all)) c.no_group-grouped.ensures.rejected
          ∙ union_none (rejected_of scope plan all),
    )

pub loop-group-preserved : goal.loop-group-preserved
loop-group-preserved c = λ scope placed.
    let plan = c.args.plan.now in
    let groups = c.args.groups.now in
    let i = c.loop-group.group-index in
    let group : KeyedGroup = c.group-item.result in
    let split : drop i groups ≡ group ∷ drop (i + 1) groups = drop_item groups i group c.loop-group-test.true c.group-item.is in
    let rest : List (List Pick) = map own_picks (drop (i + 1) groups) in
    let adds = c.in_ok-add_keyed.ensures scope placed in
    let before = c.loop-group.invariant scope placed in (
      adds.answers rest
          ∙ ap (λ (l : List KeyedGroup). c.loop-group.grouped.answers ++ answers_of scope plan (map own_picks l)) (sym split)
          ∙ before.0,
      adds.rejected rest
          ∙ ap (λ (l : List KeyedGroup). union_of c.loop-group.grouped.rejected (rejected_of scope plan (map own_picks l))) (sym split)
          ∙ before.1,
    )

pub returns : goal.returns
returns c = λ scope placed.
    let plan = c.args.plan.now in
    let groups = c.args.groups.now in
    let done : drop c.loop-group.group-index groups ≡ [] = drop_all c.loop-group.group-index groups (omega (arith, c.loop-group-test.false)) in
    let end = c.loop-group.invariant scope placed in
    record {
      answers =
          sym (append-nil c.loop-group.grouped.answers)
          ∙ ap (λ (l : List KeyedGroup). c.loop-group.grouped.answers ++ answers_of scope plan (map own_picks l)) (sym done)
          ∙ end.0;
      rejected =
          sym (none_union c.loop-group.grouped.rejected)
          ∙ ap (λ (l : List KeyedGroup). union_of c.loop-group.grouped.rejected (rejected_of scope plan (map own_picks l))) (sym done)
          ∙ end.1;
    }
