use Rattle.std.proofs.Common.{◌≡◌, ◌∙◌, ◌+◌, [], List, ℕ, drop, sym, ap, arith}
use Rattle.std.specs.BTreeMap.{is_at}
use Rattle.std.specs.Map.{lookup}
use Rattle.std.proofs.lemmas.List.{drop_all}
use Rattle.ldv_value.proofs.Places.{drop_item}
use Rattle.lineage.specs.declared.answer.Answer.{Answer}
use Rattle.ldv_value.specs.Order.{values_order}
use Rattle.query_eval.specs.Merging.{place_of, merged_onto}
use Rattle.query_eval.specs.Types.{Value}
use Rattle.query_eval.proofs.Absorbs.{merges}
use Rattle.query_eval.proofs.merging.merged_answers.Goals as goal

pub loop-answer-init : goal.loop-answer-init
loop-answer-init c = (
  λ v. ap (λ (es : List (List Value × ℕ)). lookup (is_at (values_order v)) es) c.new-places.ensures.empty ∙ ap (place_of v) (sym c.new-made.ensures.items),
  ap (λ (ms : List Answer). merged_onto ms c.args.answers.now) c.new-made.ensures.items,
)

pub loop-answer-preserved : goal.loop-answer-preserved
loop-answer-preserved c =
    let answers : List Answer = c.args.answers.now in
    let i = c.loop-answer.answer-index in (
      c.in_ok-add_answer.ensures.index,
      ap (λ (ms : List Answer). merged_onto ms (drop (i + 1) answers)) c.in_ok-add_answer.ensures.made
          ∙ ap (merged_onto c.loop-answer.made.items) (sym (drop_item answers i c.answer-item.result c.loop-answer-test.true c.answer-item.is))
          ∙ c.loop-answer.invariant.1,
    )

pub returns : goal.returns
returns c =
    let answers : List Answer = c.args.answers.now in
    let done : drop c.loop-answer.answer-index answers ≡ [] = drop_all c.loop-answer.answer-index answers (omega (arith, c.loop-answer-test.false)) in
    c.of_vec.ensures ∙ sym (ap (merged_onto c.loop-answer.made.items) done) ∙ c.loop-answer.invariant.1 ∙ merges answers
