use Rattle.std.proofs.Common.{◌≡◌, ◌∷◌, [], ◌+◌, ◌∙◌, ap, refl, subst, sym, arith, drop, List}
use Rattle.std.specs.Prelude.{slice_get, is_some, IsTrue}
use Rattle.std.proofs.lemmas.List.{drop_all}
use Rattle.ldv_value.proofs.Places.{drop_item}
use Rattle.sql_engine.specs.inner.Answering.{AreUnited, AreRows, merges_later}
use Rattle.sql_engine.specs.Types.{Core}
use Rattle.sql_engine.proofs.AnswerLaws.{all_rows, asked_cores, next_core, united_start, united_step, united_end}
use Rattle.sql_model.specs.Refusals.{cores_of}
use Rattle.sql_engine.proofs.cores.rows_from.Goals as goal

pub loop-core-init : goal.loop-core-init
loop-core-init c = (
  refl,
  λ query asked. united_start c.args.store.now c.args.keep c.args.first.now c.args.others.now c.in_ok-rows.rows
      (c.in_ok-rows.ensures query c.args.first.now asked (ap (λ (l : List Core). slice_get l 0) c.requires)),
)

pub core_rows-requires-in-loop-core : goal.core_rows-requires-in-loop-core
core_rows-requires-in-loop-core c =
    let others = c.args.others.now in
    let i = c.loop-core.core-index in
    let item = c.core-item.result in
    let split : drop i others ≡ item ∷ drop (i + 1) others = drop_item others i item c.loop-core-test.true c.core-item.is in
    ap is_some (next_core (cores_of c.args.checked.now.statement) others c.args.first.now item c.loop-core.place i (drop (i + 1) others) c.requires c.loop-core.invariant.0 split)

pub loop-core-preserved : goal.loop-core-preserved
loop-core-preserved c =
    let others = c.args.others.now in
    let i = c.loop-core.core-index in
    let item = c.core-item.result in
    let split : drop i others ≡ item ∷ drop (i + 1) others = drop_item others i item c.loop-core-test.true c.core-item.is in
    let at = next_core (cores_of c.args.checked.now.statement) others c.args.first.now item c.loop-core.place i (drop (i + 1) others) c.requires c.loop-core.invariant.0 split in (
      ap (λ n. n + 1) c.loop-core.invariant.0,
      λ query asked. united_step c.args.store.now c.args.keep (c.args.first.now ∷ others) (drop (i + 1) others) item c.loop-core.rows c.in_ok-more.more c.in_ok-rows-2.rows
          c.merges_here-merges.result c.loop-core.place c.count_merged-merged.result
          (subst (λ (l : List Core). AreUnited c.args.store.now c.args.keep (c.args.first.now ∷ others) l c.loop-core.rows) split (c.loop-core.invariant.1 query asked))
          (c.in_ok-more.ensures query item asked at) c.in_ok-rows-2.ensures c.merges_here-merges.ensures
          (λ before. ap (λ n. merges_later (drop n others)) (sym c.loop-core.invariant.0) ∙ c.count_merged-merged.ensures c.loop-core.place before),
    )

pub returns : goal.returns
returns c query asked =
    let others = c.args.others.now in
    let i = c.loop-core.core-index in
    let done : drop i others ≡ [] = drop_all i others (omega (arith, c.loop-core-test.false)) in
    let cores : c.args.first.now ∷ others ≡ query.cores = sym c.requires ∙ asked_cores c.args.checked.now c.args.store.now query asked in
    let all = united_end c.args.store.now c.args.keep (c.args.first.now ∷ others) c.loop-core.rows
    (subst (λ (l : List Core). AreUnited c.args.store.now c.args.keep (c.args.first.now ∷ others) l c.loop-core.rows) done (c.loop-core.invariant.1 query asked)) in
    all_rows c.args.store.now c.args.keep (c.args.first.now ∷ others) query.cores cores c.loop-core.rows all
