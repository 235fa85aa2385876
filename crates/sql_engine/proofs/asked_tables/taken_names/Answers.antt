use Rattle.std.proofs.Common.{◌∙◌, sym, arith}
use Rattle.sql_engine.proofs.PlaceLaws.{all-in-place, marked-at}
use Rattle.sql_engine.proofs.asked_tables.taken_names.Goals as goal

pub loop-place-preserved : goal.loop-place-preserved
loop-place-preserved c = record {
  behind = c.keep_at-kept.ensures.few;
  long = c.keep_at-kept.ensures.long ∙ c.loop-place.invariant.long;
  here = λ test same. c.keep_at-kept.ensures.kept test c.args.names (c.loop-place.invariant.here test same)
      (marked-at test c.args.names c.loop-place.items.items c.args.marks.now c.loop-place.kept c.loop-place.place _ (c.loop-place.invariant.here test same) same
      (omega (arith, c.loop-place-test.true))
      ∙ sym c.is_taken.ensures);
}

pub returns : goal.returns
returns c = λ test same.
    c.of_vec.ensures
    ∙ c.truncate.ensures.items
    ∙ all-in-place test c.args.names c.loop-place.items.items c.loop-place.kept c.loop-place.place (c.loop-place.invariant.here test same)
    (omega (arith, c.loop-place-test.false, c.requires))
