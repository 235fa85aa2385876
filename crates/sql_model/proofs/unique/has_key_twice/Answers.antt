use Rattle.std.proofs.Common.{map, length, ◌==◌, sym, ap, ◌∙◌}
use Rattle.std.proofs.lemmas.Simd.{map-map}
use Rattle.sql_model.proofs.Seen.{some_twice}
use Rattle.sql_model.specs.Keys.{repeats, same_values, values_at}
use Rattle.sql_model.proofs.unique.has_key_twice.Goals as goal

pub returns : goal.returns
returns g c =
    let places = c.args.places.now in
    let cells = g.R.HasValues.cells in
    some_twice (length places == 0) c.has_item_twice.result (repeats same_values (map (values_at places) (map cells c.args.rows.now))) (sym c.is_empty.ensures ∙ c.if-is_empty.false)
    (c.has_item_twice.ensures
    ∙ ap (repeats same_values) (c.in_ok-keys.ensures ∙ sym (map-map (values_at places) cells c.args.rows.now)))
