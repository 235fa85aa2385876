use Rattle.std.proofs.Common.{◌≡◌, true, take}
use Rattle.std.specs.Prelude.{not, ◌||◌}
use Rattle.std.specs.List.{list_all}
use Rattle.sql_model.specs.inner.KeySets.{names, refers_among}
use Rattle.sql_model.proofs.references.are_all_among.Given as goal

abbrev pub invariant-loop-r : goal.invariant-loop-r
invariant-loop-r l =
    list_all (λ r. not (names l.parent r) || list_all (refers_among l.keys r.foreign) r.rows) (take l.r-index l.referring) ≡ true
