use Rattle.std.proofs.Common.{◌≡◌, ◌∙◌, subst, false, get_or, map, rules, w64}
use Rattle.std.specs.Prelude.{ℤ, None}
use Rattle.std.specs.Option.{option_map_or}
use Rattle.lanes.specs.Sets.{member}
use Rattle.lanes.specs.Selection.{passes}
use Rattle.std.proofs.lemmas.Int.{to_z-of_z}
use Rattle.ldv_value.specs.Cells.{int_value}
use Rattle.table_store.proofs.ScanLaws.{select_seen}
use Rattle.table_store.proofs.rows.scan.select.Goals as goal

pub returns-in-Some : goal.returns-in-Some
returns-in-Some c = λ n.
    let op = c.args.op in
    let constant = c.args.constant in
    let ints = c.in-Some.ints.now.items in
    let seen : map int_value ints ≡ c.args.column.now.items = search rules in
    subst (λ (z : ℤ). member c.select_numbers.new.mask n ≡ option_map_or (passes op z) (get_or ints n None) false) (to_z-of_z w64 _ c.ranges.constant) (c.select_numbers.ensures n)
    ∙ select_seen op constant ints c.args.column.now.items seen n
