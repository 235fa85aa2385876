use Rattle.std.proofs.Common.{rules, ◌≡◌, ◌∙◌, ap, drop, true}
use Rattle.predicates.proofs.Lists.{IfSome-weaker}
use Rattle.predicates.proofs.MaskLaws.{mask-found}
use Rattle.predicates.specs.Masking.{IsFound, IsTest}
use Rattle.sql_model.specs.ColumnTests.{fits}
use Rattle.sql_model.specs.declared.column_test.ColumnTest.{ColumnTest}
use Rattle.predicates.proofs.mask.mask_of.Goals as goal

pub returns-in-Some-2 : goal.returns-in-Some-2
returns-in-Some-2 c =
    let cond = c.args.cond.now in
    let columns = c.args.columns.now in
    let made : ColumnTest = record { column = c.in-Some-column_of_source.column; test = c.in-Some-2.test } in
    let tested : IsTest cond.expr c.in-Some-2.test = search rules in
    IfSome-weaker c.fitting_mask.result (λ (found : ColumnTest). (found ≡ made) × (fits columns made ≡ true)) (IsFound cond c.args.before columns)
    (λ mask is. mask-found cond c.args.before c.in-Some-column_of_source.column c.in-Some.place.now (drop 1 cond.places) columns c.in-Some-2.test mask tested c.in-Some.ensures.rest c.in-Some-column_of_source.ensures.at
    is.0 (ap (fits columns) is.0 ∙ is.1))
    c.fitting_mask.ensures
