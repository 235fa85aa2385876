use Rattle.std.proofs.Common.{rules, ◌≡◌, ◌∙◌, ap, sym, Some, None, cond, arith, eq-eqb}
use Rattle.std.specs.Prelude.{nat_lt, slice_get}
use Rattle.std.proofs.lemmas.Bool.{ne_eqb}
use Rattle.std.proofs.lemmas.List.Sorted.{IsPartitionPoint-from_clause}
use Rattle.table_store.specs.Types.{TableRow}
use Rattle.table_store.proofs.RekeyLaws.{given_found, given_parted, at_number}
use Rattle.table_store.proofs.keys.rekey.given_row.Goals as goal

pub returns-in-None : goal.returns-in-None
returns-in-None c =
    let given = c.args.given.now in
    let number = c.args.number in
    let point = IsPartitionPoint-from_clause (λ (row : TableRow). nat_lt row.number number) _ _ c.partition_point-place.ensures.partitioned (given_parted number given c.requires) (λ a r q k. search rules) in
    let got : slice_get given c.partition_point-place.result ≡ None = sym c.in-None.ensures in
    sym (given_found number given c.partition_point-place.result c.requires (λ k d below. point.0 k d (omega arith) below) point.1 ∙ ap (at_number number) got)

pub returns-then-row-number : goal.returns-then-row-number
returns-then-row-number c =
    let given = c.args.given.now in
    let number = c.args.number in
    let row : TableRow = c.in-Some.row.now in
    let point = IsPartitionPoint-from_clause (λ (row : TableRow). nat_lt row.number number) _ _ c.partition_point-place.ensures.partitioned (given_parted number given c.requires) (λ a r q k. search rules) in
    let got : slice_get given c.partition_point-place.result ≡ Some row = sym c.in-Some.ensures in
    sym (given_found number given c.partition_point-place.result c.requires (λ k d below. point.0 k d (omega arith) below) point.1 ∙ ap (at_number number) got
    ∙ ap (λ b. cond b (Some row) None) (eq-eqb row.number number c.if-row-number.true))

pub returns-else-row-number : goal.returns-else-row-number
returns-else-row-number c =
    let given = c.args.given.now in
    let number = c.args.number in
    let row : TableRow = c.in-Some.row.now in
    let point = IsPartitionPoint-from_clause (λ (row : TableRow). nat_lt row.number number) _ _ c.partition_point-place.ensures.partitioned (given_parted number given c.requires) (λ a r q k. search rules) in
    let got : slice_get given c.partition_point-place.result ≡ Some row = sym c.in-Some.ensures in
    sym (given_found number given c.partition_point-place.result c.requires (λ k d below. point.0 k d (omega arith) below) point.1 ∙ ap (at_number number) got
    ∙ ap (λ b. cond b (Some row) None) (ne_eqb row.number number c.if-row-number.false))
