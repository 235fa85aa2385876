use Rattle.std.proofs.Common.{◌≡◌, ◌≤◌, ◌+◌, ◌++◌, ◌∷◌, [], length, List, sym, ap, ◌∙◌, subst, arith}
use Rattle.ldv_value.specs.Limits.{max_rows}
use Rattle.sql_model.specs.declared.table.TableRow.{TableRow}
use Rattle.world_json.specs.inner.Numbers.{AreNumberedFrom}
use Rattle.world_json.proofs.Numbering.{numbered_push}
use Rattle.world_json.proofs.rows.NumberedRows.push.Goals as goal

pub invariant_of-self-2 : goal.invariant_of-self-2
invariant_of-self-2 c =
    let held = c.self.inside.rows in
    let old = held.items in
    let row : TableRow = record { number = c.number_at-number.result; values = c.args.values } in
    let place : c.len.result ≡ length old = omega (arith, held.ok.0, c.len.ensures) in
    let is : 0 + length old ≤ max_rows → row.number ≡ 0 + length old =
    λ few. let at : c.len.result ≤ max_rows = omega arith in let number : c.number_at-number.result ≡ c.len.result = c.number_at-number.ensures at in omega arith in
    let grown : c.push_reserved.new.self.items ≡ old ++ row ∷ [] = c.push_reserved.ensures.items ∙ ap (λ (rows : List TableRow). rows ++ row ∷ []) c.in_ok-make_room.ensures.items in
    subst (λ (rows : List TableRow). AreNumberedFrom 0 rows) (sym grown) (numbered_push 0 old row c.self.invariant is)
