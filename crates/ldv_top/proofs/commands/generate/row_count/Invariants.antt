use Rattle.std.proofs.Common.{◌≡◌, ◌+◌, ◌*◌, ◌≤◌, ◌^◌, length, drop}
use Rattle.std.specs.Prelude.{fold}
use Rattle.ldv_top.specs.DueOfGenerate.{row_count}
use Rattle.ldv_top.proofs.commands.generate.row_count.Given as goal

abbrev pub invariant-loop-table : goal.invariant-loop-table
invariant-loop-table l = record {
  counted : fold (λ count table. count + length table.rows) l.count (drop l.table-index l.tables) ≡ row_count l.tables;
  bounded : l.count ≤ l.table-index * 2 ^ 64;
}
