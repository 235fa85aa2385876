use Rattle.std.proofs.Common.{◌≡◌, ◌++◌, take}
use Rattle.std.specs.List.{flat_map}
use Rattle.run_model.specs.TableText.{table_row_text}
use Rattle.run_model.proofs.text.append_table_rows.Given as goal

abbrev pub invariant-loop-row : goal.invariant-loop-row
invariant-loop-row l = l.to ≡ l.fn.to ++ flat_map table_row_text (take l.row-index l.rows)
