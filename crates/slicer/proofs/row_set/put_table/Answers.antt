use Rattle.std.proofs.Common.{◌∙◌, ap, cond, List, ℕ}
use Rattle.std.specs.Prelude.{Some, string_bytes, bytes_eq}
use Rattle.std.specs.BTreeMap.{get_by_text}
use Rattle.std.proofs.lemmas.Map.Text.{btree_map_updates_text}
use Rattle.slicer.proofs.row_set.put_table.Goals as goal

pub returns : goal.returns
returns c = λ q.
    btree_map_updates_text (string_bytes c.in_ok-key.key) c.args.rows.now c.insert.new.self (Some c.args.numbers) c.in_ok-insert.ensures.updates q
    ∙ ap (λ (k : List ℕ). cond (bytes_eq k q) (Some c.args.numbers) (get_by_text c.args.rows.now q)) (c.in_ok-key.ensures.ok ∙ c.as_str.ensures)
