use Rattle.table_store.proofs.ParentSetLaws.{put_name}
use Rattle.table_store.proofs.references.parent_set.add_row.Goals as goal

pub returns : goal.returns
returns c = λ row. put_name c.args.found.now c.insert.new.self (c.args.table, c.args.number) c.in_ok-insert.ensures.updates row
