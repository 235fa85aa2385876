use Rattle.std.proofs.Common.{sym, ap}
use Rattle.joined_data.specs.declared.joined.ClashKind.{ClashKind}
use Rattle.ldv_top.specs.Exits.{clash_line_of}
use Rattle.ldv_top.proofs.WriteLemmas.{writes_same}
use Rattle.ldv_top.proofs.messages.write_clash_of.Goals as goal

pub returns-in-File : goal.returns-in-File
returns-in-File g c = writes_same (ap (λ (kind : ClashKind). clash_line_of kind c.args.name.now c.args.row) (sym c.in-File.is)) c.write_line_of.ensures

pub returns-in-Table : goal.returns-in-Table
returns-in-Table g c = writes_same (ap (λ (kind : ClashKind). clash_line_of kind c.args.name.now c.args.row) (sym c.in-Table.is)) c.write_line_of-in-Table.ensures

pub returns-in-Row : goal.returns-in-Row
returns-in-Row g c = writes_same (ap (λ (kind : ClashKind). clash_line_of kind c.args.name.now c.args.row) (sym c.in-Row.is)) c.write_row_of.ensures

pub returns-in-Key : goal.returns-in-Key
returns-in-Key g c = writes_same (ap (λ (kind : ClashKind). clash_line_of kind c.args.name.now c.args.row) (sym c.in-Key.is)) c.write_row_of-in-Key.ensures
