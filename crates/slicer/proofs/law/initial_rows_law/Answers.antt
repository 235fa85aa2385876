use Rattle.slicer.proofs.InitialRows.{initial_rows_law}
use Rattle.slicer.proofs.law.initial_rows_law.Goals as goal

pub returns : goal.returns
returns c = initial_rows_law
