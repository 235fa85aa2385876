use Rattle.std.proofs.Common.{◌≡◌, ◌++◌, map}
use Rattle.run_model.specs.Package.{own_file}
use Rattle.replay_db.proofs.own.files_of.Given as goal

abbrev pub invariant-loop-file : goal.invariant-loop-file
invariant-loop-file l = map own_file l.fn.packed ≡ l.files ++ map own_file l.file-iterator.rest.items
