use Rattle.std.proofs.Common.{◌≡◌, map, take}
use Rattle.run_model.specs.Package.{own_file}
use Rattle.replay_db.proofs.own.own_files.Given as goal

abbrev pub invariant-loop-file : goal.invariant-loop-file
invariant-loop-file l = l.files ≡ map own_file (take l.file-index l.file-items)
