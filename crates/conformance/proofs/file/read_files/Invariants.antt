use Rattle.std.proofs.Common.{◌≡◌, take, map}
use Rattle.std.specs.Prelude.{string_bytes}
use Rattle.conformance.proofs.file.read_files.Given as goal

abbrev pub invariant-loop-path : goal.invariant-loop-path
invariant-loop-path g l = map (λ file. string_bytes file.path) l.files.items ≡ map string_bytes (take l.path-index l.paths)
