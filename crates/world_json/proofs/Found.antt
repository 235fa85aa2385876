-- The file that is found is within the limit of files.
use Rattle.std.proofs.Common.{◌≡◌, ℕ, ◌≤◌, List, length, true, nat_le, Option, Some, None, option_map, IfSome, Bor, sym}
use Rattle.std.proofs.lemmas.Bool.{leb-true}
use Rattle.ldv_value.proofs.Booleans.{and-second}
use Rattle.ldv_value.proofs.Lists.{found-all}
use Rattle.ldv_value.specs.FileState.{file_at}
use Rattle.ldv_value.specs.Limits.{file_limit, max_files}
use Rattle.ldv_value.specs.declared.file.File.{File}
use Rattle.world_json.specs.Faults.{are_files_within}

pub found_short : (path : List ℕ) (files : List File) (r : Option (Bor File)) → option_map (λ file. file.now) r ≡ file_at path files → are_files_within files ≡ true
    → IfSome r (λ file. length file.now.content ≤ file_limit)
found_short path files None is within = tt
found_short path files (Some file) is within =
    let all = and-second (nat_le (length files) max_files) _ within in
    leb-true _ _ (found-all _ (λ (f : File). nat_le (length f.content) file_limit) files file.now all (sym is))
