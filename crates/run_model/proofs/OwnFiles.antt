-- The files of a package, as those of its own world: they are valid if the package is.
use Rattle.std.proofs.Common.{◌≡◌, ℕ, List, refl, ◌∙◌, Bool, true}
use Rattle.std.specs.Prelude.{map, length, ◌&&◌, nat_le, Option, Some, None}
use Rattle.std.specs.List.{list_all}
use Rattle.ldv_value.proofs.Booleans.{and-parts, and-from}
use Rattle.ldv_value.proofs.Lists.{list_all-map, list_all-weaker, sorted-under}
use Rattle.ldv_value.specs.FileState.{file_test, file_precedes, files_test}
use Rattle.ldv_value.specs.Limits.{file_limit, max_files}
use Rattle.ldv_value.specs.Names.{path_test}
use Rattle.ldv_value.specs.Sorted.{is_strictly_sorted}
use Rattle.run_model.specs.Package.{or_empty, own_file}
use Rattle.run_model.specs.ValidPackage.{packed_file_precedes, content_rule, file_rule, files_rule}
use Rattle.run_model.specs.declared.package.PackedFile.{PackedFile}

content_small : (content : Option (List ℕ)) → content_rule content ≡ true → nat_le (length (or_empty content)) file_limit ≡ true
content_small None rule = refl
content_small (Some bytes) rule = rule

file_met : (file : PackedFile) → file_rule file ≡ true → file_test (own_file file) ≡ true
file_met file rule =
    let parts = and-parts (path_test file.path) (content_rule file.content) rule in
    and-from (path_test file.path) (nat_le (length (or_empty file.content)) file_limit) parts.0 (content_small file.content parts.1)

pub own_files : (files : List PackedFile) → files_rule files ≡ true → files_test (map own_file files) ≡ true
own_files files rule =
    let each : Bool = list_all file_rule files in
    let sorted : Bool = is_strictly_sorted packed_file_precedes files in
    let few = and-parts (nat_le (length files) max_files) (each && sorted) rule in
    let parts = and-parts each sorted few.1 in
    and-from (list_all file_test (map own_file files)) (is_strictly_sorted file_precedes (map own_file files))
    (list_all-map file_test own_file files ∙ list_all-weaker file_rule (λ f. file_test (own_file f)) file_met files parts.0)
    (sorted-under file_precedes own_file files ∙ parts.1)
