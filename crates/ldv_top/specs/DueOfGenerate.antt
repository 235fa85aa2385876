-- The due output of `gen`: the record and the replay of a generated world, summed up. Nothing is read.
use Rattle.std.specs.Prelude.{ℕ, ◌+◌, ◌-◌, List, ◌++◌, length, drop, fold, codes, if◌then◌else◌}
use Rattle.std.specs.Fmt.{decimal}
use Rattle.hex.specs.Hex.{encode_lower}
use Rattle.ldv_value.specs.Limits.{default_steps}
use Rattle.sql_model.specs.declared.table.Table.{Table}
use Rattle.run_model.specs.declared.outcome.Outcome.{Outcome}
use Rattle.run_model.specs.declared.package.Mode.TheVariants.{Included}
use Rattle.run_model.specs.declared.package.Package.{Package}
use Rattle.run_model.specs.declared.package.PackedTable.{PackedTable}
use Rattle.run_model.specs.declared.world.World.{World}
use Rattle.run_model.specs.OutcomeText.{line, outcome_text_of}
use Rattle.run_model.specs.Package.{package_of, own_world}
use Rattle.run_model.specs.WorldRun.{outcome_within}
use Rattle.package_layout.specs.Whole.{spelling}
use Rattle.world_json.specs.Generated.{generated_world}
use Rattle.ldv_top.specs.declared.exit.Exit.TheVariants.{PackageTooLong}
use Rattle.ldv_top.specs.DueParts.{DueOutput, due_bytes, due_refusal, is_too_long, due_outcome}

-- ---- the summary

-- the rows of all tables of a world
abbrev pub row_count : List Table → ℕ
row_count tables = fold (λ count table. count + length table.rows) 0 tables

-- those that a package has
abbrev pub kept_count : List PackedTable → ℕ
kept_count tables = fold (λ count table. count + length table.rows) 0 tables

-- the last 32 bytes of a package, its digest, in hex
abbrev pub digest_text : List ℕ → List ℕ
digest_text bytes = encode_lower (drop (length bytes - 32) bytes)

-- `gen N rows R kept K steps S`
abbrev pub counts_line : ℕ → ℕ → ℕ → ℕ → List ℕ
counts_line orders rows kept steps =
    line (codes "gen " ++ decimal orders ++ codes " rows " ++ decimal rows ++ codes " kept " ++ decimal kept
    ++ codes " steps " ++ decimal steps)

-- `package B D`
abbrev pub package_line : List ℕ → List ℕ
package_line bytes = line (codes "package " ++ decimal (length bytes) ++ codes " " ++ digest_text bytes)

-- `replay O`
abbrev pub replay_line : List ℕ → List ℕ
replay_line text = line (codes "replay " ++ decimal (length text))

-- the lines before the replay, of a package and its spelling
abbrev pub summary_head : ℕ → ℕ → Package → List ℕ → List ℕ
summary_head orders rows p bytes = counts_line orders rows (kept_count p.tables) p.steps ++ package_line bytes

-- ---- from the number of orders

abbrev pub summary_due : List ℕ → Outcome → DueOutput
summary_due head outcome = due_bytes (head ++ replay_line (outcome_text_of outcome))

-- the package is replayed
abbrev pub summed_replay : List ℕ → Package → DueOutput
summed_replay head p =
    due_outcome default_steps (summary_due head) (outcome_within default_steps (own_world p))

abbrev pub summed_spelling : ℕ → ℕ → Package → List ℕ → DueOutput
summed_spelling orders rows p bytes =
    if is_too_long bytes then due_refusal PackageTooLong
    else summed_replay (summary_head orders rows p bytes) p

abbrev pub summed_package : ℕ → ℕ → Package → DueOutput
summed_package orders rows p = summed_spelling orders rows p (spelling p)

abbrev pub summed_outcome : ℕ → World → Outcome → DueOutput
summed_outcome orders w outcome =
    summed_package orders (row_count w.tables) (package_of Included default_steps w)

-- the world is recorded
abbrev pub summed_world : ℕ → World → DueOutput
summed_world orders w =
    due_outcome default_steps (summed_outcome orders w) (outcome_within default_steps w)

abbrev pub due_generate : ℕ → DueOutput
due_generate orders = summed_world orders (generated_world orders)
