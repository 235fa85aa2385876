use Rattle.std.proofs.Common.{◌≡◌, ◌∙◌, List, sym, ap, subst, true}
use Rattle.std.specs.List.{All}
use Rattle.ldv_value.specs.FileState.{IsFile, file_precedes, initial_files}
use Rattle.ldv_value.specs.Sorted.{is_strictly_sorted}
use Rattle.proc_core.specs.Running.{Stands}
use Rattle.run_model.specs.LogDatabase.{LogDatabase}
use Rattle.run_model.specs.Package.{own_world}
use Rattle.run_model.specs.RunLaw.{start_state_of}
use Rattle.ldv_value.proofs.ValidFiles.{files_are, files_sorted}
use Rattle.run_model.proofs.StartScripts.{has_word}
use Rattle.proc_core.proofs.StartScripts.{start_script_is}
use Rattle.replay_log.specs.Types.{File}
use Rattle.replay_log.proofs.replay.begin.Goals as goal

pub of_files-requires : goal.of_files-requires
of_files-requires c =
    subst (λ (files : List File). All (λ f. IsFile f.path f.content) files) (sym c.in_ok-own.ensures)
    (files_are (own_world c.args.«package»).files c.requires.can_replay.files)

pub start_parsed-requires-clause-words : goal.start_parsed-requires-clause-words
start_parsed-requires-clause-words c = has_word (own_world c.args.«package») c.requires.can_replay.script

pub start_parsed-requires-clause-script : goal.start_parsed-requires-clause-script
start_parsed-requires-clause-script c =
    let sorted = c.in_ok-tree.ensures.sorted (subst (λ (files : List File). is_strictly_sorted file_precedes files ≡ true) (sym c.in_ok-own.ensures) (files_sorted (own_world c.args.«package»).files c.requires.can_replay.files)) in
    let tree : c.in_ok-tree.tree ≡ initial_files (own_world c.args.«package»).files = sorted ∙ ap initial_files c.in_ok-own.ensures in
    start_script_is (own_world c.args.«package») c.args.script.now.instructions c.in_ok-tree.tree tree c.requires.parsed

pub returns-clause-state : goal.returns-clause-state
returns-clause-state c = λ script is.
    let sorted = c.in_ok-tree.ensures.sorted (subst (λ (files : List File). is_strictly_sorted file_precedes files ≡ true) (sym c.in_ok-own.ensures) (files_sorted (own_world c.args.«package»).files c.requires.can_replay.files)) in
    let tree : c.in_ok-tree.tree ≡ initial_files (own_world c.args.«package»).files = sorted ∙ ap initial_files c.in_ok-own.ensures in
    subst (λ (db : LogDatabase). Stands c.in_ok-begun.begun.machine c.in_ok-begun.begun.db (start_state_of c.args.«package».start c.args.«package».seed (own_world c.args.«package»).files script db))
    c.of_logs-db.ensures
    (c.in_ok-begun.ensures.state script (own_world c.args.«package»).files tree (start_script_is (own_world c.args.«package») script c.in_ok-tree.tree tree is))
