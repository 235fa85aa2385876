use Rattle.ldv_value.proofs.ValidFiles.{files_are, files_sorted}
use Rattle.replay_db.proofs.EndedRuns.{tables_database, tables_distinct}
use Rattle.replay_db.proofs.setting.setting_of.Goals as goal

pub of_files-requires : goal.of_files-requires
of_files-requires c = files_are c.args.files c.requires.files

pub of_tables-requires-clause-database : goal.of_tables-requires-clause-database
of_tables-requires-clause-database c = tables_database c.args.tables c.requires.tables

pub of_tables-requires-clause-distinct : goal.of_tables-requires-clause-distinct
of_tables-requires-clause-distinct c = tables_distinct c.args.tables c.requires.tables

pub returns-clause-tree : goal.returns-clause-tree
returns-clause-tree c = c.in_ok-tree.ensures.sorted (files_sorted c.args.files c.requires.files)
