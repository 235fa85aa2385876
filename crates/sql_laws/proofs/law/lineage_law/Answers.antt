use Rattle.sql_laws.proofs.LineageLaws as laws
use Rattle.sql_laws.proofs.NeedsLaws as needs
use Rattle.sql_laws.proofs.law.lineage_law.Goals as goal

pub returns-clause-merge : goal.returns-clause-merge
returns-clause-merge c = laws.merge_law

pub returns-clause-unites : goal.returns-clause-unites
returns-clause-unites c = laws.unites_law

pub returns-clause-merge_sets : goal.returns-clause-merge_sets
returns-clause-merge_sets c = laws.merge_sets_law

pub returns-clause-sort : goal.returns-clause-sort
returns-clause-sort c = laws.sort_law

pub returns-clause-sort_sets : goal.returns-clause-sort_sets
returns-clause-sort_sets c = laws.sort_sets_law

pub returns-clause-cut_sets : goal.returns-clause-cut_sets
returns-clause-cut_sets c = laws.cut_sets_law

pub returns-clause-needs : goal.returns-clause-needs
returns-clause-needs c = needs.needs_law
