use Rattle.prov_export.proofs.ReadBack.{round_trip_law, reading_law, unique_law}
use Rattle.prov_export.proofs.TraceDocuments.{trace_law}
use Rattle.prov_export.proofs.law.prov_law.Goals as goal

pub returns-clause-again : goal.returns-clause-again
returns-clause-again c = round_trip_law

pub returns-clause-only : goal.returns-clause-only
returns-clause-only c = reading_law

pub returns-clause-unique : goal.returns-clause-unique
returns-clause-unique c = unique_law

pub returns-clause-traces : goal.returns-clause-traces
returns-clause-traces c = trace_law
