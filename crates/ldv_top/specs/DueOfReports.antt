-- The due output of `inspect`: a report on a package.
use Rattle.std.specs.Prelude.{ℕ, List, Option, Some, None}
use Rattle.run_model.specs.declared.package.Package.{Package}
use Rattle.inspect.specs.DependsReports.{depends_report}
use Rattle.inspect.specs.FileReports.{files_report}
use Rattle.inspect.specs.RowReports.{rows_report}
use Rattle.inspect.specs.TraceReports.{trace_report}
use Rattle.inspect.specs.WhyReports.{why_report}
use Rattle.ldv_top.specs.declared.command.Report.{Report}
use Rattle.ldv_top.specs.declared.command.Report.TheVariants.{Rows, Files, Trace, Why, Depends}
use Rattle.ldv_top.specs.declared.exit.Exit.TheVariants.{NoSuch}
use Rattle.ldv_top.specs.DueParts.{DueOutput, due_bytes, due_refusal, due_of_package}

-- none where the package has no such row or path
abbrev pub item_due : Option (List ℕ) → DueOutput
item_due None = due_refusal NoSuch
item_due (Some text) = due_bytes text

-- of a package of either kind; what a path depends on, by the end of its run
abbrev pub report_due : Report → Package → DueOutput
report_due Rows p = due_bytes (rows_report p.tables)
report_due Files p = due_bytes (files_report p.files)
report_due Trace p = due_bytes (trace_report p.events)
report_due (Why table row) p = item_due (why_report p.events p.tables table row)
report_due (Depends path) p = item_due (depends_report p.events p.steps path)

abbrev pub due_inspect : Report → List ℕ → DueOutput
due_inspect report input = due_of_package (report_due report) input
