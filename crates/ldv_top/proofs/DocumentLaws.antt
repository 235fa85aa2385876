-- A document gives the same nodes for a path as the report on its package.
use Rattle.std.proofs.Common.{◌≡◌, ◌∙◌, refl, sym, ap, subst, ℕ, ◌≤◌, List, length, Bool}
use Rattle.std.specs.Prelude.{nat_le, if◌then◌else◌, Option, Some, None, Ok, option_map}
use Rattle.std.proofs.lemmas.Bool.{leb-true}
use Rattle.ldv_value.proofs.Booleans.{and-second}
use Rattle.ldv_value.specs.Limits.{input_limit, max_steps}
use Rattle.run_model.specs.declared.package.Package.{Package}
use Rattle.package_layout.specs.Valid.{reading}
use Rattle.trace_graph.specs.Graph.{Parts, graph_of, place_of}
use Rattle.reach.specs.Depends.{depends_of}
use Rattle.inspect.specs.DependsReports.{nodes_report as named_report}
use Rattle.prov_export.specs.Dependence.{nodes_report as numbered_report}
use Rattle.prov_export.specs.Document.{prov_text}
use Rattle.prov_export.specs.Laws.{TraceLaw}
use Rattle.prov_export.specs.Reading.{prov_reading}
use Rattle.ldv_top.specs.declared.command.Report.TheVariants.{Depends}
use Rattle.ldv_top.specs.declared.exit.Exit.TheVariants.{TooLong}
use Rattle.ldv_top.specs.DueOfProv.{prov_due, due_prov, prov_depends_due, due_prov_depends}
use Rattle.ldv_top.specs.DueOfReports.{item_due, report_due}
use Rattle.ldv_top.specs.DueParts.{due_of_reading, due_refusal}
use Rattle.ldv_top.specs.ProvReported.{DocumentLaw, due_by_names}
use Rattle.ldv_top.proofs.RecordLaws.{not_too_long}
use Rattle.ldv_top.proofs.Traces.{valid_run, valid_steps}

-- what is due for the package that the bytes are
pub prov_read : (p : Package) (input : List ℕ) → length input ≤ input_limit → reading input ≡ Ok p
    → prov_due p ≡ due_prov input
prov_read p input short read = rw (not_too_long input short) (sym (ap (due_of_reading prov_due) read))

-- what is due for what the bytes are the document of, which may be no graph
pub document_read : (path input : List ℕ) (read : Option Parts) → length input ≤ input_limit → prov_reading input ≡ read
    → prov_depends_due path read ≡ due_prov_depends path input
document_read path input read short is =
    sym (ap (λ (b : Bool). if b then due_refusal TooLong else prov_depends_due path (prov_reading input)) (not_too_long input short)
    ∙ ap (prov_depends_due path) is)

-- a report on what nodes give is one on them
report_same : {X Y : Type 0} (f : X → Y) (g : Y → List ℕ) (o : Option X) → option_map (λ x. g (f x)) o ≡ option_map g (option_map f o)
report_same f g None = refl
report_same f g (Some x) = refl

module _ (p : Package) (path : List ℕ) where
  -- the report on a package
  pub named_same : report_due (Depends path) p ≡ due_by_names p path
  named_same =
      ap item_due (report_same (λ (place : ℕ). depends_of (graph_of p.events) place p.steps) (named_report p.events) (place_of (graph_of p.events) path))

pub document_law : TraceLaw → DocumentLaw
document_law law p path input is =
    let run = valid_run p is.valid in
    let low : p.steps ≤ max_steps = leb-true p.steps max_steps (and-second (nat_le 1 p.steps) (nat_le p.steps max_steps) (valid_steps p is.valid)) in
    let short : length (prov_text (graph_of p.events)) ≤ input_limit = subst (λ (bytes : List ℕ). length bytes ≤ input_limit) is.same is.short in
    let laws = law run.0 p.steps p.events run.1 run.2 low is.typed.1.1.1.1.1.1 short in
    ap (λ (b : Bool). if b then due_refusal TooLong else prov_depends_due path (prov_reading input)) (not_too_long input is.short)
    ∙ ap (λ (bytes : List ℕ). prov_depends_due path (prov_reading bytes)) is.same
    ∙ ap (prov_depends_due path) laws.0
    ∙ ap item_due (laws.1 path)
    ∙ ap item_due (report_same (λ (place : ℕ). depends_of (graph_of p.events) place p.steps) numbered_report (place_of (graph_of p.events) path))
