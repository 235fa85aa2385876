-- The bytes of a report, and the report on the nodes that a path depends on.
use Rattle.std.proofs.Common.{◌≡◌, ℕ, ◌≤◌, List, length, refl, sym, ap, ◌∙◌, inl, inr}
use Rattle.std.specs.Prelude.{Option, Some, None, Result, Ok, Err}
use Rattle.std.proofs.lemmas.Bool.{cases_Bool}
use Rattle.ldv_value.specs.Limits.{input_limit}
use Rattle.run_model.specs.declared.package.Package.{Package}
use Rattle.package_layout.specs.declared.damage.DamageKind.{DamageKind}
use Rattle.package_layout.specs.Valid.{reading}
use Rattle.inspect.specs.DependsReports.{depends_report}
use Rattle.inspect.specs.DependsSources.{SourcesLaw}
use Rattle.ldv_top.specs.declared.command.Report.{Report}
use Rattle.ldv_top.specs.declared.command.Report.TheVariants.{Depends as DependsOn}
use Rattle.ldv_top.specs.declared.exit.Exit.TheVariants.{Done, TooLong, Damaged, NoSuch}
use Rattle.ldv_top.specs.DueOfReports.{item_due, report_due, due_inspect}
use Rattle.ldv_top.specs.DueParts.{due_of_reading, is_too_long}
use Rattle.ldv_top.specs.Reported.{Depends}
use Rattle.ldv_top.proofs.RecordLaws.{not_too_long}

-- a report on the package that the bytes are
pub report_read : (report : Report) (p : Package) (input : List ℕ) → length input ≤ input_limit → reading input ≡ Ok p
    → report_due report p ≡ due_inspect report input
report_read report p input short read = rw (not_too_long input short) (sym (ap (due_of_reading (report_due report)) read))

-- the text of a report that is there
some_text : (o : Option (List ℕ)) → (item_due o).exit ≡ Done → (text : List ℕ) × (o ≡ Some text) × ((item_due o).bytes ≡ text)
some_text None finished = let never : NoSuch ≡ Done = finished in cc
some_text (Some text) finished = (text, refl, refl)

module _ (law : SourcesLaw) (path input : List ℕ) where
  read_depends : (r : Result Package DamageKind) → reading input ≡ r → (due_of_reading (report_due (DependsOn path)) r).exit ≡ Done
      → Depends path input (due_of_reading (report_due (DependsOn path)) r).bytes
  read_depends (Ok p) is finished =
      let found = some_text (depends_report p.events p.steps path) finished in
      record {
        «package» = p;
        is_package = is;
        listed = law p.events p.steps path (item_due (depends_report p.events p.steps path)).bytes (found.1 ∙ ap Some (sym found.2));
      }
  read_depends (Err kind) is finished = let never : Damaged kind ≡ Done = finished in cc

  pub depends_reported : (due_inspect (DependsOn path) input).exit ≡ Done → Depends path input (due_inspect (DependsOn path) input).bytes
  depends_reported finished = elim (cases_Bool (is_too_long input)) [
    | inl long ↦ let never : TooLong ≡ Done = rw long at finished in cc
    | inr short ↦ rw short (read_depends (reading input) refl (rw short at finished))
  ]
