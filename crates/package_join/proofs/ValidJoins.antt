-- Joining two valid included packages gives a valid joined package.
use Rattle.std.proofs.Common.{◌≡◌, refl, sym, ap, ◌∙◌, subst, true, length, ◌&&◌}
use Rattle.std.specs.Prelude.{Option, Some, None, Result, Ok, Err, IfOk, ◌==◌, nat_le}
use Rattle.std.proofs.lemmas.Bool.{and_parts, eqb-true}
use Rattle.std.proofs.lemmas.List.{nil_from_length}
use Rattle.ldv_value.specs.Limits.{max_files, max_tables}
use Rattle.package_layout.specs.Valid.{IsValidPackage}
use Rattle.package_layout.specs.Whole.{has_room}
use Rattle.run_model.specs.ValidPackage.{start_rule, are_files, files_rule, are_tables, tables_rule, logs_rule, mode_rule, steps_rule, trace_rule, reasons_rule, script_rule, parts_rule, whole_rule, rules}
use Rattle.run_model.specs.ValidTrace.{asked_count}
use Rattle.package_join.specs.Types.{Included, Mode, Package}
use Rattle.joined_data.specs.declared.joined.Clash.{Clash}
use Rattle.joined_data.specs.declared.joined.Joined.{Joined}
use Rattle.joined_data.specs.declared.joined.Which.TheVariants.{First, Second}
use Rattle.joined_data.specs.declared.joining.JoinStop.{JoinStop}
use Rattle.joined_data.specs.Joined.{clash_of, joined_of, put_together, run_package, unless_clash}
use Rattle.package_join.specs.Laws.{IsIncluded, ValidLaw}
use Rattle.joined_data.specs.Parts.{JoinsAs}
use Rattle.package_join.specs.inner.Copying.{without_logs}
use Rattle.package_join.specs.Valid.{IsValidJoined}
use Rattle.package_join.proofs.Picks.{pick_law, anew_law}

pub included_by : (p : Package) → rules p ≡ true → p.mode ≡ Included → IsIncluded p
included_by p ruled mode =
    let two = and_parts (parts_rule p && whole_rule p) (script_rule p.start p.files) ruled in
    let both = and_parts (parts_rule p) (whole_rule p) two.0 in
    let listed = and_parts (start_rule p.start && files_rule p.files && tables_rule p.tables) (logs_rule p.logs) both.0 in
    let tabled = and_parts (start_rule p.start && files_rule p.files) (tables_rule p.tables) listed.0 in
    let filed = and_parts (start_rule p.start) (files_rule p.files) tabled.0 in
    let run = and_parts (mode_rule p.mode p.tables p.logs && steps_rule p.steps && trace_rule p.start p.steps p.events) (reasons_rule (asked_count p.events) p.tables) both.1 in
    let traced = and_parts (mode_rule p.mode p.tables p.logs && steps_rule p.steps) (trace_rule p.start p.steps p.events) run.0 in
    let moded = and_parts (mode_rule p.mode p.tables p.logs) (steps_rule p.steps) traced.0 in
    let none : (length p.logs == 0) ≡ true = subst (λ (m : Mode). mode_rule m p.tables p.logs ≡ true) mode moded.0 in
    record {
      mode = mode;
      logs = nil_from_length p.logs (eqb-true _ _ none);
      files = (and_parts (nat_le (length p.files) max_files) (are_files p.files) filed.1).1;
      tables = (and_parts (nat_le (length p.tables) max_tables) (are_tables p.tables) tabled.1).1;
    }

pub included : (p : Package) → IsValidPackage p → p.mode ≡ Included → IsIncluded p
included p valid mode = included_by p (and_parts (has_room p) (rules p) valid).1 mode

pub valid_law : ValidLaw
valid_law a b j va vb ma mb is = by (clash_of a b) refl is
  where
    by : (o : Option Clash) → clash_of a b ≡ o → unless_clash o (put_together a b) ≡ Ok j → IsValidJoined j
    by (Some clash) none ok = cc
    by None none ok =
        let same : put_together a b ≡ j = cc in
        let picked = pick_law a b (included a va ma) (included b vb mb) none in
        record {
          first = subst IsValidPackage (sym picked.first ∙ ap (run_package First) same) va;
          second = subst IsValidPackage (sym picked.second ∙ ap (run_package Second) same) vb;
          same = anew_law a b (included a va ma) (included b vb mb) j is;
        }

-- what copies of both without their logs are joined to, is what both are joined to: no log is looked at
pub copies_as : (a b first second : Package) (result : Result Joined JoinStop) → first ≡ without_logs a → second ≡ without_logs b
    → JoinsAs result (joined_of first second) → JoinsAs result (joined_of a b)
copies_as a b first second result one two due = subst (JoinsAs result) (λ i. joined_of (one i) (two i)) due

-- and it is valid
pub copies_joined : (a b first second : Package) (result : Result Joined JoinStop) → IsValidPackage a → IsValidPackage b → a.mode ≡ Included → b.mode ≡ Included
    → first ≡ without_logs a → second ≡ without_logs b → JoinsAs result (joined_of first second) → IfOk result (λ j. IsValidJoined j)
copies_joined a b first second (Ok j) va vb ma mb one two due = valid_law a b j va vb ma mb ((λ i. joined_of (sym one i) (sym two i)) ∙ due)
copies_joined a b first second (Err stop) va vb ma mb one two due = tt
