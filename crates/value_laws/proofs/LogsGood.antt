-- The logs of a run of a good world are good, and sorted by process.
use Rattle.std.proofs.Common.{◌≡◌, ℕ, ◌≤◌, List, [], ◌∷◌, length, refl, ◌∙◌, Bool, true, arith, inl, inr}
use Rattle.std.specs.Prelude.{Option, Some, None, map, filter, nat_le, ◌&&◌, option_and_then, IsTrue}
use Rattle.std.specs.List.{list_all, AllByRecursion}
use Rattle.std.specs.Str.{IsUtf8}
use Rattle.std.proofs.lemmas.Bool.{cases_Bool, leb-true, lt-ltb}
use Rattle.ldv_value.specs.Names.{path_test}
use Rattle.ldv_value.proofs.Booleans.{and-parts, and-from}
use Rattle.ldv_value.proofs.Lists.{all-weaker, length-map, sorted-map, tested-all}
use Rattle.script_parse.specs.Script.{script_of}
use Rattle.ldv_value.proofs.ItemLists.{all_map}
use Rattle.sql_model.proofs.SortedLists.{sorted-filter}
use Rattle.run_model.specs.Types.{Text, Instr}
use Rattle.ldv_value.specs.declared.file.File.{File}
use Rattle.run_model.specs.declared.world.World.{World}
use Rattle.run_model.specs.Core.{Process, Core, after_first_word, first_process}
use Rattle.run_model.specs.Outcome.{by_name}
use Rattle.run_model.specs.Start.{start_file, start_script, start_state}
use Rattle.run_model.specs.SqlDatabase.{sql_base}
use Rattle.run_model.specs.Run.{run}
use Rattle.run_model.specs.TypedPackage.{TypedEntry}
use Rattle.run_model.specs.ValidPackage.{is_short_text, start_rule, is_root_process, entry_rule, log_precedes}
use Rattle.run_model.specs.WorldRun.{has_asked, log_of, logs_of, logs_in}
use Rattle.package_codec.specs.Room.{fits_u16_count, entry_room}
use Rattle.value_laws.specs.Answers.{AnswersLaw, NoStatementLaw}
use Rattle.value_laws.specs.Literals.{GoodScript, ScriptLiteralsLaw, StatementLiteralsLaw}
use Rattle.value_laws.specs.Steps.{GoodWorld, GoodLog, GoodLogs, StepsLaw}
use Rattle.value_laws.specs.Values.{GoodValues, GoodEntry}
use Rattle.value_laws.proofs.RunGood.{GoodTrail, GoodProcess, GoodList, GoodState, run_good}
use Rattle.run_laws.proofs.SortedNames.{goes_first, first_trans, sorted_all, names_sorted}
use Rattle.value_laws.proofs.StepGood.{arguments_good}
use Rattle.run_laws.proofs.StepTrails.{trail}

-- ---- logs of processes

filter_passed : {X : Type 0} (P : X → Type 0) (test : X → Bool) (xs : List X) → AllByRecursion P xs
    → AllByRecursion (λ x. P x × (test x ≡ true)) (filter test xs)
filter_passed P test [] all = tt
filter_passed P test (x ∷ xs) all = elim (cases_Bool (test x)) [
  | inl hit ↦ rw hit ((all.0, hit), filter_passed P test xs all.1)
  | inr miss ↦ rw miss (filter_passed P test xs all.1)
]

log_good : (made : ℕ) → made ≤ 65535 → (p : Process) → GoodProcess made p → has_asked p ≡ true → GoodLog (log_of p)
log_good made few p good asked =
    let told : GoodTrail made (trail p) = good.told in
    let ruled : list_all entry_rule p.entries ≡ true =
    tested-all entry_rule p.entries (all-weaker GoodEntry (λ e. IsTrue (entry_rule e)) (λ e here. here.ruled) p.entries told.entries) in
    let room : list_all entry_room p.entries ≡ true =
    tested-all entry_room p.entries (all-weaker GoodEntry (λ e. IsTrue (entry_room e)) (λ e here. here.room) p.entries told.entries) in
    let short : fits_u16_count p.name ≡ true = lt-ltb (length p.name) 65536 (omega (arith, told.depth, few)) in
    record {
      typed = (told.parts, all-weaker GoodEntry TypedEntry (λ e here. here.typed) p.entries told.entries);
      ruled =
          and-from (is_root_process p.name && has_asked p) (list_all entry_rule p.entries)
          (and-from (is_root_process p.name) (has_asked p) told.root asked) ruled;
      room = and-from (fits_u16_count p.name) (list_all entry_room p.entries) short room;
    }

core_logs : (c : Core) → GoodList c.processes → GoodLogs (logs_of c)
core_logs c good = record {
  each =
      all_map GoodLog log_of (filter has_asked (by_name c.processes))
      (all-weaker (λ p. GoodProcess (length c.processes) p × (has_asked p ≡ true)) (λ p. GoodLog (log_of p)) (λ p here. log_good (length c.processes) good.few p here.0 here.1)
      (filter has_asked (by_name c.processes))
      (filter_passed (GoodProcess (length c.processes)) has_asked (by_name c.processes)
      (sorted_all (GoodProcess (length c.processes)) c.processes good.each)));
  sorted =
      sorted-map goes_first log_precedes log_of (λ a b. refl) (filter has_asked (by_name c.processes))
      ∙ sorted-filter goes_first first_trans has_asked (by_name c.processes)
      (names_sorted c.processes good.named.distinct);
}

-- ---- the start

words_good : (words : List (List ℕ)) → AllByRecursion IsUtf8 words → list_all is_short_text words ≡ true
    → GoodValues (map Text words)
words_good [] texts short = tt
words_good (word ∷ words) texts short =
    let both = and-parts (is_short_text word) (list_all is_short_text words) short in
    ((texts.0, both.0), words_good words texts.1 both.1)

record Words (start : List (List ℕ)) : Type 0 where
  values : GoodValues (map Text (after_first_word start))
  few : length (map Text (after_first_word start)) ≤ 255

start_words : (start : List (List ℕ)) → AllByRecursion IsUtf8 start → start_rule start ≡ true → Words start
start_words [] texts rule = absurd cc
start_words (word ∷ words) texts rule =
    let a = and-parts (path_test word && nat_le (length words) 255) (list_all is_short_text (word ∷ words)) rule in
    let b = and-parts (path_test word) (nat_le (length words) 255) a.0 in
    let c = and-parts (is_short_text word) (list_all is_short_text words) a.1 in
    let few : length words ≤ 255 = leb-true (length words) 255 b.1 in
    record {
      values = words_good words texts.1 c.1;
      few = omega (arith, length-map words Text, few);
    }

module _ (literals : ScriptLiteralsLaw) (constants : StatementLiteralsLaw) (answers : AnswersLaw) (none : NoStatementLaw) where
  file_script : (o : Option File) (script : List Instr) → option_and_then (λ (file : File). script_of file.content) o ≡ Some script
      → GoodScript script
  file_script None script is = absurd cc
  file_script (Some file) script is = literals file.content script is

  first_good : (w : World) (script : List Instr) → GoodWorld w → GoodScript script
      → GoodProcess 1 (first_process w.start script)
  first_good w script good instructions =
      let words : Words w.start = start_words w.start good.texts good.words in
      record {
        values = record {
          variables = arguments_good (map Text (after_first_word w.start)) words.values words.few;
          cursors = tt;
          script = instructions;
          status = tt;
        };
        told = record {
          entries = tt;
          root = refl;
          parts = (omega arith, tt);
          depth = omega arith;
          spawned = omega arith;
        };
      }

  start_good : (w : World) (script : List Instr) → GoodWorld w → GoodScript script → GoodState (start_state w script)
  start_good w script good instructions = record {
    list = record {
      each = (first_good w script good instructions, tt);
      few = omega arith;
      named = record { distinct = (tt, tt); made = (inl refl, tt) };
    };
    db = record { tables = good.tables; valid = good.valid };
  }

  logs_from : (n : ℕ) (picks : List ℕ) (w : World) (o : Option (List Instr)) → start_script w ≡ o → GoodWorld w
      → GoodLogs (logs_in n picks w o)
  logs_from n picks w None is good = record { each = tt; sorted = refl }
  logs_from n picks w (Some script) is good =
      let instructions : GoodScript script = file_script (start_file w) script is in
      let end : GoodState (run sql_base n picks (start_state w script)) =
      run_good literals constants answers none n picks (start_state w script) (start_good w script good instructions) in
      core_logs (run sql_base n picks (start_state w script)).core end.list

  pub logs_good : StepsLaw
  logs_good n picks w good = logs_from n picks w (start_script w) refl good
