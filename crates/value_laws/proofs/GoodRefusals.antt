-- A refusal is good: a key that is taken belongs to a good row.
use Rattle.std.proofs.Common.{◌≡◌, ℕ, ◌<◌, ◌≤◌, arith, List, [], ◌∷◌, ◌++◌, refl, Bool, true, false}
use Rattle.std.specs.Prelude.{Option, Some, None, length, find, if◌then◌else◌, IsTrue}
use Rattle.std.specs.List.{AllByRecursion, list_all}
use Rattle.std.proofs.lemmas.Bool.{lt-ltb}
use Rattle.ldv_value.proofs.Lists.{all-weaker, tested-all, length-map}
use Rattle.sql_laws.specs.Types.{Value, Catalog, Refused, SqlRefusal, NoTable, NoColumn, TypeClash, NotNull, KeyTaken, Full, Statement, Table, TableRow}
use Rattle.sql_model.specs.Changes.{table_after, lacks_value, KeyClash, shares_key, clash_or, clash_after, clash_by, key_clash, key_refusal, is_full, or_else, refusal_if, change_refusal}
use Rattle.sql_model.specs.Keys.{values_at}
use Rattle.sql_model.specs.Refusals.{lacks_table, lacks_column, clashes, check_refusal}
use Rattle.ldv_value.specs.Cells.{value_at}
use Rattle.sql_model.specs.Tables.{is_short}
use Rattle.run_model.specs.TypedPackage.{TypedValue, TypedValues}
use Rattle.value_laws.specs.Values.{GoodValue, GoodValues, GoodStatement, GoodRow, GoodTable, GoodReply}
use Rattle.value_laws.proofs.GoodChanges.{changed_good}
use Rattle.value_laws.proofs.GoodMeaning.{value_at_good}

-- ---- values as types and rules ask of them

pub typed_values : (vs : List Value) → GoodValues vs → TypedValues vs
typed_values vs all = all-weaker GoodValue TypedValue (λ v good. good.0) vs all

pub short_values : (vs : List Value) → GoodValues vs → list_all is_short vs ≡ true
short_values vs all = tested-all is_short vs (all-weaker GoodValue (λ v. IsTrue (is_short v)) (λ v good. good.1) vs all)

-- ---- refusals

abbrev pub GoodRefusal : Option SqlRefusal → Type 0
GoodRefusal None = Unit {0}
GoodRefusal (Some refusal) = GoodReply (Refused refusal)

if_good : (b : Bool) (refusal : SqlRefusal) → GoodReply (Refused refusal) → GoodRefusal (refusal_if b refusal)
if_good true refusal good = good
if_good false refusal good = tt

pub else_good : (a b : Option SqlRefusal) → GoodRefusal a → GoodRefusal b → GoodRefusal (or_else a b)
else_good None b first second = second
else_good (Some refusal) b first second = first

checks_good : (two three four : Bool)
    → GoodRefusal (if two then Some NoTable else (if three then Some NoColumn else (if four then Some TypeClash else None)))
checks_good true three four = record { typed = tt; ruled = refl; room = refl }
checks_good false true four = record { typed = tt; ruled = refl; room = refl }
checks_good false false true = record { typed = tt; ruled = refl; room = refl }
checks_good false false false = tt

pub check_good : (s : Statement) (catalog : Catalog) → GoodRefusal (check_refusal s catalog)
check_good s catalog = checks_good (lacks_table s catalog) (lacks_column s catalog) (clashes s catalog)

-- ---- keys

abbrev GoodClash : Option KeyClash → Type 0
GoodClash None = Unit {0}
GoodClash (Some clash) = GoodRow clash.later

clash_or_good : (o : Option TableRow) (row : TableRow) (next : Option KeyClash) → GoodRow row → GoodClash next
    → GoodClash (clash_or o row next)
clash_or_good None row next here there = there
clash_or_good (Some earlier) row next here there = here

clash_good : (key : List ℕ) (before rows : List TableRow) → AllByRecursion GoodRow rows
    → GoodClash (clash_after key before rows)
clash_good key before [] all = tt
clash_good key before (row ∷ rows) all =
    clash_or_good (find (shares_key key row) before) row (clash_after key (before ++ row ∷ []) rows) all.0
    (clash_good key (before ++ row ∷ []) rows all.1)

clash_by_good : (key : List ℕ) (rows : List TableRow) → AllByRecursion GoodRow rows → GoodClash (clash_by key rows)
clash_by_good [] rows all = tt
clash_by_good (place ∷ places) rows all = clash_good (place ∷ places) [] rows all

pub key_good : (places : List ℕ) (row : List Value) → GoodValues row → GoodValues (values_at places row)
key_good [] row all = tt
key_good (place ∷ places) row all = (value_at_good row place all, key_good places row all)

taken_good : (t : Table) (row : TableRow) → GoodTable t → GoodRow row
    → GoodReply (Refused (KeyTaken t.name (values_at t.schema.key row.values)))
taken_good t row table good =
    let key : List ℕ = t.schema.key in
    let values : GoodValues (values_at key row.values) = key_good key row.values good in
    let long : length (values_at key row.values) ≡ length key = length-map key (value_at row.values) in
    let few : length key ≤ 64 = table.key in
    let short : length (values_at key row.values) < 256 = omega (arith, long, few) in
    record {
      typed = (table.name, typed_values (values_at key row.values) values);
      ruled = short_values (values_at key row.values) values;
      room = lt-ltb (length (values_at key row.values)) 256 short;
    }

key_refusal_good : (t : Table) (o : Option KeyClash) → GoodTable t → GoodClash o → GoodRefusal (key_refusal t o)
key_refusal_good t None table good = tt
key_refusal_good t (Some clash) table good = taken_good t clash.later table good

-- ---- what a change is refused for

abbrev pub GoodTarget : Option Table → Type 0
GoodTarget None = Unit {0}
GoodTarget (Some t) = GoodTable t

pub change_good : (s : Statement) (catalog : Catalog) (o : Option Table) → GoodStatement s → GoodTarget o
    → GoodRefusal (change_refusal s catalog o)
change_good s catalog None good table = tt
change_good s catalog (Some t) good table =
    let after : Table = table_after s catalog t in
    let key : Option SqlRefusal = key_refusal t (key_clash after) in
    let full : Option SqlRefusal = refusal_if (is_full s t) Full in
    else_good (refusal_if (lacks_value s catalog t) NotNull) (or_else key full)
    (if_good (lacks_value s catalog t) NotNull (record { typed = tt; ruled = refl; room = refl }))
    (else_good key full
    (key_refusal_good t (key_clash after) table (clash_by_good after.schema.key after.rows (changed_good s catalog t good table).rows))
    (if_good (is_full s t) Full (record { typed = tt; ruled = refl; room = refl })))
