-- The tables now, which are the tables after any time from their last change on.
use Rattle.std.proofs.Common.{◌≡◌, ℕ, suc, ◌<◌, ◌≤◌, inl, inr, Bool, true, false, cond, List, [], ◌∷◌, map, length, get_or, refl, ap, sym, subst, ◌∙◌, arith, Option, Some, None, le-leb}
use Rattle.std.specs.Prelude.{find, filter, nat_le, IfSome, IsSome, IfOk, Result, Ok, Err}
use Rattle.std.specs.List.{cons_option, last_or}
use Rattle.std.specs.Option.{option_map, option_map_or}
use Rattle.std.proofs.lemmas.Bool.{cases_Bool}
use Rattle.row_version.specs.History.{current_values, as_of}
use Rattle.row_version.proofs.Later.{as_of_now}
use Rattle.sql_model.specs.Scope.{table_at}
use Rattle.table_store.specs.Types.{Table, TableRow}
use Rattle.table_store.specs.Histories.{RowHistory, NextSince, TableHistory, StoreHistory, row_of, rows_now, rows_as_of, next_as_of, last_next_number, last_since, table_now, tables_now, is_history, history_at}
use Rattle.table_store.specs.StoreView.{no_table}
use Rattle.table_store.specs.TableView.{AreTimed}

-- ---- a table by its name

-- what is found among the tables is found among the tables as they are now
pub found_now : (name : List ℕ) (tables : List TableHistory) → table_at name (map table_now tables) ≡ option_map table_now (find (is_history name) tables)
found_now name [] = refl
found_now name (table ∷ tables) = by (is_history name table) (found_now name tables) where
  by : (b : Bool) → table_at name (map table_now tables) ≡ option_map table_now (find (is_history name) tables)
      → cond b (Some (table_now table)) (table_at name (map table_now tables)) ≡ option_map table_now (cond b (Some table) (find (is_history name) tables))
  by true rest = refl
  by false rest = rest

pub some_from : (o : Option TableHistory) → IsSome (option_map table_now o) → IsSome o
some_from None some = some
some_from (Some table) some = some

pub there_from : (name : List ℕ) (tables : List TableHistory) → IsSome (table_at name (map table_now tables)) → IsSome (find (is_history name) tables)
there_from name tables there = some_from (find (is_history name) tables) (subst (λ (o : Option Table). IsSome o) (found_now name tables) there)

found_timed : (time : ℕ) (name : List ℕ) (tables : List TableHistory) → ((k : ℕ) → k < length tables → last_since (get_or tables k no_table).nexts ≤ time) → IfSome (find (is_history name) tables) (λ table. last_since table.nexts ≤ time)
found_timed time name [] timed = tt
found_timed time name (table ∷ tables) timed = by (is_history name table) (timed 0 (omega arith)) (found_timed time name tables (λ k below. timed (suc k) (omega (arith, below)))) where
  by : (b : Bool) → last_since table.nexts ≤ time → IfSome (find (is_history name) tables) (λ one. last_since one.nexts ≤ time) → IfSome (cond b (Some table) (find (is_history name) tables)) (λ one. last_since one.nexts ≤ time)
  by true here rest = here
  by false here rest = rest

-- of a table that was found by other means
pub timed_by : {R : Type 0} (f : R → TableHistory) (r : Option R) (time : ℕ) (name : List ℕ) (tables : List TableHistory) → option_map f r ≡ find (is_history name) tables
    → ((k : ℕ) → k < length tables → last_since (get_or tables k no_table).nexts ≤ time) → IfSome r (λ x. last_since (f x).nexts ≤ time)
timed_by f None time name tables is timed = tt
timed_by f (Some x) time name tables is timed = subst (λ (o : Option TableHistory). IfSome o (λ table. last_since table.nexts ≤ time)) (sym is) (found_timed time name tables timed)

-- ---- from the last change on

pub rows_last : (last time : ℕ) (slots : List RowHistory) → AreTimed last slots → last ≤ time → rows_as_of time slots ≡ rows_now slots
rows_last last time [] timed past = refl
rows_last last time (row ∷ slots) timed past =
    let one = timed 0 (omega arith) in
    let now : as_of row.changes time ≡ current_values row.changes = as_of_now row.changes time one.sorted (omega (arith, one.by, past)) in
    λ j. cons_option (row_of row.number (now j)) (rows_last last time slots (λ k below. timed (suc k) (omega (arith, below))) past j)

-- the last number passes where its time has come
last_passes : (time : ℕ) (before after : Option NextSince) (nexts : List NextSince) → option_map_or (λ (since : NextSince). since.time) (last_or before nexts) 0 ≤ time → (nexts ≡ [] → after ≡ before)
    → last_or after (filter (λ (since : NextSince). nat_le since.time time) nexts) ≡ last_or before nexts
last_passes time before after [] past same = same refl
last_passes time before after (since ∷ nexts) past same = elim (cases_Bool (nat_le since.time time)) [
  | inl hit ↦
      ap (λ b. last_or after (cond b (since ∷ filter (λ (one : NextSince). nat_le one.time time) nexts) (filter (λ (one : NextSince). nat_le one.time time) nexts))) hit
      ∙ last_passes time (Some since) (Some since) nexts past (λ none. refl)
  | inr miss ↦
      ap (λ b. last_or after (cond b (since ∷ filter (λ (one : NextSince). nat_le one.time time) nexts) (filter (λ (one : NextSince). nat_le one.time time) nexts))) miss
      ∙ last_passes time (Some since) after nexts past (λ none.
      let early : since.time ≤ time = subst (λ (l : List NextSince). option_map_or (λ (one : NextSince). one.time) (last_or (Some since) l) 0 ≤ time) none past in
      let wrong : true ≡ false = sym (le-leb since.time time early) ∙ miss in cc)
]

pub next_last : (time : ℕ) (nexts : List NextSince) → last_since nexts ≤ time → next_as_of time nexts ≡ last_next_number nexts
next_last time nexts past = ap (λ (o : Option NextSince). option_map_or (λ (since : NextSince). since.next) o 0) (last_passes time None None nexts past (λ none. refl))

-- ---- a table that was found

pub now_at : (name : List ℕ) (store : StoreHistory) (table : TableHistory) → Some table ≡ history_at name store → table_at name (tables_now store) ≡ Some (table_now table)
now_at name store table is = found_now name store.tables ∙ ap (option_map table_now) (sym is)

pub now_none : (name : List ℕ) (store : StoreHistory) → None ≡ history_at name store → table_at name (tables_now store) ≡ None
now_none name store none = found_now name store.tables ∙ ap (option_map table_now) (sym none)

pub not_absent : (name : List ℕ) (store : StoreHistory) → IsSome (table_at name (tables_now store)) → None ≡ history_at name store → ⊥
not_absent name store there none =
    let wrong : IsSome {T = TableHistory} None = subst (λ (o : Option TableHistory). IsSome o) (sym none) (there_from name store.tables there) in
    cc

pub given_at : (P : TableHistory → Type 0) (name : List ℕ) (store : StoreHistory) (table : TableHistory) → Some table ≡ history_at name store → IfSome (history_at name store) P → P table
given_at P name store table is given = subst (λ (o : Option TableHistory). IfSome o P) (sym is) given

pub given_now : (P : Table → Type 0) (name : List ℕ) (store : StoreHistory) (table : TableHistory) → Some table ≡ history_at name store → IfSome (table_at name (tables_now store)) P → P (table_now table)
given_now P name store table is given = subst (λ (o : Option Table). IfSome o P) (now_at name store table is) given

pub ok_rows : {E : Type 0} (r : Result (List TableRow) E) (name : List ℕ) (store : StoreHistory) (table : TableHistory) → Some table ≡ history_at name store → IfOk r (λ rows. rows ≡ rows_now table.slots)
    → IfOk r (λ rows. option_map (λ (one : Table). one.rows) (table_at name (tables_now store)) ≡ Some rows)
ok_rows (Ok rows) name store table is same = ap (option_map (λ (one : Table). one.rows)) (now_at name store table is) ∙ ap (λ (l : List TableRow). Some l) (sym same)
ok_rows (Err e) name store table is same = tt
