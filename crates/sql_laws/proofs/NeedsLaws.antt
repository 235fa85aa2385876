-- A sorted list of needed rows, each once with its first rule, is a map from rows to rules.
use Rattle.std.proofs.Common.{◌≡◌, ℕ, List, [], ◌∷◌, ◌++◌, refl, sym, ap, ◌∙◌, Bool, true, false}
use Rattle.std.specs.Prelude.{map, ◌&&◌, ◌||◌, if◌then◌else◌, cond, Option, Some}
use Rattle.std.specs.Cmp.{IsTotalOrder, unsigned_tied}
use Rattle.std.specs.Cmp.Lexicographic.{slice_cmp}
use Rattle.ldv_value.proofs.Lists.{nil-from-length}
use Rattle.std.specs.FinMap.{FinMap, empty, len-entries, len-empty, from_entries, entries, entries-insert, get-from_entries, same_map, slice_cmp-IsAntisymmetric, nat_cmp-IsAntisymmetric, IsAntisymmetric}
use Rattle.std.specs.FinMap.Entries.{put, find, by_order}
use Rattle.std.specs.Ordering.{nat_cmp, is_lt, is_eq, eq_by_cmp, ordering_then}
use Rattle.std.specs.declared.cmp.Ordering.{Ordering}
use Rattle.std.specs.declared.cmp.Ordering.TheVariants.{Less, Equal, Greater}
use Rattle.std.proofs.lemmas.Cmp.{on_total, then_total, nat_cmp_total, nat_list_cmp_total}
use Rattle.std.proofs.lemmas.Map.Lookups.{exact_pairs}
use Rattle.std.proofs.lemmas.Map.Text.{is_eq-slice_cmp}
use Rattle.sql_laws.specs.LineageLaw.{NeedsLaw}
use Rattle.sql_laws.specs.Types.{Rule}
use Rattle.sql_model.specs.QueryAnswer.{Origin}
use Rattle.sql_model.specs.Needs.{NeededRow, needed_row, needed_by, is_same_row, is_earlier_row, put_row, sorted_needs}
use Rattle.sql_model.specs.Origins.{is_origin, has_origin, RuleOrigins, rows_by_rules, SameRuleOrigins}
use Rattle.ldv_value.proofs.Orderings.{then-tied}

-- ---- as entries of a map

abbrev RowKey : Type 0
RowKey = List ℕ × ℕ

abbrev key_cmp : RowKey → RowKey → Ordering
key_cmp a b = ordering_then (slice_cmp nat_cmp a.0 b.0) (nat_cmp a.1 b.1)

key_total : IsTotalOrder key_cmp
key_total = then_total (on_total (λ (k : RowKey). k.0) nat_list_cmp_total) (on_total (λ (k : RowKey). k.1) nat_cmp_total)

key_exact : IsAntisymmetric key_cmp
key_exact = exact_pairs (slice_cmp nat_cmp) nat_cmp (slice_cmp-IsAntisymmetric nat_cmp-IsAntisymmetric) nat_cmp-IsAntisymmetric

abbrev entry : NeededRow → RowKey × Rule
entry n = ((n.table, n.row), n.rule)

abbrev entries_of : List NeededRow → List (RowKey × Rule)
entries_of ns = map entry ns

rows_back : (ns : List NeededRow) → map (λ e. needed_row e.1 e.0.0 e.0.1) (entries_of ns) ≡ ns
rows_back [] = refl
rows_back (n ∷ ns) = ap (λ (l : List NeededRow). n ∷ l) (rows_back ns)

-- ---- a row is put as into a map

module _ (n m : NeededRow) (ms more : List NeededRow) where
  -- what is put, by how the tables and the numbers compare
  abbrev put_by : Ordering → Ordering → List NeededRow
  put_by tables numbers =
      if is_eq tables && is_eq numbers then n ∷ ms
      else (if (if is_eq tables then is_lt numbers else is_lt tables) then n ∷ m ∷ ms else m ∷ more)

  put_is : put_by (slice_cmp nat_cmp n.table m.table) (nat_cmp n.row m.row)
      ≡ (if is_same_row n m then n ∷ ms else (if is_earlier_row n m then n ∷ m ∷ ms else m ∷ more))
  put_is = λ j.
      if is_eq-slice_cmp n.table m.table j && unsigned_tied n.row m.row j then n ∷ ms
      else (if (if is_eq-slice_cmp n.table m.table j then is_lt (nat_cmp n.row m.row) else is_lt (slice_cmp nat_cmp n.table m.table)) then n ∷ m ∷ ms else m ∷ more)

  put_entries : (tables numbers : Ordering) → slice_cmp nat_cmp n.table m.table ≡ tables → nat_cmp n.row m.row ≡ numbers
      → entries_of (put_by tables numbers)
      ≡ by_order (ordering_then tables numbers) (entry n ∷ entry m ∷ entries_of ms) (((m.table, m.row), n.rule) ∷ entries_of ms) (entry m ∷ entries_of more)
  put_entries Less numbers t r = refl
  put_entries Equal Less t r = refl
  put_entries Equal Equal t r =
      let table : n.table ≡ m.table = slice_cmp-IsAntisymmetric nat_cmp-IsAntisymmetric n.table m.table t in
      let row : n.row ≡ m.row = nat_cmp-IsAntisymmetric n.row m.row r in
      λ j. ((table j, row j), n.rule) ∷ entries_of ms
  put_entries Equal Greater t r = refl
  put_entries Greater numbers t r = refl

entries-put : (n : NeededRow) (ms : List NeededRow)
    → entries_of (put_row n ms) ≡ put key_cmp (n.table, n.row) n.rule (entries_of ms)
entries-put n [] = refl
entries-put n (m ∷ ms) =
    sym (ap entries_of (put_is n m ms (put_row n ms)))
    ∙ put_entries n m ms (put_row n ms) (slice_cmp nat_cmp n.table m.table) (nat_cmp n.row m.row) refl refl
    ∙ (λ j. by_order (key_cmp (n.table, n.row) (m.table, m.row)) (entry n ∷ entry m ∷ entries_of ms) (((m.table, m.row), n.rule) ∷ entries_of ms) (entry m ∷ entries-put n ms j))

abbrev rules_of : List NeededRow → FinMap key_cmp Rule
rules_of ns = from_entries (entries_of ns)

entries-rising : (ns : List NeededRow) → entries_of (sorted_needs ns) ≡ entries (rules_of ns)
entries-rising [] =
    sym (nil-from-length (entries none) (sym (len-entries none) ∙ len-empty key_cmp Rule))
  where
    none : FinMap key_cmp Rule
    none = empty
entries-rising (n ∷ ns) =
    entries-put n (sorted_needs ns)
    ∙ ap (put key_cmp (n.table, n.row) n.rule) (entries-rising ns)
    ∙ sym (entries-insert key_total (rules_of ns) (n.table, n.row) n.rule)

-- rows with the same first rule of each row
rising-same : (ns ms : List NeededRow)
    → ((k : RowKey) → find key_cmp k (entries_of ns) ≡ find key_cmp k (entries_of ms))
    → sorted_needs ns ≡ sorted_needs ms
rising-same ns ms same =
    let maps : rules_of ns ≡ rules_of ms = same_map key_total key_exact (rules_of ns) (rules_of ms) (λ k. get-from_entries key_total (entries_of ns) k ∙ same k ∙ sym (get-from_entries key_total (entries_of ms) k)) in
    sym (rows_back (sorted_needs ns))
    ∙ ap (map (λ (e : RowKey × Rule). needed_row e.1 e.0.0 e.0.1)) (entries-rising ns ∙ ap entries maps ∙ sym (entries-rising ms))
    ∙ rows_back (sorted_needs ms)

-- ---- rows by rules

abbrev origin_at : RowKey → Origin
origin_at k = record { table = k.0; row = k.1 }

key_is : (k : RowKey) (o : Origin) → eq_by_cmp key_cmp k (o.table, o.row) ≡ is_origin (origin_at k) o
key_is k o =
    then-tied (slice_cmp nat_cmp k.0 o.table) (nat_cmp k.1 o.row)
    ∙ (λ j. is_eq-slice_cmp k.0 o.table j && unsigned_tied k.1 o.row j)

either_found : (a b : Bool) (rule : Rule) (o : Option Rule) → cond a (Some rule) (cond b (Some rule) o) ≡ cond (a || b) (Some rule) o
either_found true b rule o = refl
either_found false b rule o = refl

found-needing : (rule : Rule) (os : List Origin) (rest : List NeededRow) (k : RowKey)
    → find key_cmp k (entries_of (map (needed_by rule) os ++ rest))
    ≡ cond (has_origin (origin_at k) os) (Some rule) (find key_cmp k (entries_of rest))
found-needing rule [] rest k = refl
found-needing rule (o ∷ os) rest k =
    (λ j. cond (key_is k o j) (Some rule) (found-needing rule os rest k j))
    ∙ either_found (is_origin (origin_at k) o) (has_origin (origin_at k) os) rule (find key_cmp k (entries_of rest))

found-same : (a b : List RuleOrigins) → SameRuleOrigins a b → (k : RowKey)
    → find key_cmp k (entries_of (rows_by_rules a)) ≡ find key_cmp k (entries_of (rows_by_rules b))
found-same [] [] same k = refl
found-same [] (n ∷ ns) same k = absurd same
found-same (m ∷ ms) [] same k = absurd same
found-same (m ∷ ms) (n ∷ ns) same k =
    found-needing m.rule m.origins (rows_by_rules ms) k
    ∙ (λ j. cond (same.1 (origin_at k) j) (Some (same.0 j)) (found-same ms ns same.2 k j))
    ∙ sym (found-needing n.rule n.origins (rows_by_rules ns) k)

pub needs_law : NeedsLaw
needs_law a b same = rising-same (rows_by_rules a) (rows_by_rules b) (found-same a b same)
