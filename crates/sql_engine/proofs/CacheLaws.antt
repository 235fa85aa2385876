-- What holds of each kept text, after a change of those that are kept.
use Rattle.std.proofs.Common.{◌≡◌, ◌<◌, ℕ, zero, suc, List, [], ◌∷◌, ◌++◌, length, ap, refl, sym, subst, arith}
use Rattle.std.specs.Prelude.{slice_index_or, slice_set}
use Rattle.std.specs.List.{AllByRecursion}
use Rattle.ldv_value.proofs.ItemLists.{all_append}
use Rattle.sql_engine.specs.Types.{Catalog}
use Rattle.sql_engine.specs.declared.cache.Entry.{Entry}
use Rattle.sql_engine.specs.inner.Keeping.{AreEntriesOf, AreKept, IsEntryOf}

module _ {X : Type 0} (P : X → Type 0) where
  all_at : (xs : List X) (place : ℕ) (d : X) → AllByRecursion P xs → place < length xs → P (slice_index_or xs place d)
  all_at [] place d all within = absurd (omega arith)
  all_at (x ∷ xs) zero d all within = all.0
  all_at (x ∷ xs) (suc place) d all within = all_at xs place d all.1 (omega arith)

  all_with : (xs : List X) (place : ℕ) (y : X) → AllByRecursion P xs → P y → AllByRecursion P (slice_set xs place y)
  all_with [] place y all here = tt
  all_with (x ∷ xs) zero y all here = (here, all.1)
  all_with (x ∷ xs) (suc place) y all here = (all.0, all_with xs place y all.1 here)

length_with : {X : Type 0} (xs : List X) (place : ℕ) (y : X) → length (slice_set xs place y) ≡ length xs
length_with [] place y = refl
length_with (x ∷ xs) zero y = refl
length_with (x ∷ xs) (suc place) y = ap suc (length_with xs place y)

length_more : {X : Type 0} (xs : List X) (y : X) → length (xs ++ y ∷ []) ≡ suc (length xs)
length_more [] y = refl
length_more (x ∷ xs) y = ap suc (length_more xs y)

module _ (catalog : Catalog) (old new : List Entry) where
  pub entries_same : new ≡ old → AreKept catalog old → AreKept catalog new
  entries_same same are = subst (AreKept catalog) (sym same) are

  pub entries_added : (entry : Entry) → new ≡ old ++ entry ∷ [] → IsEntryOf catalog entry → length old < 64
      → AreKept catalog old → AreKept catalog new
  entries_added entry same here room are = subst (AreKept catalog) (sym same) (record {
    each = all_append (IsEntryOf catalog) old (entry ∷ []) are.each (here, tt);
    few = omega (arith, length_more old entry, room);
  })

  pub entries_replaced : (entry : Entry) (place : ℕ) → new ≡ slice_set old place entry → IsEntryOf catalog entry
      → AreKept catalog old → AreKept catalog new
  entries_replaced entry place same here are = subst (AreKept catalog) (sym same) (record {
    each = all_with (IsEntryOf catalog) old place entry are.each here;
    few = omega (arith, length_with old place entry, are.few);
  })

pub entry_at : (catalog : Catalog) (entries : List Entry) (entry : Entry) (place : ℕ) → entry ≡ slice_index_or entries place entry
    → place < length entries → AreEntriesOf catalog entries → IsEntryOf catalog entry
entry_at catalog entries entry place same within are =
    subst (IsEntryOf catalog) (sym same) (all_at (IsEntryOf catalog) entries place entry are within)

pub ruleset entry_rules = (entries_same, entries_added, entries_replaced)
