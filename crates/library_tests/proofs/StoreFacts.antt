-- Facts about a store that the table that it lends shows.
use Rattle.std.proofs.Common.{◌≡◌, ◌∙◌, ap, refl, sym, subst, ℕ, List, Option, Some, None, length}
use Rattle.std.specs.Prelude.{IsSome, IfSome, ◌+◌, ◌/◌, unwrap_or}
use Rattle.std.specs.Option.{option_map}
use Rattle.sql_model.specs.Scope.{table_at}
use Rattle.sql_model.specs.declared.table.Table.{Table}
use Rattle.table_store.proofs.NowLaws.{now_at}
use Rattle.table_store.specs.Histories.{StoreHistory, TableHistory, history_at, table_now, tables_now}

pub table_there : (name : List ℕ) (store : StoreHistory) (table : TableHistory)
    → Some table ≡ history_at name store → IsSome (table_at name (tables_now store))
table_there name store table is = subst (λ (o : Option Table). IsSome o) (sym (now_at name store table is)) refl

pub table_has : (P : Table → Type 0) (name : List ℕ) (store : StoreHistory) (table : TableHistory)
    → Some table ≡ history_at name store → P (table_now table) → IfSome (table_at name (tables_now store)) P
table_has P name store table is has = subst (λ (o : Option Table). IfSome o P) (sym (now_at name store table is)) has

pub history_has : (P : TableHistory → Type 0) (name : List ℕ) (store : StoreHistory) (table : TableHistory)
    → Some table ≡ history_at name store → P table → IfSome (history_at name store) P
history_has P name store table is has = subst (λ (o : Option TableHistory). IfSome o P) is has

-- where so many slots are there, so many words are due
pub words_due : (found : Option TableHistory) (slots words : ℕ)
    → option_map (λ history. length history.slots) found ≡ Some slots
    → words ≡ (slots + 63) / 64
    → IfSome found (λ history. words ≡ (length history.slots + 63) / 64)
words_due None slots words is due = tt
words_due (Some history) slots words is due = due ∙ ap (λ n. (n + 63) / 64) (sym (ap (λ (o : Option ℕ). unwrap_or o 0) is))
