-- A statement leaves the names of the tables as they are.
use Rattle.std.proofs.Common.{◌≡◌, ℕ, List, [], ◌∷◌, refl, ap, ◌∙◌, inl, inr}
use Rattle.std.specs.Prelude.{Option, Some, None, map, if◌then◌else◌}
use Rattle.std.proofs.lemmas.Bool.{cases_Bool}
use Rattle.sql_model.specs.declared.catalog.Catalog.{Catalog}
use Rattle.sql_model.specs.declared.reply.SqlRefusal.{SqlRefusal}
use Rattle.sql_model.specs.Changes.{table_after, changed_in, target_of}
use Rattle.sql_model.specs.Needs.{table_name}
use Rattle.sql_model.specs.Scope.{is_table, catalog_of}
use Rattle.sql_model.specs.Statements.{refusal_of, after_unless, after}
use Rattle.sql_model.proofs.Equations.{changed_name}
use Rattle.sql_laws.proofs.StatementParts.{after_is}
use Rattle.run_laws.specs.Types.{Statement, Table}

one_name : (name : List ℕ) (s : Statement) (catalog : Catalog) (t : Table)
    → (if is_table name t then table_after s catalog t else t).name ≡ t.name
one_name name s catalog t = elim (cases_Bool (is_table name t)) [
  | inl hit ↦ rw hit (changed_name s catalog t)
  | inr miss ↦ rw miss refl
]

each_name : (name : List ℕ) (s : Statement) (catalog : Catalog) (ts : List Table)
    → map table_name (map (λ (t : Table). if is_table name t then table_after s catalog t else t) ts) ≡ map table_name ts
each_name name s catalog [] = refl
each_name name s catalog (t ∷ ts) = λ j. one_name name s catalog t j ∷ each_name name s catalog ts j

in_name : (name : Option (List ℕ)) (s : Statement) (catalog : Catalog) (ts : List Table)
    → map table_name (changed_in name s catalog ts) ≡ map table_name ts
in_name None s catalog ts = refl
in_name (Some name) s catalog ts = each_name name s catalog ts

unless_names : (refusal : Option SqlRefusal) (statement : Option Statement) (ts : List Table)
    → map table_name (after_unless refusal statement ts) ≡ map table_name ts
unless_names (Some refusal) statement ts = refl
unless_names None None ts = refl
unless_names None (Some s) ts = in_name (target_of s) s (catalog_of ts) ts

pub names_after : (statement : Option Statement) (ts : List Table) → map table_name (after statement ts) ≡ map table_name ts
names_after statement ts = ap (map table_name) (after_is statement ts) ∙ unless_names (refusal_of statement ts) statement ts
