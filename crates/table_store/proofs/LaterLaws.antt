-- The refusals of a change by references, after those by its own table.
use Rattle.std.proofs.Common.{◌≡◌, ◌∙◌, ℕ, List, refl, sym, ap, subst, Bool, true, false, Option, Some, None}
use Rattle.std.specs.Prelude.{Result, Err, nat_lt, ◌+◌, length}
use Rattle.std.specs.List.{list_any}
use Rattle.std.specs.Option.{option_map, option_and_then, option_or}
use Rattle.ldv_value.proofs.Options.{same-some, none-some}
use Rattle.ldv_value.specs.Limits.{max_next}
use Rattle.sql_model.specs.Changes.{KeyClash, has_null, key_clash, numbered_rows}
use Rattle.sql_model.specs.References.{MissingParent, first_in, missing_parents}
use Rattle.table_store.specs.Referring.{missing_stop, insert_refusal}
use Rattle.table_store.specs.Stops.{StopsAs, insert_stop, key_stop, stop_if, with_changed, with_inserted}
use Rattle.table_store.specs.Types.{Table, Value}
use Rattle.table_store.specs.declared.error.StoreStop.{StoreStop}
use Rattle.table_store.specs.declared.error.StoreStop.TheVariants.{NotNull, Full, NoParent, HasChild}
use Rattle.table_store.proofs.ClaimLaws.{stop_before, stop_later}

-- what is told of a table that is there
pub later_is : (f : Table → Option StoreStop) (o : Option Table) (t : Table) (later : Option StoreStop) → o ≡ Some t
    → option_map f o ≡ Some later → f t ≡ later
later_is f o t later found is = same-some (f t) later (sym (ap (option_map f) found) ∙ is)

-- the whole refusal is that of the own table, or else the later one
module _ (own rest : Table → Option StoreStop) where
  abbrev whole : Table → Option StoreStop
  whole table = option_or (own table) (rest table)

  pub both_none : (o : Option Table) (later : Option StoreStop) → option_and_then own o ≡ None → option_map rest o ≡ Some later → later ≡ None → option_and_then whole o ≡ None
  both_none None later first told none = refl
  both_none (Some t) later first told none =
      let second : rest t ≡ None = same-some (rest t) later told ∙ none in
      λ j. option_or (first j) (second j)

  pub later_stops : (X : Type 0) (o : Option Table) (later : Option StoreStop) (stop : StoreStop) → option_and_then own o ≡ None → option_map rest o ≡ Some later → later ≡ Some stop
      → StopsAs {X = X} (option_and_then whole o) (Err stop)
  later_stops X None later stop first told is = absurd (none-some later told)
  later_stops X (Some t) later stop first told is = stop_later X (own t) (rest t) stop first (same-some (rest t) later told ∙ is)

  pub first_stops : (X Y : Type 0) (o : Option Table) (stop : StoreStop) → StopsAs {X = X} (option_and_then own o) (Err stop) → StopsAs {X = Y} (option_and_then whole o) (Err stop)
  first_stops X Y None stop is = stop_before X Y None None stop is
  first_stops X Y (Some t) stop is = stop_before X Y (own t) (rest t) stop is

-- what references alone refuse
pub alone_is : (rest : Table → Option StoreStop) (o : Option Table) (t : Table) (later : Option StoreStop) → o ≡ Some t
    → rest t ≡ later → option_and_then rest o ≡ later
alone_is rest o t later found same = ap (option_and_then rest) found ∙ same

-- ---- new rows leave no child alone

module _ (child : List ℕ) (row : ℕ) (key : List Value) where
  abbrev Never : Option StoreStop → Type 0
  Never due = due ≡ Some (HasChild child row key) → ⊥

  never_or : (a b : Option StoreStop) → Never a → Never b → Never (option_or a b)
  never_or None b one two = two
  never_or (Some stop) b one two = one

  never_if : (b : Bool) (stop : StoreStop) → Never (Some stop) → Never (stop_if b stop)
  never_if true stop one = one
  never_if false stop one = λ wrong. none-some (HasChild child row key) wrong

  never_key : (t : Table) (o : Option KeyClash) → Never (key_stop t o)
  never_key t None = λ wrong. none-some (HasChild child row key) wrong
  never_key t (Some clash) = λ wrong. cc

  never_missing : (o : Option MissingParent) → Never (option_map (λ (missing : MissingParent). NoParent missing.parent missing.key) o)
  never_missing None = λ wrong. none-some (HasChild child row key) wrong
  never_missing (Some missing) = λ wrong. cc

  never_own : (rows : List (List Value)) (t : Table) → Never (insert_stop rows t)
  never_own rows t =
      never_or (stop_if (list_any (has_null t.schema.columns) (numbered_rows t.next rows)) NotNull)
      (option_or (key_stop t (key_clash (with_inserted rows t))) (stop_if (nat_lt max_next (t.next + length rows)) Full))
      (never_if (list_any (has_null t.schema.columns) (numbered_rows t.next rows)) NotNull (λ wrong. cc))
      (never_or (key_stop t (key_clash (with_inserted rows t))) (stop_if (nat_lt max_next (t.next + length rows)) Full)
      (never_key t (key_clash (with_inserted rows t))) (never_if (nat_lt max_next (t.next + length rows)) Full (λ wrong. cc)))

  never_whole : (rows : List (List Value)) (db : List Table) (o : Option Table) → Never (option_and_then (insert_refusal rows db) o)
  never_whole rows db None = λ wrong. none-some (HasChild child row key) wrong
  never_whole rows db (Some t) =
      never_or (insert_stop rows t) (missing_stop t.schema.foreign (numbered_rows t.next rows) (with_changed t.name (with_inserted rows) db))
      (never_own rows t)
      (never_missing (first_in (missing_parents (with_changed t.name (with_inserted rows) db) t.schema.foreign (numbered_rows t.next rows))))

  pub childless : (rows : List (List Value)) (db : List Table) (o : Option Table) (stop : StoreStop)
      → StopsAs {X = ℕ} (option_and_then (insert_refusal rows db) o) (Err stop) → stop ≡ HasChild child row key → ⊥
  childless rows db o stop is same =
      never_whole rows db o (subst (λ (s : StoreStop). StopsAs {X = ℕ} (option_and_then (insert_refusal rows db) o) (Err s)) same is)

-- of two results that are the same
pub same_error : (r q : Result ℕ StoreStop) (a b : StoreStop) → r ≡ Err a → q ≡ Err b → r ≡ q → a ≡ b
same_error r q a b one two same = cc
