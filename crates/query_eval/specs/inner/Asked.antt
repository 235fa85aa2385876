-- The keys by which joined rows look slots up.
use Rattle.std.specs.Prelude.{◌≡◌, ◌∷◌, ℕ, List, Bool, true, Option, IfSome}
use Rattle.std.specs.BTreeSet.{BTreeSet, contains}
use Rattle.std.specs.List.{AllByRecursion}
use Rattle.std.specs.Option.{option_map_or}
use Rattle.ldv_value.specs.declared.refs_by.RefsBy.{RefsBy}
use Rattle.query_eval.specs.declared.probe.Probe.{Probe}
use Rattle.query_eval.specs.declared.source.Source.{Source}
use Rattle.query_eval.specs.declared.source.SourceRow.{SourceRow}
use Rattle.query_eval.specs.inner.Joining.{key_of, tie_order, TieValues, values_before}
use Rattle.query_eval.specs.inner.Slots.{slots_listed, slots_with, values_at}

abbrev pub has_key : BTreeSet TieValues → TieValues → Bool
has_key keys key = contains tie_order keys key

-- a key is among those that are asked for; each is, where there is no set of them
abbrev pub is_asked : Option (BTreeSet TieValues) → TieValues → Bool
is_asked asked key = option_map_or (λ keys. has_key keys key) asked true

-- a key, if there is one
abbrev pub IsAskedBy : Option (BTreeSet TieValues) → Option TieValues → Type 0
IsAskedBy asked key = IfSome key (λ k. is_asked asked k ≡ true)

-- the key of each of some joined rows
abbrev pub AreAsked : Option (BTreeSet TieValues) → List Source → List Probe → List (List ℕ) → Type 0
AreAsked asked sources ties ps =
    AllByRecursion (λ p. IsAskedBy asked (key_of (values_before ties (values_at sources p)))) ps

-- each key of one set is in the other
abbrev pub KeepKeys : BTreeSet TieValues → BTreeSet TieValues → Type 0
KeepKeys old new = (key : TieValues) → has_key old key ≡ true → has_key new key ≡ true

-- under each key that is asked for just the slots at which the columns equal it, in their order
abbrev pub IsIndex : Option (BTreeSet TieValues) → RefsBy TieValues ℕ → List Probe → List SourceRow → List ℕ
    → Type 0
IsIndex asked map ties rows slots = (key : TieValues) → is_asked asked key ≡ true
    → slots_listed map key ≡ slots_with ties (key.0 ∷ key.1) rows slots
