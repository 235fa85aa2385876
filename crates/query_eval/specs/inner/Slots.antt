-- A FROM list from left to right, over rows by slots: the places, from 0, of rows among those of their
-- source.
use Rattle.std.specs.Prelude.{ℕ, List, [], ◌∷◌, ◌++◌, map, filter, Bool, slice_index_or}
use Rattle.std.specs.Option.{option_map_or}
use Rattle.std.specs.List.{flat_map, list_all}
use Rattle.ldv_value.specs.Listing.{listed, item_added}
use Rattle.predicates.specs.declared.placed.BoundExpr.{BoundExpr}
use Rattle.ldv_value.specs.declared.refs_by.RefsBy.{RefsBy}
use Rattle.lineage.specs.declared.answer.Pick.{Pick}
use Rattle.query_eval.specs.Picking.{pick_of}
use Rattle.query_eval.specs.inner.Sources.{joined_row_values}
use Rattle.query_eval.specs.Types.{Value}
use Rattle.query_eval.specs.declared.probe.Probe.{Probe}
use Rattle.query_eval.specs.declared.source.Source.{Source}
use Rattle.query_eval.specs.declared.source.SourceRow.{SourceRow}
use Rattle.query_eval.specs.inner.Joining.{are_all_equal, key_of, TieValues, tie_order}
use Rattle.query_eval.specs.inner.Joining.{values_before, values_here}
use Rattle.sql_model.specs.Evaluation.{eval_at}
use Rattle.sql_model.specs.Meaning.{is_true}

-- ---- rows by slots

-- what stands past the last row
abbrev pub no_row : SourceRow
no_row = record { number = 0; version = 0; values = [] }

abbrev pub row_at : List SourceRow → ℕ → SourceRow
row_at rows slot = slice_index_or rows slot no_row

-- the rows in some slots, one of each of the first sources
abbrev pub rows_at : List Source → List ℕ → List SourceRow
rows_at sources [] = []
rows_at [] (slot ∷ slots) = []
rows_at (source ∷ sources) (slot ∷ slots) = row_at source.rows slot ∷ rows_at sources slots

abbrev pub combinations_at : List Source → List (List ℕ) → List (List SourceRow)
combinations_at sources rows = map (rows_at sources) rows

abbrev pub values_at : List Source → List ℕ → List Value
values_at sources slots = joined_row_values (rows_at sources slots)

-- the pick of the rows in some slots
abbrev pub pick_at : Bool → List Source → List ℕ → Pick
pick_at keep sources slots = pick_of keep sources (rows_at sources slots)

-- ---- conditions, by the places of their columns

abbrev pub is_met_by : BoundExpr → List Value → Bool
is_met_by cond values = is_true (eval_at values cond.expr cond.places).meaning.truth

abbrev pub are_met_by : List BoundExpr → List Value → Bool
are_met_by conds values = list_all (λ cond. is_met_by cond values) conds

-- each condition is True over the rows in some slots
abbrev pub slots_meet : List BoundExpr → List Source → List ℕ → Bool
slots_meet conds sources slots = are_met_by conds (values_at sources slots)

-- ---- one source more

-- the slots after one prefix that pass a test
abbrev pub extended_by : (List ℕ → Bool) → List ℕ → List ℕ → List (List ℕ)
extended_by test p slots = filter test (map (λ slot. p ++ slot ∷ []) slots)

abbrev pub extended_by_all : (List ℕ → Bool) → List (List ℕ) → List ℕ → List (List ℕ)
extended_by_all test ps slots = flat_map (λ p. extended_by test p slots) ps

-- ---- slots by the values of columns

-- those of the slots at which the columns equal values
abbrev pub slots_with : List Probe → List Value → List SourceRow → List ℕ → List ℕ
slots_with ties vs rows slots =
    filter (λ slot. are_all_equal vs (values_here ties (row_at rows slot).values)) slots

-- the slots that a map has under a key
abbrev pub slots_listed : RefsBy TieValues ℕ → TieValues → List ℕ
slots_listed map key = listed tie_order map key

-- a slot more under a key
abbrev pub slot_added : TieValues → ℕ → TieValues → List ℕ → List ℕ
slot_added own slot key slots = item_added tie_order own slot key slots

-- the slots that a map has for a joined row
abbrev pub slots_found : RefsBy TieValues ℕ → List Probe → List Value → List ℕ
slots_found map ties values = option_map_or (slots_listed map) (key_of (values_before ties values)) []

-- each prefix with the slots that a map has for it and that pass a test
abbrev pub extended_by_index : (List ℕ → Bool) → List Source → RefsBy TieValues ℕ → List Probe → List (List ℕ)
    → List (List ℕ)
extended_by_index test sources map ties ps =
    flat_map (λ p. extended_by test p (slots_found map ties (values_at sources p))) ps

-- and with the slots at which its ties hold
abbrev pub extended_by_ties : (List ℕ → Bool) → List Source → List Probe → List SourceRow → List ℕ
    → List (List ℕ) → List (List ℕ)
extended_by_ties test sources ties rows slots ps =
    flat_map
    (λ p. extended_by test p (slots_with ties (values_before ties (values_at sources p)) rows slots)) ps
