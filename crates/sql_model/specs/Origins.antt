-- Lineages as sets of rows: neither the order of rows nor how often a row occurs matters.
use Rattle.std.specs.Prelude.{List, [], ◌∷◌, ◌≡◌, map, Bool, ◌&&◌, ◌==◌}
use Rattle.std.specs.List.{flat_map, list_any}
use Rattle.sql_model.specs.QueryAnswer.{Origin, AnswerRow}
use Rattle.sql_model.specs.Needs.{NeededRow, needed_by}
use Rattle.sql_model.specs.Scope.{same_text}
use Rattle.sql_model.specs.Types.{Rule}

abbrev pub is_origin : Origin → Origin → Bool
is_origin a b = same_text a.table b.table && (a.row == b.row)

-- a row is in a list
abbrev pub has_origin : Origin → List Origin → Bool
has_origin o origins = list_any (is_origin o) origins

-- the same rows are in two lists
abbrev pub SameSet : List Origin → List Origin → Type 0
SameSet xs ys = (o : Origin) → has_origin o xs ≡ has_origin o ys

-- answer rows with the same values and the same lineages, one by one
abbrev pub SameRows : List AnswerRow → List AnswerRow → Type 0
SameRows [] [] = Unit {0}
SameRows [] (s ∷ ss) = ⊥
SameRows (r ∷ rs) [] = ⊥
SameRows (r ∷ rs) (s ∷ ss) = (r.values ≡ s.values) × SameSet r.lineage s.lineage × SameRows rs ss

-- ---- needs by lineages

-- rows that are needed by a rule
pub record RuleOrigins : Type 0 where
  pub rule : Rule
  pub origins : List Origin

abbrev pub rows_by_rule : RuleOrigins → List NeededRow
rows_by_rule needing = map (needed_by needing.rule) needing.origins

-- of several rules, the first before the next
abbrev pub rows_by_rules : List RuleOrigins → List NeededRow
rows_by_rules needings = flat_map rows_by_rule needings

-- the same rules in the same order, each of the same rows
abbrev pub SameRuleOrigins : List RuleOrigins → List RuleOrigins → Type 0
SameRuleOrigins [] [] = Unit {0}
SameRuleOrigins [] (n ∷ ns) = ⊥
SameRuleOrigins (m ∷ ms) [] = ⊥
SameRuleOrigins (m ∷ ms) (n ∷ ns) = (m.rule ≡ n.rule) × SameSet m.origins n.origins × SameRuleOrigins ms ns
