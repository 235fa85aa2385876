-- Lineages as sets: neither the order of rows nor how often a row occurs makes a difference.
use Rattle.std.proofs.Common.{◌≡◌, List, [], ◌∷◌, ◌++◌, refl, sym, ap, ◌∙◌, Bool, true, false, ◌||◌, ◌==◌, map}
use Rattle.std.specs.List.{list_any}
use Rattle.std.proofs.lemmas.Bool.Decides.{Decides-eqb}
use Rattle.ldv_value.proofs.Booleans.{and-parts, and-from, or-comm}
use Rattle.ldv_value.proofs.Lists.{list_any-append}
use Rattle.ldv_value.proofs.SameBytes.{bytes_eq-true, bytes_eq-itself}
use Rattle.sql_model.specs.QueryAnswer.{Origin, AnswerRow, lineage_of, answer_values}
use Rattle.sql_model.specs.Origins.{is_origin, has_origin, SameSet, SameRows}
use Rattle.sql_model.specs.Scope.{same_text}

pub origin-same : (a b : Origin) → is_origin a b ≡ true → a ≡ b
origin-same a b is =
    let both = and-parts (same_text a.table b.table) (a.row == b.row) is in
    let table : a.table ≡ b.table = bytes_eq-true a.table b.table both.0 in
    let row : a.row ≡ b.row = (Decides-eqb a.row b.row).0 both.1 in
    λ j. record { table = table j; row = row j }

pub origin-itself : (a : Origin) → is_origin a a ≡ true
origin-itself a =
    and-from (same_text a.table a.table) (a.row == a.row) (bytes_eq-itself a.table) ((Decides-eqb a.row a.row).1 refl)

-- ---- sets

pub set-refl : (xs : List Origin) → SameSet xs xs
set-refl xs o = refl

pub set-sym : (xs ys : List Origin) → SameSet xs ys → SameSet ys xs
set-sym xs ys same o = sym (same o)

pub set-trans : (xs ys zs : List Origin) → SameSet xs ys → SameSet ys zs → SameSet xs zs
set-trans xs ys zs first second o = first o ∙ second o

pub has_origin-append : (o : Origin) (xs ys : List Origin)
    → has_origin o (xs ++ ys) ≡ (has_origin o xs || has_origin o ys)
has_origin-append o xs ys = list_any-append (is_origin o) xs ys

pub set-append : (a b c d : List Origin) → SameSet a b → SameSet c d → SameSet (a ++ c) (b ++ d)
set-append a b c d first second o =
    has_origin-append o a c ∙ (λ j. first o j || second o j) ∙ sym (has_origin-append o b d)

or_itself : (a : Bool) → (a || a) ≡ a
or_itself true = refl
or_itself false = refl

-- in either order
pub set-turned : (xs ys : List Origin) → SameSet (xs ++ ys) (ys ++ xs)
set-turned xs ys o =
    has_origin-append o xs ys ∙ or-comm (has_origin o xs) (has_origin o ys) ∙ sym (has_origin-append o ys xs)

-- twice is once
pub set-twice : (xs : List Origin) → SameSet (xs ++ xs) xs
set-twice xs o = has_origin-append o xs xs ∙ or_itself (has_origin o xs)

-- ---- lineages of rows

pub has_origin-lineage : (o : Origin) (rows : List AnswerRow)
    → has_origin o (lineage_of rows) ≡ list_any (λ row. has_origin o row.lineage) rows
has_origin-lineage o [] = refl
has_origin-lineage o (row ∷ rows) =
    has_origin-append o row.lineage (lineage_of rows) ∙ ap (λ b. has_origin o row.lineage || b) (has_origin-lineage o rows)

pub rows-refl : (rows : List AnswerRow) → SameRows rows rows
rows-refl [] = tt
rows-refl (row ∷ rows) = (refl, set-refl row.lineage, rows-refl rows)

pub rows-append : (a b c d : List AnswerRow) → SameRows a b → SameRows c d → SameRows (a ++ c) (b ++ d)
rows-append [] [] c d first second = second
rows-append [] (s ∷ ss) c d first second = absurd first
rows-append (r ∷ rs) [] c d first second = absurd first
rows-append (r ∷ rs) (s ∷ ss) c d first second = (first.0, first.1, rows-append rs ss c d first.2 second)

pub rows-lineage : (a b : List AnswerRow) → SameRows a b → SameSet (lineage_of a) (lineage_of b)
rows-lineage [] [] same = set-refl []
rows-lineage [] (s ∷ ss) same = absurd same
rows-lineage (r ∷ rs) [] same = absurd same
rows-lineage (r ∷ rs) (s ∷ ss) same =
    set-append r.lineage s.lineage (lineage_of rs) (lineage_of ss) same.1 (rows-lineage rs ss same.2)

pub rows-values : (a b : List AnswerRow) → SameRows a b → map answer_values a ≡ map answer_values b
rows-values [] [] same = refl
rows-values [] (s ∷ ss) same = absurd same
rows-values (r ∷ rs) [] same = absurd same
rows-values (r ∷ rs) (s ∷ ss) same = λ j. same.0 j ∷ rows-values rs ss same.2 j
