-- Repeated items in lists of numbers and of references to texts.
use Rattle.std.proofs.Common.{◌≡◌, ℕ, List, Bool, true, false, not, ◌&&◌, map, Bor, Ordering, sym, ap, ◌∙◌}
use Rattle.std.specs.Prelude.{nat_eq}
use Rattle.std.specs.Cmp.{unsigned_tied}
use Rattle.std.specs.Cmp.Lexicographic.{slice_cmp}
use Rattle.std.specs.Ordering.{nat_cmp, eq_by_cmp}
use Rattle.std.proofs.lemmas.Map.Text.{is_eq-slice_cmp}
use Rattle.sql_model.proofs.Seen.{repeats_map}
use Rattle.sql_model.specs.Keys.{repeats}
use Rattle.sql_model.specs.Scope.{same_text}

abbrev pub text_order : Bor (List ℕ) → Bor (List ℕ) → Ordering
text_order a b = slice_cmp nat_cmp a.now b.now

-- texts that are referred to repeat as they do themselves
pub repeats_texts : (refs : List (Bor (List ℕ))) (texts : List (List ℕ)) → map (λ name. name.now) refs ≡ texts
    → repeats (eq_by_cmp text_order) refs ≡ repeats same_text texts
repeats_texts refs texts is =
    (λ i. repeats (λ a b. is_eq-slice_cmp a.now b.now i) refs)
    ∙ sym (repeats_map same_text (λ (name : Bor (List ℕ)). name.now) refs)
    ∙ ap (repeats same_text) is

pub repeats_numbers : (ns : List ℕ) → repeats (eq_by_cmp nat_cmp) ns ≡ repeats nat_eq ns
repeats_numbers ns = λ i. repeats (λ a b. unsigned_tied a b i) ns

-- the test before holds, so the second decides
pub second_decides : (first twice repeating : Bool) → first ≡ true → twice ≡ repeating
    → not twice ≡ (first && not repeating)
second_decides true twice repeating hit same = ap not same
second_decides false twice repeating hit same = cc
