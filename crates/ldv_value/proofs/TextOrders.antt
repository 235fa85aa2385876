-- The order of texts by their bytes.
use Rattle.std.proofs.Common.{◌≡◌, ◌≢◌, ◌∙◌, sym, ap, ℕ, List, true, false}
use Rattle.std.specs.Prelude.{bytes_eq}
use Rattle.std.specs.Ordering.{nat_cmp, is_lt, is_eq}
use Rattle.std.specs.declared.cmp.Ordering.TheVariants.{Less}
use Rattle.std.specs.Cmp.Lexicographic.{slice_cmp, nat_list_cmp_total}
use Rattle.std.proofs.lemmas.Map.Text.{is_eq-slice_cmp}
use Rattle.ldv_value.specs.Sorted.{text_precedes}
use Rattle.ldv_value.proofs.Orderings.{is_lt-true}
use Rattle.ldv_value.proofs.SameBytes.{bytes_eq-itself}

pub text_trans : (a b c : List ℕ) → text_precedes a b ≡ true → text_precedes b c ≡ true → text_precedes a c ≡ true
text_trans a b c one two =
    ap is_lt (nat_list_cmp_total.trans a b c (is_lt-true (slice_cmp nat_cmp a b) one) (is_lt-true (slice_cmp nat_cmp b c) two))

-- a text isn't before itself
pub text_apart : (a b : List ℕ) → text_precedes a b ≡ true → a ≢ b
text_apart a b before same =
    let less : slice_cmp nat_cmp a b ≡ Less = is_lt-true (slice_cmp nat_cmp a b) before in
    let equal : is_eq (slice_cmp nat_cmp a b) ≡ true = is_eq-slice_cmp a b ∙ ap (λ (l : List ℕ). bytes_eq l b) same ∙ bytes_eq-itself b in
    let wrong : false ≡ true = sym (ap is_eq less) ∙ equal in
    cc
