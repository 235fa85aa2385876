-- A finite map of sorted entries has exactly these entries, in this order.
use Rattle.std.proofs.Common.{◌≡◌, ◌∙◌, sym, ap, refl, List, [], ◌∷◌, T}
use Rattle.std.specs.declared.cmp.Ordering.{Ordering}
use Rattle.std.specs.declared.cmp.Ordering.TheVariants.{Less}
use Rattle.std.specs.Cmp.{IsTotalOrder}
use Rattle.std.specs.FinMap.{empty, len-empty, len-entries, from_entries, entries, is_sorted, put, entries-insert}
use Rattle.ldv_value.proofs.Booleans.{t-first, t-second}
use Rattle.ldv_value.proofs.Lists.{nil-from-length}
use Rattle.ldv_value.proofs.Orderings.{t-less}

pub entries-empty : {K X : Type 0} (R : K → K → Ordering) → entries (empty {X = X} {R = R}) ≡ []
entries-empty {X = X} R = nil-from-length _ (sym (len-entries (empty {X = X} {R = R})) ∙ len-empty R X)

module _ {K X : Type 0} {R : K → K → Ordering} (total : IsTotalOrder R) where
  put-first : (e : K × X) (es : List (K × X)) → T (is_sorted R (e ∷ es)) → put R e.0 e.1 es ≡ e ∷ es
  put-first e [] h = refl
  put-first e (f ∷ fs) h = let is : R e.0 f.0 ≡ Less = t-less _ (t-first _ _ (t-first _ _ h)) in rw is refl

  pub entries-sorted : (es : List (K × X)) → T (is_sorted R es) → entries (from_entries {R = R} es) ≡ es
  entries-sorted [] h = entries-empty R
  entries-sorted (e ∷ es) h =
      entries-insert total (from_entries es) e.0 e.1 ∙ ap (put R e.0 e.1) (entries-sorted es (t-second _ _ h)) ∙ put-first e es h
