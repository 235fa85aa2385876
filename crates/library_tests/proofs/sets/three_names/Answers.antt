use Rattle.std.proofs.Common.{refl, [], ◌∷◌, sym, subst, ◌≡◌, rules}
use Rattle.std.specs.Prelude.{codes}
use Rattle.std.specs.List.Sorted.{IsStrictlySortedBy}
use Rattle.std.specs.Ordering.{nat_cmp}
use Rattle.std.specs.Cmp.Lexicographic.{slice_cmp}
use Rattle.library_tests.proofs.sets.three_names.Goals as goal

sorted : IsStrictlySortedBy (slice_cmp nat_cmp) (codes "a" ∷ codes "b" ∷ codes "c" ∷ [])
unfolding IsStrictlySortedBy
sorted = ((refl, (refl, tt)), ((refl, tt), (tt, tt)))

pub returns-clause-sorted : goal.returns-clause-sorted
returns-clause-sorted c =
    let is : c.push-3.new.self ≡ codes "a" ∷ codes "b" ∷ codes "c" ∷ [] = search rules in
    subst (IsStrictlySortedBy (slice_cmp nat_cmp)) (sym is) sorted
