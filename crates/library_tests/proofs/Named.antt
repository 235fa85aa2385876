-- Named things stay named, whether memory runs out or not.
use Rattle.std.proofs.Common.{◌≡◌, sym, subst, ℕ, ◌<◌, List, length}
use Rattle.std.specs.Prelude.{Result, Ok, Err, OnOk, OnErr}
use Rattle.lineage.specs.Lineage.{Row, Lineage, with_version, IsUnion, IsNamed}
use Rattle.lineage.proofs.Laws.{IsNamed-with_version, IsNamed-union}

pub after_add : {A B : Type 0} (r : Result A B) (names : List (List ℕ)) (set after : Lineage) (row : Row) (version : ℕ) → OnOk r (after ≡ with_version set row version) → OnErr r (after ≡ set)
    → IsNamed names set → row.0 < length names → IsNamed names after
after_add (Ok x) names set after row version ok err named within = subst (IsNamed names) (sym ok) (IsNamed-with_version names set row version named within)
after_add (Err y) names set after row version ok err named within = subst (IsNamed names) (sym err) named

pub after_union : {A B : Type 0} (r : Result A B) (names : List (List ℕ)) (set other after : Lineage) → OnOk r (IsUnion set other after) → OnErr r (after ≡ set)
    → IsNamed names set → IsNamed names other → IsNamed names after
after_union (Ok x) names set other after ok err named also = IsNamed-union names set other after ok named also
after_union (Err y) names set other after ok err named also = subst (IsNamed names) (sym err) named
