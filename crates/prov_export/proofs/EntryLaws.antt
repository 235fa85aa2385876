-- Entries put into a map are members put into an object.
use Rattle.std.proofs.Common.{◌≡◌, ◌∙◌, refl, Bool, true, List, [], ◌∷◌, Ordering, Less, Equal, Greater, String, string_bytes, string_cmp}
use Rattle.std.specs.declared.alloc.Global.{Global}
use Rattle.std.specs.BTreeMap.{insert_entry}
use Rattle.std.specs.Ordering.{match_ordering}
use Rattle.ldv_value.proofs.Booleans.{and-from, and-parts}
use Rattle.serde_json.specs.Data.{Data, put}
use Rattle.prov_export.specs.inner.Texts.{members_by, all_pass}

module _ {X : Type 0} (value : X → Data) where
  by_ordering : (o : Ordering) (a b c : List (String Global × X))
      → members_by value (match_ordering o a b c) ≡ match_ordering o (members_by value a) (members_by value b) (members_by value c)
  by_ordering Less a b c = refl
  by_ordering Equal a b c = refl
  by_ordering Greater a b c = refl

  pub members-insert : (es : List (String Global × X)) (k : String Global) (x : X)
      → members_by value (insert_entry string_cmp es k x) ≡ put (string_bytes k) (value x) (members_by value es)
  members-insert [] k x = refl
  members-insert (e ∷ es) k x = by_ordering (string_cmp k e.0) _ _ _ ∙ rw (members-insert es k x)

module _ {X : Type 0} (test : X → Bool) where
  pub pass-insert : (es : List (String Global × X)) (k : String Global) (x : X) → test x ≡ true → all_pass test es ≡ true
      → all_pass test (insert_entry string_cmp es k x) ≡ true
  pass-insert [] k x here all = and-from (test x) true here refl
  pass-insert (e ∷ es) k x here all =
      let parts = and-parts (test e.1) (all_pass test es) all in
      by parts.0 parts.1 (string_cmp k e.0) (pass-insert es k x here parts.1)
    where
      by : test e.1 ≡ true → all_pass test es ≡ true → (o : Ordering) → all_pass test (insert_entry string_cmp es k x) ≡ true
          → all_pass test (match_ordering o ((k, x) ∷ e ∷ es) ((e.0, x) ∷ es) (e ∷ insert_entry string_cmp es k x)) ≡ true
      by first others Less more = and-from (test x) (all_pass test (e ∷ es)) here all
      by first others Equal more = and-from (test x) (all_pass test es) here others
      by first others Greater more = and-from (test e.1) (all_pass test (insert_entry string_cmp es k x)) first more
