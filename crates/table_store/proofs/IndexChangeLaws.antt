-- Numbers that an index takes over from another one.
use Rattle.std.proofs.Common.{◌≡◌, ℕ, List, [], ◌∷◌, ap, sym, subst, Option, Some, None}
use Rattle.std.specs.Option.{option_or}
use Rattle.sql_model.specs.Keys.{key_at}
use Rattle.table_store.specs.Types.{RowKey, TableRow}
use Rattle.table_store.specs.GivenKeys.{with_claims}
use Rattle.table_store.specs.KeyIndex.{HeldKeys, AreHeld, AreIndexed}

-- ---- rows that are held, once numbers are taken over

module _ (places : List ℕ) (claims old new : HeldKeys) (keeps : (q : RowKey) (n : ℕ) → old q ≡ Some n → new q ≡ Some n) where
  one_kept : (o a b : Option ℕ) (n : ℕ) → ((m : ℕ) → a ≡ Some m → b ≡ Some m) → option_or o a ≡ Some n → option_or o b ≡ Some n
  one_kept None a b n same is = same n is
  one_kept (Some m) a b n same is = is

  claims_held : (rows : List TableRow) → AreHeld places (with_claims claims old) rows → AreHeld places (with_claims claims new) rows
  claims_held [] are = tt
  claims_held (row ∷ rows) are = (
    one_kept (claims (key_at places row.values)) (old (key_at places row.values)) (new (key_at places row.values)) row.number (keeps (key_at places row.values)) are.0,
    claims_held rows are.1,
  )

pub claims_kept : (places : List ℕ) (claims old new : HeldKeys) → ((q : RowKey) (n : ℕ) → old q ≡ Some n → new q ≡ Some n) → (rows : List TableRow) → AreIndexed places (with_claims claims old) rows → AreIndexed places (with_claims claims new) rows
claims_kept [] claims old new keeps rows are = tt
claims_kept (place ∷ places) claims old new keeps rows are = claims_held (place ∷ places) claims old new keeps rows are

pub indexed_same : (places : List ℕ) (held same : HeldKeys) → ((q : RowKey) → held q ≡ same q) → (rows : List TableRow) → AreIndexed places held rows → AreIndexed places same rows
indexed_same places held same is rows are = subst (λ (h : HeldKeys). AreIndexed places h rows) (λ j q. is q j) are

rows_kept : (places : List ℕ) (old new : HeldKeys) → ((q : RowKey) (n : ℕ) → old q ≡ Some n → new q ≡ Some n) → (rows : List TableRow) → AreHeld places old rows → AreHeld places new rows
rows_kept places old new keeps [] are = tt
rows_kept places old new keeps (row ∷ rows) are = (keeps (key_at places row.values) row.number are.0, rows_kept places old new keeps rows are.1)

pub indexed_wider : (places : List ℕ) (old new : HeldKeys) → ((q : RowKey) (n : ℕ) → old q ≡ Some n → new q ≡ Some n) → (rows : List TableRow) → AreIndexed places old rows → AreIndexed places new rows
indexed_wider [] old new keeps rows are = tt
indexed_wider (place ∷ places) old new keeps rows are = rows_kept (place ∷ places) old new keeps rows are

-- no claims, or no entries
pub no_claims : (places : List ℕ) (claims held : HeldKeys) → ((q : RowKey) → claims q ≡ None) → (rows : List TableRow) → AreIndexed places held rows → AreIndexed places (with_claims claims held) rows
no_claims places claims held none rows are = indexed_same places held (with_claims claims held) (λ q. sym (ap (λ (o : Option ℕ). option_or o (held q)) (none q))) rows are
