-- The reserved words of SQL, grouped by their number of bytes.
use Rattle.std.proofs.Common.{◌≡◌, ℕ, List, [], ◌∷◌, length, refl, sym, ap, ◌∙◌, Bool, true, false, inl, inr, ◌≢◌}
use Rattle.std.specs.Prelude.{◌||◌, ◌==◌, bytes_eq, codes, filter}
use Rattle.std.specs.List.{AllByRecursion, list_any}
use Rattle.std.proofs.lemmas.Bool.{cases_Bool, eq-eqb}
use Rattle.std.proofs.lemmas.Slice.Eq.{bytes_eq-Decides}
use Rattle.ldv_value.proofs.Booleans.{false≢true, not-so}
use Rattle.sql_model.specs.SqlNames.{is_reserved, reserved_words}

differ : (text w : List ℕ) → (length w ≡ length text → ⊥) → bytes_eq text w ≡ false
differ text w other = not-so (bytes_eq text w) (λ is. other (ap length (sym ((bytes_eq-Decides text w).0 is))))

-- only words of as many bytes as the text count
by_length : (text : List ℕ) (ws : List (List ℕ)) → list_any (bytes_eq text) ws ≡ list_any (bytes_eq text) (filter (λ w. length w == length text) ws)
by_length text [] = refl
by_length text (w ∷ ws) = elim (cases_Bool (length w == length text)) [
  | inl same ↦ rw same (ap (λ b. bytes_eq text w || b) (by_length text ws))
  | inr other ↦
      let none : bytes_eq text w ≡ false = differ text w (λ e. false≢true (sym other ∙ eq-eqb (length w) (length text) e)) in
      rw other (ap (λ b. b || list_any (bytes_eq text) ws) none ∙ by_length text ws)
]

of_length : (text : List ℕ) (n : ℕ) → length text ≡ n → is_reserved text ≡ list_any (bytes_eq text) (filter (λ w. length w == n) reserved_words)
of_length text n is = by_length text reserved_words ∙ ap (λ (m : ℕ). list_any (bytes_eq text) (filter (λ w. length w == m) reserved_words)) is

pub of_two : (text : List ℕ) → length text ≡ 2 → is_reserved text ≡ list_any (bytes_eq text) (codes "as" ∷ codes "by" ∷ codes "is" ∷ codes "on" ∷ codes "or" ∷ [])
of_two text is = of_length text 2 is

pub of_three : (text : List ℕ) → length text ≡ 3 → is_reserved text ≡ list_any (bytes_eq text) (codes "all" ∷ codes "and" ∷ codes "asc" ∷ codes "max" ∷ codes "min" ∷ codes "not" ∷ codes "set" ∷ codes "sum" ∷ [])
of_three text is = of_length text 3 is

pub of_four : (text : List ℕ) → length text ≡ 4 → is_reserved text ≡ list_any (bytes_eq text) (codes "desc" ∷ codes "from" ∷ codes "into" ∷ codes "join" ∷ codes "null" ∷ [])
of_four text is = of_length text 4 is

pub of_five : (text : List ℕ) → length text ≡ 5 → is_reserved text ≡ list_any (bytes_eq text) (codes "count" ∷ codes "group" ∷ codes "inner" ∷ codes "limit" ∷ codes "order" ∷ codes "union" ∷ codes "where" ∷ [])
of_five text is = of_length text 5 is

pub of_six : (text : List ℕ) → length text ≡ 6 → is_reserved text ≡ list_any (bytes_eq text) (codes "delete" ∷ codes "having" ∷ codes "insert" ∷ codes "select" ∷ codes "update" ∷ codes "values" ∷ [])
of_six text is = of_length text 6 is

pub of_eight : (text : List ℕ) → length text ≡ 8 → is_reserved text ≡ list_any (bytes_eq text) (codes "distinct" ∷ [])
of_eight text is = of_length text 8 is

none_of : (text : List ℕ) (ws : List (List ℕ)) → AllByRecursion (λ w. length w ≡ length text → ⊥) ws → list_any (bytes_eq text) ws ≡ false
none_of text [] others = refl
none_of text (w ∷ ws) others = ap (λ b. b || list_any (bytes_eq text) ws) (differ text w others.0) ∙ none_of text ws others.1

pub of_no_length : (text : List ℕ) → length text ≢ 2 → length text ≢ 3 → length text ≢ 4 → length text ≢ 5 → length text ≢ 6 → length text ≢ 8 → is_reserved text ≡ false
of_no_length text n2 n3 n4 n5 n6 n8 =
    let f2 : 2 ≡ length text → ⊥ = λ e. n2 (sym e) in
    let f3 : 3 ≡ length text → ⊥ = λ e. n3 (sym e) in
    let f4 : 4 ≡ length text → ⊥ = λ e. n4 (sym e) in
    let f5 : 5 ≡ length text → ⊥ = λ e. n5 (sym e) in
    let f6 : 6 ≡ length text → ⊥ = λ e. n6 (sym e) in
    let f8 : 8 ≡ length text → ⊥ = λ e. n8 (sym e) in
    none_of text reserved_words (f3, (f3, (f2, (f3, (f2, (f5, (f6, (f4, (f8, (f4, (f5, (f6, (f5, (f6, (f4, (f2, (f4, (f5, (f3, (f3, (f3, (f4, (f2, (f2, (f5, (f6, (f3, (f3, (f5, (f6, (f6, (f5, tt))))))))))))))))))))))))))))))))

pub ruleset reserved_rules = (of_two, of_three, of_four, of_five, of_six, of_eight, of_no_length)
