-- A clause of two words and a list, such as GROUP BY and ORDER BY, or nothing: reading agrees with the
-- grammar.
use Rattle.std.proofs.Common.{◌≡◌, ℕ, ◌≤◌, List, [], ◌∷◌, ◌++◌, length, refl, sym, ap, ◌∙◌, subst, true, inl, inr, ◌⊎◌}
use Rattle.std.specs.Prelude.{Option, Some, ◌↔◌, if◌then◌else◌, codes}
use Prim.Native.String.{String}
use Rattle.ldv_value.specs.Options.{◌>>=◌}
use Rattle.sql_model.specs.GrammarOfStatements.{After, IsCommaList}
use Rattle.sql_model.specs.declared.token.Token.{Token}
use Rattle.sql_model.specs.Parts.{list_of_parts}
use Rattle.sql_model.specs.Reader.{starts, tail, after_word}
use Rattle.sql_parse.proofs.Follows.{among, all_words, lacks, ends_lack}
use Rattle.sql_parse.proofs.Laws.{Law, state_law, nothing_law, after_law, either_law}
use Rattle.sql_parse.proofs.PartsLaw.{comma, listed_law}

module _ {X : Type 0} (first second : String) (Item : X → List Token → Type 0) where
  -- the words, and then one item at least
  abbrev pub WordsAndList : List X → List Token → Type 0
  WordsAndList xs ts = After first (λ ts. After second (λ ts. IsCommaList Item xs ts) ts) ts

  abbrev ClauseForm : List X → List Token → Type 0
  ClauseForm xs ts = WordsAndList xs ts ⊎ ((xs ≡ []) × (ts ≡ []))

  -- a form that says so of each list
  pub clause_law : {read : List Token → Option (X × List Token)} (ws : List (List ℕ)) (Clause : List X → List Token → Type 0)
      → ((ts : List Token) → Clause [] ts ↔ (ts ≡ []))
      → ((x : X) (xs : List X) (ts : List Token) → Clause (x ∷ xs) ts ↔ WordsAndList (x ∷ xs) ts)
      → Law Item (comma ∷ ws) read → ((x : X) (ts : List Token) → Item x ts → 1 ≤ length ts)
      → lacks comma ws ≡ true → all_words (among (comma ∷ ws)) ws ≡ true → lacks (codes first) ws ≡ true
      → Law Clause ws (λ ts. if starts (codes first) ts then (after_word (codes second) (tail ts) >>= λ rest. list_of_parts read rest) else Some ([], ts))
  clause_law {read = read} ws Clause none some law filled commas less lack =
      state_law ClauseForm Clause ws (λ ts. if starts (codes first) ts then (after_word (codes second) (tail ts) >>= λ rest. list_of_parts read rest) else Some ([], ts))
      (either_law first (after_law second (listed_law ws law filled commas less)) (nothing_law [] ws)
      (λ xs front rest form e. ap (λ (l : List Token). starts (codes first) (l ++ rest)) form.1 ∙ ends_lack (codes first) ws rest lack e))
      to from
    where
      to : (xs : List X) (ts : List Token) → ClauseForm xs ts → Clause xs ts
      to [] ts (inl (more, e, (after, by, list))) = absurd list
      to (x ∷ xs) ts (inl form) = (some x xs ts).1 form
      to xs ts (inr (is, e)) = subst (λ (ys : List X). Clause ys ts) (sym is) ((none ts).1 e)

      from : (xs : List X) (ts : List Token) → Clause xs ts → ClauseForm xs ts
      from [] ts form = inr (refl, (none ts).0 form)
      from (x ∷ xs) ts form = inl ((some x xs ts).0 form)
