-- A text is UTF-8 if it is UTF-8 with its quotes doubled.
use Rattle.std.proofs.Common.{◌≡◌, ℕ, ◌<◌, List, [], ◌∷◌, ◌++◌, length, take, drop, get_or, refl, sym, ap, ◌∙◌, subst, cond, inl, inr, arith, append_assoc}
use Rattle.std.specs.Prelude.{IsUtf8}
use Rattle.std.specs.List.{AllByRecursion}
use Rattle.std.proofs.lemmas.Bool.{cases_Bool, eqb-true}
use Rattle.std.proofs.lemmas.List.{length-append}
use Rattle.std.proofs.lemmas.Str.{IsUtf8-append, IsUtf8-take, IsUtf8-drop, IsUtf8-from_ascii, IsCharBoundary-before_ascii, IsCharBoundary-after_ascii}
use Rattle.std.proofs.lemmas.Str.Ascii.{IsAscii-nil, IsAscii-cons}
use Rattle.ldv_value.proofs.Utf8Parts.{utf8-tail, utf8-cons, utf8-cut}
use Rattle.sql_model.specs.GrammarOfTokens.{is_quote, with_doubled_quotes}

doubled_from : (text front : List ℕ) → IsUtf8 (front ++ with_doubled_quotes text) → IsUtf8 (front ++ text)
doubled_from [] front u = u
doubled_from (b ∷ text) front u = elim (cases_Bool (is_quote b)) [
  | inl quote ↦
      let is : b ≡ 39 = eqb-true b 39 quote in
      let u2 : IsUtf8 (front ++ 39 ∷ 39 ∷ with_doubled_quotes text) = subst (λ (c : ℕ). IsUtf8 (front ++ with_doubled_quotes (c ∷ text))) is u in
      let parts : IsUtf8 front × IsUtf8 (39 ∷ 39 ∷ with_doubled_quotes text) = utf8-cut front 39 (39 ∷ with_doubled_quotes text) (omega arith) u2 in
      let inner : IsUtf8 (with_doubled_quotes text) = utf8-tail 39 (with_doubled_quotes text) (omega arith) (utf8-tail 39 (39 ∷ with_doubled_quotes text) (omega arith) parts.1) in
      subst (λ (c : ℕ). IsUtf8 (front ++ c ∷ text)) (sym is) (IsUtf8-append front (39 ∷ text) parts.0 (utf8-cons 39 text (omega arith) (doubled_from text [] inner)))
  | inr other ↦
      let same : with_doubled_quotes (b ∷ text) ≡ b ∷ with_doubled_quotes text = ap (λ c. cond c (39 ∷ 39 ∷ with_doubled_quotes text) (b ∷ with_doubled_quotes text)) other in
      let u2 : IsUtf8 ((front ++ b ∷ []) ++ with_doubled_quotes text) = subst IsUtf8 (ap (λ (l : List ℕ). front ++ l) same ∙ sym (append_assoc front (b ∷ []) (with_doubled_quotes text))) u in
      subst IsUtf8 (append_assoc front (b ∷ []) text) (doubled_from text (front ++ b ∷ []) u2)
]

pub doubled_utf8 : (text : List ℕ) → IsUtf8 (with_doubled_quotes text) → IsUtf8 text
doubled_utf8 text u = doubled_from text [] u
