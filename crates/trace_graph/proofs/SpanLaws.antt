-- One time more of an edge, as an entry of a map.
use Rattle.std.proofs.Common.{◌≡◌, ◌∙◌, ap, refl, ℕ, Bool, true, false, cond, List, [], ◌∷◌, map}
use Rattle.std.specs.Prelude.{◌&&◌, if◌then◌else◌, Some}
use Rattle.std.specs.Map.{lookup}
use Rattle.indexmap.specs.IndexMap.{insert_entry}
use Rattle.std.proofs.lemmas.Bool.{eq-eqb}
use Rattle.trace_graph.specs.inner.Building.{edge_at, edge_from, same_pair, span_with, edge_with_time}
use Rattle.trace_graph.specs.inner.Building.{with_time}
use Rattle.trace_graph.specs.declared.span.Span.{Span}

pub timed : (es : List ((ℕ × ℕ) × Span)) (k : ℕ × ℕ) (time : ℕ) (span : Span)
    → span ≡ span_with (lookup (same_pair k) es) time
    → map edge_at (insert_entry same_pair es k span) ≡ with_time k.0 k.1 time (map edge_at es)
timed [] k time span is = ap (λ (s : Span). edge_from k.0 k.1 s ∷ []) is
timed (e ∷ es) k time span is = by (same_pair k e.0) is (timed es k time span)
  where
    by : (b : Bool) → span ≡ span_with (cond b (Some e.1) (lookup (same_pair k) es)) time
        → (span ≡ span_with (lookup (same_pair k) es) time
        → map edge_at (insert_entry same_pair es k span) ≡ with_time k.0 k.1 time (map edge_at es))
        → map edge_at (if b then (e.0, span) ∷ es else e ∷ insert_entry same_pair es k span)
        ≡ (if b then edge_with_time (edge_at e) time ∷ map edge_at es else edge_at e ∷ with_time k.0 k.1 time (map edge_at es))
    by true is rest = ap (λ (s : Span). edge_at (e.0, s) ∷ map edge_at es) is
    by false is rest = ap (λ l. edge_at e ∷ l) (rest is)

-- a pair is the same as itself
own_pair : (k : ℕ × ℕ) → same_pair k k ≡ true
own_pair k = λ j. eq-eqb k.0 k.0 refl j && eq-eqb k.1 k.1 refl j

-- a span that is put twice
pub put_twice : (es : List ((ℕ × ℕ) × Span)) (k : ℕ × ℕ) (first span : Span)
    → insert_entry same_pair (insert_entry same_pair es k first) k span ≡ insert_entry same_pair es k span
put_twice [] k first span = ap (λ (b : Bool). if b then (k, span) ∷ [] else (k, first) ∷ (k, span) ∷ []) (own_pair k)
put_twice (e ∷ es) k first span = by (same_pair k e.0) refl (put_twice es k first span)
  where
    by : (b : Bool) → same_pair k e.0 ≡ b → insert_entry same_pair (insert_entry same_pair es k first) k span ≡ insert_entry same_pair es k span
        → insert_entry same_pair (if b then (e.0, first) ∷ es else e ∷ insert_entry same_pair es k first) k span
        ≡ (if b then (e.0, span) ∷ es else e ∷ insert_entry same_pair es k span)
    by true is rest = ap (λ (b : Bool). if b then (e.0, span) ∷ es else (e.0, first) ∷ insert_entry same_pair es k span) is
    by false is rest =
        ap (λ (b : Bool). if b then (e.0, span) ∷ insert_entry same_pair es k first else e ∷ insert_entry same_pair (insert_entry same_pair es k first) k span) is
        ∙ ap (λ (l : List ((ℕ × ℕ) × Span)). e ∷ l) rest
