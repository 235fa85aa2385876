-- Texts that are held, each once.
use Rattle.std.proofs.Common.{◌≡◌, ◌∙◌, sym, ap, ℕ, ◌+◌, ◌<◌, true, ◌&&◌, List, [], ◌∷◌, ◌++◌, length, get_or, drop, refl}
use Rattle.std.specs.Prelude.{bytes_eq}
use Rattle.std.specs.List.{list_any}
use Rattle.std.specs.Cmp.Lexicographic.{nat_list_eq_equiv}
use Rattle.std.proofs.lemmas.List.Folds.{list_all-append}
use Rattle.ldv_value.proofs.Booleans.{and-first, and-second, and-from}
use Rattle.ldv_value.proofs.Places.{drop_item}
use Rattle.trace_graph.specs.Types.{Event}
use Rattle.trace_graph.specs.NodeTexts.{act_texts, event_texts, with_text, with_texts, is_held, are_held, acts_held}
use Rattle.trace_graph.proofs.PlaceLaws.{any_more, any_own}

pub texts_more : (held ts us : List (List ℕ)) → with_texts held (ts ++ us) ≡ with_texts (with_texts held ts) us
texts_more held [] us = refl
texts_more held (t ∷ ts) us = texts_more (with_text held t) ts us

-- those of one event more
pub texts_step : (held : List (List ℕ)) (es : List Event) (i : ℕ) (e : Event) → i < length es → e ≡ get_or es i e
    → with_texts (with_texts held (act_texts e.act)) (event_texts (drop (i + 1) es)) ≡ with_texts held (event_texts (drop i es))
texts_step held es i e within is =
    sym (texts_more held (act_texts e.act) (event_texts (drop (i + 1) es)))
    ∙ ap (λ (rest : List Event). with_texts held (event_texts rest)) (sym (drop_item es i e within is))

-- what is held stays
stay_held : (text : List ℕ) (held ts : List (List ℕ)) → list_any (bytes_eq text) held ≡ true → list_any (bytes_eq text) (with_texts held ts) ≡ true
stay_held text held [] there = there
stay_held text held (t ∷ ts) there = stay_held text (with_text held t) ts (any_more (bytes_eq text) bytes_eq held t there)

-- what is added is held
pub all_held : (held ts : List (List ℕ)) → are_held (with_texts held ts) ts ≡ true
all_held held [] = refl
all_held held (t ∷ ts) =
    and-from (list_any (bytes_eq t) (with_texts (with_text held t) ts)) (are_held (with_texts (with_text held t) ts) ts)
    (stay_held t (with_text held t) ts (any_own nat_list_eq_equiv held t))
    (all_held (with_text held t) ts)

both_held : (held ts us : List (List ℕ)) → are_held held (ts ++ us) ≡ true → (are_held held ts && are_held held us) ≡ true
both_held held ts us all = sym (list_all-append (is_held held) ts us) ∙ all

-- of texts one after another, the first are held
pub first_held : (held ts us : List (List ℕ)) → are_held held (ts ++ us) ≡ true → are_held held ts ≡ true
first_held held ts us all = and-first (are_held held ts) (are_held held us) (both_held held ts us all)

-- and the others
pub others_held : (held ts us : List (List ℕ)) → are_held held (ts ++ us) ≡ true → are_held held us ≡ true
others_held held ts us all = and-second (are_held held ts) (are_held held us) (both_held held ts us all)

-- where the texts of a trace are held, those of each act are
pub each_held : (held : List (List ℕ)) (es : List Event) → are_held held (event_texts es) ≡ true → acts_held held es ≡ true
each_held held [] all = refl
each_held held (e ∷ es) all =
    and-from (are_held held (act_texts e.act)) (acts_held held es)
    (first_held held (act_texts e.act) (event_texts es) all)
    (each_held held es (others_held held (act_texts e.act) (event_texts es) all))
