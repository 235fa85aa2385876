-- The map of labels, step by step.
use Rattle.std.proofs.Common.{◌≡◌, ℕ, List, false, cond, refl, sym, ap, ◌∙◌, inl, inr, Some, None, if◌then◌else◌}
use Rattle.std.specs.Prelude.{Option, String, string_bytes, string_cmp, is_some}
use Rattle.std.specs.BTreeMap.{BTreeMap, get_by_text, UpdatesBy}
use Rattle.std.specs.Cmp.Lexicographic.{slice_cmp}
use Rattle.std.specs.Ordering.{nat_cmp}
use Rattle.std.proofs.lemmas.Bool.{cases_Bool, false≢true}
use Rattle.std.proofs.lemmas.Slice.Eq.{bytes_eq-Decides}
use Rattle.std.proofs.lemmas.Map.Text.{btree_map_updates_text}
use Rattle.ldv_value.proofs.Options.{option_or-none}
use Rattle.script_parse.specs.declared.line.Definition.{Definition}
use Rattle.script_parse.specs.Names.{is_text}
use Rattle.std.specs.Option.{option_or}

-- a name that isn't in the map yet is put in
pub put_in : {Y : Type 0} (m n : BTreeMap (String Y) Definition) (key : String Y) (name : List ℕ) (d : Definition) → string_bytes key ≡ name → get_by_text m name ≡ None
    → UpdatesBy string_cmp (λ k. slice_cmp nat_cmp (string_bytes key) (string_bytes k)) m n (Some d)
    → (q : List ℕ) → get_by_text n q ≡ option_or (get_by_text m q) (if is_text name q then Some d else None)
put_in m n key name d is absent updates q =
    let new : get_by_text n q ≡ cond (is_text name q) (Some d) (get_by_text m q) =
    btree_map_updates_text (string_bytes key) m n (Some d) updates q ∙ ap (λ (k : List ℕ). cond (is_text k q) (Some d) (get_by_text m q)) is in
    elim (cases_Bool (is_text name q)) [
      | inl hit ↦
          let none : get_by_text m q ≡ None = ap (get_by_text m) (sym ((bytes_eq-Decides name q).0 hit)) ∙ absent in
          new ∙ rw (hit, none) refl
      | inr miss ↦ new ∙ rw miss (sym (option_or-none (get_by_text m q)))
    ]
