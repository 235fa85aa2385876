-- Members by their names, beside the map that holds them.
use Rattle.std.proofs.Common.{◌≡◌, ℕ, List, Bool, true, false, Option, None, option_map, String, BTreeMap, Global, string_bytes, bytes_eq, cond, refl, sym, ap, ◌∙◌}
use Rattle.std.proofs.lemmas.Map.Text.{btree_map_updates_text}
use Rattle.std.specs.BTreeMap.{UpdatesBy, get_by_text}
use Rattle.std.specs.String.{string_cmp}
use Rattle.std.specs.Ordering.{nat_cmp}
use Rattle.std.specs.Cmp.Lexicographic.{slice_cmp}
use Rattle.serde_json.specs.Find.{get_member}
use Rattle.serde_json.specs.View.{view, members_view}
use Rattle.serde_json.specs.declared.value.Value.{Value}
use Rattle.serde_json.proofs.Views.{view-lookup}

-- what a text finds in the map is the member of that name
pub member_of_text : (m : BTreeMap (String Global) Value) (name : List ℕ) → option_map view (get_by_text m name) ≡ get_member name (members_view m.entries)
member_of_text m name = view-lookup name m.entries

other_value : (b : Bool) (o : Option Value) → b ≡ false → cond b None o ≡ o
other_value true o miss = cc
other_value false o miss = refl

-- what isn't taken out stays
pub member_stays : (m n : BTreeMap (String Global) Value) (name other : List ℕ) → UpdatesBy string_cmp (λ k. slice_cmp nat_cmp name (string_bytes k)) m n None → bytes_eq name other ≡ false
    → get_member other (members_view n.entries) ≡ get_member other (members_view m.entries)
member_stays m n name other updates apart =
    sym (member_of_text n other)
    ∙ ap (option_map view) (btree_map_updates_text name m n None updates other ∙ other_value (bytes_eq name other) (get_by_text m other) apart)
    ∙ member_of_text m other
