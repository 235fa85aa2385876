-- The value of an edge has no number that isn't whole.
use Rattle.std.proofs.Common.{◌≡◌, refl, ℕ, false, List, Ordering, Less, Equal, Greater, nat_cmp}
use Rattle.std.specs.Prelude.{codes}
use Rattle.std.specs.Cmp.Lexicographic.{slice_cmp}
use Rattle.std.specs.Ordering.{match_ordering}
use Rattle.ldv_value.proofs.Booleans.{or-from, or-parts}
use Rattle.serde_json.specs.Data.{Data, number, string, unsigned, Members, no_members, member, put}
use Rattle.serde_json.specs.Written.{has_float, members_have_float}
use Rattle.prov_export.specs.Types.{Node, Edge, Relation}
use Rattle.prov_export.specs.Document.{source_name, target_name}
use Rattle.prov_export.specs.Document.{node_at, edge_value}
use Rattle.prov_export.specs.Ids.{node_id}

abbrev Whole : Members → Type 0
Whole ms = members_have_float ms ≡ false

put_whole : (k : List ℕ) (d : Data) (ms : Members) → has_float d ≡ false → Whole ms → Whole (put k d ms)
put_whole k d no_members one all = or-from (has_float d) false one refl
put_whole k d (member l e ms) one all =
    let parts = or-parts (has_float e) (members_have_float ms) all in
    by parts.0 parts.1 (slice_cmp nat_cmp k l) (put_whole k d ms one parts.1)
  where
    by : has_float e ≡ false → Whole ms → (o : Ordering) → Whole (put k d ms)
        → Whole (match_ordering o (member k d (member l e ms)) (member l d ms) (member l e (put k d ms)))
    by here rest Less more = or-from (has_float d) (members_have_float (member l e ms)) one all
    by here rest Equal more = or-from (has_float d) (members_have_float ms) one rest
    by here rest Greater more = or-from (has_float e) (members_have_float (put k d ms)) here more

pub edge_whole : (r : Relation) (nodes : List Node) (e : Edge) → has_float (edge_value r nodes e) ≡ false
edge_whole r nodes e =
    let a : Members = put (codes "ldv:first") (number (unsigned e.first)) no_members in
    let b : Members = put (codes "ldv:last") (number (unsigned e.last)) a in
    let c : Members = put (target_name r) (string (node_id (node_at nodes e.target))) b in
    put_whole (source_name r) (string (node_id (node_at nodes e.source))) c refl
    (put_whole (target_name r) (string (node_id (node_at nodes e.target))) b refl
    (put_whole (codes "ldv:last") (number (unsigned e.last)) a refl
    (put_whole (codes "ldv:first") (number (unsigned e.first)) no_members refl refl)))
