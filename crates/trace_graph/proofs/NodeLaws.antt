-- The test of two nodes decides equality, and linking the same nodes is an equivalence of links.
use Rattle.std.proofs.Common.{◌≡◌, ap, subst, refl, Bool, true}
use Rattle.std.specs.Prelude.{◌&&◌, ◌==◌, bytes_eq}
use Rattle.std.specs.Cmp.{IsEquivalence}
use Rattle.std.proofs.lemmas.Cmp.{on_equiv, and_equiv}
use Rattle.std.proofs.lemmas.Bool.{eq-eqb, eqb-true}
use Rattle.std.proofs.lemmas.Slice.Eq.{bytes_eq-Decides}
use Rattle.ldv_value.proofs.Booleans.{and-first, and-second, and-from, same-tests}
use Rattle.trace_graph.specs.Types.{Member, Node, Path, Process, Row, Ask, Reply}
use Rattle.trace_graph.specs.Graph.{same_member, same_node, same_ends}
use Rattle.trace_graph.specs.Links.{Link}

member_is : (a b : Member) → same_member a b ≡ true → a ≡ b
member_is a b same =
    let rest = and-second (bytes_eq a.table b.table) (a.row == b.row && a.version == b.version) same in
    let tables : a.table ≡ b.table = (bytes_eq-Decides a.table b.table).0 (and-first (bytes_eq a.table b.table) (a.row == b.row && a.version == b.version) same) in
    let rows : a.row ≡ b.row = eqb-true a.row b.row (and-first (a.row == b.row) (a.version == b.version) rest) in
    let versions : a.version ≡ b.version = eqb-true a.version b.version (and-second (a.row == b.row) (a.version == b.version) rest) in
    λ j. record { table = tables j; row = rows j; version = versions j }

member_itself : (a : Member) → same_member a a ≡ true
member_itself a =
    and-from (bytes_eq a.table a.table) (a.row == a.row && a.version == a.version) ((bytes_eq-Decides a.table a.table).1 refl)
    (and-from (a.row == a.row) (a.version == a.version) (eq-eqb a.row a.row refl) (eq-eqb a.version a.version refl))

pub node_is : (a b : Node) → same_node a b ≡ true → a ≡ b
node_is (Path a) (Path b) same = ap Path ((bytes_eq-Decides a b).0 same)
node_is (Path a) (Process b) same = cc
node_is (Path a) (Row b) same = cc
node_is (Path a) (Ask b) same = cc
node_is (Path a) (Reply b) same = cc
node_is (Process a) (Path b) same = cc
node_is (Process a) (Process b) same = ap Process (eqb-true a b same)
node_is (Process a) (Row b) same = cc
node_is (Process a) (Ask b) same = cc
node_is (Process a) (Reply b) same = cc
node_is (Row a) (Path b) same = cc
node_is (Row a) (Process b) same = cc
node_is (Row a) (Row b) same = ap Row (member_is a b same)
node_is (Row a) (Ask b) same = cc
node_is (Row a) (Reply b) same = cc
node_is (Ask a) (Path b) same = cc
node_is (Ask a) (Process b) same = cc
node_is (Ask a) (Row b) same = cc
node_is (Ask a) (Ask b) same = ap Ask (eqb-true a b same)
node_is (Ask a) (Reply b) same = cc
node_is (Reply a) (Path b) same = cc
node_is (Reply a) (Process b) same = cc
node_is (Reply a) (Row b) same = cc
node_is (Reply a) (Ask b) same = cc
node_is (Reply a) (Reply b) same = ap Reply (eqb-true a b same)

pub node_itself : (a : Node) → same_node a a ≡ true
node_itself (Path a) = (bytes_eq-Decides a a).1 refl
node_itself (Process a) = eq-eqb a a refl
node_itself (Row a) = member_itself a
node_itself (Ask a) = eq-eqb a a refl
node_itself (Reply a) = eq-eqb a a refl

-- a test of equality is an equivalence
equivalence_of : {X : Type 0} {same : X → X → Bool} → ((a b : X) → same a b ≡ true → a ≡ b) → ((a : X) → same a a ≡ true) → IsEquivalence same
equivalence_of {X} {same} is itself = record {
  refl = itself;
  symm = λ a b. same-tests (same a b) (same b a)
      (λ h. subst (λ (c : X). same c a ≡ true) (is a b h) (itself a))
      (λ h. subst (λ (c : X). same c b ≡ true) (is b a h) (itself b));
  congr = λ a b c h. ap (λ (d : X). same d c) (is a b h);
}

pub node_laws : IsEquivalence same_node
node_laws = equivalence_of node_is node_itself

pub ends_laws : IsEquivalence same_ends
ends_laws = and_equiv (on_equiv (λ (l : Link). l.source) node_laws) (on_equiv (λ (l : Link). l.target) node_laws)
