use Rattle.std.proofs.Common.{rules, ◌≡◌, ◌∙◌, ◌++◌, ◌∷◌, [], length, ap, sym, subst, map, List, ℕ, Option, Some, true, append_assoc, append-nil}
use Rattle.std.specs.List.{AllByRecursion}
use Rattle.std.specs.Option.{option_and_then}
use Rattle.table_store.specs.Histories.{TableHistory, history_at, history_of_row, tables_now, version_now}
use Rattle.table_store.specs.Referring.{IsAtVersion, version_at}
use Rattle.ldv_value.proofs.Lists.{nil-from-length}
use Rattle.table_store.specs.Types.{Member}
use Rattle.table_store.specs.inner.ParentSet.{RowName, name_stands, named_now}
use Rattle.table_store.proofs.ParentLaws.{all_pushed}
use Rattle.table_store.proofs.ParentSetLaws.{fewer_names}
use Rattle.table_store.proofs.references.parent_set.members_of.Goals as goal

pub loop-table-init : goal.loop-table-init
loop-table-init c = record {
  fewer = λ row there. there;
  versions = subst (λ (l : List Member). AllByRecursion (IsAtVersion c.args.store.now) l) (sym c.in_ok-members.ensures) tt;
  members = ap (λ (l : List Member). l ++ map (named_now c.args.store.now) c.args.found.keys) c.in_ok-members.ensures;
}

pub loop-table-preserved : goal.loop-table-preserved
loop-table-preserved c =
    let store = c.args.store.now in
    let inv = c.loop-table.invariant in
    let table : List ℕ = c.in-Some.table in
    let row : ℕ = c.in-Some.row in
    let name : RowName = (table, row) in
    let rest : List Member = map (named_now store) c.pop_first.new.self.keys in
    let made : Member = record { table = table; row = row; version = c.version_at-version.result } in
    let is : made ≡ named_now store name = λ j. record {
      table = table;
      row = row;
      version = (c.version_at-version.ensures.version ∙ ap (λ (n : List ℕ). version_at store n row) c.as_str.ensures) j;
    } in
    let standing : name_stands (tables_now store) name ≡ true = c.requires name (inv.fewer name c.in-Some.ensures.member) in
    let at_version : IsAtVersion store made =
    ap (λ (n : List ℕ). option_and_then (λ (h : TableHistory). version_now (history_of_row row h.slots)) (history_at n store)) (sym c.as_str.ensures)
    ∙ c.version_at-version.ensures.stands (subst (λ (n : List ℕ). name_stands (tables_now store) (n, row) ≡ true) (sym c.as_str.ensures) standing) in
    record {
      fewer = fewer_names c.loop-table.left c.pop_first.new.self c.args.found name c.in-Some.ensures.removal inv.fewer;
      versions = subst (λ (l : List Member). AllByRecursion (IsAtVersion store) l) (sym c.in_ok-push.ensures.ok)
          (all_pushed (IsAtVersion store) c.loop-table.members (Some made) inv.versions at_version);
      members =
          ap (λ (l : List Member). l ++ rest) c.in_ok-push.ensures.ok
          ∙ append_assoc c.loop-table.members (made ∷ []) rest
          ∙ (λ j. c.loop-table.members ++ is j ∷ rest)
          ∙ sym (ap (λ (l : List RowName). c.loop-table.members ++ map (named_now store) l) c.in-Some.ensures.removal)
          ∙ inv.members;
    }

pub returns-clause-members : goal.returns-clause-members
returns-clause-members c =
    let store = c.args.store.now in
    let count : length c.loop-table.left.keys ≡ 0 = search rules in
    let gone : c.loop-table.left.keys ≡ [] = nil-from-length c.loop-table.left.keys count in
    sym (append-nil c.loop-table.members) ∙ ap (λ (l : List RowName). c.loop-table.members ++ map (named_now store) l) (sym gone) ∙ c.loop-table.invariant.members
