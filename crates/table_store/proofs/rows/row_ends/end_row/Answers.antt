use Rattle.std.proofs.Common.{◌≡◌, ◌≢◌, ◌∙◌, ◌<◌, ap, sym, subst, ℕ, List, get_or, set, length, inl, inr, false, arith, get_or-set_same, get_or-set_other}
use Rattle.std.proofs.lemmas.Bool.{cases_eq}
use Rattle.std.proofs.lemmas.List.{length-set}
use Rattle.table_store.specs.inner.Grid.{Rows, no_slot}
use Rattle.table_store.specs.inner.Past.{past, end_in}
use Rattle.table_store.specs.inner.RowHistories.{Past, Ends}
use Rattle.table_store.specs.inner.RowChanges.{IsReady, EndsRow}
use Rattle.table_store.specs.declared.rows.logged.Logged.{Logged}
use Rattle.table_store.proofs.ChangeLaws.{others_apart, row_ended}
use Rattle.table_store.proofs.rows.row_ends.end_row.Goals as goal

pub unreachable-requires : goal.unreachable-requires
unreachable-requires c =
    let has = c.requires.ready in
    c.find.ensures.absent c.in-None.is has.0 has.1 has.2

pub returns-clause-row : goal.returns-clause-row
returns-clause-row c =
    let old : Rows = c.args.grid.now in
    let slot = c.in-Some.slot in
    let found = c.in-Some.ensures.found in
    let has = c.requires.ready in
    let earlier : Past = λ k. past c.args.log.now.versions k in
    let ends : Ends = λ k. end_in c.args.log.now.ends k in
    let left : Ends = λ k. end_in c.end.new.self.ends k in
    let here : has.0 ≡ slot = elim (cases_eq has.0 slot) [
      | inl is ↦ is
      | inr other ↦ absurd (others_apart old.slots c.tell_order.ensures.rising slot c.args.number found.0 found.1 has.0 has.1 other has.2)
    ] in
    let ready : IsReady (earlier slot) (ends slot) = subst (λ (k : ℕ). IsReady (earlier k) (ends k)) here has.3 in
    let inside : slot < length c.args.log.now.ends = omega (arith, found.0, c.requires.covered) in
    let at : left slot ≡ c.args.time = ap (λ (l : List ℕ). end_in l slot) c.end.ensures.ends ∙ get_or-set_same c.args.log.now.ends slot c.args.time 0 inside in
    subst (λ (r : Rows). EndsRow c.args.time c.args.number earlier ends old (λ k. past c.end.new.self.versions k) left r) (sym c.clear.ensures)
    (subst (λ (l : List Logged). EndsRow c.args.time c.args.number earlier ends old (λ k. past l k) left (record old { slots = set old.slots slot (record (get_or old.slots slot no_slot) { stands = false }) })) (sym c.end.ensures.versions)
    (row_ended earlier ends left old slot c.args.number c.args.time c.requires.kept c.tell_order.ensures.rising found.0 found.1 ready.0 ready.1 c.requires.later at
    (λ k other. ap (λ (l : List ℕ). end_in l k) c.end.ensures.ends ∙ get_or-set_other c.args.log.now.ends slot k c.args.time 0 other)))

pub returns-clause-covered : goal.returns-clause-covered
returns-clause-covered c = ap length c.end.ensures.ends ∙ length-set c.args.log.now.ends c.in-Some.slot c.args.time
