use Rattle.std.proofs.Common.{◌≡◌, sym, subst, not, Option, ℕ, true}
use Rattle.ldv_value.proofs.Booleans.{and-second}
use Rattle.table_store.specs.inner.ChildPairs.{IsNextOf, is_child, refers}
use Rattle.table_store.specs.inner.ChildSteps.{IsStep}
use Rattle.table_store.specs.Histories.{last_next_number, rows_now}
use Rattle.table_store.specs.Stops.{is_among}
use Rattle.table_store.specs.Types.{Foreign, TableRow}
use Rattle.table_store.specs.declared.references.child_rows.Search.{Search}
use Rattle.table_store.proofs.ChildRowLaws.{rising_rows, small_rows, step_none, step_some}
use Rattle.table_store.proofs.references.child_rows.step.Goals as goal

pub returns-in-None : goal.returns-in-None
returns-in-None c =
    let h = c.args.table.now in
    let rows = rows_now h.slots in
    let f = c.args.foreign.now in
    let key = c.args.key.now.values in
    let given = c.args.given.now in
    let may : (row : TableRow) → is_child given f key row ≡ true → refers f key row ≡ true = λ row is. and-second (not (is_among given row)) (refers f key row) is in
    let next = subst (λ (o : Option ℕ). IsNextOf (refers f key) rows c.args.from o) c.in-None.is
    (subst (λ (g : Foreign). IsNextOf (refers g key) rows c.args.from c.in_ok-found.found) (sym c.requires.there) c.in_ok-found.ensures) in
    step_none (is_child given f key) rows (refers f key) may c.args.from c.requires.from next

pub returns-in_ok-search-in-Some : goal.returns-in_ok-search-in-Some
returns-in_ok-search-in-Some c =
    let h = c.args.table.now in
    let rows = rows_now h.slots in
    let f = c.args.foreign.now in
    let key = c.args.key.now.values in
    let given = c.args.given.now in
    let may : (row : TableRow) → is_child given f key row ≡ true → refers f key row ≡ true = λ row is. and-second (not (is_among given row)) (refers f key row) is in
    let next = subst (λ (o : Option ℕ). IsNextOf (refers f key) rows c.args.from o) c.in-Some.is
    (subst (λ (g : Foreign). IsNextOf (refers g key) rows c.args.from c.in_ok-found.found) (sym c.requires.there) c.in_ok-found.ensures) in
    subst (λ (s : Search). IsStep (is_child given f key) rows c.args.from s) (sym c.in_ok-search-in-Some.ensures)
    (step_some (is_child given f key) rows (refers f key) may 0 c.args.from c.in-Some.number (rising_rows h.slots (last_next_number h.nexts) c.tell_order.ensures)
    (small_rows h.slots (last_next_number h.nexts) c.tell_order.ensures c.tell_small.ensures) c.requires.from next)
