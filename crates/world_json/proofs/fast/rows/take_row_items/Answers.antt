use Rattle.std.proofs.Common.{◌≡◌, ◌<◌, List, length, Some, None, sym, subst, arith}
use Rattle.std.specs.List.{AllByRecursion}
use Rattle.json.specs.Token.{Token}
use Rattle.json.specs.Json.{after_end_array}
use Rattle.json.proofs.Grammar.{after_end_array-shorter}
use Rattle.ldv_value.specs.declared.value.Value.{Value}
use Rattle.run_model.specs.TypedPackage.{TypedValues}
use Rattle.world_json.specs.Shape.{array_of, cell_of}
use Rattle.world_json.specs.inner.Taking.{IsTaken}
use Rattle.world_json.proofs.Each.{all_push}
use Rattle.world_json.proofs.Taken.{ItemsSoFar, items_start, items_step, items_done}
use Rattle.world_json.proofs.fast.rows.take_row_items.Goals as goal

pub rows-init : goal.rows-init
rows-init c = record {
  read = subst (λ (xs : List (List Value)). ItemsSoFar (array_of cell_of) 1 c.args.reader.now xs c.args.reader.now) (sym c.new-found.ensures) (items_start (array_of cell_of) 1 c.args.reader.now);
  shorter = omega arith;
  typed = subst (AllByRecursion TypedValues) (sym c.new-found.ensures) tt;
}

pub rows-preserved : goal.rows-preserved
rows-preserved c =
    let l = c.rows in
    let x = c.in_ok-row.row in
    let new = c.take_array.new.reader in
    let going : (after_end_array l.reader ≡ None) × (c.take_end_array.new.self ≡ l.reader) = grind arith in
    let less : length new < length l.reader = rw (← going.1) c.in_ok-row.ensures.shorter in
    let one = subst (λ (ts : List Token). IsTaken (array_of cell_of) 1 ts x new) going.1 c.in_ok-row.ensures.taken in
    record {
      read = subst (λ (xs : List (List Value)). ItemsSoFar (array_of cell_of) 1 c.args.reader.now xs new) (sym c.in_ok-push.ensures)
          (items_step (array_of cell_of) 1 c.args.reader.now l.reader new l.found x l.invariant.read going.0 less one);
      shorter = omega (arith, less, l.invariant.shorter);
      typed = subst (AllByRecursion TypedValues) (sym c.in_ok-push.ensures) (all_push TypedValues l.found x l.invariant.typed c.in_ok-row.ensures.typed);
    }

pub returns-clause-taken : goal.returns-clause-taken
returns-clause-taken c =
    let ends : after_end_array c.rows.reader ≡ Some c.take_end_array.new.self = grind arith in
    items_done (array_of cell_of) 1 c.args.reader.now c.rows.reader c.take_end_array.new.self c.rows.found c.rows.invariant.read ends

pub returns-clause-shorter : goal.returns-clause-shorter
returns-clause-shorter c =
    let ends : after_end_array c.rows.reader ≡ Some c.take_end_array.new.self = grind arith in
    omega (arith, after_end_array-shorter c.rows.reader c.take_end_array.new.self ends, c.rows.invariant.shorter)
