use Rattle.std.proofs.Common.{◌≡◌, ◌<◌, List, length, Some, None, sym, subst, arith}
use Rattle.std.specs.List.{AllByRecursion}
use Rattle.json.specs.Token.{Token}
use Rattle.json.specs.Json.{after_end_array}
use Rattle.json.proofs.Grammar.{after_end_array-shorter}
use Rattle.world_json.specs.inner.Taking.{IsTaken}
use Rattle.world_json.proofs.Each.{all_push}
use Rattle.world_json.proofs.Taken.{ItemsSoFar, items_start, items_step, items_done}
use Rattle.world_json.proofs.fast.items.take_items.Goals as goal

pub items-init : goal.items-init
items-init g c = record {
  read = subst (λ (xs : List g.row.X.Denot). ItemsSoFar g.X.FromTokens.of_item g.X.FromTokens.levels c.args.reader.now xs c.args.reader.now) (sym c.in_ok-found.ensures)
      (items_start g.X.FromTokens.of_item g.X.FromTokens.levels c.args.reader.now);
  shorter = omega arith;
  typed = subst (AllByRecursion g.X.FromTokens.typed) (sym c.in_ok-found.ensures) tt;
}

pub items-preserved : goal.items-preserved
items-preserved g c =
    let l = c.items in
    let x = c.in_ok-item.item in
    let new = c.from_tokens.new.reader in
    let going : (after_end_array l.reader ≡ None) × (c.take_end_array.new.self ≡ l.reader) = grind arith in
    let less : length new < length l.reader = rw (← going.1) c.in_ok-item.ensures.shorter in
    let one = subst (λ (ts : List Token). IsTaken g.X.FromTokens.of_item g.X.FromTokens.levels ts x new) going.1 c.in_ok-item.ensures.taken in
    record {
      read = subst (λ (xs : List g.row.X.Denot). ItemsSoFar g.X.FromTokens.of_item g.X.FromTokens.levels c.args.reader.now xs new) (sym c.in_ok-push.ensures.ok)
          (items_step g.X.FromTokens.of_item g.X.FromTokens.levels c.args.reader.now l.reader new l.found x l.invariant.read going.0 less one);
      shorter = omega (arith, less, l.invariant.shorter);
      typed = subst (AllByRecursion g.X.FromTokens.typed) (sym c.in_ok-push.ensures.ok) (all_push g.X.FromTokens.typed l.found x l.invariant.typed c.in_ok-item.ensures.typed);
    }

pub returns-clause-taken : goal.returns-clause-taken
returns-clause-taken g c =
    let ends : after_end_array c.items.reader ≡ Some c.take_end_array.new.self = grind arith in
    items_done g.X.FromTokens.of_item g.X.FromTokens.levels c.args.reader.now c.items.reader c.take_end_array.new.self c.items.found c.items.invariant.read ends

pub returns-clause-shorter : goal.returns-clause-shorter
returns-clause-shorter g c =
    let ends : after_end_array c.items.reader ≡ Some c.take_end_array.new.self = grind arith in
    omega (arith, after_end_array-shorter c.items.reader c.take_end_array.new.self ends, c.items.invariant.shorter)
