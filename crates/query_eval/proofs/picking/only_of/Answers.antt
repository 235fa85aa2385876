use Rattle.std.proofs.Common.{◌≡◌, ◌∙◌, List, length, vec_len, sym, arith, rules}
use Rattle.query_eval.specs.declared.source.Source.{Source}
use Rattle.query_eval.proofs.SinglePicks.{only_item}
use Rattle.query_eval.proofs.picking.only_of.Goals as goal

pub returns-clause-one : goal.returns-clause-one
returns-clause-one c =
    let items : List Source = c.into_vec-items.result.items in
    let rest : List Source = c.pop.new.self.items in
    let sized : vec_len c.pop.new.self ≡ length rest = search rules in
    let none : length rest ≡ 0 = omega (arith, sized, c.in-Some.ensures.cases) in
    sym c.into_vec-items.ensures ∙ only_item items rest c.in-Some.source c.in-Some.ensures.items none
