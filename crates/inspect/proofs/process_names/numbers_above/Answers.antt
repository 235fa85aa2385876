use Rattle.std.proofs.Common.{◌≡◌, ◌∙◌, ◌<◌, ◌++◌, subst, arith, ℕ, List, reverse}
use Rattle.inspect.specs.declared.process_names.Made.{Made}
use Rattle.inspect.specs.inner.ProcessPlaces.{name_at}
use Rattle.inspect.proofs.PlaceLaws.{goes_up, step_up}
use Rattle.inspect.proofs.process_names.numbers_above.Goals as goal

pub loop-at-smaller : goal.loop-at-smaller
loop-at-smaller c =
    goes_up c.args.made.now c.loop-at.at c.made_at-process.result c.requires.after c.loop-at-test.true c.loop-at.invariant.within
    c.made_at-process.ensures

pub loop-at-preserved : goal.loop-at-preserved
loop-at-preserved c =
    let ms : List Made = c.args.made.now in
    let m : Made = c.made_at-process.result in
    let up : m.parent < c.loop-at.at =
    goes_up ms c.loop-at.at m c.requires.after c.loop-at-test.true c.loop-at.invariant.within c.made_at-process.ensures in
    record {
      within = omega (arith, up, c.loop-at.invariant.within);
      name = step_up ms c.loop-at.at m c.loop-at.numbers.items c.push.new.self.items c.requires.after c.loop-at-test.true
          c.loop-at.invariant.within c.made_at-process.ensures c.in_ok-push.ensures.items ∙ c.loop-at.invariant.name;
    }

pub returns : goal.returns
returns c =
    let ms : List Made = c.args.made.now in
    let top : c.loop-at.at ≡ 0 = omega (arith, c.loop-at-test.false) in
    subst (λ (k : ℕ). name_at ms k ++ reverse c.loop-at.numbers.items ≡ name_at ms c.args.place) top c.loop-at.invariant.name
