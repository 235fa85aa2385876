use Rattle.std.proofs.Common.{◌≡◌, ◌∙◌, ◌++◌, sym, ap, subst, List, ℕ, OnOk, append-nil, arith, length, ◌<◌, ◌≤◌}
use Rattle.run_model.specs.OutcomeText.{name_text}
use Rattle.inspect.specs.ProcessNames.{name_in}
use Rattle.inspect.specs.inner.ProcessPlaces.{named_of}
use Rattle.inspect.proofs.PlaceLaws.{no_name, name_there}
use Rattle.inspect.proofs.process_names.append_made.Goals as goal

pub returns-then-place-made : goal.returns-then-place-made
returns-then-place-made c =
    let past : length c.args.made.now ≤ c.args.place = omega arith in
    sym (append-nil c.args.to.now) ∙ ap (λ (l : List ℕ). c.args.to.now ++ l) (sym (no_name c.args.made.now c.args.place past))

pub returns : goal.returns
returns c =
    let within : c.args.place < length c.args.made.now = omega arith in
    let name : name_text c.as_slice.result.now ≡ name_in (named_of c.args.made.now) c.args.place =
    ap name_text (c.as_slice.ensures.value ∙ c.in_ok-numbers.ensures) ∙ sym (name_there c.args.made.now c.args.place within) in
    subst (λ (l : List ℕ). OnOk c.append_name.result (c.append_name.new.to ≡ c.args.to.now ++ l)) name c.append_name.ensures.ok
