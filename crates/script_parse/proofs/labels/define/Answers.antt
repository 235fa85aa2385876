use Rattle.std.proofs.Common.{◌∙◌, sym, ap}
use Rattle.std.specs.BTreeMap.{get_by_text}
use Rattle.std.specs.Prelude.{is_some}
use Rattle.ldv_value.proofs.Options.{is_some-false}
use Rattle.script_parse.proofs.LabelMap.{put_in}
use Rattle.script_parse.proofs.labels.define.Goals as goal

pub returns : goal.returns
returns c =
    let old = c.args.labels.now in
    let absent = is_some-false (get_by_text old c.args.name.now) (ap (λ k. is_some (get_by_text old k)) (sym c.as_str.ensures) ∙ sym c.contains_key.ensures ∙ c.if-contains_key.false) in
    put_in old c.insert.new.self c.in_ok-key.key c.args.name.now c.args.definition (c.in_ok-key.ensures.ok ∙ c.as_str-2.ensures) absent c.in_ok-insert.ensures.updates
