use Rattle.std.proofs.Common.{w64, rules, ap, sym, ◌∙◌}
use Rattle.std.specs.Prelude.{ℤ}
use mir.Val.{of_z, SFits}
use lib.Lanes.{Each1}
use Rattle.ldv_value.specs.declared.value.Cmp.{Cmp}
use Rattle.lanes.specs.Selection.{passes}
use Rattle.lanes.proofs.SelectLaws.{eight, lanes_are, lanes_eq, lanes_ne, lanes_lt, lanes_le, eq_lane, ne_lane, lt_lane, gt_lane, le_lane, ge_lane}
use Rattle.lanes.proofs.select.eight_bits.Goals as goal

pub returns-in-Eq : goal.returns-in-Eq
returns-in-Eq c =
    let constant : ℤ = c.args.constant in
    let fits : Each1 (SFits w64) (eight c.args.part.now c.args.at) = (search rules, (search rules, (search rules, (search rules, (search rules, (search rules, (search rules, (search rules, tt)))))))) in
    lanes_are c.args.op constant (λ (x : ℤ). lanes_eq (of_z w64 x) (of_z w64 constant)) c.args.part.now c.args.at c.requires
    (λ x fit. eq_lane x constant fit c.ranges.constant ∙ ap (λ (op : Cmp). passes op constant x) (sym c.in-Eq.is)) fits

pub returns-in-Ne : goal.returns-in-Ne
returns-in-Ne c =
    let constant : ℤ = c.args.constant in
    let fits : Each1 (SFits w64) (eight c.args.part.now c.args.at) = (search rules, (search rules, (search rules, (search rules, (search rules, (search rules, (search rules, (search rules, tt)))))))) in
    lanes_are c.args.op constant (λ (x : ℤ). lanes_ne (of_z w64 x) (of_z w64 constant)) c.args.part.now c.args.at c.requires
    (λ x fit. ne_lane x constant fit c.ranges.constant ∙ ap (λ (op : Cmp). passes op constant x) (sym c.in-Ne.is)) fits

pub returns-in-Lt : goal.returns-in-Lt
returns-in-Lt c =
    let constant : ℤ = c.args.constant in
    let fits : Each1 (SFits w64) (eight c.args.part.now c.args.at) = (search rules, (search rules, (search rules, (search rules, (search rules, (search rules, (search rules, (search rules, tt)))))))) in
    lanes_are c.args.op constant (λ (x : ℤ). lanes_lt (of_z w64 x) (of_z w64 constant)) c.args.part.now c.args.at c.requires
    (λ x fit. lt_lane x constant fit c.ranges.constant ∙ ap (λ (op : Cmp). passes op constant x) (sym c.in-Lt.is)) fits

pub returns-in-Le : goal.returns-in-Le
returns-in-Le c =
    let constant : ℤ = c.args.constant in
    let fits : Each1 (SFits w64) (eight c.args.part.now c.args.at) = (search rules, (search rules, (search rules, (search rules, (search rules, (search rules, (search rules, (search rules, tt)))))))) in
    lanes_are c.args.op constant (λ (x : ℤ). lanes_le (of_z w64 x) (of_z w64 constant)) c.args.part.now c.args.at c.requires
    (λ x fit. le_lane x constant fit c.ranges.constant ∙ ap (λ (op : Cmp). passes op constant x) (sym c.in-Le.is)) fits

pub returns-in-Gt : goal.returns-in-Gt
returns-in-Gt c =
    let constant : ℤ = c.args.constant in
    let fits : Each1 (SFits w64) (eight c.args.part.now c.args.at) = (search rules, (search rules, (search rules, (search rules, (search rules, (search rules, (search rules, (search rules, tt)))))))) in
    lanes_are c.args.op constant (λ (x : ℤ). lanes_lt (of_z w64 constant) (of_z w64 x)) c.args.part.now c.args.at c.requires
    (λ x fit. gt_lane x constant fit c.ranges.constant ∙ ap (λ (op : Cmp). passes op constant x) (sym c.in-Gt.is)) fits

pub returns-in-Ge : goal.returns-in-Ge
returns-in-Ge c =
    let constant : ℤ = c.args.constant in
    let fits : Each1 (SFits w64) (eight c.args.part.now c.args.at) = (search rules, (search rules, (search rules, (search rules, (search rules, (search rules, (search rules, (search rules, tt)))))))) in
    lanes_are c.args.op constant (λ (x : ℤ). lanes_le (of_z w64 constant) (of_z w64 x)) c.args.part.now c.args.at c.requires
    (λ x fit. ge_lane x constant fit c.ranges.constant ∙ ap (λ (op : Cmp). passes op constant x) (sym c.in-Ge.is)) fits
