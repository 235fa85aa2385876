use Rattle.std.proofs.Common.{◌≡◌, ◌∙◌, ◌+◌, ◌*◌, ◌++◌, ◌∷◌, [], ap, sym, length, List, ℕ}
use Rattle.lineage.specs.Flat.{SlotRows, rows_in, rows_of_width}
use Rattle.lineage.proofs.FlatLaws.{row_added, pushed_long}
use Rattle.lineage.proofs.flat_rows.FlatRows.push.Goals as goal

pub invariant_of-self-2 : goal.invariant_of-self-2
invariant_of-self-2 c =
    let row : List ℕ = c.args.row.now in
    let same : c.self.inside.width ≡ c.args.self.now.width = ap (λ (r : SlotRows). r.width) c.self.view_is in
    let wide : length row ≡ c.self.inside.width = c.requires ∙ sym same in
    let put : c.add_all.new.slots.items ≡ c.self.inside.slots.items ++ row = c.in_ok-add_all.ensures.ok in
    record {
      long = ap length put ∙ pushed_long c.self.inside.count c.self.inside.width c.self.inside.slots.items row c.self.invariant.long wide ∙ ap (λ (n : ℕ). n * c.self.inside.width) (sym c.in_ok-count.ensures);
    }

pub returns-clause-ok : goal.returns-clause-ok
returns-clause-ok c =
    let row : List ℕ = c.args.row.now in
    let w : ℕ = c.self.inside.width in
    let same : w ≡ c.args.self.now.width = ap (λ (r : SlotRows). r.width) c.self.view_is in
    let wide : length row ≡ w = c.requires ∙ sym same in
    let put : c.add_all.new.slots.items ≡ c.self.inside.slots.items ++ row = c.in_ok-add_all.ensures.ok in
    (λ j. rows_of_width w (rows_in (c.in_ok-count.ensures j) w (put j)))
    ∙ ap (λ (rs : List (List ℕ)). rows_of_width w rs) (row_added c.self.inside.count w c.self.inside.slots.items row c.self.invariant.long wide)
    ∙ ap (λ (r : SlotRows). rows_of_width r.width (r.rows ++ row ∷ [])) c.self.view_is
