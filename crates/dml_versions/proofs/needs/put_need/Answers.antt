use Rattle.std.proofs.Common.{◌==◌, List, ap, sym, ◌∙◌, true, false}
use Rattle.std.specs.Prelude.{slice_get, nat_le}
use Rattle.std.specs.List.{insert, position_or_len}
use Rattle.std.specs.Option.{option_map_or}
use Rattle.dml_versions.proofs.NeedLaws.{put-there, put-in}
use Rattle.dml_versions.specs.Types.{Need}
use Rattle.dml_versions.proofs.needs.put_need.Goals as goal

pub returns-then-has_row_at : goal.returns-then-has_row_at
returns-then-has_row_at c =
    let n = c.args.need in
    let place = c.place_for-place.result in
    put-there n c.args.needs place
    (c.place_for-place.ensures.place ∙ ap (λ (l : List Need). position_or_len (λ m. nat_le n.member.row m.member.row) l) c.items.ensures)
    (sym (c.has_row_at.ensures ∙ ap (λ (l : List Need). option_map_or (λ m. n.member.row == m.member.row) (slice_get l place) false) c.items-2.ensures) ∙ c.if-has_row_at.true)

pub returns : goal.returns
returns c =
    let n = c.args.need in
    let place = c.place_for-place.result in
    put-in n c.args.needs place
    (c.place_for-place.ensures.place ∙ ap (λ (l : List Need). position_or_len (λ m. nat_le n.member.row m.member.row) l) c.items.ensures)
    (sym (c.has_row_at.ensures ∙ ap (λ (l : List Need). option_map_or (λ m. n.member.row == m.member.row) (slice_get l place) false) c.items-2.ensures) ∙ c.if-has_row_at.false)
    c.of_vec.result (c.of_vec.ensures ∙ c.in_ok-insert.ensures.items ∙ ap (λ (l : List Need). insert l place n) c.into_vec-held.ensures)
