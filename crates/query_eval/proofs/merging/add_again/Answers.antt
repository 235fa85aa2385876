use Rattle.std.proofs.Common.{◌≡◌, get_or}
use Rattle.std.proofs.lemmas.List.{get_or_read}
use Rattle.std.proofs.lemmas.Result.{on_ok_weaker}
use Rattle.query_eval.proofs.Absorbs.{place_within, set_again, places_set}
use Rattle.query_eval.proofs.merging.add_again.Goals as goal

pub returns-clause-made : goal.returns-clause-made
returns-clause-made c =
    let ms = c.args.made.now.items in
    let a = c.args.answer.now in
    let found = c.index_mut.result.now in
    let here : found ≡ get_or ms c.args.place found =
    get_or_read ms c.args.place _ (place_within ms a.values c.args.place c.requires) c.index_mut.ensures.value found in
    on_ok_weaker c.unite.result (λ is. set_again ms a found _ c.args.place c.requires here is) c.unite.ensures.ok

pub returns-clause-places : goal.returns-clause-places
returns-clause-places c =
    let ms = c.args.made.now.items in
    let a = c.args.answer.now in
    let found = c.index_mut.result.now in
    let here : found ≡ get_or ms c.args.place found =
    get_or_read ms c.args.place _ (place_within ms a.values c.args.place c.requires) c.index_mut.ensures.value found in
    on_ok_weaker c.unite.result (λ is. places_set ms a found _ c.args.place c.requires here is) c.unite.ensures.ok
