use Rattle.std.proofs.Common.{◌≡◌, get_or}
use Rattle.std.proofs.lemmas.List.{get_or_read}
use Rattle.std.proofs.lemmas.Result.{on_ok_weaker}
use Rattle.group_eval.specs.inner.Grouping.{key_of}
use Rattle.group_eval.proofs.GroupLaws.{number_within, set_again, numbers_set}
use Rattle.group_eval.proofs.groups.add_again.Goals as goal

pub returns-clause-made : goal.returns-clause-made
returns-clause-made c =
    let ms = c.args.made.now.items in
    let places = c.args.places.now in
    let p = c.args.pick.now in
    let found = c.index_mut.result.now in
    let here : found ≡ get_or ms c.args.number found =
    get_or_read ms c.args.number _ (number_within ms (key_of places p) c.args.number c.requires) c.index_mut.ensures.value found in
    on_ok_weaker c.take_pick.result (λ is. set_again places ms p found _ c.args.number c.requires here is) c.take_pick.ensures

pub returns-clause-numbers : goal.returns-clause-numbers
returns-clause-numbers c =
    let ms = c.args.made.now.items in
    let places = c.args.places.now in
    let p = c.args.pick.now in
    let found = c.index_mut.result.now in
    let here : found ≡ get_or ms c.args.number found =
    get_or_read ms c.args.number _ (number_within ms (key_of places p) c.args.number c.requires) c.index_mut.ensures.value found in
    on_ok_weaker c.take_pick.result (λ is. numbers_set places ms p found _ c.args.number c.requires here is) c.take_pick.ensures
