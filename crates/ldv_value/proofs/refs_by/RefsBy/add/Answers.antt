use Rattle.std.proofs.Common.{rules, ap, []}
use Rattle.std.specs.Prelude.{Option, unwrap_or}
use Rattle.std.proofs.lemmas.Result.{on_err_weaker, on_ok_weaker}
use Rattle.ldv_value.proofs.Listings.{put_item, put_same}
use Rattle.ldv_value.proofs.refs_by.RefsBy.add.Goals as goal

pub returns-in-Some-clause-ok : goal.returns-in-Some-clause-ok
returns-in-Some-clause-ok g c =
    let old = c.args.self.now.map in
    let made = c.push.new.self in
    let new = c.get_mut.follows.lender made in
    let is = ap (λ (o : Option _). unwrap_or o []) c.in-Some.ensures.value in
    on_ok_weaker c.push.result
    (λ more. put_item g.K.Ord.cmp g.met.K.Ord.total old new c.args.key c.args.item.now c.in-Some.items.now made is more ((c.get_mut.follows.holds made).3 (search rules)).0)
    c.push.ensures.ok

pub returns-in-Some-clause-err : goal.returns-in-Some-clause-err
returns-in-Some-clause-err g c =
    let old = c.args.self.now.map in
    let made = c.push.new.self in
    let new = c.get_mut.follows.lender made in
    let is = ap (λ (o : Option _). unwrap_or o []) c.in-Some.ensures.value in
    on_err_weaker c.push.result
    (λ same. put_same g.K.Ord.cmp g.met.K.Ord.total old new c.args.key c.in-Some.items.now made is same ((c.get_mut.follows.holds made).3 (search rules)).0)
    c.push.ensures.err
