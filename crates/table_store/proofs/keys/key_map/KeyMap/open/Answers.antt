use Rattle.std.proofs.Common.{rules, ◌≡◌, ◌∙◌, ap, sym, false, None}
use Rattle.std.specs.Prelude.{is_some}
use Rattle.std.specs.BTreeMap.{get}
use Rattle.ldv_value.proofs.Options.{is_some-false}
use Rattle.table_store.proofs.KeyMapLaws.{put_at, put_keeps, some_now}
use Rattle.table_store.proofs.keys.key_map.KeyMap.open.Goals as goal

pub returns-clause-kept : goal.returns-clause-kept
returns-clause-kept g c =
    let cmp = g.K.Ord.cmp in
    let old = c.args.self.now.held in
    let new = c.put.new.self.held in
    let key = c.in_ok-copy.copy in
    let gone : is_some c.number.result ≡ false = search rules in
    let none : get cmp old key ≡ None = ap (get cmp old) c.in_ok-copy.ensures ∙ sym c.number.ensures ∙ is_some-false c.number.result gone in
    put_keeps cmp g.met.K.Ord.total old new key c.args.number c.in_ok-put.ensures.ok none

pub returns-clause-ok : goal.returns-clause-ok
returns-clause-ok g c =
    let cmp = g.K.Ord.cmp in
    let old = c.args.self.now.held in
    let new = c.put.new.self.held in
    let key = c.in_ok-copy.copy in
    some_now c.args.number (ap (get cmp new) (sym c.in_ok-copy.ensures) ∙ put_at cmp g.met.K.Ord.total old new key c.args.number c.in_ok-put.ensures.ok)
