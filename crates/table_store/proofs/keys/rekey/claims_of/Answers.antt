use Rattle.std.proofs.Common.{rules, ◌≡◌, ◌==◌, ap, sym, subst, List, length, true, false, map, Option}
use Rattle.sql_model.specs.Changes.{KeyClash}
use Rattle.table_store.specs.Types.{TableRow}
use Rattle.table_store.specs.Claims.{both_stop}
use Rattle.table_store.specs.GivenKeys.{with_claims, TakeOver}
use Rattle.table_store.specs.Histories.{rows_now}
use Rattle.table_store.specs.IndexView.{held_in}
use Rattle.table_store.specs.KeyIndex.{HeldKeys, AreHeld, AreIndexed}
use Rattle.table_store.specs.Stops.{replaced_by, StopsAs}
use Rattle.table_store.specs.declared.keys.index.Index.{Index}
use Rattle.table_store.proofs.ClaimLaws.{keyed_held, keyed_clash, unkeyed_clash}
use Rattle.table_store.proofs.IndexChangeLaws.{no_claims}
use Rattle.table_store.proofs.IndexLaws.{any_alike, index_alike, indexed_by, indexed_none}
use Rattle.table_store.proofs.KeptKeyLaws.{still_indexed, none_clash}
use Rattle.table_store.proofs.RekeyLaws.{if_ok}
use Rattle.table_store.proofs.keys.rekey.claims_of.Goals as goal

pub returns-then-is_empty-clause-ok : goal.returns-then-is_empty-clause-ok
returns-then-is_empty-clause-ok c =
    let none : (length c.args.places.now == 0) ≡ true = search rules in
    λ held are. indexed_none c.args.places.now (with_claims (λ key. held_in c.new.result key) held) (map (replaced_by c.args.given.now) (rows_now c.args.stored.now.slots)) none

pub returns-then-is_empty-clause-stop : goal.returns-then-is_empty-clause-stop
returns-then-is_empty-clause-stop c =
    let none : (length c.args.places.now == 0) ≡ true = search rules in
    ap (both_stop c.args.places.now) (unkeyed_clash c.args.places.now (map (replaced_by c.args.given.now) (rows_now c.args.stored.now.slots)) none)

pub returns-then-keep-clause-ok : goal.returns-then-keep-clause-ok
returns-then-keep-clause-ok c = λ held are.
    let stored = c.args.stored.now in
    no_claims c.args.places.now (λ key. held_in c.new-then-keep.result key) held c.new-then-keep.ensures (map (replaced_by c.args.given.now) (rows_now stored.slots))
    (still_indexed c.args.given.now held (any_alike held) stored.slots stored.next c.tell_order.ensures.order c.args.places.now (c.in_ok-keep.ensures c.if-keep.true) are)

pub returns-then-keep-clause-stop : goal.returns-then-keep-clause-stop
returns-then-keep-clause-stop c =
    let held : HeldKeys = λ key. held_in c.args.index.now key in
    let stored = c.args.stored.now in
    ap (both_stop c.args.places.now)
    (none_clash c.args.given.now held (index_alike c.args.index.now) stored.slots stored.next c.tell_order.ensures.order c.args.places.now (c.in_ok-keep.ensures c.if-keep.true) c.requires.indexed)

pub claim_keys-requires-clause-held : goal.claim_keys-requires-clause-held
claim_keys-requires-clause-held c =
    keyed_held c.args.places.now (λ q. held_in c.args.index.now q) (rows_now c.args.stored.now.slots) (search rules) c.requires.indexed

pub returns-clause-ok : goal.returns-clause-ok
returns-clause-ok c =
    let places = c.args.places.now in
    let old : List TableRow = rows_now c.args.stored.now.slots in
    let rows : List TableRow = map (replaced_by c.args.given.now) old in
    let keyed : (length places == 0) ≡ false = search rules in
    if_ok (λ (claims : Index). (held : HeldKeys) → AreHeld places held old → AreHeld places (with_claims (λ key. held_in claims key) held) rows) (λ (claims : Index). TakeOver places old rows (λ key. held_in claims key)) c.claim_keys.result
    (λ claims are held indexed. indexed_by places (with_claims (λ key. held_in claims key) held) rows (are held (keyed_held places held old keyed indexed))) c.claim_keys.ensures.ok

pub returns-clause-stop : goal.returns-clause-stop
returns-clause-stop c =
    let places = c.args.places.now in
    let rows : List TableRow = map (replaced_by c.args.given.now) (rows_now c.args.stored.now.slots) in
    let keyed : (length places == 0) ≡ false = search rules in
    subst (λ (o : Option KeyClash). StopsAs (both_stop places o) c.claim_keys.result) (sym (keyed_clash places rows keyed)) c.claim_keys.ensures.stop
