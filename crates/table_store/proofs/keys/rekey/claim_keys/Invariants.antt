use Rattle.std.proofs.Common.{take}
use Rattle.table_store.specs.IndexView.{held_in}
use Rattle.table_store.specs.GivenKeys.{AreJudged}
use Rattle.table_store.specs.Histories.{rows_now}
use Rattle.table_store.proofs.keys.rekey.claim_keys.Given as goal

abbrev pub invariant-loop-place : goal.invariant-loop-place
invariant-loop-place l =
    AreJudged l.places (rows_now l.stored.slots) l.given (λ key. held_in l.claims key) l.first (take l.place l.given)
