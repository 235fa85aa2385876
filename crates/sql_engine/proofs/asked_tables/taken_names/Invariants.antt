use Rattle.std.proofs.Common.{◌≡◌, ◌≤◌, List, ℕ, Bool, length, map}
use Rattle.sql_engine.specs.inner.Taking.{is_taken, InPlace}
use Rattle.sql_engine.proofs.asked_tables.taken_names.Given as goal

abbrev pub invariant-loop-place : goal.invariant-loop-place
invariant-loop-place l = record {
  behind : l.kept ≤ l.place;
  long : length l.items.items ≡ length l.fn.names;
  here : (test : List ℕ → Bool) → map test l.fn.names ≡ map is_taken l.marks → InPlace test l.fn.names l.items.items l.kept l.place;
}
