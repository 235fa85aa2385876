-- How many processes were made after an act.
use Rattle.std.proofs.Common.{◌≡◌, ℕ, ◌+◌, Bool, true, false, arith}
use Rattle.std.specs.Prelude.{if◌then◌else◌}
use Rattle.run_model.specs.Acts.{is_spawn, spawned_by}
use Rattle.run_model.specs.Types.{Act}
use Rattle.run_model.specs.ValidTrace.{made_after}

one_more : (made : ℕ) (spawn : Bool) → (if spawn then made + 1 else made) ≡ made + (if spawn then 1 else 0)
one_more made true = omega arith
one_more made false = omega arith

pub made_spawned : (made : ℕ) (act : Act) → made_after made act ≡ made + spawned_by act
made_spawned made act = one_more made (is_spawn act)
