-- A process of a trace, as reports name it.
use Rattle.std.specs.Prelude.{ℕ, List}

pub record NamedProcess : Type 0 where
  -- its spawn path
  pub parts : List ℕ
  -- how many children it made
  pub children : ℕ
