-- The counts of cases and of differences.
use Rattle.std.specs.Prelude.{◌≡◌, ◌<◌, ℕ, ◌+◌, ◌^◌}
use Rattle.conformance.specs.declared.tally.Tally.{Tally}

-- `more` cases more, as far as counts go
abbrev pub CountsCases : Tally → Tally → ℕ → Type 0
CountsCases old new more = old.cases + more < 2 ^ 64 → new.cases ≡ old.cases + more
