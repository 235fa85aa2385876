use Rattle.std.proofs.Common.{◌≡◌, ◌==◌, ◌||◌, ◌%◌, ℕ, drop}
use Rattle.std.specs.List.{list_any}
use Rattle.lanes.specs.Sets.{member}
use Rattle.slicer.proofs.fresh.words_of.Given as goal

abbrev pub invariant-loop-need : goal.invariant-loop-need
invariant-loop-need l = (n : ℕ) → (member l.words n || list_any (λ need. n == need.member.row % 4096) (drop l.need-index l.needs)) ≡ list_any (λ need. n == need.member.row % 4096) l.needs
