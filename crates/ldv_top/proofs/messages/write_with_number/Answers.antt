use Rattle.std.proofs.Common.{List, ℕ, sym, ap, ◌∙◌}
use Rattle.std.specs.Prelude.{codes}
use Rattle.ldv_top.specs.Exits.{numbered_line, line_at_place}
use Rattle.ldv_top.proofs.WriteLemmas.{writes_same}
use Rattle.ldv_top.proofs.messages.write_with_number.Goals as goal

pub returns-in-NotEnded : goal.returns-in-NotEnded
returns-in-NotEnded g c = writes_same (ap numbered_line (sym c.in-NotEnded.is)) c.write_numbered.ensures

pub returns-in-Diverged : goal.returns-in-Diverged
returns-in-Diverged g c =
    writes_same
    (ap (λ (parts : List ℕ). line_at_place (codes "ldv: diverged: process ") parts (codes " statement ") c.in-Diverged.index (codes "\n")) c.items.ensures ∙ ap numbered_line (sym c.in-Diverged.is))
    c.write_located.ensures

pub returns-in-Clash : goal.returns-in-Clash
returns-in-Clash g c = writes_same (ap numbered_line (sym c.in-Clash.is)) c.write_clash.ensures
