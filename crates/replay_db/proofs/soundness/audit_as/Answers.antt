use Rattle.std.proofs.Common.{◌≡◌, ◌≤◌, ◌∙◌, List, length, ap, subst, sym}
use Rattle.std.specs.Prelude.{IsTrue}
use Rattle.ldv_value.specs.Limits.{input_limit}
use Rattle.package_codec.specs.Plain.{fits_version}
use Rattle.package_layout.specs.Whole.{spelling_as}
use Rattle.replay_db.specs.Auditing.{verdict_on, recorded_spelling}
use Rattle.replay_db.specs.Types.{Package}
use Rattle.replay_db.proofs.AuditLaws.{own_recorded}
use Rattle.replay_db.proofs.soundness.audit_as.Goals as goal

pub spell_as-requires : goal.spell_as-requires
spell_as-requires c =
    let recorded = own_recorded c.args.budget c.args.own.now.world c.in-Ok.package c.in-Ok.ensures.recorded in
    record {
      fits = subst (λ (p : Package). IsTrue (fits_version c.args.version p)) (sym recorded.1)
          (c.fitting_law.ensures.runs c.args.version c.args.budget c.args.own.now.world c.requires.fits);
    }

pub returns-in-Ok-spell_as : goal.returns-in-Ok-spell_as
returns-in-Ok-spell_as c =
    let recorded = own_recorded c.args.budget c.args.own.now.world c.in-Ok.package c.in-Ok.ensures.recorded in
    let due : c.in-Ok-spell_as.due ≡ recorded_spelling c.args.budget c.args.version c.args.own.now.world =
    c.in-Ok-spell_as.ensures.bytes ∙ ap (spelling_as c.args.version) recorded.1 in (
      recorded.0,
      (
        subst (λ (bytes : List _). length bytes ≤ input_limit) due c.in-Ok-spell_as.ensures.within,
        c.verdict_on.ensures ∙ ap (verdict_on c.args.bytes.now) (c.as_slice.ensures ∙ due),
      ),
    )
