use Rattle.std.proofs.Common.{◌∙◌, sym, ap, Some}
use Rattle.ldv_value.proofs.Utf8Parts.{text_of-string}
use Rattle.ldv_value.proofs.utf8.Utf8.of_utf8.Goals as goal

pub returns-in-Ok : goal.returns-in-Ok
returns-in-Ok c =
    text_of-string c.in-Ok.text c.args.bytes (ap (λ v. v.items) c.in-Ok.ensures.ok ∙ c.into_vec.ensures) ∙ ap Some (sym c.of_string.ensures)
