use Rattle.std.proofs.Common.{◌≡◌, get_or, false, ◌==◌, sym, ap, ◌∙◌}
use Rattle.fast_float.specs.Text.{scan}
use Rattle.serde_json.specs.Read.{number_of, number_from}
use Rattle.world_json.proofs.WrittenNumbers.{whole_read}
use Rattle.world_json.proofs.fast.integer.unsigned_of.Goals as goal

pub returns : goal.returns
unfolding number_of
returns c =
    let s = c.as_bytes-bytes.result.now in
    let plain : (get_or s 0 0 == 45) ≡ false = sym c.if-has_minus.ensures.value in
    let read : number_from false (scan s) ≡ number_of s = rw plain in
    whole_read c.whole_number.result c.scan.result (number_of c.args.text.now) (ap (number_from false) c.scan.ensures.parts ∙ read ∙ ap number_of c.as_bytes-bytes.ensures.value) c.whole_number.ensures
