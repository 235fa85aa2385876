use Rattle.std.proofs.Common.{subst, ℕ}
use Rattle.std.specs.Int.{w32}
use Rattle.package_codec.specs.Fields.{Decodes, list_at}
use Rattle.package_codec.proofs.parts.decode_by.decode_rows.Goals as goal

pub returns : goal.returns
returns g c =
    subst (λ (n : ℕ). Decodes c.decode_list_by.result c.decode_list_by.new.cursor (list_at w32 (g.X.DecodeBy.reading n) c.args.cursor.now)) c.len.ensures
    c.decode_list_by.ensures
