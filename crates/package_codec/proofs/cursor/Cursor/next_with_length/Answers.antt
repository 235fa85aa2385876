use Rattle.std.proofs.Common.{◌≡◌, List, ℕ, sym, subst}
use Rattle.std.specs.Prelude.{MatchOption, None, Some}
use Rattle.package_codec.specs.Fields.{DecodeResult}
use Rattle.package_codec.proofs.Numbers.{sized_is}
use Rattle.package_codec.proofs.cursor.Cursor.next_with_length.Goals as goal

pub returns-in-Some : goal.returns-in-Some
returns-in-Some c =
    subst (λ (found : DecodeResult (List ℕ)). MatchOption c.next.result (found ≡ None) (λ front. found ≡ Some (front.now, c.next.new.self)))
    (sym (sized_is c.args.self.now c.in-Some.count c.next_u32.new.self c.in-Some.ensures)) c.next.ensures
