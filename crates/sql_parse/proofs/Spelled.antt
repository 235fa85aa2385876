-- Bytes that are the word of a token.
use Rattle.std.proofs.Common.{◌≡◌, ℕ, List, ap, Some, None, cond}
use Rattle.std.specs.Prelude.{IsUtf8}
use Rattle.ldv_value.specs.Options.{◌>>=◌}
use Rattle.ldv_value.proofs.Utf8Parts.{not-utf8, text-made}
use Rattle.sql_model.specs.declared.token.Token.TheVariants.{Word}
use Rattle.sql_model.specs.Tokens.{symbol_token}

pub spelled : (bytes : List ℕ) → IsUtf8 bytes → symbol_token bytes ≡ Some (Word bytes)
spelled bytes u = text-made Word bytes u

pub not_spelled : (bytes : List ℕ) → ¬ (IsUtf8 bytes) → symbol_token bytes ≡ None
not_spelled bytes u = ap (λ b. cond b (Some bytes) None >>= λ t. Some (Word t)) (not-utf8 bytes u)

pub ruleset symbol_rules = (spelled, not_spelled)
