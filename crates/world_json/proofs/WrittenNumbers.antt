-- Numbers by the numerals that write them.
use Rattle.std.proofs.Common.{◌≡◌, ℕ, ℤ, true, false, Option, Some, None, option_and_then, IfSome, sym, ap, ◌∙◌}
use Rattle.fast_float.specs.Text.{Parts}
use Rattle.serde_json.specs.Data.{Num, unsigned, negative}
use Rattle.serde_json.specs.Find.{as_i64, as_u64}
use Rattle.serde_json.specs.Read.{number_from}

pub negative_read : (r : Option ℤ) (p : Parts) (n : Option Num) → number_from true p ≡ n → IfSome r (λ z. number_from true p ≡ Some (negative z)) → IfSome r (λ z. option_and_then as_i64 n ≡ Some z)
negative_read None p n e h = tt
negative_read (Some z) p n e h = ap (option_and_then as_i64) (sym e ∙ h)

pub small_read : (r : Option ℤ) (p : Parts) (n : Option Num) → number_from false p ≡ n → IfSome r (λ z. option_and_then as_i64 (number_from false p) ≡ Some z) → IfSome r (λ z. option_and_then as_i64 n ≡ Some z)
small_read None p n e h = tt
small_read (Some z) p n e h = ap (option_and_then as_i64) (sym e) ∙ h

pub small_by : (r : Option ℤ) (n : Option Num) (m : Num) → n ≡ Some m → IfSome r (λ z. as_i64 m ≡ Some z) → IfSome r (λ z. option_and_then as_i64 n ≡ Some z)
small_by None n m e h = tt
small_by (Some z) n m e h = ap (option_and_then as_i64) e ∙ h

pub whole_read : (r : Option ℕ) (p : Parts) (n : Option Num) → number_from false p ≡ n → IfSome r (λ z. number_from false p ≡ Some (unsigned z)) → IfSome r (λ z. option_and_then as_u64 n ≡ Some z)
whole_read None p n e h = tt
whole_read (Some z) p n e h = ap (option_and_then as_u64) (sym e ∙ h)
