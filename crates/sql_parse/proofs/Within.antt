-- An expression within a depth, in terms of expressions within a depth of one less.
use Rattle.std.proofs.Common.{◌≡◌, ℕ, zero, suc, ◌-◌, ◌<◌, List, refl, None, subst, sym, arith}
use Rattle.sql_model.specs.declared.token.Token.{Token}
use Rattle.ldv_value.specs.Options.{◌>>=◌}
use Rattle.sql_model.specs.Reader.{repeat}
use Rattle.sql_model.specs.Expressions.{operand, joins_more, within}

pub within_none : (least : ℕ) (ts : List Token) → within 0 least ts ≡ None
unfolding within
within_none least ts = refl

pub within_suc : (n least : ℕ) (ts : List Token) → within (suc n) least ts ≡ (operand (within n) least ts >>= λ r. repeat (joins_more (within n) n least) (suc n) r.0 r.1)
unfolding within
within_suc n least ts = refl

pub within_some : (limit least : ℕ) (ts : List Token) → 0 < limit
    → within limit least ts ≡ (operand (within (limit - 1)) least ts >>= λ r. repeat (joins_more (within (limit - 1)) (limit - 1) least) limit r.0 r.1)
within_some zero least ts h = absurd (omega (arith, h))
within_some (suc n) least ts h =
    let one : suc n - 1 ≡ n = omega arith in
    subst (λ (k : ℕ). within (suc n) least ts ≡ (operand (within k) least ts >>= λ r. repeat (joins_more (within k) k least) (suc n) r.0 r.1)) (sym one) (within_suc n least ts)

pub ruleset within_rules = (within_none, within_some)
