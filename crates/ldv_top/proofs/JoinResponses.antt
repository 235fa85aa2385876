-- The due output for two packages and for a joined one, by the result of reading.
use Rattle.std.proofs.Common.{◌≡◌, ℕ, ◌≤◌, Bool, true, false, cond, List, length, sym, ap, ◌∙◌}
use Rattle.std.specs.Prelude.{◌==◌, Option, Some, None, Ok, Err}
use Rattle.ldv_value.specs.Limits.{input_limit}
use Rattle.run_model.specs.declared.package.Package.{Package}
use Rattle.package_layout.specs.declared.damage.DamageKind.{DamageKind}
use Rattle.package_codec.specs.Fields.{DecodeResult, ◌>>=◌, sized_at}
use Rattle.package_layout.specs.Valid.{reading}
use Rattle.joined_data.specs.declared.joined.Joined.{Joined}
use Rattle.joined_data.specs.declared.joined.Which.{Which}
use Rattle.package_join.specs.Valid.{joined_reading}
use Rattle.package_join.specs.Worlds.{joined_world}
use Rattle.ldv_top.specs.declared.exit.Exit.TheVariants.{Damaged}
use Rattle.ldv_top.specs.Due.{due_replay_run, due_world, replayed_run}
use Rattle.ldv_top.specs.DueOfJoins.{both_read, due_join, due_of_pair, joined_packages, pair_in, pair_reading}
use Rattle.ldv_top.specs.DueParts.{due_refusal}
use Rattle.ldv_top.proofs.RecordLaws.{not_too_long}

-- ---- the two of the input

abbrev Pair : Type 0
Pair = List ℕ × List ℕ

abbrev paired : List ℕ → List ℕ × List ℕ → DecodeResult Pair
paired first second = Some ((first, second.0), second.1)

abbrev next : List ℕ × List ℕ → DecodeResult Pair
next first = sized_at first.1 >>= paired first.0

abbrev kept_if : Bool → Pair → Option Pair
kept_if ended pair = cond ended (Some pair) None

abbrev ended : Pair × List ℕ → Option Pair
ended pair = kept_if (length pair.1 == 0) pair.0

-- by the first of them, and by the second
abbrev by_first : DecodeResult (List ℕ) → Option Pair
by_first found = (found >>= next) >>= ended

abbrev by_second : List ℕ → DecodeResult (List ℕ) → Option Pair
by_second first found = (found >>= paired first) >>= ended

pub no_first : (bytes : List ℕ) → sized_at bytes ≡ None → None ≡ pair_in bytes
no_first bytes is = sym (ap by_first is)

pub no_second : (bytes first rest : List ℕ) → sized_at bytes ≡ Some (first, rest) → sized_at rest ≡ None → None ≡ pair_in bytes
no_second bytes first rest one two = sym (ap by_first one ∙ ap (by_second first) two)

pub both_found : (bytes first rest second last : List ℕ) → sized_at bytes ≡ Some (first, rest) → sized_at rest ≡ Some (second, last)
    → (length last == 0) ≡ true → Some (first, second) ≡ pair_in bytes
both_found bytes first rest second last one two none =
    sym (ap by_first one ∙ ap (by_second first) two ∙ ap (λ (b : Bool). kept_if b (first, second)) none)

pub bytes_left : (bytes first rest second last : List ℕ) → sized_at bytes ≡ Some (first, rest) → sized_at rest ≡ Some (second, last)
    → (length last == 0) ≡ false → None ≡ pair_in bytes
bytes_left bytes first rest second last one two some =
    sym (ap by_first one ∙ ap (by_second first) two ∙ ap (λ (b : Bool). kept_if b (first, second)) some)

pub ruleset pairs = (no_first, no_second, both_found, bytes_left)

-- ---- what is due

pub pair_due : (input : List ℕ) (a b : Package) → length input ≤ input_limit → pair_reading (pair_in input) ≡ Ok (a, b)
    → joined_packages a b ≡ due_join input
pair_due input a b short is = rw (not_too_long input short) (sym (ap due_of_pair is))

pub pair_read : (input first second : List ℕ) (a b : Package) → pair_in input ≡ Some (first, second) → reading first ≡ Ok a → reading second ≡ Ok b
    → pair_reading (pair_in input) ≡ Ok (a, b)
pair_read input first second a b found one two = ap pair_reading found ∙ (λ i. both_read (one i) (two i))

pub run_due : (which : Which) (budget : ℕ) (j : Joined) (input : List ℕ) → length input ≤ input_limit → joined_reading input ≡ Ok j
    → due_world budget (joined_world which j) ≡ due_replay_run which budget input
run_due which budget j input short is = rw (not_too_long input short) (sym (ap (replayed_run which budget) is))

pub run_damaged : (which : Which) (budget : ℕ) (kind : DamageKind) (input : List ℕ) → length input ≤ input_limit → joined_reading input ≡ Err kind
    → due_refusal (Damaged kind) ≡ due_replay_run which budget input
run_damaged which budget kind input short is = rw (not_too_long input short) (sym (ap (replayed_run which budget) is))
