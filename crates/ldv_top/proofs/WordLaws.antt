-- Words that are too many for a command.
use Rattle.std.proofs.Common.{◌≡◌, ℕ, ◌≤◌, List, [], ◌∷◌, length, map, refl, arith}
use Rattle.std.specs.Prelude.{None}
use Rattle.ldv_top.specs.WordsOfProv.{prov_of}
use Rattle.ldv_top.specs.WordsOfReports.{report_of}
use Rattle.ldv_top.specs.WordsOfRuns.{run_of}
use Rattle.ldv_top.specs.WordsOfTables.{table_of}

pub report_many : {X : Type 0} (text : X → List ℕ) (words : List X) → 4 ≤ length words → report_of (map text words) ≡ None
report_many text [] many = refl
report_many text (a ∷ []) many = absurd (omega (arith, many))
report_many text (a ∷ b ∷ []) many = absurd (omega (arith, many))
report_many text (a ∷ b ∷ c ∷ []) many = absurd (omega (arith, many))
report_many text (a ∷ b ∷ c ∷ d ∷ more) many = refl

pub table_many : {X : Type 0} (text : X → List ℕ) (words : List X) → 5 ≤ length words → table_of (map text words) ≡ None
table_many text [] many = refl
table_many text (a ∷ []) many = refl
table_many text (a ∷ b ∷ []) many = absurd (omega (arith, many))
table_many text (a ∷ b ∷ c ∷ []) many = refl
table_many text (a ∷ b ∷ c ∷ d ∷ []) many = absurd (omega (arith, many))
table_many text (a ∷ b ∷ c ∷ d ∷ e ∷ more) many = refl

pub run_many : {X : Type 0} (text : X → List ℕ) (word : List ℕ) (words : List X) → 5 ≤ length words → run_of word (map text words) ≡ None
run_many text word [] many = absurd (omega (arith, many))
run_many text word (a ∷ []) many = absurd (omega (arith, many))
run_many text word (a ∷ b ∷ []) many = absurd (omega (arith, many))
run_many text word (a ∷ b ∷ c ∷ []) many = absurd (omega (arith, many))
run_many text word (a ∷ b ∷ c ∷ d ∷ []) many = absurd (omega (arith, many))
run_many text word (a ∷ b ∷ c ∷ d ∷ e ∷ more) many = refl

pub prov_many : {X : Type 0} (text : X → List ℕ) (words : List X) → 3 ≤ length words → prov_of (map text words) ≡ None
prov_many text [] many = absurd (omega (arith, many))
prov_many text (a ∷ []) many = absurd (omega (arith, many))
prov_many text (a ∷ b ∷ []) many = absurd (omega (arith, many))
prov_many text (a ∷ b ∷ c ∷ more) many = refl
