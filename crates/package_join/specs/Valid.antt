-- Valid joined packages, and how bytes are read: the valid joined package that they spell, or how they are
-- damaged.
use Rattle.std.specs.Prelude.{◌≡◌, ℕ, List, take, Bool, ◌&&◌, bytes_eq, if◌then◌else◌, Option, Some, None}
use Rattle.std.specs.Prelude.{Result, Ok, Err}
use Rattle.package_layout.specs.declared.damage.DamageKind.{DamageKind}
use Rattle.package_layout.specs.declared.damage.DamageKind.TheVariants.{Magic, Digest, Form}
use Rattle.package_codec.specs.Fields.{◌>>=◌}
use Rattle.package_layout.specs.Valid.{IsValidPackage, valid_test, has_digest, middle}
use Rattle.joined_data.specs.declared.joined.Clash.{Clash}
use Rattle.joined_data.specs.declared.joined.Joined.{Joined}
use Rattle.joined_data.specs.declared.joined.Which.TheVariants.{First, Second}
use Rattle.joined_data.specs.Joined.{joined_of, run_package}
use Rattle.joined_data.specs.Layout.{all_of_joined, joined_sections}
use Rattle.package_join.specs.Layout.{joined_magic, joined_spelling}
use Rattle.joined_data.specs.Rooms.{IsCountedJoined, IsTypedJoined}

-- the packages of both runs are valid, and it is what they are joined to
pub record IsValidJoined (j : Joined) : Type 0 where
  pub first : IsValidPackage (run_package First j)
  pub second : IsValidPackage (run_package Second j)
  pub same : joined_of (run_package First j) (run_package Second j) ≡ Ok j

-- ---- bytes and what they spell

abbrev pub if_joined : Result Joined Clash → Option Joined
if_joined (Ok j) = Some j
if_joined (Err clash) = None

-- what the packages of both runs are joined to
abbrev pub joined_anew : Joined → Option Joined
joined_anew j =
    if valid_test (run_package First j) && valid_test (run_package Second j)
    then if_joined (joined_of (run_package First j) (run_package Second j)) else None

abbrev pub if_spelling_is : List ℕ → Joined → Option Joined
if_spelling_is bytes j = if bytes_eq (joined_sections j) bytes then Some j else None

-- the valid joined package whose sections these bytes are
abbrev pub joined_in : List ℕ → Option Joined
joined_in bytes = do
  j ← all_of_joined bytes
  anew ← joined_anew j
  if_spelling_is bytes anew

abbrev pub form_of : Option Joined → Result Joined DamageKind
form_of (Some j) = Ok j
form_of None = Err Form

abbrev pub digested_reading : List ℕ → Result Joined DamageKind
digested_reading bytes = if has_digest bytes then form_of (joined_in (middle bytes)) else Err Digest

abbrev pub has_joined_magic : List ℕ → Bool
has_joined_magic bytes = bytes_eq (take 8 bytes) joined_magic

-- the valid joined package that bytes spell, or how they are damaged
abbrev pub joined_reading : List ℕ → Result Joined DamageKind
joined_reading bytes = if has_joined_magic bytes then digested_reading bytes else Err Magic

-- ---- bytes and the joined packages that they spell

-- The bytes are the spelling of a joined package. It has one where all of its counts fit their fields.
pub record IsJoinedSpelling (j : Joined) (bytes : List ℕ) : Type 0 where
  pub counted : IsCountedJoined j
  pub same : joined_spelling j ≡ bytes

-- the bytes spell no valid joined package
abbrev pub IsNoJoined : List ℕ → Type 0
IsNoJoined bytes = (j : Joined) → IsTypedJoined j → IsValidJoined j → ¬ IsJoinedSpelling j bytes

-- the joined package is valid, and the bytes are its spelling
abbrev pub IsJoinedRead : List ℕ → Joined → Type 0
IsJoinedRead bytes j = IsValidJoined j × (joined_spelling j ≡ bytes)

-- the damage that is seen before anything is read
abbrev pub joined_damage_before : List ℕ → Option DamageKind
joined_damage_before bytes =
    if has_joined_magic bytes then (if has_digest bytes then None else Some Digest) else Some Magic
