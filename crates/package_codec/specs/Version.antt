-- The versions of the format. A package begins with the magic of its version.
use Rattle.std.specs.Prelude.{◌≡◌, ℕ, List, take, codes, Bool, bytes_eq, Option, Some, None, if◌then◌else◌}
pub use Rattle.package_codec.specs.declared.version.Version.{Version}
pub use Rattle.package_codec.specs.declared.version.Version.TheVariants.{One, Two}

abbrev pub magic : Version → List ℕ
magic One = codes "LDVPACK1"
magic Two = codes "LDVPACK2"

abbrev pub HasMagic : Version → List ℕ → Type 0
HasMagic version bytes = take 8 bytes ≡ magic version

abbrev pub has_magic : Version → List ℕ → Bool
has_magic version bytes = bytes_eq (take 8 bytes) (magic version)

-- the version whose magic bytes begin with
abbrev pub version_of : List ℕ → Option Version
version_of bytes =
    if has_magic One bytes then Some One
    else if has_magic Two bytes then Some Two
    else None
