-- The status and the line of each exit.
use Rattle.std.specs.Prelude.{ℕ, List, [], ◌++◌, codes, Option, Some, None}
use Rattle.std.specs.Fmt.{decimal}
use Rattle.run_model.specs.OutcomeText.{name_text}
use Rattle.joined_data.specs.declared.joined.Clash.{Clash as TheClash}
use Rattle.joined_data.specs.declared.joined.ClashKind.{ClashKind}
use Rattle.joined_data.specs.declared.joined.ClashKind.TheVariants as kinds
use Rattle.package_layout.specs.declared.damage.DamageKind.{DamageKind}
use Rattle.package_layout.specs.declared.damage.DamageKind.TheVariants.{Magic, Digest, Form}
use Rattle.world_json.specs.declared.fault.WorldFault.{WorldFault}
use Rattle.world_json.specs.declared.fault.WorldFault.TheVariants.{NotJson, Shape, Name, Limit, RowType}
use Rattle.world_json.specs.declared.fault.WorldFault.TheVariants.{NotNull, Key, Reference, NoStart}
use Rattle.world_json.specs.declared.fault.WorldFault.TheVariants.{BadScript}
use Rattle.ldv_top.specs.declared.exit.Exit.{Exit}
use Rattle.ldv_top.specs.declared.exit.Exit.TheVariants.{Done, Usage, ReadFault, WriteFault, TooLong}
use Rattle.ldv_top.specs.declared.exit.Exit.TheVariants.{NotWorld, NotEnded, Damaged, Diverged, NoSuch}
use Rattle.ldv_top.specs.declared.exit.Exit.TheVariants.{NoMemory, PackageTooLong, NotPrivate}
use Rattle.ldv_top.specs.declared.exit.Exit.TheVariants.{Clash, NotProv}

abbrev pub status_of : Exit → ℕ
status_of Done = 0
status_of Usage = 2
status_of ReadFault = 3
status_of WriteFault = 4
status_of TooLong = 5
status_of (NotWorld fault) = 6
status_of (NotEnded steps) = 7
status_of (Damaged kind) = 8
status_of (Diverged process index) = 9
status_of NoSuch = 10
status_of NoMemory = 11
status_of PackageTooLong = 12
status_of NotPrivate = 14
status_of (Clash clash) = 15
status_of NotProv = 16

-- ---- the lines, with their LF

abbrev pub fixed_fault : WorldFault → Option (List ℕ)
fixed_fault NotJson = Some (codes "ldv: not a world: not json\n")
fixed_fault Shape = Some (codes "ldv: not a world: shape\n")
fixed_fault Name = Some (codes "ldv: not a world: name\n")
fixed_fault Limit = Some (codes "ldv: not a world: limit\n")
fixed_fault RowType = Some (codes "ldv: not a world: row type\n")
fixed_fault NotNull = Some (codes "ldv: not a world: not null\n")
fixed_fault Key = Some (codes "ldv: not a world: key\n")
fixed_fault Reference = Some (codes "ldv: not a world: reference\n")
fixed_fault NoStart = Some (codes "ldv: not a world: no start\n")
fixed_fault (BadScript n) = None

abbrev pub damage_line : DamageKind → List ℕ
damage_line Magic = codes "ldv: damaged: magic\n"
damage_line Digest = codes "ldv: damaged: digest\n"
damage_line Form = codes "ldv: damaged: form\n"

-- those in which no number and no name stands; nothing where all was written
abbrev pub fixed_line : Exit → Option (List ℕ)
fixed_line Done = Some []
fixed_line Usage = Some (codes "ldv: usage\n")
fixed_line ReadFault = Some (codes "ldv: read fault\n")
fixed_line WriteFault = Some (codes "ldv: write fault\n")
fixed_line TooLong = Some (codes "ldv: input longer than 67108864 bytes\n")
fixed_line (NotWorld fault) = fixed_fault fault
fixed_line (NotEnded steps) = None
fixed_line (Damaged kind) = Some (damage_line kind)
fixed_line (Diverged process index) = None
fixed_line NoSuch = Some (codes "ldv: no such item\n")
fixed_line NoMemory = Some (codes "ldv: out of memory\n")
fixed_line PackageTooLong = Some (codes "ldv: package longer than 67108864 bytes\n")
fixed_line NotPrivate = Some (codes "ldv: package is not private\n")
fixed_line NotProv = Some (codes "ldv: not a provenance document\n")
fixed_line (Clash clash) = None

abbrev pub line_with_number : List ℕ → ℕ → List ℕ → List ℕ
line_with_number head n tail = head ++ decimal n ++ tail

abbrev pub line_at_place : List ℕ → List ℕ → List ℕ → ℕ → List ℕ → List ℕ
line_at_place head parts middle n tail = (head ++ name_text parts) ++ line_with_number middle n tail

abbrev pub bad_script_line : WorldFault → List ℕ
bad_script_line (BadScript n) = line_with_number (codes "ldv: not a world: bad script line ") n (codes "\n")
bad_script_line other = []

-- a name may have any bytes but a LF
abbrev pub line_with_name : List ℕ → List ℕ → List ℕ
line_with_name head name = head ++ name ++ codes "\n"

abbrev pub named_row : List ℕ → List ℕ → ℕ → List ℕ
named_row head name row = head ++ name ++ line_with_number (codes " ") row (codes "\n")

abbrev pub clash_line_of : ClashKind → List ℕ → ℕ → List ℕ
clash_line_of kinds.File name row = line_with_name (codes "ldv: clash: file ") name
clash_line_of kinds.Table name row = line_with_name (codes "ldv: clash: table ") name
clash_line_of kinds.Row name row = named_row (codes "ldv: clash: row ") name row
clash_line_of kinds.Key name row = named_row (codes "ldv: clash: key ") name row

abbrev pub clash_line : TheClash → List ℕ
clash_line clash = clash_line_of clash.kind clash.name clash.row

abbrev pub numbered_line : Exit → List ℕ
numbered_line (NotWorld fault) = bad_script_line fault
numbered_line (NotEnded steps) = line_with_number (codes "ldv: not ended after ") steps (codes " steps\n")
numbered_line (Diverged process index) =
    line_at_place (codes "ldv: diverged: process ") process.parts (codes " statement ") index (codes "\n")
numbered_line (Clash clash) = clash_line clash
numbered_line other = []

abbrev pub line_from : Option (List ℕ) → Exit → List ℕ
line_from (Some line) exit = line
line_from None exit = numbered_line exit

abbrev pub line_of : Exit → List ℕ
line_of exit = line_from (fixed_line exit) exit
