-- The status and the line of each exit. Each line begins with the program's name and ends by LF.
use Rattle.std.specs.Prelude.{◌≡◌, refl, ℕ, List, [], ◌∷◌, codes}
use Rattle.std.specs.Fmt.{digits}
use Rattle.run_model.specs.declared.name.ProcName.{ProcName}
use Rattle.joined_data.specs.declared.joined.ClashKind.TheVariants as kinds
use Rattle.package_layout.specs.declared.damage.DamageKind.TheVariants.{Magic, Digest, Form}
use Rattle.world_json.specs.declared.fault.WorldFault.TheVariants.{NotJson, Shape, Name, Limit, RowType, NotNull, Key, Reference, NoStart, BadScript}
use Rattle.ldv_top.specs.declared.exit.Exit.{Exit}
use Rattle.ldv_top.specs.declared.exit.Exit.TheVariants.{Done, Usage, ReadFault, WriteFault, TooLong, NotWorld, NotEnded, Damaged, Diverged, NoSuch, NoMemory, PackageTooLong, NotPrivate, NotProv, Clash}
use Rattle.ldv_top.specs.Exits.{status_of, line_of}

-- an exit ends with this status and writes this line
abbrev Ends : Exit → ℕ → List ℕ → Type 0
Ends exit status line = (status_of exit ≡ status) × (line_of exit ≡ line)

-- nothing is to be said where all was written
done : Ends Done 0 []
done = (refl, refl)

usage : Ends Usage 2 (codes "ldv: usage\n")
usage = (refl, refl)

read_fault : Ends ReadFault 3 (codes "ldv: read fault\n")
read_fault = (refl, refl)

write_fault : Ends WriteFault 4 (codes "ldv: write fault\n")
write_fault = (refl, refl)

-- 64 * 2^20 bytes are the most
too_long : Ends TooLong 5 (codes "ldv: input longer than 67108864 bytes\n")
too_long = (refl, refl)

-- the budget of steps, in decimal
not_ended : Ends (NotEnded 1000000) 7 (codes "ldv: not ended after 1000000 steps\n")
unfolding digits
not_ended = (refl, refl)

no_such : Ends NoSuch 10 (codes "ldv: no such item\n")
no_such = (refl, refl)

no_memory : Ends NoMemory 11 (codes "ldv: out of memory\n")
no_memory = (refl, refl)

package_too_long : Ends PackageTooLong 12 (codes "ldv: package longer than 67108864 bytes\n")
package_too_long = (refl, refl)

not_private : Ends NotPrivate 14 (codes "ldv: package is not private\n")
not_private = (refl, refl)

not_prov : Ends NotProv 16 (codes "ldv: not a provenance document\n")
not_prov = (refl, refl)

-- ---- no world: one status, and the fault in words

not_json : Ends (NotWorld NotJson) 6 (codes "ldv: not a world: not json\n")
not_json = (refl, refl)

shape : Ends (NotWorld Shape) 6 (codes "ldv: not a world: shape\n")
shape = (refl, refl)

name : Ends (NotWorld Name) 6 (codes "ldv: not a world: name\n")
name = (refl, refl)

limit : Ends (NotWorld Limit) 6 (codes "ldv: not a world: limit\n")
limit = (refl, refl)

row_type : Ends (NotWorld RowType) 6 (codes "ldv: not a world: row type\n")
row_type = (refl, refl)

not_null : Ends (NotWorld NotNull) 6 (codes "ldv: not a world: not null\n")
not_null = (refl, refl)

key : Ends (NotWorld Key) 6 (codes "ldv: not a world: key\n")
key = (refl, refl)

reference : Ends (NotWorld Reference) 6 (codes "ldv: not a world: reference\n")
reference = (refl, refl)

no_start : Ends (NotWorld NoStart) 6 (codes "ldv: not a world: no start\n")
no_start = (refl, refl)

-- with the number of the line
bad_script : Ends (NotWorld (BadScript 12)) 6 (codes "ldv: not a world: bad script line 12\n")
unfolding digits
bad_script = (refl, refl)

-- ---- no package: one status, and what is damaged

magic : Ends (Damaged Magic) 8 (codes "ldv: damaged: magic\n")
magic = (refl, refl)

digest : Ends (Damaged Digest) 8 (codes "ldv: damaged: digest\n")
digest = (refl, refl)

form : Ends (Damaged Form) 8 (codes "ldv: damaged: form\n")
form = (refl, refl)

-- ---- another statement than the recorded one: the process by its name, and its count of statements before

abbrev child : ProcName
child = record { parts = 0 ∷ 1 ∷ [] }

diverged : Ends (Diverged child 20) 9 (codes "ldv: diverged: process 0.1 statement 20\n")
unfolding digits
diverged = (refl, refl)

-- ---- two packages that can't be joined: one status, and what differs first

file_clash : Ends (Clash (record { kind = kinds.File; name = codes "data/a b.csv"; row = 0 })) 15 (codes "ldv: clash: file data/a b.csv\n")
file_clash = (refl, refl)

table_clash : Ends (Clash (record { kind = kinds.Table; name = codes "orders"; row = 0 })) 15 (codes "ldv: clash: table orders\n")
table_clash = (refl, refl)

-- with the number of the row
row_clash : Ends (Clash (record { kind = kinds.Row; name = codes "t"; row = 0 })) 15 (codes "ldv: clash: row t 0\n")
unfolding digits
row_clash = (refl, refl)

key_clash : Ends (Clash (record { kind = kinds.Key; name = codes "t"; row = 12 })) 15 (codes "ldv: clash: key t 12\n")
unfolding digits
key_clash = (refl, refl)
