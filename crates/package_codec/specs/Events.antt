-- The bytes of an event, facts about its values in memory, the limits of its fields, and how it is read.
use Rattle.std.specs.Prelude.{ℕ, zero, suc, List, ◌∷◌, ◌++◌, Bool, true, false, ◌&&◌, Option, Some, None}
use Rattle.std.specs.List.{list_all}
use Rattle.std.specs.Int.{w8, w16, w32, to_be_bytes}
use Rattle.sql_model.specs.SqlNames.{sql_name_test}
use Rattle.sql_model.specs.declared.need.Member.{Member}
use Rattle.sql_model.specs.declared.need.Need.{Need}
use Rattle.run_model.specs.declared.event.Act.{Act}
use Rattle.run_model.specs.declared.event.Act.TheVariants as acts
use Rattle.run_model.specs.declared.event.Event.{Event}
use Rattle.package_codec.specs.declared.trace.group.Group.{Group}
use Rattle.package_codec.specs.declared.trace.event_part.ReadPart.{ReadPart}
use Rattle.package_codec.specs.declared.trace.event_part.MadePart.{MadePart}
use Rattle.package_codec.specs.Fields.{DecodeResult, both_at, made_at, tagged_at, number_at, list_at, text_at}
use Rattle.package_codec.specs.Fields.{text_spelling, list_spelling}
use Rattle.package_codec.specs.Groups.{groups, group_spelling, grouped_at}
use Rattle.package_codec.specs.Parts.{read_part_spelling, made_part_spelling, read_part_at, made_part_at}
use Rattle.package_codec.specs.Parts.{need_table, need_part, need_of, member_table, member_part, member_of}
pub use Rattle.package_codec.specs.Typed.{TypedNeed, TypedMember, TypedAct, TypedEvent}
use Rattle.package_codec.specs.Room.{fits_u16_count}

-- ---- spelling

abbrev pub flag_number : Bool → ℕ
flag_number false = 0
flag_number true = 1

abbrev pub flag_spelling : Bool → List ℕ
flag_spelling found = to_be_bytes w8 (flag_number found)

abbrev pub need_groups : List Need → List (Group ReadPart)
need_groups = groups need_table need_part

abbrev pub member_groups : List Member → List (Group MadePart)
member_groups = groups member_table member_part

abbrev pub needs_spelling : List Need → List ℕ
needs_spelling needs = list_spelling w16 (group_spelling read_part_spelling) (need_groups needs)

abbrev pub members_spelling : List Member → List ℕ
members_spelling members = list_spelling w16 (group_spelling made_part_spelling) (member_groups members)

abbrev pub names_spelling : List (List ℕ) → List ℕ
names_spelling = list_spelling w16 text_spelling

abbrev pub flagged_spelling : List ℕ → Bool → List ℕ
flagged_spelling path found = text_spelling path ++ flag_spelling found

abbrev pub act_spelling : Act → List ℕ
act_spelling (acts.Started path) = 0 ∷ text_spelling path
act_spelling (acts.Spawned path) = 1 ∷ text_spelling path
act_spelling (acts.Unspawned path found) = 2 ∷ flagged_spelling path found
act_spelling (acts.OpenedRead path) = 3 ∷ text_spelling path
act_spelling (acts.OpenedWrite path) = 4 ∷ text_spelling path
act_spelling (acts.OpenedAppend path found) = 5 ∷ flagged_spelling path found
act_spelling (acts.OpenedNew path) = 6 ∷ text_spelling path
act_spelling (acts.Unopened path found) = 7 ∷ flagged_spelling path found
act_spelling (acts.Read path) = 8 ∷ text_spelling path
act_spelling (acts.Wrote path) = 9 ∷ text_spelling path
act_spelling (acts.Removed path) = 10 ∷ text_spelling path
act_spelling (acts.Tested path found) = 11 ∷ flagged_spelling path found
act_spelling (acts.Waited child) = 12 ∷ to_be_bytes w32 child
act_spelling (acts.Ended status) = 13 ∷ to_be_bytes w8 status
act_spelling (acts.Asked statement tables reads made) =
    14 ∷ (to_be_bytes w32 statement
    ++ (names_spelling tables ++ (needs_spelling reads ++ members_spelling made)))

abbrev pub event_spelling : Event → List ℕ
event_spelling e = to_be_bytes w32 e.step ++ (to_be_bytes w32 e.process ++ act_spelling e.act)

-- ---- what the format has room for

-- at most 65,535 groups, whose tables have names
abbrev pub needs_room : List Need → Bool
needs_room needs = fits_u16_count (need_groups needs) && list_all (λ n. sql_name_test (need_table n)) needs

abbrev pub members_room : List Member → Bool
members_room members =
    fits_u16_count (member_groups members) && list_all (λ m. sql_name_test (member_table m)) members

abbrev pub act_room : Act → Bool
act_room (acts.Started path) = true
act_room (acts.Spawned path) = true
act_room (acts.Unspawned path found) = true
act_room (acts.OpenedRead path) = true
act_room (acts.OpenedWrite path) = true
act_room (acts.OpenedAppend path found) = true
act_room (acts.OpenedNew path) = true
act_room (acts.Unopened path found) = true
act_room (acts.Read path) = true
act_room (acts.Wrote path) = true
act_room (acts.Removed path) = true
act_room (acts.Tested path found) = true
act_room (acts.Waited child) = true
act_room (acts.Ended status) = true
act_room (acts.Asked statement tables reads made) =
    fits_u16_count tables && (needs_room reads && members_room made)

abbrev pub event_room : Event → Bool
event_room e = act_room e.act

-- ---- reading

abbrev pub flag_of : ℕ → Option Bool
flag_of zero = Some false
flag_of (suc zero) = Some true
flag_of (suc (suc n)) = None

abbrev pub flag_at : List ℕ → DecodeResult Bool
flag_at = made_at flag_of (number_at w8)

abbrev pub names_at : List ℕ → DecodeResult (List (List ℕ))
names_at = list_at w16 text_at

abbrev pub needs_at : List ℕ → DecodeResult (List Need)
needs_at = grouped_at need_of read_part_at

abbrev pub members_at : List ℕ → DecodeResult (List Member)
members_at = grouped_at member_of made_part_at

abbrev pub plain_at : (List ℕ → Act) → List ℕ → DecodeResult Act
plain_at make = made_at (λ path. Some (make path)) text_at

abbrev pub flagged_at : (List ℕ → Bool → Act) → List ℕ → DecodeResult Act
flagged_at make = made_at (λ p. Some (make p.0 p.1)) (both_at text_at flag_at)

abbrev pub act_of_tag : ℕ → List ℕ → DecodeResult Act
act_of_tag zero = plain_at acts.Started
act_of_tag (suc zero) = plain_at acts.Spawned
act_of_tag (suc (suc zero)) = flagged_at acts.Unspawned
act_of_tag (suc (suc (suc zero))) = plain_at acts.OpenedRead
act_of_tag (suc (suc (suc (suc zero)))) = plain_at acts.OpenedWrite
act_of_tag (suc (suc (suc (suc (suc zero))))) = flagged_at acts.OpenedAppend
act_of_tag (suc (suc (suc (suc (suc (suc zero)))))) = plain_at acts.OpenedNew
act_of_tag (suc (suc (suc (suc (suc (suc (suc zero))))))) = flagged_at acts.Unopened
act_of_tag (suc (suc (suc (suc (suc (suc (suc (suc zero)))))))) = plain_at acts.Read
act_of_tag (suc (suc (suc (suc (suc (suc (suc (suc (suc zero))))))))) = plain_at acts.Wrote
act_of_tag (suc (suc (suc (suc (suc (suc (suc (suc (suc (suc zero)))))))))) = plain_at acts.Removed
act_of_tag (suc (suc (suc (suc (suc (suc (suc (suc (suc (suc (suc zero))))))))))) = flagged_at acts.Tested
act_of_tag (suc (suc (suc (suc (suc (suc (suc (suc (suc (suc (suc (suc zero)))))))))))) =
    made_at (λ child. Some (acts.Waited child)) (number_at w32)
act_of_tag (suc (suc (suc (suc (suc (suc (suc (suc (suc (suc (suc (suc (suc zero))))))))))))) =
    made_at (λ status. Some (acts.Ended status)) (number_at w8)
act_of_tag (suc (suc (suc (suc (suc (suc (suc (suc (suc (suc (suc (suc (suc (suc zero)))))))))))))) =
    made_at (λ a. Some (acts.Asked a.0 a.1.0 a.1.1.0 a.1.1.1))
    (both_at (number_at w32) (both_at names_at (both_at needs_at members_at)))
act_of_tag (suc (suc (suc (suc (suc (suc (suc (suc (suc (suc (suc (suc (suc (suc (suc n))))))))))))))) =
    λ bytes. None

abbrev pub act_at : List ℕ → DecodeResult Act
act_at = tagged_at act_of_tag

abbrev pub event_at : List ℕ → DecodeResult Event
event_at =
    made_at (λ e. Some (record { step = e.0; process = e.1.0; act = e.1.1 }))
    (both_at (number_at w32) (both_at (number_at w32) act_at))
