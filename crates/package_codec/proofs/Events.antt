-- Events: what is spelled is read, and what is read was spelled so.
use Rattle.std.proofs.Common.{◌≡◌, ℕ, zero, suc, ◌^◌, ◌<◌, Bool, true, false, List, ◌++◌, length, Some, refl, arith, ◌&&◌}
use Rattle.std.specs.List.{list_all, AllByRecursion}
use Rattle.std.specs.Str.{IsUtf8}
use Rattle.std.specs.Int.{w8, w32, to_be_bytes}
use Rattle.ldv_value.proofs.Booleans.{and-parts, and-from}
use Rattle.sql_model.specs.declared.need.Rule.{Rule}
use Rattle.sql_model.specs.declared.need.Member.{Member}
use Rattle.sql_model.specs.declared.need.Need.{Need}
use Rattle.run_model.specs.declared.event.Act.{Act}
use Rattle.run_model.specs.declared.event.Act.TheVariants as acts
use Rattle.run_model.specs.declared.event.Event.{Event}
use Rattle.package_codec.specs.declared.trace.event_part.ReadPart.{ReadPart}
use Rattle.package_codec.specs.declared.trace.event_part.MadePart.{MadePart}
use Rattle.package_codec.specs.Fields.{DecodeResult, both_at, number_at, text_at, text_spelling}
use Rattle.package_codec.specs.Spelling.{rule_number}
use Rattle.package_codec.specs.Typed.{IsU32}
use Rattle.package_codec.specs.Room.{fits_u16_count}
use Rattle.package_codec.specs.Reading.{rule_at}
use Rattle.package_codec.specs.Groups.{TypedGroup}
use Rattle.package_codec.specs.Parts.{read_part_spelling, made_part_spelling, TypedReadPart, TypedMadePart, read_part_at, made_part_at, need_table, need_part, need_of, member_table, member_part, member_of}
use Rattle.package_codec.specs.Counts.{IsCountable, CountedGroup, CountedAct, CountedEvent}
use Rattle.package_codec.specs.Events.{flag_number, flag_spelling, flag_of, flag_at, need_groups, member_groups, needs_spelling, members_spelling, names_spelling, flagged_spelling, act_spelling, event_spelling, TypedNeed, TypedMember, TypedAct, TypedEvent, needs_room, members_room, act_room, event_room, names_at, needs_at, members_at, act_of_tag, act_at, event_at}
use Rattle.package_codec.proofs.Laws.{number_is, IsBytes, IsField, always, list_all-always, Uncounted, restate, recount, made_law, then_law, struct_law}
use Rattle.package_codec.proofs.Numbers.{wide8, number_law, text_law, short_list_law}
use Rattle.package_codec.proofs.Tags.{TookTagged, tagged_law, case_took, case_again}
use Rattle.package_codec.proofs.Tables.{Anything, u32_law, rule_law}
use Rattle.package_codec.proofs.Grouped.{grouped_law, grouped_typed}

-- ---- flags

flag_again : (b : Bool) → (flag_number b < 256) × (true ≡ true) × (flag_of (flag_number b) ≡ Some b)
flag_again false = (omega arith, refl, refl)
flag_again true = (omega arith, refl, refl)

flag_back : (n : ℕ) (b : Bool) → flag_of n ≡ Some b → n ≡ flag_number b
flag_back zero b e = number_is flag_number 0 false b refl e
flag_back (suc zero) b e = number_is flag_number 1 true b refl e
flag_back (suc (suc n)) b e = absurd cc

flag_law : IsField flag_spelling Anything always Uncounted flag_at
flag_law = made_law (to_be_bytes w8) (λ n. n < 256) always (number_at w8) Anything always flag_of flag_number (number_law w8 256 wide8)
    (λ b t f. flag_again b) (λ n b t f e. (flag_back n b e, tt, refl))

-- ---- rows that a statement read or made

abbrev ReadEnd : Type 0
ReadEnd = ℕ × Rule

abbrev ReadParts : Type 0
ReadParts = ℕ × ReadEnd

read_end_law : IsField (λ (p : ReadEnd). to_be_bytes w32 p.0 ++ to_be_bytes w8 (rule_number p.1)) (λ (p : ReadEnd). IsU32 p.0 × Unit {0}) always (λ (p : ReadEnd). Unit {0} × Unit {0}) (both_at (number_at w32) rule_at)
read_end_law = then_law (to_be_bytes w32) IsU32 always (number_at w32) (λ r. to_be_bytes w8 (rule_number r)) Anything (λ a. always) (λ a. rule_at) u32_law (λ a. rule_law)

read_part_law : IsField read_part_spelling TypedReadPart always Uncounted read_part_at
read_part_law = recount Uncounted (restate read_part_spelling (λ p. IsU32 p.row × (IsU32 p.version × Unit {0})) TypedReadPart always always read_part_at
    (struct_law (λ (p : ReadParts). to_be_bytes w32 p.0 ++ (to_be_bytes w32 p.1.0 ++ to_be_bytes w8 (rule_number p.1.1))) (λ (p : ReadParts). IsU32 p.0 × (IsU32 p.1.0 × Unit {0})) always (both_at (number_at w32) (both_at (number_at w32) rule_at))
    (λ (p : ReadParts). record { row = p.0; version = p.1.0; rule = p.1.1 }) (λ (r : ReadPart). (r.row, (r.version, r.rule)))
    (then_law (to_be_bytes w32) IsU32 always (number_at w32) (λ (p : ReadEnd). to_be_bytes w32 p.0 ++ to_be_bytes w8 (rule_number p.1)) (λ (p : ReadEnd). IsU32 p.0 × Unit {0}) (λ a. always) (λ a. both_at (number_at w32) rule_at) u32_law (λ a. read_end_law)) (λ r. refl) (λ p. refl))
    (λ p t h. ((t.0, (t.1, tt)), h)) (λ p t h. ((t.0, t.1.0), h)))
    (λ p n. (tt, (tt, tt))) (λ p n. tt)

abbrev MadeParts : Type 0
MadeParts = ℕ × ℕ

made_part_law : IsField made_part_spelling TypedMadePart always Uncounted made_part_at
made_part_law = recount Uncounted (struct_law (λ (p : MadeParts). to_be_bytes w32 p.0 ++ to_be_bytes w32 p.1) (λ (p : MadeParts). IsU32 p.0 × IsU32 p.1) always (both_at (number_at w32) (number_at w32))
    (λ (p : MadeParts). record { row = p.0; version = p.1 }) (λ (r : MadePart). (r.row, r.version))
    (then_law (to_be_bytes w32) IsU32 always (number_at w32) (to_be_bytes w32) IsU32 (λ a. always) (λ a. number_at w32) u32_law (λ a. u32_law)) (λ r. refl) (λ p. refl))
    (λ p n. (tt, tt)) (λ p n. tt)

read_part_filled : (p : ReadPart) → 0 < length (read_part_spelling p)
read_part_filled p = omega arith

made_part_filled : (p : MadePart) → 0 < length (made_part_spelling p)
made_part_filled p = omega arith

abbrev CountedNeeds : List Need → Type 0
CountedNeeds needs = AllByRecursion CountedGroup (need_groups needs)

abbrev CountedMembers : List Member → Type 0
CountedMembers members = AllByRecursion CountedGroup (member_groups members)

needs_law : IsField needs_spelling (AllByRecursion TypedNeed) needs_room CountedNeeds needs_at
needs_law = grouped_law need_table need_part need_of read_part_spelling TypedReadPart read_part_at (λ x. refl) (λ t p. refl) (λ t p. refl) read_part_law read_part_filled

members_law : IsField members_spelling (AllByRecursion TypedMember) members_room CountedMembers members_at
members_law = grouped_law member_table member_part member_of made_part_spelling TypedMadePart made_part_at (λ x. refl) (λ t p. refl) (λ t p. refl) made_part_law made_part_filled

-- what was written in groups was typed
pub needs_typed : (needs : List Need) → AllByRecursion (TypedGroup TypedReadPart) (need_groups needs) → AllByRecursion TypedNeed needs
needs_typed needs h = grouped_typed need_table need_part need_of read_part_spelling TypedReadPart read_part_at (λ x. refl) (λ t p. refl) (λ t p. refl) read_part_law read_part_filled needs h

pub members_typed : (members : List Member) → AllByRecursion (TypedGroup TypedMadePart) (member_groups members) → AllByRecursion TypedMember members
members_typed members h = grouped_typed member_table member_part member_of made_part_spelling TypedMadePart made_part_at (λ x. refl) (λ t p. refl) (λ t p. refl) made_part_law made_part_filled members h

-- ---- acts

abbrev Flagged : Type 0
Flagged = List ℕ × Bool

abbrev pair_spelling : Flagged → List ℕ
pair_spelling p = flagged_spelling p.0 p.1

abbrev TypedFlagged : Flagged → Type 0
TypedFlagged p = IsUtf8 p.0 × Unit {0}

abbrev CountedFlagged : Flagged → Type 0
CountedFlagged p = IsCountable p.0 × Unit {0}

abbrev pair_at : List ℕ → DecodeResult Flagged
pair_at = both_at text_at flag_at

flagged_law : IsField pair_spelling TypedFlagged always CountedFlagged pair_at
flagged_law = then_law text_spelling IsUtf8 always text_at flag_spelling Anything (λ a. always) (λ a. flag_at) text_law (λ a. flag_law)

pub names_law : IsField names_spelling (AllByRecursion IsUtf8) fits_u16_count (AllByRecursion IsCountable) names_at
names_law = restate names_spelling (AllByRecursion IsUtf8) (AllByRecursion IsUtf8) (λ ns. fits_u16_count ns && list_all always ns) fits_u16_count names_at (short_list_law text_spelling IsUtf8 always text_at text_law)
    (λ ns t h. (t, and-from (fits_u16_count ns) (list_all always ns) h (list_all-always ns))) (λ ns t h. (t, (and-parts (fits_u16_count ns) (list_all always ns) h).0))

abbrev AskedEnd : Type 0
AskedEnd = List Need × List Member

abbrev AskedTail : Type 0
AskedTail = List (List ℕ) × AskedEnd

abbrev AskedParts : Type 0
AskedParts = ℕ × AskedTail

abbrev end_spelling : AskedEnd → List ℕ
end_spelling p = needs_spelling p.0 ++ members_spelling p.1

abbrev tail_spelling : AskedTail → List ℕ
tail_spelling p = names_spelling p.0 ++ end_spelling p.1

abbrev asked_spelling : AskedParts → List ℕ
asked_spelling p = to_be_bytes w32 p.0 ++ tail_spelling p.1

abbrev TypedEnd : AskedEnd → Type 0
TypedEnd p = AllByRecursion TypedNeed p.0 × AllByRecursion TypedMember p.1

abbrev TypedTail : AskedTail → Type 0
TypedTail p = AllByRecursion IsUtf8 p.0 × TypedEnd p.1

abbrev TypedAsked : AskedParts → Type 0
TypedAsked p = IsU32 p.0 × TypedTail p.1

abbrev CountedEnd : AskedEnd → Type 0
CountedEnd p = CountedNeeds p.0 × CountedMembers p.1

abbrev CountedTail : AskedTail → Type 0
CountedTail p = AllByRecursion IsCountable p.0 × CountedEnd p.1

abbrev CountedAsked : AskedParts → Type 0
CountedAsked p = Unit {0} × CountedTail p.1

abbrev end_room : AskedEnd → Bool
end_room p = needs_room p.0 && members_room p.1

abbrev tail_room : AskedTail → Bool
tail_room p = fits_u16_count p.0 && end_room p.1

abbrev asked_room : AskedParts → Bool
asked_room p = tail_room p.1

abbrev end_at : List ℕ → DecodeResult AskedEnd
end_at = both_at needs_at members_at

abbrev tail_at : List ℕ → DecodeResult AskedTail
tail_at = both_at names_at end_at

abbrev asked_at : List ℕ → DecodeResult AskedParts
asked_at = both_at (number_at w32) tail_at

abbrev asked : AskedParts → Act
asked a = acts.Asked a.0 a.1.0 a.1.1.0 a.1.1.1

end_law : IsField end_spelling TypedEnd end_room CountedEnd end_at
end_law = then_law needs_spelling (AllByRecursion TypedNeed) needs_room needs_at members_spelling (AllByRecursion TypedMember) (λ a. members_room) (λ a. members_at) needs_law (λ a. members_law)

tail_law : IsField tail_spelling TypedTail tail_room CountedTail tail_at
tail_law = then_law names_spelling (AllByRecursion IsUtf8) fits_u16_count names_at end_spelling TypedEnd (λ a. end_room) (λ a. end_at) names_law (λ a. end_law)

asked_law : IsField asked_spelling TypedAsked asked_room CountedAsked asked_at
asked_law = then_law (to_be_bytes w32) IsU32 always (number_at w32) tail_spelling TypedTail (λ a. tail_room) (λ a. tail_at) u32_law (λ a. tail_law)

byte_law : IsField (to_be_bytes w8) (λ n. n < 256) always Uncounted (number_at w8)
byte_law = number_law w8 256 wide8

-- the byte of the format, as act_spelling has it, and not the kind of specs/Runs.antt, which is compared alone
abbrev act_tag : Act → ℕ
act_tag (acts.Started path) = 0
act_tag (acts.Spawned path) = 1
act_tag (acts.Unspawned path found) = 2
act_tag (acts.OpenedRead path) = 3
act_tag (acts.OpenedWrite path) = 4
act_tag (acts.OpenedAppend path found) = 5
act_tag (acts.OpenedNew path) = 6
act_tag (acts.Unopened path found) = 7
act_tag (acts.Read path) = 8
act_tag (acts.Wrote path) = 9
act_tag (acts.Removed path) = 10
act_tag (acts.Tested path found) = 11
act_tag (acts.Waited child) = 12
act_tag (acts.Ended status) = 13
act_tag (acts.Asked statement tables reads made) = 14

abbrev act_rest : Act → List ℕ
act_rest (acts.Started path) = text_spelling path
act_rest (acts.Spawned path) = text_spelling path
act_rest (acts.Unspawned path found) = flagged_spelling path found
act_rest (acts.OpenedRead path) = text_spelling path
act_rest (acts.OpenedWrite path) = text_spelling path
act_rest (acts.OpenedAppend path found) = flagged_spelling path found
act_rest (acts.OpenedNew path) = text_spelling path
act_rest (acts.Unopened path found) = flagged_spelling path found
act_rest (acts.Read path) = text_spelling path
act_rest (acts.Wrote path) = text_spelling path
act_rest (acts.Removed path) = text_spelling path
act_rest (acts.Tested path found) = flagged_spelling path found
act_rest (acts.Waited child) = to_be_bytes w32 child
act_rest (acts.Ended status) = to_be_bytes w8 status
act_rest (acts.Asked statement tables reads made) = asked_spelling (statement, (tables, (reads, made)))

act_again : (a : Act) (rest : List ℕ) → TypedAct a → act_room a ≡ true → CountedAct a → act_of_tag (act_tag a) (act_rest a ++ rest) ≡ Some (a, rest)
act_again (acts.Started path) rest t f n = case_again text_spelling IsUtf8 always text_at acts.Started path rest text_law t refl n
act_again (acts.Spawned path) rest t f n = case_again text_spelling IsUtf8 always text_at acts.Spawned path rest text_law t refl n
act_again (acts.Unspawned path found) rest t f n = case_again pair_spelling TypedFlagged always pair_at (λ (p : Flagged). acts.Unspawned p.0 p.1) (path, found) rest flagged_law (t, tt) refl (n, tt)
act_again (acts.OpenedRead path) rest t f n = case_again text_spelling IsUtf8 always text_at acts.OpenedRead path rest text_law t refl n
act_again (acts.OpenedWrite path) rest t f n = case_again text_spelling IsUtf8 always text_at acts.OpenedWrite path rest text_law t refl n
act_again (acts.OpenedAppend path found) rest t f n = case_again pair_spelling TypedFlagged always pair_at (λ (p : Flagged). acts.OpenedAppend p.0 p.1) (path, found) rest flagged_law (t, tt) refl (n, tt)
act_again (acts.OpenedNew path) rest t f n = case_again text_spelling IsUtf8 always text_at acts.OpenedNew path rest text_law t refl n
act_again (acts.Unopened path found) rest t f n = case_again pair_spelling TypedFlagged always pair_at (λ (p : Flagged). acts.Unopened p.0 p.1) (path, found) rest flagged_law (t, tt) refl (n, tt)
act_again (acts.Read path) rest t f n = case_again text_spelling IsUtf8 always text_at acts.Read path rest text_law t refl n
act_again (acts.Wrote path) rest t f n = case_again text_spelling IsUtf8 always text_at acts.Wrote path rest text_law t refl n
act_again (acts.Removed path) rest t f n = case_again text_spelling IsUtf8 always text_at acts.Removed path rest text_law t refl n
act_again (acts.Tested path found) rest t f n = case_again pair_spelling TypedFlagged always pair_at (λ (p : Flagged). acts.Tested p.0 p.1) (path, found) rest flagged_law (t, tt) refl (n, tt)
act_again (acts.Waited child) rest t f n = case_again (to_be_bytes w32) IsU32 always (number_at w32) acts.Waited child rest u32_law t refl n
act_again (acts.Ended status) rest t f n = case_again (to_be_bytes w8) (λ n. n < 256) always (number_at w8) acts.Ended status rest byte_law t refl n
act_again (acts.Asked statement tables reads made) rest t f n = case_again asked_spelling TypedAsked asked_room asked_at asked (statement, (tables, (reads, made))) rest asked_law t f (tt, n)

act_took : (t : ℕ) (bytes : List ℕ) (a : Act) (rest : List ℕ) → IsBytes bytes → act_of_tag t bytes ≡ Some (a, rest) → TookTagged act_tag act_rest TypedAct act_room CountedAct t bytes a rest
act_took zero bytes a rest h e = case_took text_spelling IsUtf8 always text_at acts.Started act_tag act_rest TypedAct act_room CountedAct 0 bytes a rest text_law h e (λ a. refl) (λ a. refl) (λ a t. t) (λ a f. refl) (λ a n. n)
act_took (suc zero) bytes a rest h e = case_took text_spelling IsUtf8 always text_at acts.Spawned act_tag act_rest TypedAct act_room CountedAct 1 bytes a rest text_law h e (λ a. refl) (λ a. refl) (λ a t. t) (λ a f. refl) (λ a n. n)
act_took (suc (suc zero)) bytes a rest h e = case_took pair_spelling TypedFlagged always pair_at (λ (p : Flagged). acts.Unspawned p.0 p.1) act_tag act_rest TypedAct act_room CountedAct 2 bytes a rest flagged_law h e (λ a. refl) (λ a. refl) (λ a t. t.0) (λ a f. refl) (λ a n. n.0)
act_took (suc (suc (suc zero))) bytes a rest h e = case_took text_spelling IsUtf8 always text_at acts.OpenedRead act_tag act_rest TypedAct act_room CountedAct 3 bytes a rest text_law h e (λ a. refl) (λ a. refl) (λ a t. t) (λ a f. refl) (λ a n. n)
act_took (suc (suc (suc (suc zero)))) bytes a rest h e = case_took text_spelling IsUtf8 always text_at acts.OpenedWrite act_tag act_rest TypedAct act_room CountedAct 4 bytes a rest text_law h e (λ a. refl) (λ a. refl) (λ a t. t) (λ a f. refl) (λ a n. n)
act_took (suc (suc (suc (suc (suc zero))))) bytes a rest h e = case_took pair_spelling TypedFlagged always pair_at (λ (p : Flagged). acts.OpenedAppend p.0 p.1) act_tag act_rest TypedAct act_room CountedAct 5 bytes a rest flagged_law h e (λ a. refl) (λ a. refl) (λ a t. t.0) (λ a f. refl) (λ a n. n.0)
act_took (suc (suc (suc (suc (suc (suc zero)))))) bytes a rest h e = case_took text_spelling IsUtf8 always text_at acts.OpenedNew act_tag act_rest TypedAct act_room CountedAct 6 bytes a rest text_law h e (λ a. refl) (λ a. refl) (λ a t. t) (λ a f. refl) (λ a n. n)
act_took (suc (suc (suc (suc (suc (suc (suc zero))))))) bytes a rest h e = case_took pair_spelling TypedFlagged always pair_at (λ (p : Flagged). acts.Unopened p.0 p.1) act_tag act_rest TypedAct act_room CountedAct 7 bytes a rest flagged_law h e (λ a. refl) (λ a. refl) (λ a t. t.0) (λ a f. refl) (λ a n. n.0)
act_took (suc (suc (suc (suc (suc (suc (suc (suc zero)))))))) bytes a rest h e = case_took text_spelling IsUtf8 always text_at acts.Read act_tag act_rest TypedAct act_room CountedAct 8 bytes a rest text_law h e (λ a. refl) (λ a. refl) (λ a t. t) (λ a f. refl) (λ a n. n)
act_took (suc (suc (suc (suc (suc (suc (suc (suc (suc zero))))))))) bytes a rest h e = case_took text_spelling IsUtf8 always text_at acts.Wrote act_tag act_rest TypedAct act_room CountedAct 9 bytes a rest text_law h e (λ a. refl) (λ a. refl) (λ a t. t) (λ a f. refl) (λ a n. n)
act_took (suc (suc (suc (suc (suc (suc (suc (suc (suc (suc zero)))))))))) bytes a rest h e = case_took text_spelling IsUtf8 always text_at acts.Removed act_tag act_rest TypedAct act_room CountedAct 10 bytes a rest text_law h e (λ a. refl) (λ a. refl) (λ a t. t) (λ a f. refl) (λ a n. n)
act_took (suc (suc (suc (suc (suc (suc (suc (suc (suc (suc (suc zero))))))))))) bytes a rest h e = case_took pair_spelling TypedFlagged always pair_at (λ (p : Flagged). acts.Tested p.0 p.1) act_tag act_rest TypedAct act_room CountedAct 11 bytes a rest flagged_law h e (λ a. refl) (λ a. refl) (λ a t. t.0) (λ a f. refl) (λ a n. n.0)
act_took (suc (suc (suc (suc (suc (suc (suc (suc (suc (suc (suc (suc zero)))))))))))) bytes a rest h e = case_took (to_be_bytes w32) IsU32 always (number_at w32) acts.Waited act_tag act_rest TypedAct act_room CountedAct 12 bytes a rest u32_law h e (λ a. refl) (λ a. refl) (λ a t. t) (λ a f. refl) (λ a n. n)
act_took (suc (suc (suc (suc (suc (suc (suc (suc (suc (suc (suc (suc (suc zero))))))))))))) bytes a rest h e = case_took (to_be_bytes w8) (λ n. n < 256) always (number_at w8) acts.Ended act_tag act_rest TypedAct act_room CountedAct 13 bytes a rest byte_law h e (λ a. refl) (λ a. refl) (λ a t. t) (λ a f. refl) (λ a n. n)
act_took (suc (suc (suc (suc (suc (suc (suc (suc (suc (suc (suc (suc (suc (suc zero)))))))))))))) bytes a rest h e = case_took asked_spelling TypedAsked asked_room asked_at asked act_tag act_rest TypedAct act_room CountedAct 14 bytes a rest asked_law h e (λ a. refl) (λ a. refl) (λ a t. t) (λ a f. f) (λ a n. n.1)
act_took (suc (suc (suc (suc (suc (suc (suc (suc (suc (suc (suc (suc (suc (suc (suc t))))))))))))))) bytes a rest h e = absurd cc

act_short : (a : Act) → length (act_rest a) < 2 ^ 32 → CountedAct a
act_short (acts.Started path) len = text_law.short path len
act_short (acts.Spawned path) len = text_law.short path len
act_short (acts.Unspawned path found) len = (flagged_law.short (path, found) len).0
act_short (acts.OpenedRead path) len = text_law.short path len
act_short (acts.OpenedWrite path) len = text_law.short path len
act_short (acts.OpenedAppend path found) len = (flagged_law.short (path, found) len).0
act_short (acts.OpenedNew path) len = text_law.short path len
act_short (acts.Unopened path found) len = (flagged_law.short (path, found) len).0
act_short (acts.Read path) len = text_law.short path len
act_short (acts.Wrote path) len = text_law.short path len
act_short (acts.Removed path) len = text_law.short path len
act_short (acts.Tested path found) len = (flagged_law.short (path, found) len).0
act_short (acts.Waited child) len = tt
act_short (acts.Ended status) len = tt
act_short (acts.Asked statement tables reads made) len = (asked_law.short (statement, (tables, (reads, made))) len).1

act_small : (a : Act) → act_tag a < 256
act_small (acts.Started path) = omega arith
act_small (acts.Spawned path) = omega arith
act_small (acts.Unspawned path found) = omega arith
act_small (acts.OpenedRead path) = omega arith
act_small (acts.OpenedWrite path) = omega arith
act_small (acts.OpenedAppend path found) = omega arith
act_small (acts.OpenedNew path) = omega arith
act_small (acts.Unopened path found) = omega arith
act_small (acts.Read path) = omega arith
act_small (acts.Wrote path) = omega arith
act_small (acts.Removed path) = omega arith
act_small (acts.Tested path found) = omega arith
act_small (acts.Waited child) = omega arith
act_small (acts.Ended status) = omega arith
act_small (acts.Asked statement tables reads made) = omega arith

act_same : (a : Act) → act_spelling a ≡ to_be_bytes w8 (act_tag a) ++ act_rest a
act_same (acts.Started path) = refl
act_same (acts.Spawned path) = refl
act_same (acts.Unspawned path found) = refl
act_same (acts.OpenedRead path) = refl
act_same (acts.OpenedWrite path) = refl
act_same (acts.OpenedAppend path found) = refl
act_same (acts.OpenedNew path) = refl
act_same (acts.Unopened path found) = refl
act_same (acts.Read path) = refl
act_same (acts.Wrote path) = refl
act_same (acts.Removed path) = refl
act_same (acts.Tested path found) = refl
act_same (acts.Waited child) = refl
act_same (acts.Ended status) = refl
act_same (acts.Asked statement tables reads made) = refl

act_law : IsField act_spelling TypedAct act_room CountedAct act_at
act_law = tagged_law act_spelling act_tag act_rest TypedAct act_room CountedAct act_of_tag (record { small = act_small; again = act_again; took = act_took; short = act_short }) act_same

-- ---- events

abbrev EventTail : Type 0
EventTail = ℕ × Act

abbrev EventParts : Type 0
EventParts = ℕ × EventTail

event_tail_law : IsField (λ (p : EventTail). to_be_bytes w32 p.0 ++ act_spelling p.1) (λ (p : EventTail). IsU32 p.0 × TypedAct p.1) (λ (p : EventTail). act_room p.1) (λ (p : EventTail). Unit {0} × CountedAct p.1) (both_at (number_at w32) act_at)
event_tail_law = then_law (to_be_bytes w32) IsU32 always (number_at w32) act_spelling TypedAct (λ a. act_room) (λ a. act_at) u32_law (λ a. act_law)

pub event_law : IsField event_spelling TypedEvent event_room CountedEvent event_at
event_law = recount CountedEvent (struct_law (λ (p : EventParts). to_be_bytes w32 p.0 ++ (to_be_bytes w32 p.1.0 ++ act_spelling p.1.1)) (λ (p : EventParts). IsU32 p.0 × (IsU32 p.1.0 × TypedAct p.1.1)) (λ (p : EventParts). act_room p.1.1) (both_at (number_at w32) (both_at (number_at w32) act_at))
    (λ (p : EventParts). record { step = p.0; process = p.1.0; act = p.1.1 }) (λ (e : Event). (e.step, (e.process, e.act)))
    (then_law (to_be_bytes w32) IsU32 always (number_at w32) (λ (p : EventTail). to_be_bytes w32 p.0 ++ act_spelling p.1) (λ (p : EventTail). IsU32 p.0 × TypedAct p.1) (λ a (p : EventTail). act_room p.1) (λ a. both_at (number_at w32) act_at) u32_law (λ a. event_tail_law))
    (λ e. refl) (λ p. refl))
    (λ e n. (tt, (tt, n))) (λ e n. n.1.1)

pub event_filled : (e : Event) → 0 < length (event_spelling e)
event_filled e = omega arith
