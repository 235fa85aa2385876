-- Logs: what is spelled is read, and what is read was spelled so.
use Rattle.std.proofs.Common.{◌≡◌, ℕ, zero, suc, ◌^◌, ◌<◌, Bool, true, List, [], ◌++◌, length, Some, refl, arith, ◌&&◌}
use Rattle.std.specs.List.{list_all, AllByRecursion}
use Rattle.std.specs.Str.{IsUtf8}
use Rattle.std.specs.Int.{w8, w16, w32, w64, to_be_bytes}
use Rattle.ldv_value.specs.declared.value.Value.{Value}
use Rattle.ldv_value.proofs.Booleans.{and-parts, and-from}
use Rattle.sql_model.specs.Codes.{code_of as refusal_tag}
use Rattle.sql_model.specs.declared.reply.SqlRefusal.{SqlRefusal}
use Rattle.sql_model.specs.declared.reply.SqlRefusal.TheVariants.{Syntax, NoTable, NoColumn, TypeClash, NotNull, KeyTaken, Full, NoParent, HasChild}
use Rattle.sql_model.specs.declared.reply.Reply.{Reply}
use Rattle.sql_model.specs.declared.reply.Reply.TheVariants.{Rows, Changed, Refused}
use Rattle.run_model.specs.declared.name.ProcName.{ProcName}
use Rattle.run_model.specs.declared.package.Entry.{Entry}
use Rattle.run_model.specs.declared.package.Log.{Log}
use Rattle.package_codec.specs.Fields.{DecodeResult, both_at, number_at, text_spelling, list_spelling, list_at, text_at}
use Rattle.package_codec.specs.Spelling.{value_spelling, values_spelling, row_key_spelling, refusal_spelling, reply_spelling, entry_spelling, parts_spelling, log_spelling}
use Rattle.package_codec.specs.Typed.{IsU32, TypedValue, TypedValues, TypedRefusal, TypedReply, TypedEntry, TypedLog}
use Rattle.package_codec.specs.Room.{fits_u8_count, fits_u16_count, refusal_room, reply_room, entry_room, log_room}
use Rattle.package_codec.specs.Counts.{IsCountable, CountedList, CountedValue, CountedRefusal, CountedReply, CountedEntry, CountedLog}
use Rattle.package_codec.specs.Reading.{value_at, values_at, refusal_of_code, refusal_at, reply_of_tag, reply_at, entry_at, name_at, log_at}
use Rattle.package_codec.proofs.Laws.{IsBytes, IsField, just, always, list_all-always, Uncounted, all_uncounted, restate, recount, then_law, struct_law}
use Rattle.package_codec.proofs.Numbers.{wide64, number_law, text_law, byte_list_law, short_list_law, long_law}
use Rattle.package_codec.proofs.Tags.{TookTagged, tagged_law, bare_took, case_took, case_again}
use Rattle.package_codec.proofs.Values.{value_law, values_law}
use Rattle.package_codec.proofs.Tables.{u32_law}

-- ---- refusals

abbrev TakenParts : Type 0
TakenParts = List ℕ × List Value

abbrev taken_spelling : TakenParts → List ℕ
taken_spelling p = text_spelling p.0 ++ list_spelling w8 value_spelling p.1

abbrev TypedTaken : TakenParts → Type 0
TypedTaken p = IsUtf8 p.0 × TypedValues p.1

abbrev CountedTaken : TakenParts → Type 0
CountedTaken p = IsCountable p.0 × AllByRecursion CountedValue p.1

abbrev taken_room : TakenParts → Bool
taken_room p = fits_u8_count p.1

abbrev taken : TakenParts → SqlRefusal
taken p = KeyTaken p.0 p.1

abbrev missing : TakenParts → SqlRefusal
missing p = NoParent p.0 p.1

abbrev lost : TakenParts → SqlRefusal
lost p = HasChild p.0 p.1

abbrev taken_at : List ℕ → DecodeResult TakenParts
taken_at = both_at text_at (list_at w8 value_at)

key_law : IsField (list_spelling w8 value_spelling) TypedValues fits_u8_count (AllByRecursion CountedValue) (list_at w8 value_at)
key_law = restate (list_spelling w8 value_spelling) TypedValues TypedValues (λ vs. fits_u8_count vs && list_all always vs) fits_u8_count (list_at w8 value_at) (byte_list_law value_spelling TypedValue always value_at value_law)
    (λ vs t h. (t, and-from (fits_u8_count vs) (list_all always vs) h (list_all-always vs))) (λ vs t h. (t, (and-parts (fits_u8_count vs) (list_all always vs) h).0))

taken_law : IsField taken_spelling TypedTaken taken_room CountedTaken taken_at
taken_law = then_law text_spelling IsUtf8 always text_at (list_spelling w8 value_spelling) TypedValues (λ a. fits_u8_count) (λ a. list_at w8 value_at) text_law (λ a. key_law)

abbrev refusal_rest : SqlRefusal → List ℕ
refusal_rest Syntax = []
refusal_rest NoTable = []
refusal_rest NoColumn = []
refusal_rest TypeClash = []
refusal_rest NotNull = []
refusal_rest (KeyTaken table key) = row_key_spelling table key
refusal_rest Full = []
refusal_rest (NoParent table key) = row_key_spelling table key
refusal_rest (HasChild table key) = row_key_spelling table key

refusal_again : (r : SqlRefusal) (rest : List ℕ) → TypedRefusal r → refusal_room r ≡ true → CountedRefusal r → refusal_of_code (refusal_tag r) (refusal_rest r ++ rest) ≡ Some (r, rest)
refusal_again Syntax rest t f n = refl
refusal_again NoTable rest t f n = refl
refusal_again NoColumn rest t f n = refl
refusal_again TypeClash rest t f n = refl
refusal_again NotNull rest t f n = refl
refusal_again (KeyTaken table key) rest t f n = case_again taken_spelling TypedTaken taken_room taken_at taken (table, key) rest taken_law t f n
refusal_again Full rest t f n = refl
refusal_again (NoParent table key) rest t f n = case_again taken_spelling TypedTaken taken_room taken_at missing (table, key) rest taken_law t f n
refusal_again (HasChild table key) rest t f n = case_again taken_spelling TypedTaken taken_room taken_at lost (table, key) rest taken_law t f n

refusal_bare : (t : ℕ) (bytes : List ℕ) (y x : SqlRefusal) (rest : List ℕ) → refusal_tag y ≡ t → refusal_rest y ≡ [] → TypedRefusal y → refusal_room y ≡ true → CountedRefusal y → just {A = SqlRefusal × List ℕ} (y, bytes) ≡ just {A = SqlRefusal × List ℕ} (x, rest) → TookTagged refusal_tag refusal_rest TypedRefusal refusal_room CountedRefusal t bytes x rest
refusal_bare t bytes y x rest i b h f n e = bare_took refusal_tag refusal_rest TypedRefusal refusal_room CountedRefusal t bytes y x rest i b h f n e

refusal_took : (t : ℕ) (bytes : List ℕ) (r : SqlRefusal) (rest : List ℕ) → IsBytes bytes → refusal_of_code t bytes ≡ Some (r, rest) → TookTagged refusal_tag refusal_rest TypedRefusal refusal_room CountedRefusal t bytes r rest
refusal_took zero bytes r rest h e = absurd cc
refusal_took (suc zero) bytes r rest h e = refusal_bare 1 bytes Syntax r rest refl refl tt refl tt e
refusal_took (suc (suc zero)) bytes r rest h e = refusal_bare 2 bytes NoTable r rest refl refl tt refl tt e
refusal_took (suc (suc (suc zero))) bytes r rest h e = refusal_bare 3 bytes NoColumn r rest refl refl tt refl tt e
refusal_took (suc (suc (suc (suc zero)))) bytes r rest h e = refusal_bare 4 bytes TypeClash r rest refl refl tt refl tt e
refusal_took (suc (suc (suc (suc (suc zero))))) bytes r rest h e = refusal_bare 5 bytes NotNull r rest refl refl tt refl tt e
refusal_took (suc (suc (suc (suc (suc (suc zero)))))) bytes r rest h e = case_took taken_spelling TypedTaken taken_room taken_at taken refusal_tag refusal_rest TypedRefusal refusal_room CountedRefusal 6 bytes r rest taken_law h e (λ a. refl) (λ a. refl) (λ a t. t) (λ a f. f) (λ a n. n)
refusal_took (suc (suc (suc (suc (suc (suc (suc zero))))))) bytes r rest h e = refusal_bare 7 bytes Full r rest refl refl tt refl tt e
refusal_took (suc (suc (suc (suc (suc (suc (suc (suc zero)))))))) bytes r rest h e = case_took taken_spelling TypedTaken taken_room taken_at missing refusal_tag refusal_rest TypedRefusal refusal_room CountedRefusal 8 bytes r rest taken_law h e (λ a. refl) (λ a. refl) (λ a t. t) (λ a f. f) (λ a n. n)
refusal_took (suc (suc (suc (suc (suc (suc (suc (suc (suc zero))))))))) bytes r rest h e = case_took taken_spelling TypedTaken taken_room taken_at lost refusal_tag refusal_rest TypedRefusal refusal_room CountedRefusal 9 bytes r rest taken_law h e (λ a. refl) (λ a. refl) (λ a t. t) (λ a f. f) (λ a n. n)
refusal_took (suc (suc (suc (suc (suc (suc (suc (suc (suc (suc t)))))))))) bytes r rest h e = absurd cc

refusal_short : (r : SqlRefusal) → length (refusal_rest r) < 2 ^ 32 → CountedRefusal r
refusal_short Syntax len = tt
refusal_short NoTable len = tt
refusal_short NoColumn len = tt
refusal_short TypeClash len = tt
refusal_short NotNull len = tt
refusal_short (KeyTaken table key) len = taken_law.short (table, key) len
refusal_short Full len = tt
refusal_short (NoParent table key) len = taken_law.short (table, key) len
refusal_short (HasChild table key) len = taken_law.short (table, key) len

refusal_small : (r : SqlRefusal) → refusal_tag r < 256
refusal_small Syntax = omega arith
refusal_small NoTable = omega arith
refusal_small NoColumn = omega arith
refusal_small TypeClash = omega arith
refusal_small NotNull = omega arith
refusal_small (KeyTaken table key) = omega arith
refusal_small Full = omega arith
refusal_small (NoParent table key) = omega arith
refusal_small (HasChild table key) = omega arith

refusal_same : (r : SqlRefusal) → refusal_spelling r ≡ to_be_bytes w8 (refusal_tag r) ++ refusal_rest r
refusal_same Syntax = refl
refusal_same NoTable = refl
refusal_same NoColumn = refl
refusal_same TypeClash = refl
refusal_same NotNull = refl
refusal_same (KeyTaken table key) = refl
refusal_same Full = refl
refusal_same (NoParent table key) = refl
refusal_same (HasChild table key) = refl

refusal_law : IsField refusal_spelling TypedRefusal refusal_room CountedRefusal refusal_at
refusal_law = tagged_law refusal_spelling refusal_tag refusal_rest TypedRefusal refusal_room CountedRefusal refusal_of_code (record { small = refusal_small; again = refusal_again; took = refusal_took; short = refusal_short }) refusal_same

-- ---- replies

abbrev reply_tag : Reply → ℕ
reply_tag (Rows rows) = 1
reply_tag (Changed n) = 2
reply_tag (Refused r) = 3

abbrev reply_rest : Reply → List ℕ
reply_rest (Rows rows) = list_spelling w32 values_spelling rows
reply_rest (Changed n) = to_be_bytes w64 n
reply_rest (Refused r) = refusal_spelling r

values_filled : (vs : List Value) → 0 < length (values_spelling vs)
values_filled vs = omega arith

rows_law : IsField (list_spelling w32 values_spelling) (AllByRecursion TypedValues) (list_all fits_u16_count) (CountedList (AllByRecursion CountedValue)) (list_at w32 values_at)
rows_law = long_law values_spelling TypedValues fits_u16_count values_at values_law values_filled

u64_law : IsField (to_be_bytes w64) (λ n. n < 2 ^ 64) always Uncounted (number_at w64)
u64_law = number_law w64 (2 ^ 64) wide64

reply_again : (r : Reply) (rest : List ℕ) → TypedReply r → reply_room r ≡ true → CountedReply r → reply_of_tag (reply_tag r) (reply_rest r ++ rest) ≡ Some (r, rest)
reply_again (Rows rows) rest t f n = case_again (list_spelling w32 values_spelling) (AllByRecursion TypedValues) (list_all fits_u16_count) (list_at w32 values_at) Rows rows rest rows_law t f n
reply_again (Changed k) rest t f n = case_again (to_be_bytes w64) (λ n. n < 2 ^ 64) always (number_at w64) Changed k rest u64_law t f n
reply_again (Refused r) rest t f n = case_again refusal_spelling TypedRefusal refusal_room refusal_at Refused r rest refusal_law t f n

reply_took : (t : ℕ) (bytes : List ℕ) (r : Reply) (rest : List ℕ) → IsBytes bytes → reply_of_tag t bytes ≡ Some (r, rest) → TookTagged reply_tag reply_rest TypedReply reply_room CountedReply t bytes r rest
reply_took zero bytes r rest h e = absurd cc
reply_took (suc zero) bytes r rest h e = case_took (list_spelling w32 values_spelling) (AllByRecursion TypedValues) (list_all fits_u16_count) (list_at w32 values_at) Rows reply_tag reply_rest TypedReply reply_room CountedReply 1 bytes r rest rows_law h e (λ a. refl) (λ a. refl) (λ a t. t) (λ a f. f) (λ a n. n)
reply_took (suc (suc zero)) bytes r rest h e = case_took (to_be_bytes w64) (λ n. n < 2 ^ 64) always (number_at w64) Changed reply_tag reply_rest TypedReply reply_room CountedReply 2 bytes r rest u64_law h e (λ a. refl) (λ a. refl) (λ a t. t) (λ a f. f) (λ a n. n)
reply_took (suc (suc (suc zero))) bytes r rest h e = case_took refusal_spelling TypedRefusal refusal_room refusal_at Refused reply_tag reply_rest TypedReply reply_room CountedReply 3 bytes r rest refusal_law h e (λ a. refl) (λ a. refl) (λ a t. t) (λ a f. f) (λ a n. n)
reply_took (suc (suc (suc (suc t)))) bytes r rest h e = absurd cc

reply_short : (r : Reply) → length (reply_rest r) < 2 ^ 32 → CountedReply r
reply_short (Rows rows) len = rows_law.short rows len
reply_short (Changed n) len = tt
reply_short (Refused r) len = refusal_law.short r len

reply_small : (r : Reply) → reply_tag r < 256
reply_small (Rows rows) = omega arith
reply_small (Changed n) = omega arith
reply_small (Refused r) = omega arith

reply_same : (r : Reply) → reply_spelling r ≡ to_be_bytes w8 (reply_tag r) ++ reply_rest r
reply_same (Rows rows) = refl
reply_same (Changed n) = refl
reply_same (Refused r) = refl

reply_law : IsField reply_spelling TypedReply reply_room CountedReply reply_at
reply_law = tagged_law reply_spelling reply_tag reply_rest TypedReply reply_room CountedReply reply_of_tag (record { small = reply_small; again = reply_again; took = reply_took; short = reply_short }) reply_same

-- ---- entries and logs

abbrev EntryTail : Type 0
EntryTail = List Value × Reply

abbrev EntryParts : Type 0
EntryParts = List ℕ × EntryTail

entry_tail_law : IsField (λ (p : EntryTail). values_spelling p.0 ++ reply_spelling p.1) (λ (p : EntryTail). TypedValues p.0 × TypedReply p.1) (λ (p : EntryTail). fits_u16_count p.0 && reply_room p.1) (λ (p : EntryTail). AllByRecursion CountedValue p.0 × CountedReply p.1) (both_at values_at reply_at)
entry_tail_law = then_law values_spelling TypedValues fits_u16_count values_at reply_spelling TypedReply (λ a. reply_room) (λ a. reply_at) values_law (λ a. reply_law)

entry_law : IsField entry_spelling TypedEntry entry_room CountedEntry entry_at
entry_law = struct_law (λ (p : EntryParts). text_spelling p.0 ++ (values_spelling p.1.0 ++ reply_spelling p.1.1)) (λ (p : EntryParts). IsUtf8 p.0 × (TypedValues p.1.0 × TypedReply p.1.1)) (λ (p : EntryParts). fits_u16_count p.1.0 && reply_room p.1.1) (both_at text_at (both_at values_at reply_at))
    (λ (p : EntryParts). record { text = p.0; params = p.1.0; reply = p.1.1 }) (λ (e : Entry). (e.text, (e.params, e.reply)))
    (then_law text_spelling IsUtf8 always text_at (λ (p : EntryTail). values_spelling p.0 ++ reply_spelling p.1) (λ (p : EntryTail). TypedValues p.0 × TypedReply p.1) (λ a (p : EntryTail). fits_u16_count p.0 && reply_room p.1) (λ a. both_at values_at reply_at) text_law (λ a. entry_tail_law))
    (λ e. refl) (λ p. refl)

entry_filled : (e : Entry) → 0 < length (entry_spelling e)
entry_filled e = omega arith

parts_law : IsField parts_spelling (AllByRecursion IsU32) fits_u16_count Uncounted (list_at w16 (number_at w32))
parts_law = recount Uncounted (restate parts_spelling (AllByRecursion IsU32) (AllByRecursion IsU32) (λ ns. fits_u16_count ns && list_all always ns) fits_u16_count (list_at w16 (number_at w32)) (short_list_law (to_be_bytes w32) IsU32 always (number_at w32) u32_law)
    (λ ns t h. (t, and-from (fits_u16_count ns) (list_all always ns) h (list_all-always ns))) (λ ns t h. (t, (and-parts (fits_u16_count ns) (list_all always ns) h).0)))
    (λ ns n. all_uncounted ns) (λ ns n. tt)

name_law : IsField (λ n. parts_spelling n.parts) (λ n. AllByRecursion IsU32 n.parts) (λ n. fits_u16_count n.parts) Uncounted name_at
name_law = struct_law parts_spelling (AllByRecursion IsU32) fits_u16_count (list_at w16 (number_at w32)) (λ parts. record { parts = parts }) (λ (n : ProcName). n.parts) parts_law (λ n. refl) (λ p. refl)

entries_law : IsField (list_spelling w32 entry_spelling) (AllByRecursion TypedEntry) (list_all entry_room) (CountedList CountedEntry) (list_at w32 entry_at)
entries_law = long_law entry_spelling TypedEntry entry_room entry_at entry_law entry_filled

abbrev LogParts : Type 0
LogParts = ProcName × List Entry

pub log_law : IsField log_spelling TypedLog log_room CountedLog log_at
log_law = recount CountedLog (struct_law (λ (p : LogParts). parts_spelling p.0.parts ++ list_spelling w32 entry_spelling p.1) (λ (p : LogParts). AllByRecursion IsU32 p.0.parts × AllByRecursion TypedEntry p.1) (λ (p : LogParts). fits_u16_count p.0.parts && list_all entry_room p.1) (both_at name_at (list_at w32 entry_at))
    (λ (p : LogParts). record { process = p.0; entries = p.1 }) (λ (l : Log). (l.process, l.entries))
    (then_law (λ n. parts_spelling n.parts) (λ n. AllByRecursion IsU32 n.parts) (λ n. fits_u16_count n.parts) name_at (list_spelling w32 entry_spelling) (AllByRecursion TypedEntry) (λ a. list_all entry_room) (λ a. list_at w32 entry_at) name_law (λ a. entries_law))
    (λ l. refl) (λ p. refl))
    (λ l n. (tt, n)) (λ l n. n.1)

pub log_filled : (l : Log) → 0 < length (log_spelling l)
log_filled l = omega arith
