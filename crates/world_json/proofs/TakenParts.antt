-- Each part of a document, as it is taken from tokens.
use Rattle.std.proofs.Common.{◌≡◌, ℕ, ◌+◌, ◌-◌, ◌<◌, ◌≤◌, List, [], ◌∷◌, length, true, codes, bytes_eq, Option, Some, None, option_map, option_and_then, Result, Ok, Err, IfOk, String, Global, string_bytes, string_cmp, refl, sym, ap, ◌∙◌, subst, arith}
use Rattle.std.specs.BTreeMap.{insert_entry}
use Rattle.std.specs.List.{AllByRecursion}
use Rattle.std.specs.Str.{IsUtf8}
use Rattle.json.specs.Token.{Token}
use Rattle.json.specs.Json.{after_end_array, value, parse_map}
use Rattle.json.proofs.Grammar.{value_is}
use Rattle.serde_json.specs.Data.{Num, Data, null, number, string, array, object, Items, no_items, item, Members, no_members, put}
use Rattle.serde_json.specs.Find.{get_member, as_str, as_u64, as_i64}
use Rattle.serde_json.specs.Read.{number_of, of_json, converted}
use Rattle.run_model.specs.TypedPackage.{TypedColumn, TypedValues}
use Rattle.ldv_value.specs.declared.file.File.{File}
use Rattle.ldv_value.specs.declared.value.Value.{Value}
use Rattle.ldv_value.specs.declared.value.Value.TheVariants.{Int}
use Rattle.sql_model.specs.declared.table.Column.{Column}
use Rattle.world_json.specs.Shape.{◌>>=◌, array_of, object_of, required_member, whole_of, hex_text, hex_of, content_in, content_of, file_of, cell_of, column_from, column_of, foreign_from, foreign_of, table_of, table_members, document_members}
use Rattle.world_json.specs.declared.document.Draft.{Draft}
use Rattle.world_json.specs.declared.document.DraftForeign.{DraftForeign}
use Rattle.world_json.specs.declared.fast.file.HexParts.{HexParts}
use Rattle.world_json.specs.declared.fast.table.TableParts.{TableParts}
use Rattle.world_json.specs.declared.fast.document.DocumentParts.{DocumentParts}
use Rattle.world_json.specs.inner.Parts.{AreHexParts, AreTableParts, AreDocumentParts}
use Rattle.world_json.specs.inner.Taking.{IsTaken, AreTaken, MemberTaken, MembersTaken, MembersGive, IsPart, AreNamed, IsCell, IsContent}
use Rattle.world_json.specs.inner.Typed.{TypedDocumentFile, TypedDraft, TypedDraftForeign}
use Rattle.world_json.proofs.KeptMembers.{same_name, this_part, other_part, only_put, named_put}
use Rattle.world_json.proofs.Taken.{converted_some, taken_by, going_on, item_read, items_over, array_read, array_taken, object_read}

-- ---- what a second function gives by the first

pub then_taken : {A B : Type 0} (f : Data → Option A) (g : Data → Option B) (a : A) (b : B) (levels : ℕ) (old new : List Token) → IsTaken f levels old a new → ((d : Data) → f d ≡ Some a → g d ≡ Some b) → IsTaken g levels old b new
then_taken f g a b levels old new one gives = λ depth enough.
    let read = converted_some f (converted of_json (value depth old)) a new (one depth enough) in
    taken_by g read.0 b depth old new read.1 (gives read.0 read.2)

-- ---- scalars

read_first : (t : Token) (depth : ℕ) (old new : List Token) → old ≡ t ∷ new → converted of_json (value depth old) ≡ converted of_json (value depth (t ∷ new))
read_first t depth old new is = ap (λ ts. converted of_json (value depth ts)) is

text_read : (s : List ℕ) (depth : ℕ) (old new : List Token) → old ≡ Token.string s ∷ new → converted of_json (value depth old) ≡ Some (string s, new)
text_read s depth old new is = read_first (Token.string s) depth old new is ∙ ap (converted of_json) (value_is depth (Token.string s ∷ new))

null_read : (depth : ℕ) (old new : List Token) → old ≡ Token.null ∷ new → converted of_json (value depth old) ≡ Some (null, new)
null_read depth old new is = read_first Token.null depth old new is ∙ ap (converted of_json) (value_is depth (Token.null ∷ new))

number_read : (s : List ℕ) (n : Num) (depth : ℕ) (old new : List Token) → old ≡ Token.number s ∷ new → number_of s ≡ Some n → converted of_json (value depth old) ≡ Some (number n, new)
number_read s n depth old new is gives =
    read_first (Token.number s) depth old new is ∙ ap (converted of_json) (value_is depth (Token.number s ∷ new)) ∙ ap (λ o. option_map (λ d. (d, new)) (option_map number o)) gives

pub text_taken : (s copy : List ℕ) (old new : List Token) → old ≡ Token.string s ∷ new → copy ≡ s → IsTaken as_str 0 old copy new
text_taken s copy old new is same = λ depth enough. taken_by as_str (string s) copy depth old new (text_read s depth old new is) (ap Some (sym same))

pub hex_taken : (s bytes : List ℕ) (old new : List Token) → old ≡ Token.string s ∷ new → hex_text s ≡ Some bytes → IsTaken hex_of 0 old bytes new
hex_taken s bytes old new is gives = λ depth enough. taken_by hex_of (string s) bytes depth old new (text_read s depth old new is) gives

pub content_taken : (t : Token) (bytes : List ℕ) (old mid new : List Token) → old ≡ t ∷ mid → IsContent t mid bytes new → IsTaken content_of 1 old bytes new
content_taken Token.begin_object bytes old mid new is gives = λ depth enough.
    let some : 0 < depth = omega arith in
    let below : 0 ≤ depth - 1 = omega arith in
    let read = gives (depth - 1) below in
    taken_by content_of (object read.0) bytes depth old new (object_read old mid new depth read.0 is some read.1) read.2
content_taken Token.end_object bytes old mid new is gives = absurd gives
content_taken Token.begin_array bytes old mid new is gives = absurd gives
content_taken Token.end_array bytes old mid new is gives = absurd gives
content_taken (Token.key s) bytes old mid new is gives = absurd gives
content_taken (Token.string s) bytes old mid new is gives = λ depth enough.
    let first : old ≡ Token.string s ∷ new = is ∙ ap (λ (ts : List Token). Token.string s ∷ ts) (sym gives.1) in
    taken_by content_of (string s) bytes depth old new (text_read s depth old new first) (ap Some (sym gives.0))
content_taken (Token.number s) bytes old mid new is gives = absurd gives
content_taken (Token.boolean b) bytes old mid new is gives = absurd gives
content_taken Token.null bytes old mid new is gives = absurd gives
content_taken Token.bad bytes old mid new is gives = absurd gives

some_number : {A : Type 0} (g : Num → Option A) (o : Option Num) (a : A) → option_and_then g o ≡ Some a → (n : Num) × (o ≡ Some n) × (g n ≡ Some a)
some_number g None a is = absurd (cc)
some_number g (Some n) a is = (n, refl, is)

pub whole_taken : (s : List ℕ) (n : ℕ) (old new : List Token) → old ≡ Token.number s ∷ new → option_and_then as_u64 (number_of s) ≡ Some n → IsTaken whole_of 0 old n new
whole_taken s n old new is gives = λ depth enough.
    let found = some_number as_u64 (number_of s) n gives in
    taken_by whole_of (number found.0) n depth old new (number_read s found.0 depth old new is found.1) found.2

some_cell : (o : Option Num) (v : Value) → option_map Int (option_and_then as_i64 o) ≡ Some v → (n : Num) × (o ≡ Some n) × (option_map Int (as_i64 n) ≡ Some v)
some_cell None v is = absurd (cc)
some_cell (Some n) v is = (n, refl, is)

pub cell_taken : (t : Token) (v : Value) (old new : List Token) → old ≡ t ∷ new → IsCell t v → IsTaken cell_of 0 old v new
cell_taken Token.begin_object v old new is cell = absurd cell
cell_taken Token.end_object v old new is cell = absurd cell
cell_taken Token.begin_array v old new is cell = absurd cell
cell_taken Token.end_array v old new is cell = absurd cell
cell_taken (Token.key s) v old new is cell = absurd cell
cell_taken (Token.string s) v old new is cell = λ depth enough. taken_by cell_of (string s) v depth old new (text_read s depth old new is) (ap Some (sym cell))
cell_taken (Token.number s) v old new is cell = λ depth enough.
    let found = some_cell (number_of s) v cell in
    taken_by cell_of (number found.0) v depth old new (number_read s found.0 depth old new is found.1) found.2
cell_taken (Token.boolean b) v old new is cell = absurd cell
cell_taken Token.null v old new is cell = λ depth enough. taken_by cell_of null v depth old new (null_read depth old new is) (ap Some (sym cell))
cell_taken Token.bad v old new is cell = absurd cell

pub cell_result : {E : Type 0} (t : Token) (r : Result Value E) (old new : List Token) → old ≡ t ∷ new → IfOk r (IsCell t) → IfOk r (λ v. IsTaken cell_of 0 old v new)
cell_result t (Ok v) old new is cell = cell_taken t v old new is cell
cell_result t (Err e) old new is cell = tt

-- ---- arrays, columns and foreign keys

pub array_result : {X E : Type 0} (f : Data → Option X) (levels : ℕ) (r : Result (List X) E) (old mid new : List Token) → old ≡ Token.begin_array ∷ mid → IfOk r (λ xs. AreTaken f levels mid xs new)
    → IfOk r (λ xs. IsTaken (array_of f) (levels + 1) old xs new)
array_result f levels (Ok xs) old mid new is all = array_taken f levels old mid new xs is all
array_result f levels (Err e) old mid new is all = tt

pub column_result : {E : Type 0} (texts : List (List ℕ)) (r : Result Column E) (old new : List Token) → IsTaken (array_of as_str) 1 old texts new → IfOk r (λ column. column_from texts ≡ Some column)
    → IfOk r (λ column. IsTaken column_of 1 old column new)
column_result texts (Ok column) old new all is = then_taken (array_of as_str) column_of texts column 1 old new all (λ d e. ap (λ o. o >>= column_from) e ∙ is)
column_result texts (Err e) old new all is = tt

abbrev pub foreign_by : List (List ℕ) → List ℕ → DraftForeign
foreign_by columns parent = record { columns = columns; parent = parent }

closed : (ts new : List Token) → ts ≡ Token.end_array ∷ new → after_end_array ts ≡ Some new
closed ts new is = ap after_end_array is

pub foreign_taken : (old a b c new : List Token) (columns : List (List ℕ)) (parent : List ℕ) → old ≡ Token.begin_array ∷ a → IsTaken (array_of as_str) 1 a columns b → length b < length a
    → IsTaken as_str 0 b parent c → length c < length b → c ≡ Token.end_array ∷ new → IsTaken foreign_of 2 old (foreign_by columns parent) new
foreign_taken old a b c new columns parent is first less second lesser ends = λ depth enough.
    let below : 1 ≤ depth - 1 = omega arith in
    let none : 0 ≤ depth - 1 = omega arith in
    let some : 0 < depth = omega arith in
    let p = value (depth - 1) in
    let n = length a in
    let more : 0 < n = omega arith in
    let one_more : 0 < n - 1 = omega arith in
    let left : length c ≤ n - 1 - 1 = omega arith in
    let one = converted_some (array_of as_str) (converted of_json (p a)) columns b (first (depth - 1) below) in
    let two = converted_some as_str (converted of_json (p b)) parent c (second (depth - 1) none) in
    let read_one = item_read p n a b one.0 more (going_on (array_of as_str) (depth - 1) a (columns, b) (first (depth - 1) below)) one.1 in
    let read_two = item_read p (n - 1) b c two.0 one_more (going_on as_str (depth - 1) b (parent, c) (second (depth - 1) none)) two.1 in
    let all = read_one ∙ ap (parse_map (item one.0)) (read_two ∙ ap (parse_map (item two.0)) (items_over p (n - 1 - 1) c new left (closed c new ends))) in
    let both : Items = item one.0 (item two.0 no_items) in
    let gives : foreign_of (array both) ≡ Some (foreign_by columns parent) =
    ap (λ (o : Option (List (List ℕ))). o >>= λ cs. as_str two.0 >>= λ p. foreign_from cs p) one.2 ∙ ap (λ (o : Option (List ℕ)). o >>= λ p. foreign_from columns p) two.2 in
    taken_by foreign_of (array both) (foreign_by columns parent) depth old new (array_read old a new depth both is some all) gives

-- ---- files

abbrev pub file_by : List ℕ → List ℕ → File
file_by path content = record { path = path; content = content }

pub file_taken : (path content : List ℕ) (old new : List Token) → IsTaken content_of 1 old content new → IsTaken (file_of path) 1 old (file_by path content) new
file_taken path content old new one = then_taken content_of (file_of path) content (file_by path content) 1 old new one (λ d e. ap (λ (o : Option (List ℕ)). o >>= λ c. Some (file_by path c)) e)

-- ---- members under any name

pub named_member : {X : Type 0} (f : List ℕ → Data → Option X) (P : X → Type 0) (levels : ℕ) (name own : List ℕ) (key : String Global) (x : X) (old new : List Token) (before after : List (String Global × X))
    → own ≡ name → string_bytes key ≡ name → IsTaken (f own) levels old x new → P x → after ≡ insert_entry string_cmp before key x
    → (depth : ℕ) → levels ≤ depth → (d : Data) × (converted of_json (value depth old) ≡ Some (d, new)) × ((ms : Members) → AreNamed f P ms before → AreNamed f P (put name d ms) after)
named_member f P levels name own key x old new before after own_is key_is one good inserted depth enough =
    let read = converted_some (f own) (converted of_json (value depth old)) x new (one depth enough) in
    let gives : f (string_bytes key) read.0 ≡ Some x = subst (λ n. f n read.0 ≡ Some x) (own_is ∙ sym key_is) read.2 in (
      read.0,
      read.1,
      λ ms kept. subst (λ n. AreNamed f P (put n read.0 ms) after) key_is
          (subst (λ es. AreNamed f P (put (string_bytes key) read.0 ms) es) (sym inserted) (named_put f P key read.0 x ms before gives good kept)),
    )

-- ---- the members of files, tables and documents

member_by : {K X : Type 0} (P : Members → K → Type 0) (levels l : ℕ) (f : Data → Option X) (x : X) (name k : List ℕ) (old new : List Token) (before after : K) → bytes_eq name k ≡ true → l ≤ levels → IsTaken f l old x new
    → ((d : Data) → f d ≡ Some x → (ms : Members) → P ms before → P (put k d ms) after) → MemberTaken P levels name old new before after
member_by P levels l f x name k old new before after is fewer one step = λ depth enough.
    let fits : l ≤ depth = omega arith in
    let read = converted_some f (converted of_json (value depth old)) x new (one depth fits) in
    (read.0, read.1, λ ms kept. subst (λ n. P (put n read.0 ms) after) (sym (same_name name k is)) (step read.0 read.2 ms kept))

abbrev pub hex_by : List ℕ → HexParts
hex_by bytes = record { content = Some bytes }

pub hex_member : (name : List ℕ) (old new : List Token) (before : HexParts) (bytes : List ℕ) → bytes_eq name (codes "hex") ≡ true → IsTaken hex_of 0 old bytes new → MemberTaken AreHexParts 0 name old new before (hex_by bytes)
hex_member name old new before bytes is one =
    let k = codes "hex" in
    member_by AreHexParts 0 0 hex_of bytes name k old new before (hex_by bytes) is (omega arith) one (λ d e ms kept. record {
      only = only_put (codes "hex" ∷ []) k d ms refl kept.only;
      content = this_part hex_of k d ms bytes e;
    })

pub hex_given : (old new : List Token) (before after : HexParts) (bytes : List ℕ) → AreHexParts no_members before → MembersTaken AreHexParts 0 old new before after → after.content ≡ Some bytes
    → MembersGive content_in 0 old bytes new
hex_given old new before after bytes none all is = λ depth enough.
    let read = all depth enough no_members none in
    let kept : AreHexParts read.0 after = read.2 in
    let gives : required_member hex_of (get_member (codes "hex") read.0) ≡ Some bytes = subst (λ (o : Option (List ℕ)). IsPart hex_of (get_member (codes "hex") read.0) o) is kept.content in
    (read.0, read.1, rw kept.only gives)

module _ (name : List ℕ) (old new : List Token) (before : TableParts) where
  pub columns_member : (xs : List Column) → bytes_eq name (codes "columns") ≡ true → IsTaken (array_of column_of) 2 old xs new → AllByRecursion TypedColumn xs
      → MemberTaken AreTableParts 3 name old new before (record before { columns = Some xs })
  columns_member xs is one typed =
      let k = codes "columns" in
      member_by AreTableParts 3 2 (array_of column_of) xs name k old new before (record before { columns = Some xs }) is (omega arith) one (λ d e ms kept. record {
        only = only_put table_members k d ms refl kept.only;
        columns = this_part (array_of column_of) k d ms xs e;
        key = other_part (array_of as_str) (codes "key") k d ms before.key refl kept.key;
        foreign = other_part (array_of foreign_of) (codes "foreign") k d ms before.foreign refl kept.foreign;
        rows = other_part (array_of (array_of cell_of)) (codes "rows") k d ms before.rows refl kept.rows;
        next = other_part whole_of (codes "next") k d ms before.next refl kept.next;
        typed_columns = typed;
        typed_foreign = kept.typed_foreign;
        typed_rows = kept.typed_rows;
      })

  pub key_member : (xs : List (List ℕ)) → bytes_eq name (codes "key") ≡ true → IsTaken (array_of as_str) 1 old xs new → MemberTaken AreTableParts 3 name old new before (record before { key = Some xs })
  key_member xs is one =
      let k = codes "key" in
      member_by AreTableParts 3 1 (array_of as_str) xs name k old new before (record before { key = Some xs }) is (omega arith) one (λ d e ms kept. record {
        only = only_put table_members k d ms refl kept.only;
        columns = other_part (array_of column_of) (codes "columns") k d ms before.columns refl kept.columns;
        key = this_part (array_of as_str) k d ms xs e;
        foreign = other_part (array_of foreign_of) (codes "foreign") k d ms before.foreign refl kept.foreign;
        rows = other_part (array_of (array_of cell_of)) (codes "rows") k d ms before.rows refl kept.rows;
        next = other_part whole_of (codes "next") k d ms before.next refl kept.next;
        typed_columns = kept.typed_columns;
        typed_foreign = kept.typed_foreign;
        typed_rows = kept.typed_rows;
      })

  pub foreign_member : (xs : List DraftForeign) → bytes_eq name (codes "foreign") ≡ true → IsTaken (array_of foreign_of) 3 old xs new → AllByRecursion TypedDraftForeign xs
      → MemberTaken AreTableParts 3 name old new before (record before { foreign = Some xs })
  foreign_member xs is one typed =
      let k = codes "foreign" in
      member_by AreTableParts 3 3 (array_of foreign_of) xs name k old new before (record before { foreign = Some xs }) is (omega arith) one (λ d e ms kept. record {
        only = only_put table_members k d ms refl kept.only;
        columns = other_part (array_of column_of) (codes "columns") k d ms before.columns refl kept.columns;
        key = other_part (array_of as_str) (codes "key") k d ms before.key refl kept.key;
        foreign = this_part (array_of foreign_of) k d ms xs e;
        rows = other_part (array_of (array_of cell_of)) (codes "rows") k d ms before.rows refl kept.rows;
        next = other_part whole_of (codes "next") k d ms before.next refl kept.next;
        typed_columns = kept.typed_columns;
        typed_foreign = typed;
        typed_rows = kept.typed_rows;
      })

  pub rows_member : (xs : List (List Value)) → bytes_eq name (codes "rows") ≡ true → IsTaken (array_of (array_of cell_of)) 2 old xs new → AllByRecursion TypedValues xs
      → MemberTaken AreTableParts 3 name old new before (record before { rows = Some xs })
  rows_member xs is one typed =
      let k = codes "rows" in
      member_by AreTableParts 3 2 (array_of (array_of cell_of)) xs name k old new before (record before { rows = Some xs }) is (omega arith) one (λ d e ms kept. record {
        only = only_put table_members k d ms refl kept.only;
        columns = other_part (array_of column_of) (codes "columns") k d ms before.columns refl kept.columns;
        key = other_part (array_of as_str) (codes "key") k d ms before.key refl kept.key;
        foreign = other_part (array_of foreign_of) (codes "foreign") k d ms before.foreign refl kept.foreign;
        rows = this_part (array_of (array_of cell_of)) k d ms xs e;
        next = other_part whole_of (codes "next") k d ms before.next refl kept.next;
        typed_columns = kept.typed_columns;
        typed_foreign = kept.typed_foreign;
        typed_rows = typed;
      })

  pub next_member : (n : ℕ) → bytes_eq name (codes "next") ≡ true → IsTaken whole_of 0 old n new → MemberTaken AreTableParts 3 name old new before (record before { next = Some n })
  next_member n is one =
      let k = codes "next" in
      member_by AreTableParts 3 0 whole_of n name k old new before (record before { next = Some n }) is (omega arith) one (λ d e ms kept. record {
        only = only_put table_members k d ms refl kept.only;
        columns = other_part (array_of column_of) (codes "columns") k d ms before.columns refl kept.columns;
        key = other_part (array_of as_str) (codes "key") k d ms before.key refl kept.key;
        foreign = other_part (array_of foreign_of) (codes "foreign") k d ms before.foreign refl kept.foreign;
        rows = other_part (array_of (array_of cell_of)) (codes "rows") k d ms before.rows refl kept.rows;
        next = this_part whole_of k d ms n e;
        typed_columns = kept.typed_columns;
        typed_foreign = kept.typed_foreign;
        typed_rows = kept.typed_rows;
      })

module _ (name : List ℕ) (old new : List Token) (before : DocumentParts) where
  pub start_member : (xs : List (List ℕ)) → bytes_eq name (codes "start") ≡ true → IsTaken (array_of as_str) 1 old xs new → AllByRecursion IsUtf8 xs
      → MemberTaken AreDocumentParts 5 name old new before (record before { start = Some xs })
  start_member xs is one typed =
      let k = codes "start" in
      member_by AreDocumentParts 5 1 (array_of as_str) xs name k old new before (record before { start = Some xs }) is (omega arith) one (λ d e ms kept. record {
        only = only_put document_members k d ms refl kept.only;
        start = this_part (array_of as_str) k d ms xs e;
        seed = other_part whole_of (codes "seed") k d ms before.seed refl kept.seed;
        files = other_part (object_of file_of) (codes "files") k d ms before.files refl kept.files;
        tables = other_part (object_of table_of) (codes "tables") k d ms before.tables refl kept.tables;
        typed_start = typed;
        typed_files = kept.typed_files;
        typed_tables = kept.typed_tables;
      })

  pub seed_member : (n : ℕ) → bytes_eq name (codes "seed") ≡ true → IsTaken whole_of 0 old n new → MemberTaken AreDocumentParts 5 name old new before (record before { seed = Some n })
  seed_member n is one =
      let k = codes "seed" in
      member_by AreDocumentParts 5 0 whole_of n name k old new before (record before { seed = Some n }) is (omega arith) one (λ d e ms kept. record {
        only = only_put document_members k d ms refl kept.only;
        start = other_part (array_of as_str) (codes "start") k d ms before.start refl kept.start;
        seed = this_part whole_of k d ms n e;
        files = other_part (object_of file_of) (codes "files") k d ms before.files refl kept.files;
        tables = other_part (object_of table_of) (codes "tables") k d ms before.tables refl kept.tables;
        typed_start = kept.typed_start;
        typed_files = kept.typed_files;
        typed_tables = kept.typed_tables;
      })

  pub files_member : (xs : List File) → bytes_eq name (codes "files") ≡ true → IsTaken (object_of file_of) 2 old xs new → AllByRecursion TypedDocumentFile xs
      → MemberTaken AreDocumentParts 5 name old new before (record before { files = Some xs })
  files_member xs is one typed =
      let k = codes "files" in
      member_by AreDocumentParts 5 2 (object_of file_of) xs name k old new before (record before { files = Some xs }) is (omega arith) one (λ d e ms kept. record {
        only = only_put document_members k d ms refl kept.only;
        start = other_part (array_of as_str) (codes "start") k d ms before.start refl kept.start;
        seed = other_part whole_of (codes "seed") k d ms before.seed refl kept.seed;
        files = this_part (object_of file_of) k d ms xs e;
        tables = other_part (object_of table_of) (codes "tables") k d ms before.tables refl kept.tables;
        typed_start = kept.typed_start;
        typed_files = typed;
        typed_tables = kept.typed_tables;
      })

  pub tables_member : (xs : List Draft) → bytes_eq name (codes "tables") ≡ true → IsTaken (object_of table_of) 5 old xs new → AllByRecursion TypedDraft xs
      → MemberTaken AreDocumentParts 5 name old new before (record before { tables = Some xs })
  tables_member xs is one typed =
      let k = codes "tables" in
      member_by AreDocumentParts 5 5 (object_of table_of) xs name k old new before (record before { tables = Some xs }) is (omega arith) one (λ d e ms kept. record {
        only = only_put document_members k d ms refl kept.only;
        start = other_part (array_of as_str) (codes "start") k d ms before.start refl kept.start;
        seed = other_part whole_of (codes "seed") k d ms before.seed refl kept.seed;
        files = other_part (object_of file_of) (codes "files") k d ms before.files refl kept.files;
        tables = this_part (object_of table_of) k d ms xs e;
        typed_start = kept.typed_start;
        typed_files = kept.typed_files;
        typed_tables = typed;
      })

pub ruleset table_members_taken = (columns_member, key_member, foreign_member, rows_member, next_member)

pub ruleset document_members_taken = (start_member, seed_member, files_member, tables_member)
