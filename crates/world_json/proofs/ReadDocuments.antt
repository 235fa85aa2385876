-- Facts about every document that is read: its files are sorted by path, its tables by name, since each
-- member of an object is inserted at its place; and the rows of a table are as wide as it.
use Rattle.std.proofs.Common.{◌≡◌, ℕ, List, [], ◌∷◌, map, length, codes, Bool, true, false, if◌then◌else◌, Option, Some, None, option_map, option_and_then, Ok, Ordering, Less, Equal, Greater, refl, sym, ap, ◌∙◌, subst}
use Rattle.std.proofs.lemmas.Cmp.{nat_list_cmp_total}
use Rattle.std.specs.List.{AllByRecursion}
use Rattle.std.specs.Ordering.{nat_cmp, is_lt, match_ordering, ordering_reverse}
use Rattle.std.specs.Cmp.Lexicographic.{slice_cmp}
use Rattle.std.specs.Str.{is_utf8}
use Rattle.json.specs.Json as json
use Rattle.json.specs.Lex.{tokens}
use Rattle.serde_json.specs.Data.{Data, null, boolean, number, string, array, object, Items, no_items, item, Members, no_members, member, put}
use Rattle.serde_json.specs.Find.{get_member, as_object, as_str}
use Rattle.serde_json.specs.Read.{number_of, of_json, of_items, of_members, max_depth, read}
use Rattle.ldv_value.proofs.Booleans.{and-parts, and-from}
use Rattle.ldv_value.proofs.Lists.{sorted-under}
use Rattle.ldv_value.specs.FileState.{file_precedes}
use Rattle.ldv_value.specs.Sorted.{precedes_first, is_strictly_sorted, text_precedes}
use Rattle.ldv_value.specs.declared.file.File.{File}
use Rattle.sql_model.specs.Tables.{table_precedes}
use Rattle.ldv_value.specs.declared.value.Value.{Value}
use Rattle.sql_model.specs.declared.table.Column.{Column}
use Rattle.run_model.specs.declared.world.World.{World}
use Rattle.world_json.specs.declared.document.Document.{Document}
use Rattle.world_json.specs.declared.document.Draft.{Draft}
use Rattle.world_json.specs.declared.document.DraftForeign.{DraftForeign}
use Rattle.world_json.specs.Shape.{◌>>=◌, each_member, array_of, object_of, only, required_member, optional_member, whole_of, content_of, file_of, cell_of, column_of, foreign_of, draft_of, is_width, table_from, table_in, table_of, table_members, document_as, document_from, document_in, document_of, document_members}
use Rattle.json_bytes.specs.Reading.{json_of}
use Rattle.world_json.specs.Reading.{table_as, world_as, reading_of_document, reading_of_json, world_reading}
use Rattle.world_json.specs.SortedWorld.{is_sorted_world}
use Rattle.world_json.proofs.Readings.{IsWorldOf, document_passes}
use Rattle.world_json.proofs.Columns.{table_name}

-- ---- what holds of a value, where there is one

abbrev Holds : {A : Type 0} → (A → Type 0) → Option A → Type 0
Holds P None = Unit {0}
Holds P (Some a) = P a

abbrev Any : {A : Type 0} → A → Type 0
Any a = Unit {0}

holds_any : {A : Type 0} (o : Option A) → Holds Any o
holds_any None = tt
holds_any (Some a) = tt

holds_weaker : {A : Type 0} (P Q : A → Type 0) → ((a : A) → P a → Q a) → (o : Option A) → Holds P o → Holds Q o
holds_weaker P Q k None h = tt
holds_weaker P Q k (Some a) h = k a h

holds_map : {A B : Type 0} (P : A → Type 0) (Q : B → Type 0) (f : A → B) → ((a : A) → P a → Q (f a)) → (o : Option A) → Holds P o → Holds Q (option_map f o)
holds_map P Q f k None h = tt
holds_map P Q f k (Some a) h = k a h

holds_and_then : {A B : Type 0} (P : A → Type 0) (Q : B → Type 0) (f : A → Option B) → ((a : A) → P a → Holds Q (f a)) → (o : Option A) → Holds P o → Holds Q (option_and_then f o)
holds_and_then P Q f k None h = tt
holds_and_then P Q f k (Some a) h = k a h

holds_then : {A B : Type 0} (P : A → Type 0) (Q : B → Type 0) (f : A → Option B) → ((a : A) → P a → Holds Q (f a)) → (o : Option A) → Holds P o → Holds Q (o >>= f)
holds_then P Q f k None h = tt
holds_then P Q f k (Some a) h = k a h

holds_if : {A : Type 0} (P : A → Type 0) (b : Bool) (o : Option A) → Holds P o → Holds P (if b then o else None)
holds_if P true o h = h
holds_if P false o h = tt

holds_when : {A : Type 0} (P : A → Type 0) (b : Bool) (a : A) → (b ≡ true → P a) → Holds P (if b then Some a else None)
holds_when P true a met = met refl
holds_when P false a met = tt

-- ---- the members of an object are sorted

abbrev are_sorted : List (List ℕ) → Bool
are_sorted = is_strictly_sorted text_precedes

abbrev names_of : Members → List (List ℕ)
names_of no_members = []
names_of (member k d ms) = k ∷ names_of ms

precedes_put_at : (o : Ordering) (j k l : List ℕ) (d e : Data) (ms : Members) → is_lt (slice_cmp nat_cmp j l) ≡ true → is_lt (slice_cmp nat_cmp j k) ≡ true
    → precedes_first text_precedes j (names_of (match_ordering o (member k d (member l e ms)) (member l d ms) (member l e (put k d ms)))) ≡ true
precedes_put_at Less j k l d e ms first below = below
precedes_put_at Equal j k l d e ms first below = first
precedes_put_at Greater j k l d e ms first below = first

precedes_put : (j k : List ℕ) (d : Data) (ms : Members) → precedes_first text_precedes j (names_of ms) ≡ true → is_lt (slice_cmp nat_cmp j k) ≡ true → precedes_first text_precedes j (names_of (put k d ms)) ≡ true
precedes_put j k d no_members first below = below
precedes_put j k d (member l e ms) first below = precedes_put_at (slice_cmp nat_cmp k l) j k l d e ms first below

put_sorted_at : (o : Ordering) (k l : List ℕ) (d e : Data) (ms : Members) → slice_cmp nat_cmp k l ≡ o → precedes_first text_precedes l (names_of ms) ≡ true → are_sorted (names_of ms) ≡ true
    → are_sorted (names_of (put k d ms)) ≡ true → are_sorted (names_of (match_ordering o (member k d (member l e ms)) (member l d ms) (member l e (put k d ms)))) ≡ true
put_sorted_at Less k l d e ms is below rest later = and-from _ _ (ap is_lt is) (and-from _ _ below rest)
put_sorted_at Equal k l d e ms is below rest later = and-from _ _ below rest
put_sorted_at Greater k l d e ms is below rest later =
    and-from _ _ (precedes_put l k d ms below (ap is_lt (nat_list_cmp_total.antisymm l k ∙ ap ordering_reverse is))) later

put_sorted : (k : List ℕ) (d : Data) (ms : Members) → are_sorted (names_of ms) ≡ true → are_sorted (names_of (put k d ms)) ≡ true
put_sorted k d no_members h = refl
put_sorted k d (member l e ms) h =
    let parts = and-parts (precedes_first text_precedes l (names_of ms)) (are_sorted (names_of ms)) h in
    put_sorted_at _ k l d e ms refl parts.0 parts.1 (put_sorted k d ms parts.1)

-- each object inside is sorted
abbrev mutual
  AllSorted : Data → Type 0
  AllSorted null = Unit {0}
  AllSorted (boolean b) = Unit {0}
  AllSorted (number n) = Unit {0}
  AllSorted (string s) = Unit {0}
  AllSorted (array ds) = ItemsSorted ds
  AllSorted (object ms) = (are_sorted (names_of ms) ≡ true) × MembersSorted ms

  ItemsSorted : Items → Type 0
  ItemsSorted no_items = Unit {0}
  ItemsSorted (item d ds) = AllSorted d × ItemsSorted ds

  MembersSorted : Members → Type 0
  MembersSorted no_members = Unit {0}
  MembersSorted (member k d ms) = AllSorted d × MembersSorted ms

abbrev Sorted : Members → Type 0
Sorted ms = (are_sorted (names_of ms) ≡ true) × MembersSorted ms

put_inside_at : (o : Ordering) (k l : List ℕ) (d e : Data) (ms : Members) → AllSorted d → AllSorted e → MembersSorted ms → MembersSorted (put k d ms)
    → MembersSorted (match_ordering o (member k d (member l e ms)) (member l d ms) (member l e (put k d ms)))
put_inside_at Less k l d e ms one other rest later = (one, (other, rest))
put_inside_at Equal k l d e ms one other rest later = (one, rest)
put_inside_at Greater k l d e ms one other rest later = (other, later)

put_inside : (k : List ℕ) (d : Data) (ms : Members) → AllSorted d → MembersSorted ms → MembersSorted (put k d ms)
put_inside k d no_members one rest = (one, tt)
put_inside k d (member l e ms) one rest = put_inside_at (slice_cmp nat_cmp k l) k l d e ms one rest.0 rest.1 (put_inside k d ms one rest.1)

mutual
  of_json_sorted : (j : json.Json) → Holds AllSorted (of_json j)
  of_json_sorted json.null = tt
  of_json_sorted (json.boolean b) = tt
  of_json_sorted (json.number s) = holds_map Any AllSorted number (λ a h. tt) (number_of s) (holds_any _)
  of_json_sorted (json.string s) = tt
  of_json_sorted (json.array js) = holds_map ItemsSorted AllSorted array (λ ds h. h) _ (of_items_sorted js)
  of_json_sorted (json.object ms) = holds_map Sorted AllSorted object (λ found h. h) _ (of_members_sorted ms no_members (refl, tt))

  of_items_sorted : (js : json.Items) → Holds ItemsSorted (of_items js)
  of_items_sorted json.no_items = tt
  of_items_sorted (json.item j js) = holds_and_then AllSorted ItemsSorted _ (λ d one. holds_map ItemsSorted ItemsSorted (item d) (λ ds rest. (one, rest)) _ (of_items_sorted js)) _ (of_json_sorted j)

  of_members_sorted : (ms : json.Members) (found : Members) → Sorted found → Holds Sorted (of_members ms found)
  of_members_sorted json.no_members found h = h
  of_members_sorted (json.member k j ms) found h =
      holds_and_then AllSorted Sorted _ (λ d one. of_members_sorted ms (put k d found) (put_sorted k d found h.0, put_inside k d found one h.1)) _ (of_json_sorted j)

read_sorted : (text : List ℕ) → Holds AllSorted (read text)
read_sorted text =
    let parsed_text : Option json.Json = option_and_then (λ p. json.if_last p.0 p.1) (json.value max_depth (tokens text)) in
    holds_and_then Any AllSorted of_json (λ j h. of_json_sorted j) parsed_text (holds_any parsed_text)

-- ---- what is read of members has their names, and so is sorted as they are

members_sorted : (d : Data) → AllSorted d → Holds Sorted (as_object d)
members_sorted null h = tt
members_sorted (boolean b) h = tt
members_sorted (number n) h = tt
members_sorted (string s) h = tt
members_sorted (array ds) h = tt
members_sorted (object ms) h = h

member_at : (o : Ordering) (e : Data) (found : Option Data) → AllSorted e → Holds AllSorted found → Holds AllSorted (match_ordering o found (Some e) found)
member_at Less e found one rest = rest
member_at Equal e found one rest = one
member_at Greater e found one rest = rest

member_sorted : (k : List ℕ) (ms : Members) → MembersSorted ms → Holds AllSorted (get_member k ms)
member_sorted k no_members h = tt
member_sorted k (member l e ms) h = member_at (slice_cmp nat_cmp k l) e (get_member k ms) h.0 (member_sorted k ms h.1)

-- P holds of each thing that is read
module _ {X : Type 0} (f : List ℕ → Data → Option X) (name : X → List ℕ) (P : X → Type 0) (keeps : (k : List ℕ) (d : Data) → Holds (λ x. (name x ≡ k) × P x) (f k d)) where
  abbrev AreOf : List (List ℕ) → List X → Type 0
  AreOf names xs = (map name xs ≡ names) × AllByRecursion P xs

  abbrev AreRead : List X → Type 0
  AreRead xs = (is_strictly_sorted (λ a b. text_precedes (name a) (name b)) xs ≡ true) × AllByRecursion P xs

  each_read : (ms : Members) → Holds (AreOf (names_of ms)) (each_member f ms)
  each_read no_members = (refl, tt)
  each_read (member k d ms) =
      holds_then (λ x. (name x ≡ k) × P x) (AreOf (k ∷ names_of ms)) (λ x. each_member f ms >>= λ xs. Some (x ∷ xs))
      (λ x one. holds_then (AreOf (names_of ms)) (AreOf (k ∷ names_of ms)) (λ xs. Some (x ∷ xs))
      (λ xs more. ((λ i. one.0 i ∷ more.0 i), (one.1, more.1))) (each_member f ms) (each_read ms))
      (f k d) (keeps k d)

  object_read : (d : Data) → AllSorted d → Holds AreRead (object_of f d)
  object_read d h = holds_then Sorted AreRead (each_member f)
      (λ ms sorted. holds_weaker (AreOf (names_of ms)) AreRead (λ xs are. (sym (sorted-under text_precedes name xs) ∙ ap are_sorted are.0 ∙ sorted.0, are.1)) (each_member f ms) (each_read ms))
      (as_object d) (members_sorted d h)

  required_read : (o : Option Data) → Holds AllSorted o → Holds AreRead (required_member (object_of f) o)
  required_read None h = tt
  required_read (Some d) h = object_read d h

  optional_read : (o : Option Data) → Holds AllSorted o → Holds AreRead (optional_member (object_of f) [] o)
  optional_read None h = (refl, tt)
  optional_read (Some d) h = object_read d h

-- ---- files and tables

abbrev path_of : File → List ℕ
path_of file = file.path

file_read : (path : List ℕ) (d : Data) → Holds (λ (file : File). (file.path ≡ path) × Any file) (file_of path d)
file_read path d = holds_then Any (λ (file : File). (file.path ≡ path) × Any file) (λ content. Some (record { path = path; content = content })) (λ content h. (refl, tt)) (content_of d) (holds_any (content_of d))

-- rows as wide as their table
abbrev pub IsWide : Draft → Type 0
IsWide table = is_width (length table.columns) table.rows ≡ true

abbrev IsTable : List ℕ → Draft → Type 0
IsTable name table = (table.name ≡ name) × IsWide table

-- the steps of a table, each with those before it
abbrev by_next : List ℕ → List Column → List (List ℕ) → List DraftForeign → List (List Value) → ℕ → Option Draft
by_next name columns key foreign rows next =
    if is_width (length columns) rows then Some (draft_of name columns key foreign rows next) else None

abbrev by_rows : List ℕ → Option Data → List Column → List (List ℕ) → List DraftForeign → List (List Value) → Option Draft
by_rows name next columns key foreign rows = optional_member whole_of (length rows) next >>= by_next name columns key foreign rows

abbrev by_foreign : List ℕ → Option Data → Option Data → List Column → List (List ℕ) → List DraftForeign → Option Draft
by_foreign name rows next columns key foreign =
    optional_member (array_of (array_of cell_of)) [] rows >>= by_rows name next columns key foreign

abbrev by_key : List ℕ → Option Data → Option Data → Option Data → List Column → List (List ℕ) → Option Draft
by_key name foreign rows next columns key =
    optional_member (array_of foreign_of) [] foreign >>= by_foreign name rows next columns key

abbrev by_columns : List ℕ → Option Data → Option Data → Option Data → Option Data → List Column → Option Draft
by_columns name key foreign rows next columns =
    optional_member (array_of as_str) [] key >>= by_key name foreign rows next columns

table_from_read : (name : List ℕ) (columns key foreign rows next : Option Data) → Holds (IsTable name) (table_from name columns key foreign rows next)
table_from_read name columns key foreign rows next =
    let column_list = required_member (array_of column_of) columns in
    let key_list = optional_member (array_of as_str) [] key in
    let foreign_list = optional_member (array_of foreign_of) [] foreign in
    let row_list = optional_member (array_of (array_of cell_of)) [] rows in
    holds_then Any (IsTable name) (by_columns name key foreign rows next)
    (λ columns h. holds_then Any (IsTable name) (by_key name foreign rows next columns)
    (λ key h. holds_then Any (IsTable name) (by_foreign name rows next columns key)
    (λ foreign h. holds_then Any (IsTable name) (by_rows name next columns key foreign)
    (λ rows h. holds_then Any (IsTable name) (by_next name columns key foreign rows)
    (λ number h. holds_when (IsTable name) (is_width (length columns) rows) (draft_of name columns key foreign rows number) (λ wide. (refl, wide)))
    (optional_member whole_of (length rows) next) (holds_any (optional_member whole_of (length rows) next)))
    row_list (holds_any row_list))
    foreign_list (holds_any foreign_list))
    key_list (holds_any key_list))
    column_list (holds_any column_list)

table_read : (name : List ℕ) (d : Data) → Holds (IsTable name) (table_of name d)
table_read name d = holds_then Any (IsTable name) (table_in name)
    (λ ms h. holds_if (IsTable name) (only table_members ms) (table_from name (get_member (codes "columns") ms) (get_member (codes "key") ms) (get_member (codes "foreign") ms) (get_member (codes "rows") ms) (get_member (codes "next") ms))
    (table_from_read name (get_member (codes "columns") ms) (get_member (codes "key") ms) (get_member (codes "foreign") ms) (get_member (codes "rows") ms) (get_member (codes "next") ms)))
    (as_object d) (holds_any (as_object d))

-- ---- the document

pub record IsDocument (doc : Document) : Type 0 where
  pub files : is_strictly_sorted file_precedes doc.files ≡ true
  pub tables : is_strictly_sorted (λ (a b : Draft). text_precedes a.name b.name) doc.tables ≡ true
  pub wide : AllByRecursion IsWide doc.tables

-- the steps of a document, each with those before it
abbrev by_files : List (List ℕ) → ℕ → Option Data → List File → Option Document
by_files start seed tables files = optional_member (object_of table_of) [] tables >>= λ tables. Some (document_as start seed files tables)

abbrev by_seed : Option Data → Option Data → List (List ℕ) → ℕ → Option Document
by_seed files tables start seed = required_member (object_of file_of) files >>= by_files start seed tables

abbrev by_start : Option Data → Option Data → Option Data → List (List ℕ) → Option Document
by_start seed files tables start = optional_member whole_of 0 seed >>= by_seed files tables start

document_from_read : (start seed files tables : Option Data) → Holds AllSorted files → Holds AllSorted tables → Holds IsDocument (document_from start seed files tables)
document_from_read start seed files tables fs ts =
    let word_list = required_member (array_of as_str) start in
    let number = optional_member whole_of 0 seed in
    holds_then Any IsDocument (by_start seed files tables)
    (λ start h. holds_then Any IsDocument (by_seed files tables start)
    (λ seed h. holds_then (AreRead file_of path_of Any file_read) IsDocument (by_files start seed tables)
    (λ files f. holds_then (AreRead table_of table_name IsWide table_read) IsDocument (λ tables. Some (document_as start seed files tables)) (λ tables t. record { files = f.0; tables = t.0; wide = t.1 })
    (optional_member (object_of table_of) [] tables) (optional_read table_of table_name IsWide table_read tables ts))
    (required_member (object_of file_of) files) (required_read file_of path_of Any file_read files fs))
    number (holds_any number))
    word_list (holds_any word_list)

document_read : (d : Data) → AllSorted d → Holds IsDocument (document_of d)
document_read d h = holds_then Sorted IsDocument document_in
    (λ ms sorted. holds_if IsDocument (only document_members ms)
    (document_from (get_member (codes "start") ms) (get_member (codes "seed") ms) (get_member (codes "files") ms) (get_member (codes "tables") ms))
    (document_from_read (get_member (codes "start") ms) (get_member (codes "seed") ms) (get_member (codes "files") ms) (get_member (codes "tables") ms) (member_sorted (codes "files") ms sorted.1) (member_sorted (codes "tables") ms sorted.1)))
    (as_object d) (members_sorted d h)

-- ---- the world

-- the document of a world, of which no fault holds
abbrev pub DocumentOf : World → Type 0
DocumentOf world = (doc : Document) × IsWorldOf doc world × IsDocument doc

shaped_read : (o : Option Document) (world : World) → Holds IsDocument o → reading_of_document o ≡ Ok world → DocumentOf world
shaped_read None world h is = cc
shaped_read (Some doc) world h is = (doc, document_passes doc world is, h)

parsed_read : (o : Option Data) (world : World) → Holds AllSorted o → reading_of_json o ≡ Ok world → DocumentOf world
parsed_read None world h is = cc
parsed_read (Some d) world h is = shaped_read (document_of d) world (document_read d h) is

pub world_read : (bytes : List ℕ) (world : World) → world_reading bytes ≡ Ok world → DocumentOf world
world_read bytes world is = parsed_read (json_of bytes) world (holds_if AllSorted (is_utf8 bytes) (read bytes) (read_sorted bytes)) is

pub world_sorted : (bytes : List ℕ) (world : World) → world_reading bytes ≡ Ok world → is_sorted_world world ≡ true
world_sorted bytes world is =
    let found = world_read bytes world is in
    let doc : Document = found.0 in
    let tables : is_strictly_sorted table_precedes (world_as doc).tables ≡ true = sorted-under table_precedes table_as doc.tables ∙ found.2.tables in
    subst (λ (w : World). is_sorted_world w ≡ true) found.1.world_is (and-from _ _ found.2.files tables)
