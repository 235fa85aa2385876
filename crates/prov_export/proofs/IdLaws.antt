-- Reading the id of a node gives that node.
use Rattle.std.proofs.Common.{◌≡◌, ℕ, ◌+◌, ◌-◌, ◌*◌, ◌/◌, ◌%◌, ◌^◌, ◌<◌, ◌≤◌, List, [], ◌∷◌, ◌++◌, length, take, drop, refl, sym, ap, ◌∙◌, Bool, true, false, cond, IsTrue, arith}
use Rattle.std.specs.Prelude.{Option, Some, None, option_map, option_and_then, not, ◌&&◌, ◌==◌, nat_le, nat_lt, position}
use Rattle.std.specs.List.{list_all, position_or_len}
use Rattle.std.specs.Str.{IsUtf8}
use Rattle.std.specs.Fmt.{decimal}
use Rattle.std.proofs.Math.Seq.{take-append_seam, drop-append-add}
use Rattle.std.proofs.lemmas.Bool.{and_parts, and_from, le-leb, lt-ltb, ne_eqb}
use Rattle.std.proofs.lemmas.Fmt.{decimal_by_steps}
use Rattle.std.proofs.lemmas.List.{length-append}
use Rattle.ldv_value.proofs.TextTests.{is_text}
use Rattle.ldv_value.specs.Names.{is_word_start, is_word_byte, word_test}
use Rattle.ldv_value.proofs.Booleans.{not-true}
use Rattle.ldv_value.specs.Texts.{text_of}
use Rattle.sql_model.specs.SqlNames.{is_reserved, sql_name_test}
use Rattle.prov_export.specs.Types.{Member, Path, Process, Row, Ask, Reply}
use Rattle.prov_export.specs.Ids.{member_id, with_digit, with_digits, number_in, is_slash, cut_at, parts_at_slash}
use Rattle.prov_export.specs.Ids.{version_from, version_in, row_of, row_from, row_in}
use Rattle.prov_export.proofs.Written.{IdLaw}

-- ---- numbers

more_digits : (n : ℕ) (xs ys : List ℕ) (m : ℕ) → with_digits n xs ≡ Some m → with_digits n (xs ++ ys) ≡ with_digits m ys
more_digits n [] ys m is = let same : n ≡ m = cc in ap (λ k. with_digits k ys) same
more_digits n (x ∷ xs) ys m is = by (with_digit n x) is (λ k. more_digits k xs ys m)
  where
    by : (o : Option ℕ) → option_and_then (λ k. with_digits k xs) o ≡ Some m
        → ((k : ℕ) → with_digits k xs ≡ Some m → with_digits k (xs ++ ys) ≡ with_digits m ys)
        → option_and_then (λ k. with_digits k (xs ++ ys)) o ≡ with_digits m ys
    by None is more = cc
    by (Some k) is more = more k is

one_digit : (n d m : ℕ) → d < 10 → m ≡ n * 10 + d → m ≤ 4294967295 → with_digit n (48 + d) ≡ Some m
one_digit n d m small same within =
    let low : nat_le 48 (48 + d) ≡ true = le-leb 48 (48 + d) (omega arith) in
    let high : nat_le (48 + d) 57 ≡ true = le-leb (48 + d) 57 (omega arith) in
    let value : n * 10 + (48 + d - 48) ≡ m = omega arith in
    let fits : nat_le (n * 10 + (48 + d - 48)) 4294967295 ≡ true = le-leb (n * 10 + (48 + d - 48)) 4294967295 (omega arith) in
    rw (low, high, fits) (ap Some value)

abbrev ReadsDigits : ℕ → List ℕ → Type 0
ReadsDigits n ds = n ≤ 4294967295 → with_digits 0 ds ≡ Some n

reads_one : (n : ℕ) → n < 10 → ReadsDigits n ((48 + n) ∷ [])
reads_one n small within = ap (option_and_then (λ (k : ℕ). with_digits k [])) (one_digit 0 n n small (omega arith) within)

reads_more : (n : ℕ) (ds : List ℕ) → 10 ≤ n → ReadsDigits (n / 10) ds → ReadsDigits n (ds ++ ((48 + n % 10) ∷ []))
reads_more n ds large front within =
    let first : with_digits 0 ds ≡ Some (n / 10) = front (omega arith) in
    more_digits 0 ds ((48 + n % 10) ∷ []) (n / 10) first
    ∙ ap (option_and_then (λ (k : ℕ). with_digits k [])) (one_digit (n / 10) (n % 10) n (omega arith) (omega arith) within)

pub number_back : (n : ℕ) → n < 2 ^ 32 → number_in (decimal n) ≡ Some n
number_back n small = decimal_by_steps ReadsDigits reads_one reads_more n (omega arith) (omega arith)

-- ---- digits and names have no slash

abbrev is_plain : ℕ → Bool
is_plain c = not (c == 47)

abbrev HasNoSlash : List ℕ → Type 0
HasNoSlash xs = list_all is_plain xs ≡ true

not_slash : (c : ℕ) → (c ≡ 47 → ⊥) → is_plain c ≡ true
not_slash c other = ap not (ne_eqb c 47 other)

plain_append : (xs ys : List ℕ) → HasNoSlash xs → HasNoSlash ys → HasNoSlash (xs ++ ys)
plain_append [] ys px py = py
plain_append (x ∷ xs) ys px py =
    let parts = and_parts (is_plain x) (list_all is_plain xs) px in
    and_from (is_plain x) (list_all is_plain (xs ++ ys)) parts.0 (plain_append xs ys parts.1 py)

digits_plain : (n : ℕ) → n < 2 ^ 32 → HasNoSlash (decimal n)
digits_plain n small =
    decimal_by_steps (λ m ds. HasNoSlash ds)
    (λ m below. and_from (is_plain (48 + m)) true (not_slash (48 + m) (λ e. omega arith)) refl)
    (λ m ds large front. plain_append ds ((48 + m % 10) ∷ []) front (and_from (is_plain (48 + m % 10)) true (not_slash (48 + m % 10) (λ e. omega arith)) refl))
    n (omega arith)

word_plain : (c : ℕ) → is_word_byte c ≡ true → is_plain c ≡ true
word_plain c word = not_slash c (λ e. let never : is_word_byte 47 ≡ true = ap is_word_byte (sym e) ∙ word in cc)

words_plain : (cs : List ℕ) → list_all is_word_byte cs ≡ true → HasNoSlash cs
words_plain [] all = refl
words_plain (c ∷ cs) all =
    let parts = and_parts (is_word_byte c) (list_all is_word_byte cs) all in
    and_from (is_plain c) (list_all is_plain cs) (word_plain c parts.0) (words_plain cs parts.1)

start_word : (c : ℕ) → is_word_start c ≡ true → is_word_byte c ≡ true
start_word c start = rw start refl

name_plain : (name : List ℕ) → word_test name ≡ true → HasNoSlash name
name_plain [] met = refl
name_plain (c ∷ cs) met =
    let outer = and_parts (is_word_start c && nat_lt (length cs) 63) (list_all is_word_byte cs) met in
    let inner = and_parts (is_word_start c) (nat_lt (length cs) 63) outer.0 in
    and_from (is_plain c) (list_all is_plain cs) (word_plain c (start_word c inner.0)) (words_plain cs outer.1)

slash_place : (xs ys : List ℕ) → HasNoSlash xs → position_or_len is_slash (xs ++ 47 ∷ ys) ≡ length xs
slash_place [] ys plain = refl
slash_place (x ∷ xs) ys plain =
    let parts = and_parts (is_plain x) (list_all is_plain xs) plain in
    let other : is_slash x ≡ false = not-true (x == 47) parts.0 in
    let next : 1 + length xs ≡ length (x ∷ xs) = omega arith in
    ap (λ (b : Bool). cond (not b) (1 + position_or_len is_slash (xs ++ 47 ∷ ys)) 0) other
    ∙ ap (λ (n : ℕ). 1 + n) (slash_place xs ys parts.1) ∙ next

parts_back : (xs ys : List ℕ) → HasNoSlash xs → parts_at_slash (xs ++ 47 ∷ ys) ≡ Some (xs, ys)
parts_back xs ys plain =
    let text : List ℕ = xs ++ 47 ∷ ys in
    let place : position_or_len is_slash text ≡ length xs = slash_place xs ys plain in
    let long : length text ≡ length xs + length (47 ∷ ys) = length-append xs (47 ∷ ys) in
    let within : length xs < length text = omega (arith, long) in
    let front : take (length xs) text ≡ xs = take-append_seam xs (47 ∷ ys) in
    let back : drop (length xs + 1) text ≡ ys = drop-append-add xs (47 ∷ ys) 1 in
    let cut : cut_at text (length xs) ≡ (xs, ys) = λ j. (front j, back j) in
    let found : position is_slash text ≡ Some (length xs) =
    (λ j. cond (nat_lt (place j) (length text)) (Some (place j)) None)
    ∙ ap (λ (b : Bool). cond b (Some (length xs)) None) (lt-ltb (length xs) (length text) within) in
    ap (option_map (cut_at text)) found ∙ ap {B = Option (List ℕ × List ℕ)} Some cut

-- ---- nodes

abbrev pair : ℕ → ℕ → ℕ × ℕ
pair r v = (r, v)

version_back : (row version : ℕ) → row < 2 ^ 32 → version < 2 ^ 32 → version_in (decimal row ++ 47 ∷ decimal version) ≡ Some (row, version)
version_back row version low small =
    ap (option_and_then version_from) (parts_back (decimal row) (decimal version) (digits_plain row low))
    ∙ ap (option_and_then (λ (r : ℕ). option_map (pair r) (number_in (decimal version)))) (number_back row low)
    ∙ ap (option_map (pair row)) (number_back version small)

row_back : (m : Member) → IsTrue (sql_name_test m.table) → m.row < 2 ^ 32 → m.version < 2 ^ 32 → IsUtf8 m.table → row_in (member_id m) ≡ Some (Row m)
row_back m named row version utf8 =
    let word : word_test m.table ≡ true = (and_parts (word_test m.table) (not (is_reserved m.table)) named).0 in
    let rest : List ℕ = decimal m.row ++ 47 ∷ decimal m.version in
    ap (option_and_then row_from) (parts_back m.table rest (name_plain m.table word))
    ∙ ap (option_and_then (λ (v : ℕ × ℕ). option_map (λ (t : List ℕ). row_of t v) (text_of m.table))) (version_back m.row m.version row version)
    ∙ ap (option_map (λ (t : List ℕ). row_of t (m.row, m.version))) (is_text m.table utf8)

pub id_law : IdLaw
id_law (Path path) named = ap (option_map Path) (is_text path named.1)
id_law (Process process) named = ap (option_map Process) (number_back process named)
id_law (Row member) named = row_back member named.0 named.1 named.2 named.3
id_law (Ask statement) named = ap (option_map Ask) (number_back statement named)
id_law (Reply statement) named = ap (option_map Reply) (number_back statement named)
