-- The grammar of JSON, a turn at a time, under what is read of items and members.
use Rattle.std.proofs.Common.{◌≡◌, ℕ, ◌+◌, ◌-◌, ◌<◌, ◌≤◌, List, [], ◌∷◌, ◌++◌, length, Option, Some, None, option_map, option_and_then, refl, sym, ap, ◌∙◌, append_assoc, append-nil, arith}
use Rattle.json.specs.Token.{Token}
use Rattle.json.specs.Json as json
use Rattle.json.specs.Json.{Parse, parse_map, after_end_array, read_key, items, members, value, if_last}
use Rattle.json.proofs.Grammar.{value_is, value-begin_array, value-begin_object, items_end, items_more, members_end, members_more, read_key-shorter}
use Rattle.serde_json.specs.Data.{Data, array, object, Items, no_items, item, Members, no_members, put}
use Rattle.serde_json.specs.Read.{of_json, of_items, of_members, max_depth, converted}
use Rattle.world_json.specs.Shape.{◌>>=◌, each, array_of}
use Rattle.world_json.specs.inner.Taking.{value_taken, IsTaken, items_taken, AreTaken, members_read, MemberTaken, MembersTaken, data_of}

-- ---- what was read, under a function

abbrev pick : {A : Type 0} → A → Option A → A
pick d None = d
pick d (Some a) = a

under_found : {A B : Type 0} (a : A) (r s : List Token) (x : Option B) (b : B) → option_map {U = B × List Token} (λ y. (y, r)) x ≡ Some (b, s) → (r ≡ s) × (x ≡ Some b)
under_found a r s None b e = absurd (cc)
under_found a r s (Some y) b e = let same = ap (pick (y, r)) e in (ap (λ p. p.1) same, ap (λ p. Some p.0) same)

pub converted_some : {A B : Type 0} (f : A → Option B) (o : Option (A × List Token)) (b : B) (r : List Token) → converted f o ≡ Some (b, r) → (a : A) × (o ≡ Some (a, r)) × (f a ≡ Some b)
converted_some f None b r e = absurd (cc)
converted_some f (Some p) b r e = let both = under_found p.0 p.1 r (f p.0) b e in (p.0, ap (λ s. Some (p.0, s)) both.0, both.1)

twice : {A B : Type 0} (g : A → B) (r : List Token) (x : Option A) → option_map (λ b. (b, r)) (option_map g x) ≡ parse_map g (option_map (λ a. (a, r)) x)
twice g r None = refl
twice g r (Some a) = refl

of_array : (o : Option (json.Items × List Token)) → converted of_json (parse_map json.array o) ≡ parse_map array (converted of_items o)
of_array None = refl
of_array (Some p) = twice array p.1 (of_items p.0)

of_object : (o : Option (json.Members × List Token)) → converted of_json (parse_map json.object o) ≡ parse_map object (converted (λ ms. of_members ms no_members) o)
of_object None = refl
of_object (Some p) = twice object p.1 (of_members p.0 no_members)

with_item : (j : json.Json) (d : Data) → of_json j ≡ Some d → (o : Option (json.Items × List Token)) → converted of_items (parse_map (json.item j) o) ≡ parse_map (item d) (converted of_items o)
with_item j d e None = refl
with_item j d e (Some p) = rw e (twice (item d) p.1 (of_items p.0))

with_member : (k : List ℕ) (j : json.Json) (d : Data) (old : Members) → of_json j ≡ Some d → (o : Option (json.Members × List Token))
    → converted (λ ms. of_members ms old) (parse_map (json.member k j) o) ≡ converted (λ ms. of_members ms (put k d old)) o
with_member k j d old e None = refl
with_member k j d old e (Some p) = rw e

-- ---- one value

-- a value that was read, and what f gives of it
pub taken_by : {X : Type 0} (f : Data → Option X) (d : Data) (x : X) (depth : ℕ) (old new : List Token) → converted of_json (value depth old) ≡ Some (d, new) → f d ≡ Some x → value_taken f depth old ≡ Some (x, new)
taken_by f d x depth old new read is = ap (converted f) read ∙ ap (option_map (λ b. (b, new))) is

-- an array closes before a value only where none comes
pub going_on : {X : Type 0} (f : Data → Option X) (depth : ℕ) (ts : List Token) (p : X × List Token) → value_taken f depth ts ≡ Some p → after_end_array ts ≡ None
going_on f depth [] p e = refl
going_on f depth (Token.begin_object ∷ ts) p e = refl
going_on f depth (Token.end_object ∷ ts) p e = refl
going_on f depth (Token.begin_array ∷ ts) p e = refl
going_on f depth (Token.end_array ∷ ts) p e =
    let never : None ≡ Some p = sym (ap (λ o. converted f (converted of_json o)) (value_is depth (Token.end_array ∷ ts))) ∙ e in absurd (cc)
going_on f depth (Token.key s ∷ ts) p e = refl
going_on f depth (Token.string s ∷ ts) p e = refl
going_on f depth (Token.number s ∷ ts) p e = refl
going_on f depth (Token.boolean b ∷ ts) p e = refl
going_on f depth (Token.null ∷ ts) p e = refl
going_on f depth (Token.bad ∷ ts) p e = refl

-- ---- items

pub item_read : (p : Parse json.Json) (n : ℕ) (ts r : List Token) (d : Data) → 0 < n → after_end_array ts ≡ None → converted of_json (p ts) ≡ Some (d, r)
    → converted of_items (items p n ts) ≡ parse_map (item d) (converted of_items (items p (n - 1) r))
item_read p n ts r d some going e = let j = converted_some of_json (p ts) d r e in ap (converted of_items) (items_more p n ts r j.0 some going j.1) ∙ with_item j.0 d j.2 _

pub items_over : (p : Parse json.Json) (n : ℕ) (ts r : List Token) → length ts ≤ n → after_end_array ts ≡ Some r → converted of_items (items p n ts) ≡ Some (no_items, r)
items_over p n ts r enough e = ap (converted of_items) (items_end p n ts r enough e)

then_first : {X : Type 0} (o : Option (List X)) (r : List Token) (x : X) → option_map {U = List X × List Token} (λ b. (b, r)) (o >>= λ xs. Some (x ∷ xs)) ≡ parse_map (λ xs. x ∷ xs) (option_map (λ b. (b, r)) o)
then_first None r x = refl
then_first (Some xs) r x = refl

each_first : {X : Type 0} (f : Data → Option X) (d : Data) (x : X) → f d ≡ Some x → (o : Option (Items × List Token)) → converted (each f) (parse_map (item d) o) ≡ parse_map (λ xs. x ∷ xs) (converted (each f) o)
each_first f d x e None = refl
each_first f d x e (Some p) = rw e (then_first (each f p.0) p.1 x)

item_taken : {X : Type 0} (f : Data → Option X) (depth n : ℕ) (ts r : List Token) (x : X) → 0 < n → after_end_array ts ≡ None → value_taken f depth ts ≡ Some (x, r)
    → items_taken f depth n ts ≡ parse_map (λ xs. x ∷ xs) (items_taken f depth (n - 1) r)
item_taken f depth n ts r x some going e =
    let read = converted_some f (converted of_json (value depth ts)) x r e in
    ap (converted (each f)) (item_read (value depth) n ts r read.0 some going read.1) ∙ each_first f read.0 x read.2 (converted of_items (items (value depth) (n - 1) r))

-- what was found so far, before what the rest gives, is what all gives
abbrev pub IsOngoing : {X : Type 0} → Option (List X × List Token) → List X → Option (List X × List Token) → Type 0
IsOngoing all found rest = all ≡ parse_map (λ xs. found ++ xs) rest

ongoing_start : {X : Type 0} (all : Option (List X × List Token)) → IsOngoing all [] all
ongoing_start None = refl
ongoing_start (Some p) = refl

ongoing_more : {X : Type 0} (all rest : Option (List X × List Token)) (found : List X) (x : X) → IsOngoing all found (parse_map (λ xs. x ∷ xs) rest) → IsOngoing all (found ++ x ∷ []) rest
ongoing_more all None found x h = h
ongoing_more all (Some p) found x h = h ∙ ap (λ xs. Some (xs, p.1)) (sym (append_assoc found (x ∷ []) p.0))

ongoing_end : {X : Type 0} (all : Option (List X × List Token)) (found : List X) (r : List Token) → IsOngoing all found (Some ([], r)) → all ≡ Some (found, r)
ongoing_end all found r h = h ∙ ap (λ xs. Some (xs, r)) (append-nil found)

abbrev pub ItemsSoFar : {X : Type 0} → (Data → Option X) → ℕ → List Token → List X → List Token → Type 0
ItemsSoFar f levels old found now =
    (depth : ℕ) → levels ≤ depth → (n : ℕ) × (length now ≤ n) × IsOngoing (items_taken f depth (length old) old) found (items_taken f depth n now)

pub items_start : {X : Type 0} (f : Data → Option X) (levels : ℕ) (old : List Token) → ItemsSoFar f levels old [] old
items_start f levels old = λ depth enough. (length old, omega arith, ongoing_start (items_taken f depth (length old) old))

pub items_step : {X : Type 0} (f : Data → Option X) (levels : ℕ) (old now new : List Token) (found : List X) (x : X) → ItemsSoFar f levels old found now → after_end_array now ≡ None → length new < length now
    → IsTaken f levels now x new → ItemsSoFar f levels old (found ++ x ∷ []) new
items_step f levels old now new found x so_far going less one = λ depth enough.
    let so = so_far depth enough in
    let n = so.0 in
    let some : 0 < n = omega (arith, so.1, less) in (
      n - 1,
      omega (arith, so.1, less),
      ongoing_more _ _ found x (so.2 ∙ ap (parse_map (λ xs. found ++ xs)) (item_taken f depth n now new x some going (one depth enough))),
    )

pub items_done : {X : Type 0} (f : Data → Option X) (levels : ℕ) (old now new : List Token) (found : List X) → ItemsSoFar f levels old found now → after_end_array now ≡ Some new → AreTaken f levels old found new
items_done f levels old now new found so_far ends = λ depth enough.
    let so = so_far depth enough in
    ongoing_end _ found new (so.2 ∙ ap (λ o. parse_map (λ xs. found ++ xs) (converted (each f) o)) (items_over (value depth) so.0 now new so.1 ends))

-- ---- arrays

opened : (old mid : List Token) (depth : ℕ) → old ≡ Token.begin_array ∷ mid → 0 < depth → converted of_json (value depth old) ≡ parse_map array (converted of_items (items (value (depth - 1)) (length mid) mid))
opened old mid depth is some = ap (λ ts. converted of_json (value depth ts)) is ∙ ap (converted of_json) (value-begin_array depth mid some) ∙ of_array (items (value (depth - 1)) (length mid) mid)

pub array_read : (old mid new : List Token) (depth : ℕ) (ds : Items) → old ≡ Token.begin_array ∷ mid → 0 < depth → converted of_items (items (value (depth - 1)) (length mid) mid) ≡ Some (ds, new)
    → converted of_json (value depth old) ≡ Some (array ds, new)
array_read old mid new depth ds is some read = opened old mid depth is some ∙ ap (parse_map array) read

of_items_inside : {X : Type 0} (f : Data → Option X) (o : Option (Items × List Token)) → converted (array_of f) (parse_map array o) ≡ converted (each f) o
of_items_inside f None = refl
of_items_inside f (Some p) = refl

pub array_taken : {X : Type 0} (f : Data → Option X) (levels : ℕ) (old mid new : List Token) (xs : List X) → old ≡ Token.begin_array ∷ mid → AreTaken f levels mid xs new → IsTaken (array_of f) (levels + 1) old xs new
array_taken f levels old mid new xs is all = λ depth enough.
    let some : 0 < depth = omega arith in
    let below : levels ≤ depth - 1 = omega arith in
    ap (converted (array_of f)) (opened old mid depth is some) ∙ of_items_inside f _ ∙ all (depth - 1) below

-- ---- members

member_read : (p : Parse json.Json) (old : Members) (n : ℕ) (k : List ℕ) (ts s r : List Token) (d : Data) → 0 < n → read_key ts ≡ Some (Some k, s) → converted of_json (p s) ≡ Some (d, r)
    → converted (λ ms. of_members ms old) (members p n ts) ≡ converted (λ ms. of_members ms (put k d old)) (members p (n - 1) r)
member_read p old n k ts s r d some key e =
    let j = converted_some of_json (p s) d r e in
    ap (converted (λ ms. of_members ms old)) (members_more p n k ts s r j.0 some key j.1) ∙ with_member k j.0 d old j.2 _

members_over : (p : Parse json.Json) (old : Members) (n : ℕ) (ts r : List Token) → length ts ≤ n → read_key ts ≡ Some (None, r) → converted (λ ms. of_members ms old) (members p n ts) ≡ Some (old, r)
members_over p old n ts r enough e = ap (converted (λ ms. of_members ms old)) (members_end p n ts r enough e)

abbrev pub MembersSoFar : {K : Type 0} → (Members → K → Type 0) → ℕ → List Token → List Token → K → K → Type 0
MembersSoFar P levels old now before after =
    (depth : ℕ) → levels ≤ depth → (first : Members) → P first before
    → (n : ℕ) × (length now ≤ n) × (seen : Members) × (members_read first depth (length old) old ≡ members_read seen depth n now) × P seen after

pub members_start : {K : Type 0} (P : Members → K → Type 0) (levels : ℕ) (old : List Token) (before : K) → MembersSoFar P levels old old before before
members_start P levels old before = λ depth enough first h. (length old, omega arith, first, refl, h)

pub members_step : {K : Type 0} (P : Members → K → Type 0) (levels : ℕ) (old now s new : List Token) (name : List ℕ) (before mid after : K) → MembersSoFar P levels old now before mid → read_key now ≡ Some (Some name, s)
    → length new < length s → MemberTaken P levels name s new mid after → MembersSoFar P levels old new before after
members_step P levels old now s new name before mid after so_far key less one = λ depth enough first h.
    let so = so_far depth enough first h in
    let n = so.0 in
    let seen = so.2 in
    let d = one depth enough in
    let shorter = read_key-shorter now (Some name) s key in
    let some : 0 < n = omega (arith, so.1, shorter) in (
      n - 1,
      omega (arith, so.1, shorter, less),
      put name d.0 seen,
      so.3 ∙ member_read (value depth) seen n name now s new d.0 some key d.1,
      d.2 seen so.4,
    )

pub members_done : {K : Type 0} (P : Members → K → Type 0) (levels : ℕ) (old now new : List Token) (before after : K) → MembersSoFar P levels old now before after → read_key now ≡ Some (None, new)
    → MembersTaken P levels old new before after
members_done P levels old now new before after so_far ends = λ depth enough first h.
    let so = so_far depth enough first h in
    (so.2, so.3 ∙ members_over (value depth) so.2 so.0 now new so.1 ends, so.4)

-- ---- objects

pub object_read : (old mid new : List Token) (depth : ℕ) (ms : Members) → old ≡ Token.begin_object ∷ mid → 0 < depth → members_read no_members (depth - 1) (length mid) mid ≡ Some (ms, new)
    → converted of_json (value depth old) ≡ Some (object ms, new)
object_read old mid new depth ms is some read =
    ap (λ ts. converted of_json (value depth ts)) is ∙ ap (converted of_json) (value-begin_object depth mid some)
    ∙ of_object (members (value (depth - 1)) (length mid) mid) ∙ ap (parse_map object) read

-- an object of which f gives x by what was kept of its members
pub object_taken : {X K : Type 0} (P : Members → K → Type 0) (f : Data → Option X) (x : X) (levels : ℕ) (old mid new : List Token) (before after : K) → old ≡ Token.begin_object ∷ mid → P no_members before
    → MembersTaken P levels mid new before after → ((ms : Members) → P ms after → f (object ms) ≡ Some x) → IsTaken f (levels + 1) old x new
object_taken P f x levels old mid new before after is none all gives = λ depth enough.
    let some : 0 < depth = omega arith in
    let below : levels ≤ depth - 1 = omega arith in
    let read = all (depth - 1) below no_members none in
    taken_by f (object read.0) x depth old new (object_read old mid new depth read.0 is some read.1) (gives read.0 read.2)

-- what is true of all that was kept
pub kept_all : {K : Type 0} (P : Members → K → Type 0) (Q : Type 0) (levels : ℕ) (mid new : List Token) (before after : K) → P no_members before
    → MembersTaken P levels mid new before after → ((ms : Members) → P ms after → Q) → Q
kept_all P Q levels mid new before after none all gives = let read = all levels (omega arith) no_members none in gives read.0 read.2

-- ---- the whole text

abbrev last_of : Option (json.Json × List Token) → Option Data
last_of o = option_and_then of_json (option_and_then (λ p. if_last p.0 p.1) o)

pub all_taken : {X : Type 0} (f : Data → Option X) (ts : List Token) (x : X) → value_taken f max_depth ts ≡ Some (x, []) → option_and_then f (data_of ts) ≡ Some x
all_taken f ts x e =
    let read = converted_some f (converted of_json (value max_depth ts)) x [] e in
    let parsed = converted_some of_json (value max_depth ts) read.0 [] read.1 in
    ap (λ o. option_and_then f (last_of o)) parsed.1 ∙ ap (option_and_then f) parsed.2 ∙ read.2
