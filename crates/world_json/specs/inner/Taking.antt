-- What the definitions of `Shape` give of a value whose tokens come next, and the tokens that it leaves.
use Rattle.std.specs.Prelude.{◌≡◌, ℕ, ◌≤◌, List, [], ◌∷◌, length, Option, Some, None, option_map, option_and_then}
use Rattle.std.specs.Prelude.{String, string_bytes}
use Rattle.std.specs.declared.alloc.Global.{Global}
use Rattle.json.specs.Token.{Token}
use Rattle.json.specs.Json.{value, items, members, if_last}
use Rattle.serde_json.specs.Data.{Data, Members, no_members, member, put}
use Rattle.serde_json.specs.Find.{as_i64}
use Rattle.serde_json.specs.Read.{of_json, of_items, of_members, converted, max_depth, number_of}
use Rattle.ldv_value.specs.declared.value.Value.{Value}
use Rattle.ldv_value.specs.declared.value.Value.TheVariants.{Null, Int, Text}
use Rattle.world_json.specs.Shape.{each, required_member, content_in}

-- ---- a value, with arrays and objects nested no deeper than a number

abbrev pub value_taken : {X : Type 0} → (Data → Option X) → ℕ → List Token → Option (X × List Token)
value_taken f depth ts = converted f (converted of_json (value depth ts))

-- f gives x of the value that comes first; it has so many levels of arrays and objects
abbrev pub IsTaken : {X : Type 0} → (Data → Option X) → ℕ → List Token → X → List Token → Type 0
IsTaken f levels old x new = (depth : ℕ) → levels ≤ depth → value_taken f depth old ≡ Some (x, new)

-- ---- the items of an array, behind the bracket that opens it

abbrev pub items_taken : {X : Type 0} → (Data → Option X) → ℕ → ℕ → List Token → Option (List X × List Token)
items_taken f depth turns ts = converted (each f) (converted of_items (items (value depth) turns ts))

abbrev pub AreTaken : {X : Type 0} → (Data → Option X) → ℕ → List Token → List X → List Token → Type 0
AreTaken f levels old xs new =
    (depth : ℕ) → levels ≤ depth → items_taken f depth (length old) old ≡ Some (xs, new)

-- ---- the members of an object, behind the brace that opens it

-- the members, put into those before them
abbrev pub members_read : Members → ℕ → ℕ → List Token → Option (Members × List Token)
members_read before depth turns ts =
    converted (λ ms. of_members ms before) (members (value depth) turns ts)

-- P says what was kept of the members so far: one more, and all of them
abbrev pub MemberTaken :
    {K : Type 0} → (Members → K → Type 0) → ℕ → List ℕ → List Token → List Token → K → K → Type 0
MemberTaken P levels name old new before after =
    (depth : ℕ) → levels ≤ depth → (d : Data) × (converted of_json (value depth old) ≡ Some (d, new))
    × ((ms : Members) → P ms before → P (put name d ms) after)

abbrev pub MembersTaken : {K : Type 0} → (Members → K → Type 0) → ℕ → List Token → List Token → K → K → Type 0
MembersTaken P levels old new before after =
    (depth : ℕ) → levels ≤ depth → (first : Members) → P first before
    → (ms : Members) × (members_read first depth (length old) old ≡ Some (ms, new)) × P ms after

-- f gives x of the members of an object, behind the brace that opens it
abbrev pub MembersGive : {X : Type 0} → (Members → Option X) → ℕ → List Token → X → List Token → Type 0
MembersGive f levels old x new =
    (depth : ℕ) → levels ≤ depth → (ms : Members)
    × (members_read no_members depth (length old) old ≡ Some (ms, new)) × (f ms ≡ Some x)

-- what f gives of a member, where there is one
abbrev pub IsPart : {X : Type 0} → (Data → Option X) → Option Data → Option X → Type 0
IsPart f found None = found ≡ None
IsPart f found (Some x) = required_member f found ≡ Some x

-- the items of a map are what f gives of the members, each under its name
abbrev pub AreNamed : {X : Type 0} → (List ℕ → Data → Option X) → (X → Type 0) → Members
    → List (String Global × X) → Type 0
AreNamed f P no_members [] = Unit {0}
AreNamed f P no_members (e ∷ es) = ⊥
AreNamed f P (member k d ms) [] = ⊥
AreNamed f P (member k d ms) (e ∷ es) =
    (string_bytes e.0 ≡ k) × (f k d ≡ Some e.1) × P e.1 × AreNamed f P ms es

-- what was read, or else x
abbrev pub part_or : {X : Type 0} → X → Option X → X
part_or x None = x
part_or x (Some read) = read

-- the value of all tokens
abbrev pub data_of : List Token → Option Data
data_of ts = option_and_then of_json (option_and_then (λ p. if_last p.0 p.1) (value max_depth ts))

-- ---- cells

-- the cell that a token is
abbrev pub IsCell : Token → Value → Type 0
IsCell Token.begin_object v = ⊥
IsCell Token.end_object v = ⊥
IsCell Token.begin_array v = ⊥
IsCell Token.end_array v = ⊥
IsCell (Token.key s) v = ⊥
IsCell (Token.string s) v = v ≡ Text s
IsCell (Token.number s) v = option_map Int (option_and_then as_i64 (number_of s)) ≡ Some v
IsCell (Token.boolean b) v = ⊥
IsCell Token.null v = v ≡ Null
IsCell Token.bad v = ⊥

-- ---- contents

-- the content that a token begins, behind that token
abbrev pub IsContent : Token → List Token → List ℕ → List Token → Type 0
IsContent Token.begin_object old bytes new = MembersGive content_in 0 old bytes new
IsContent Token.end_object old bytes new = ⊥
IsContent Token.begin_array old bytes new = ⊥
IsContent Token.end_array old bytes new = ⊥
IsContent (Token.key s) old bytes new = ⊥
IsContent (Token.string s) old bytes new = (bytes ≡ s) × (new ≡ old)
IsContent (Token.number s) old bytes new = ⊥
IsContent (Token.boolean b) old bytes new = ⊥
IsContent Token.null old bytes new = ⊥
IsContent Token.bad old bytes new = ⊥
