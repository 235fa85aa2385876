-- The union of lists of needed rows that are sorted by table and number.
use Rattle.std.specs.Prelude.{◌≡◌, ◌+◌, ◌-◌, ◌<◌, List, [], ◌∷◌, ◌++◌, length, Bool, false, slice_get}
use Rattle.std.specs.Prelude.{if◌then◌else◌}
use Rattle.std.specs.Option.{option_map_or}
use Rattle.std.specs.declared.cmp.Ordering.{Ordering}
use Rattle.std.specs.declared.cmp.Ordering.TheVariants.{Less, Equal, Greater}
use Rattle.std.specs.Ordering.{is_eq}
use Rattle.sql_model.specs.MemberOrder.{member_cmp}
use Rattle.sql_model.specs.declared.need.Member.{Member}
use Rattle.sql_model.specs.declared.need.Need.{Need}
use Rattle.sql_model.specs.declared.need.Rule.{Rule}
use Rattle.lineage.specs.declared.needs.Next.{Next}

abbrev pub need_by : Rule → Member → Need
need_by rule member = record { member = member; rule = rule }

abbrev pub need_order : Need → Need → Ordering
need_order a b = member_cmp a.member b.member

-- a need before, in place of, or after the first of others, which are sorted; `more` unites what follows it
abbrev pub united_by : Ordering → Need → (List Need → List Need) → Need → List Need → List Need → List Need
united_by Less need more other others into = need ∷ more (other ∷ others)
united_by Equal need more other others into = need ∷ more others
united_by Greater need more other others into = other ∷ into

abbrev pub into : Need → (List Need → List Need) → List Need → List Need
into need more [] = need ∷ more []
into need more (other ∷ others) =
    united_by (member_cmp need.member other.member) need more other others (into need more others)

-- two sorted lists as one; of a row that is in both, the first need
abbrev pub union_of_needs : List Need → List Need → List Need
union_of_needs [] others = others
union_of_needs (need ∷ needs) others = into need (union_of_needs needs) others

-- needs in any order, sorted, each row once, with its first need
abbrev pub needs_in_order : List Need → List Need
needs_in_order [] = []
needs_in_order (need ∷ needs) = union_of_needs (need ∷ []) (needs_in_order needs)

-- ---- on the way

-- a need is of the row of the last of some
abbrev pub is_last_row : Need → List Need → Bool
is_last_row need needs =
    option_map_or (λ last. is_eq (need_order last need)) (slice_get needs (length needs - 1)) false

-- needs with one more, unless it is of the row of the last
abbrev pub with_other : Need → List Need → List Need
with_other need needs = if is_last_row need needs then needs else needs ++ need ∷ []

abbrev pub others_onto : List Need → List Need → List Need
others_onto made [] = made
others_onto made (need ∷ needs) = others_onto (with_other need made) needs

-- of needs of one row that follow one another, the first
abbrev pub once_each : List Need → List Need
once_each needs = others_onto [] needs

-- two lists are at their end
abbrev pub IsLast : List Need → List Need → Type 0
IsLast needs others = (needs ≡ []) × (others ≡ [])

-- the first need of two lists as one, and what is left of them
pub record IsNext (needs others : List Need) (next : Next) : Type 0 where
  pub united : union_of_needs needs others ≡ next.need.now ∷ union_of_needs next.needs.now next.others.now
  pub fewer : length next.needs.now + length next.others.now < length needs + length others
