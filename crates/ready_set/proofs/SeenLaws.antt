-- What contracts see of a tree: its leaves as flags.
use Rattle.std.proofs.Common.{◌≡◌, ◌==◌, ℕ, zero, suc, ◌+◌, ◌-◌, ◌*◌, ◌^◌, ◌<◌, ◌≤◌, List, [], ◌∷◌, ◌++◌, length, get_or, set, refl, sym, ap, subst, ◌∙◌, arith, inl, inr, Bool, true, false, cond, length-append}
use Rattle.std.specs.Prelude.{Option, Some, slice_get}
use Rattle.std.proofs.lemmas.Bool.{cases_eq, cases_lt, eq-eqb, ne_eqb}
use Rattle.std.proofs.lemmas.List.{length-set, ext_get_or, get_or_past, get_or-set_same, get_or-set_other, get_or_append_left, get_or-append_right}
use Rattle.std.proofs.lemmas.List.FromFn.{length-map-range_with_len, get_or-map-range_with_len}
use Rattle.std.proofs.Math.Pow.{pow_mono}
use Rattle.ready_set.specs.Ready.{ReadyView, numbers, count_below}
use Rattle.ready_set.specs.inner.Tree.{IsTree, SetsLeaf, IsWidened, sum_before, flags_of, IsKept}
use Rattle.ready_set.proofs.NumberLaws.{number_there, length-numbers_from, count_past_at}
use Rattle.ready_set.proofs.WayLaws.{twice_one, root_counts, IsFound}

-- ---- flags

pub length-flags_of : (counts : List ℕ) (room made : ℕ) → length (flags_of counts room made) ≡ made
length-flags_of counts room made = length-map-range_with_len (λ (n : ℕ). get_or counts (room + n) 0 == 1) 0 made

pub flag_at : (counts : List ℕ) (room made n : ℕ) → n < made
    → get_or (flags_of counts room made) n false ≡ (get_or counts (room + n) 0 == 1)
flag_at counts room made n below =
    get_or-map-range_with_len (λ (k : ℕ). get_or counts (room + k) 0 == 1) 0 made n n false below (omega arith)

pub flag_past : (counts : List ℕ) (room made n : ℕ) → made ≤ n → get_or (flags_of counts room made) n false ≡ false
flag_past counts room made n past = get_or_past (flags_of counts room made) n false (omega (arith, length-flags_of counts room made))

one_is : (c : ℕ) → c ≤ 1 → c ≡ cond (c == 1) 1 0
one_is c few = elim (cases_eq c 1) [
  | inl one ↦ one ∙ sym (ap (λ (b : Bool). cond b 1 0) (eq-eqb c 1 one))
  | inr other ↦ (let none : c ≡ 0 = omega arith in none) ∙ sym (ap (λ (b : Bool). cond b 1 0) (ne_eqb c 1 other))
]

counts_is : (is_in : Bool) → (cond is_in 1 0 == 1) ≡ is_in
counts_is true = refl
counts_is false = refl

-- ---- a leaf is set

module _ (room made number : ℕ) (is_in : Bool) (old new : List ℕ)
    (sets : SetsLeaf room (room + number) (cond is_in 1 0) old new) where
  set_flag : number < made → (i : ℕ) → i < made
      → get_or (flags_of new room made) i false ≡ get_or (set (flags_of old room made) number is_in) i false
  set_flag inside i below = elim (cases_eq i number) [
    | inl same ↦
        let within : number < length (flags_of old room made) = omega (arith, length-flags_of old room made) in
        let here : get_or (flags_of new room made) number false ≡ is_in =
        flag_at new room made number inside ∙ ap (λ (n : ℕ). n == 1) sets.at_leaf ∙ counts_is is_in in
        let there : get_or (set (flags_of old room made) number is_in) number false ≡ is_in = get_or-set_same (flags_of old room made) number is_in false within in
        subst (λ (k : ℕ). get_or (flags_of new room made) k false ≡ get_or (set (flags_of old room made) number is_in) k false) (sym same) (here ∙ sym there)
    | inr other ↦
        flag_at new room made i below ∙ ap (λ (n : ℕ). n == 1) (sets.others (room + i) (omega arith) (omega arith))
        ∙ sym (flag_at old room made i below) ∙ sym (get_or-set_other (flags_of old room made) number i is_in false other)
  ]

  pub flags-set : number < made → flags_of new room made ≡ set (flags_of old room made) number is_in
  flags-set inside = ext_get_or false (flags_of new room made) (set (flags_of old room made) number is_in)
      (length-flags_of new room made ∙ sym (length-set (flags_of old room made) number is_in ∙ length-flags_of old room made))
      (λ i below. set_flag inside i (omega (arith, length-flags_of new room made)))

  pub kept-set : (height : ℕ) → IsKept old room height made → number < made → IsKept new room height made
  kept-set height kept inside = record {
    tree = sets.tree;
    power = kept.power;
    low = kept.low;
    within = kept.within;
    unmade = λ i from. sets.others i (omega arith) (omega arith) ∙ kept.unmade i from;
  }

  -- the next number is made
  push_flag : number ≡ made → (i : ℕ) → i < made + 1
      → get_or (flags_of new room (made + 1)) i false ≡ get_or (flags_of old room made ++ is_in ∷ []) i false
  push_flag next i below = elim (cases_lt i made) [
    | inl inside ↦
        flag_at new room (made + 1) i below ∙ ap (λ (n : ℕ). n == 1) (sets.others (room + i) (omega arith) (omega arith))
        ∙ sym (flag_at old room made i inside)
        ∙ sym (get_or_append_left (flags_of old room made) (is_in ∷ []) false i (omega (arith, length-flags_of old room made)))
    | inr past ↦
        let last : i ≡ number = omega arith in
        let first : i - made ≡ 0 = omega arith in
        flag_at new room (made + 1) i below ∙ ap (λ (k : ℕ). get_or new (room + k) 0 == 1) last
        ∙ ap (λ (n : ℕ). n == 1) sets.at_leaf ∙ counts_is is_in
        ∙ sym (ap (λ (k : ℕ). get_or (is_in ∷ []) k false) first)
        ∙ sym (get_or-append_right (flags_of old room made) (is_in ∷ []) made i false (length-flags_of old room made) past)
  ]

  pub flags-push : number ≡ made → flags_of new room (made + 1) ≡ flags_of old room made ++ is_in ∷ []
  flags-push next = ext_get_or false (flags_of new room (made + 1)) (flags_of old room made ++ is_in ∷ [])
      (length-flags_of new room (made + 1) ∙ omega (arith, length-append (flags_of old room made) (is_in ∷ []), length-flags_of old room made))
      (λ i below. push_flag next i (omega (arith, length-flags_of new room (made + 1))))

  pub kept-push : (height : ℕ) → IsKept old room height made → number ≡ made → made < room → IsKept new room height (made + 1)
  kept-push height kept next free = record {
    tree = sets.tree;
    power = kept.power;
    low = kept.low;
    within = omega arith;
    unmade = λ i from. sets.others i (omega arith) (omega arith) ∙ kept.unmade i (omega arith);
  }

-- ---- twice the room

module _ (room height made : ℕ) (old : List ℕ) (kept : IsKept old room height made) where
  -- with all its room taken, a set of less than 2 ^ 30 numbers can grow
  pub widen_low : room < 2 ^ 30 → height < 30
  widen_low few = elim (cases_lt height 30) [
    | inl low ↦ low
    | inr high ↦ absurd (omega (arith, few, kept.power, pow_mono {i = 30} {j = height} high))
  ]

  pub widen_small : room < 2 ^ 30 → room ≤ 2 ^ 29
  widen_small few =
      let low : height ≤ 29 = omega (arith, widen_low few) in
      omega (arith, kept.power, pow_mono {i = height} {j = 29} low)

module _ (room height made : ℕ) (old new : List ℕ) (kept : IsKept old room height made) (wide : IsWidened room old new) where
  pub flags-widen : flags_of new (2 * room) made ≡ flags_of old room made
  flags-widen = ext_get_or false (flags_of new (2 * room) made) (flags_of old room made)
      (length-flags_of new (2 * room) made ∙ sym (length-flags_of old room made))
      (λ i below.
      let inside : i < made = omega (arith, length-flags_of new (2 * room) made) in
      flag_at new (2 * room) made i inside ∙ ap (λ (n : ℕ). n == 1) (wide.copied i (omega (arith, kept.within))) ∙ sym (flag_at old room made i inside))

  widen_unmade : (i : ℕ) → 2 * room + made ≤ i → get_or new i 0 ≡ 0
  widen_unmade i from = elim (cases_lt i (3 * room)) [
    | inl inside ↦
        let split : 2 * room + (i - 2 * room) ≡ i = omega arith in
        ap (λ (k : ℕ). get_or new k 0) (sym split) ∙ wide.copied (i - 2 * room) (omega arith) ∙ kept.unmade (room + (i - 2 * room)) (omega arith)
    | inr past ↦ wide.none i past
  ]

  pub kept-widen : height < 30 → IsKept new (2 * room) (height + 1) made
  kept-widen low = record {
    tree = wide.tree;
    power = omega (arith, kept.power, twice_one height);
    low = omega arith;
    within = omega (arith, kept.within);
    unmade = widen_unmade;
  }

-- ---- what is seen

module _ (counts : List ℕ) (room made : ℕ) (seen : ReadyView) (is : record { flags = flags_of counts room made; room = room } ≡ seen) where
  pub seen_flags : flags_of counts room made ≡ seen.flags
  seen_flags = ap (λ (r : ReadyView). r.flags) is

  pub seen_room : room ≡ seen.room
  seen_room = ap (λ (r : ReadyView). r.room) is

  pub seen_made : made ≡ length seen.flags
  seen_made = sym (length-flags_of counts room made) ∙ ap length seen_flags

  pub seen_at : (n : ℕ) → n < made → (get_or counts (room + n) 0 == 1) ≡ get_or seen.flags n false
  seen_at n below = sym (flag_at counts room made n below) ∙ ap (λ (l : List Bool). get_or l n false) seen_flags

  pub seen_past : (n : ℕ) → made ≤ n → false ≡ get_or seen.flags n false
  seen_past n past = sym (flag_past counts room made n past) ∙ ap (λ (l : List Bool). get_or l n false) seen_flags

abbrev ready_of : List Bool → ℕ → ReadyView
ready_of flags room = record { flags = flags; room = room }

-- with other flags
pub seen_with : (flags to : List Bool) (room seen : ℕ) → flags ≡ to → room ≡ seen → ready_of flags room ≡ ready_of to seen
seen_with flags to room seen same room_same = λ j. ready_of (same j) (room_same j)

-- ---- counts

module _ (counts : List ℕ) (room height made : ℕ) (kept : IsKept counts room height made) where
  abbrev flags : List Bool
  flags = flags_of counts room made

  pub power_tree : IsTree (2 ^ height) counts
  power_tree = subst (λ (n : ℕ). IsTree n counts) kept.power kept.tree

  -- a set has room for less than 2 ^ 31 numbers
  pub kept_small : room ≤ 2 ^ 30
  kept_small = omega (arith, kept.power, pow_mono {i = height} {j = 30} kept.low)

  leaf_is : (n : ℕ) → get_or counts (room + n) 0 ≡ cond (get_or flags n false) 1 0
  leaf_is n = elim (cases_lt n made) [
    | inl below ↦ one_is (get_or counts (room + n) 0) (kept.tree.leaves (room + n) (omega arith)) ∙ sym (ap (λ (b : Bool). cond b 1 0) (flag_at counts room made n below))
    | inr past ↦ kept.unmade (room + n) (omega arith) ∙ sym (ap (λ (b : Bool). cond b 1 0) (flag_past counts room made n past))
  ]

  -- the counts before a leaf are those of the numbers below
  pub sum-room : (n : ℕ) → sum_before counts (room + n) ≡ sum_before counts room + count_below flags n
  sum-room zero = let none : room + 0 ≡ room = omega arith in ap (sum_before counts) none ∙ omega arith
  sum-room (suc n) =
      let next : room + suc n ≡ suc (room + n) = omega arith in
      omega (arith, ap (sum_before counts) next, sum-room n, leaf_is n)

  pub total_is : get_or counts 1 0 ≡ length (numbers flags)
  total_is =
      let all : sum_before counts (2 ^ height) + get_or counts 1 0 ≡ sum_before counts (2 * 2 ^ height) = root_counts height counts power_tree in
      let from : 2 ^ height ≡ room = sym kept.power in
      let end : 2 * 2 ^ height ≡ room + room = omega (arith, kept.power) in
      omega (
        arith,
        all,
        ap (sum_before counts) from,
        ap (sum_before counts) end,
        sum-room room,
        count_past_at flags room (omega (arith, length-flags_of counts room made, kept.within)),
        length-numbers_from 0 flags,
      )

  -- a counted leaf is that of a number at an index
  pub found_is : (k leaf : ℕ) → IsFound height counts k leaf → slice_get (numbers flags) k ≡ Some (leaf - room)
  found_is k leaf found =
      let split : room + (leaf - room) ≡ leaf = omega (arith, found.from, kept.power) in
      let counted : get_or counts (room + (leaf - room)) 0 ≡ 1 = ap (λ (n : ℕ). get_or counts n 0) split ∙ found.counted in
      let there : get_or flags (leaf - room) false ≡ true = by_leaf (leaf - room) counted in
      let index : count_below flags (leaf - room) ≡ k =
      omega (arith, sum-room (leaf - room), ap (sum_before counts) split, ap (sum_before counts) kept.power, found.before) in
      ap (slice_get (numbers flags)) (sym index) ∙ number_there 0 flags (leaf - room) there ∙ (let same : 0 + (leaf - room) ≡ leaf - room = omega arith in ap {B = Option ℕ} Some same)
    where
      by_leaf : (n : ℕ) → get_or counts (room + n) 0 ≡ 1 → get_or flags n false ≡ true
      by_leaf n counted = elim (cases_lt n made) [
        | inl below ↦ flag_at counts room made n below ∙ eq-eqb (get_or counts (room + n) 0) 1 counted
        | inr past ↦ absurd (omega (arith, kept.unmade (room + n) (omega arith)))
      ]
