-- Rows of one block, added and united.
use Rattle.std.proofs.Common.{◌≡◌, ◌==◌, ◌∙◌, sym, ap, refl, ℕ, ◌+◌, ◌-◌, ◌<◌, ◌≤◌, ◌&&◌, List, length, true, false, cond, not, get_or, arith, inl, inr, lt-ltb, eq-eqb}
use Rattle.std.specs.Prelude.{nat_lt, Result, Ok, Err, OnOk}
use Rattle.std.proofs.lemmas.Bool.{cases_lt, le-ltb, ne_eqb, cases_eq, cases_Bool}
use Rattle.std.proofs.lemmas.List.{get_or_past}
use Rattle.lanes.specs.Sets.{member}
use Rattle.lineage.specs.inner.Blocks.{version_of, HasPlace, HasRoomIn}
use Rattle.lineage.specs.declared.versions.Versions.{Versions}
use Rattle.lineage.proofs.VersionLaws.{version_before, version_from}

-- past the last there is none
pub version_after : (v : Versions) (n : ℕ) → v.first + length v.numbers ≤ n → version_of v n ≡ 0
version_after v n past = version_from v n (omega (arith, past)) ∙ get_or_past v.numbers (n - v.first) 0 (omega (arith, past))

-- a version above 0 stands between the first and the last
pub raised : (v : Versions) (n : ℕ) → 0 < version_of v n → HasPlace v n
raised v n above = elim (cases_lt n v.first) [
  | inl early ↦ absurd (omega (arith, above, version_before v n early))
  | inr on ↦ elim (cases_lt n (v.first + length v.numbers)) [
    | inl below ↦ (on, below)
    | inr past ↦ absurd (omega (arith, above, version_after v n past))
  ]
]

-- room for one row, and for all of another block
pub room_here : {A B : Type 0} (r : Result A B) (v : Versions) (n version : ℕ) → OnOk r ((m : ℕ) → n ≤ m → m < n + 1 → HasPlace v m) → OnOk r (HasRoomIn v n version)
room_here (Ok x) v n version places = λ above. places n (omega arith) (omega arith)
room_here (Err y) v n version places = tt

pub room_like : {A B : Type 0} (r : Result A B) (v others : Versions) → OnOk r ((m : ℕ) → others.first ≤ m → m < others.first + length others.numbers → HasPlace v m)
    → OnOk r ((n : ℕ) → HasRoomIn v n (version_of others n))
room_like (Ok x) v others places = λ n above. let is = raised others n above in places n is.0 is.1
room_like (Err y) v others places = tt

pub room_of_none : (v others : Versions) → length others.numbers ≡ 0 → (n : ℕ) → HasRoomIn v n (version_of others n)
room_of_none v others none n above = let is = raised others n above in absurd (omega (arith, is.0, is.1, none))

-- the versions after those of some of the others are taken
abbrev pub taken : List ℕ → Versions → Versions → ℕ → ℕ → ℕ
taken words old others place m = cond (not (member words m) && nat_lt m (others.first + place)) (version_of others m) (version_of old m)

pub taken_none : (words : List ℕ) (old others : Versions) → ((n : ℕ) → member words n ≡ false → version_of old n ≡ 0) → (m : ℕ) → version_of old m ≡ taken words old others 0 m
taken_none words old others clear m = elim (cases_Bool (member words m)) [
  | inl here ↦ rw here refl
  | inr gone ↦ elim (cases_lt m (others.first + 0)) [
    | inl early ↦ rw (gone, lt-ltb m (others.first + 0) early) (clear m gone ∙ sym (version_before others m (omega (arith, early))))
    | inr late ↦ rw (gone, le-ltb m (others.first + 0) late) refl
  ]
]

-- the version that stands at a place of the others
pub stands_at : (others : Versions) (place : ℕ) → version_of others (others.first + place) ≡ get_or others.numbers place 0
stands_at others place =
    let back : others.first + place - others.first ≡ place = omega arith in
    version_from others (others.first + place) (omega arith) ∙ ap (λ (k : ℕ). get_or others.numbers k 0) back

pub taken_more : (words : List ℕ) (old others : Versions) (place version : ℕ) (before after : ℕ → ℕ) → ((m : ℕ) → before m ≡ taken words old others place m)
    → version ≡ version_of others (others.first + place)
    → ((m : ℕ) → after m ≡ cond (m == others.first + place && not (member words (others.first + place))) version (before m)) → (m : ℕ) → after m ≡ taken words old others (place + 1) m
taken_more words old others place version before after was is step m = elim (cases_eq m (others.first + place)) [
  | inl here ↦
      let hit : (m == others.first + place) ≡ true = eq-eqb m (others.first + place) here in
      let next : nat_lt m (others.first + (place + 1)) ≡ true = lt-ltb m (others.first + (place + 1)) (omega (arith, here)) in
      let same : member words (others.first + place) ≡ member words m = ap (member words) (sym here) in
      elim (cases_Bool (member words m)) [
        | inl there ↦
            step m ∙ ap (λ b. cond (b && not (member words (others.first + place))) version (before m)) hit
            ∙ ap (λ b. cond (not b) version (before m)) (same ∙ there) ∙ was m
            ∙ ap (λ b. cond (not b && nat_lt m (others.first + place)) (version_of others m) (version_of old m)) there
            ∙ sym (ap (λ b. cond (not b && nat_lt m (others.first + (place + 1))) (version_of others m) (version_of old m)) there)
        | inr gone ↦
            step m ∙ ap (λ b. cond (b && not (member words (others.first + place))) version (before m)) hit
            ∙ ap (λ b. cond (not b) version (before m)) (same ∙ gone) ∙ is ∙ ap (version_of others) (sym here)
            ∙ sym (ap (λ b. cond (not b && nat_lt m (others.first + (place + 1))) (version_of others m) (version_of old m)) gone
            ∙ ap (λ b. cond b (version_of others m) (version_of old m)) next)
      ]
  | inr apart ↦
      let miss : (m == others.first + place) ≡ false = ne_eqb m (others.first + place) apart in
      let alike : nat_lt m (others.first + place) ≡ nat_lt m (others.first + (place + 1)) = elim (cases_lt m (others.first + place)) [
        | inl early ↦ lt-ltb m (others.first + place) early ∙ sym (lt-ltb m (others.first + (place + 1)) (omega (arith, early)))
        | inr late ↦
            let above : others.first + (place + 1) ≤ m = omega (arith, late, apart) in
            le-ltb m (others.first + place) late ∙ sym (le-ltb m (others.first + (place + 1)) above)
      ] in
      step m ∙ ap (λ b. cond (b && not (member words (others.first + place))) version (before m)) miss ∙ was m
      ∙ ap (λ b. cond (not (member words m) && b) (version_of others m) (version_of old m)) alike
]

pub taken_all : (words : List ℕ) (old others : Versions) → ((n : ℕ) → member words n ≡ false → version_of old n ≡ 0) → (m : ℕ)
    → taken words old others (length others.numbers) m ≡ cond (member words m) (version_of old m) (version_of others m)
taken_all words old others clear m = elim (cases_Bool (member words m)) [
  | inl here ↦ rw here refl
  | inr gone ↦ elim (cases_lt m (others.first + length others.numbers)) [
    | inl early ↦ rw (gone, lt-ltb m (others.first + length others.numbers) early) refl
    | inr late ↦ rw (gone, le-ltb m (others.first + length others.numbers) late) (clear m gone ∙ sym (version_after others m late))
  ]
]

pub ruleset taken_rules = (taken_none, taken_more, taken_all)
