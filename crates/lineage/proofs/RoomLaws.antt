-- Blocks written in their map: what stays and what changes.
use Rattle.std.proofs.Common.{◌≡◌, ◌==◌, ◌∙◌, sym, ap, subst, refl, ℕ, ◌+◌, ◌/◌, ◌%◌, ◌<◌, ◌||◌, inl, inr, Bool, true, false, cond, List, [], ◌∷◌, length, Option, Some, None, is_some, arith, eq-eqb, drop, get_or, drop-cons, add-one}
use Rattle.std.specs.BTreeMap as tree
use Rattle.std.specs.BTreeMap.{BTreeMap, is_at, Updates}
use Rattle.std.specs.Map.{lookup}
use Rattle.std.specs.Option.{option_or}
use Rattle.std.specs.FinMap.{find}
use Rattle.std.specs.Cmp.{both_ways}
use Rattle.std.proofs.lemmas.Bool.Decides.{Decides-eqb}
use Rattle.std.specs.Ordering.{eq_by_cmp}
use Rattle.std.proofs.lemmas.Bool.{cases_Bool}
use Rattle.lanes.specs.Sets.{member}
use Rattle.lineage.specs.inner.Blocks.{version_of, HasPlace, HasRoomIn, RoomAt, HasRoom, AllRoom, IsRoomy}
use Rattle.lineage.specs.inner.Blocks.{IsKept, AreKept, StaysAt, Stays, IsRoomier, AreRoomier, row_in, row_at}
use Rattle.lineage.specs.inner.Blocks.{row_of_both, block_of, found_at}
use Rattle.lineage.specs.Lineage.{Row, row_cmp}
use Rattle.lineage.specs.declared.blocks.Block.{Block}
use Rattle.lineage.proofs.Laws.{same_row, or_none, or_assoc}
use Rattle.lineage.proofs.Seen.{tied_row, apart_row}
use Rattle.lineage.proofs.Maps.{one_first}
use Rattle.ldv_value.proofs.Booleans.{true≢false, or-parts}

-- ---- one block

pub row_alike : (old new : Block) → new.words.items ≡ old.words.items → ((n : ℕ) → version_of new.versions n ≡ version_of old.versions n) → (n : ℕ) → row_in new n ≡ row_in old n
row_alike old new words same n = λ j. cond (member (words j) n) (Some (same n j)) None

pub stays_itself : (o : Option Block) → StaysAt o o
stays_itself None = tt
stays_itself (Some b) = λ n has. has

pub stays_twice : (a b c : Option Block) → StaysAt a b → StaysAt b c → StaysAt a c
stays_twice None b c first second = tt
stays_twice (Some x) None c first second = absurd first
stays_twice (Some x) (Some y) None first second = absurd second
stays_twice (Some x) (Some y) (Some z) first second = λ n has. second n (first n has)

pub room_stays : (a b : Option Block) → StaysAt a b → (n v : ℕ) → RoomAt a n v → RoomAt b n v
room_stays None b stays n v room = absurd room
room_stays (Some x) None stays n v room = absurd stays
room_stays (Some x) (Some y) stays n v room = λ above. stays n (room above)

pub roomy_stays : (a b o : Option Block) → StaysAt a b → IsRoomy a o → IsRoomy b o
roomy_stays a b None stays roomy = tt
roomy_stays None b (Some o) stays roomy = absurd roomy
roomy_stays (Some x) None (Some o) stays roomy = absurd stays
roomy_stays (Some x) (Some y) (Some o) stays roomy = λ n above. stays n (roomy n above)

-- ---- all blocks

pub roomier_itself : (m : BTreeMap Row Block) → AreRoomier m m
roomier_itself m = record { kept = λ k. k; same = λ p n. refl; stays = λ p. stays_itself (tree.get row_cmp m p) }

pub roomier_unchanged : (m n : BTreeMap Row Block) → n.entries ≡ m.entries → AreRoomier m n
roomier_unchanged m n is = record {
  kept = λ k p. subst (λ (es : List (Row × Block)). (b : Block) → lookup (is_at (row_cmp p)) es ≡ Some b → IsKept p b) (sym is) (k p);
  same = λ p i. ap (λ (es : List (Row × Block)). row_at (lookup (is_at (row_cmp p)) es) i) is;
  stays = λ p. subst (λ (es : List (Row × Block)). StaysAt (lookup (is_at (row_cmp p)) m.entries) (lookup (is_at (row_cmp p)) es)) (sym is) (stays_itself (tree.get row_cmp m p));
}

pub roomier_still : (m n o : BTreeMap Row Block) → AreRoomier m n → AreRoomier n o → AreRoomier m o
roomier_still m n o first second = record {
  kept = λ k. second.kept (first.kept k);
  same = λ p i. second.same p i ∙ first.same p i;
  stays = λ p. stays_twice (tree.get row_cmp m p) (tree.get row_cmp n p) (tree.get row_cmp o p) (first.stays p) (second.stays p);
}

pub all_stay : (m n : BTreeMap Row Block) → Stays m n → (rows : List (Row × ℕ)) → AllRoom m rows → AllRoom n rows
all_stay m n stays [] room = tt
all_stay m n stays (row ∷ rows) room = (
  room_stays (tree.get row_cmp m (block_of row.0)) (tree.get row_cmp n (block_of row.0)) (stays (block_of row.0)) (row.0.1 % 65536) row.1 room.0,
  all_stay m n stays rows room.1,
)

-- ---- a block written or put in

module _ (m n : BTreeMap Row Block) (place : Row) (new : Block) (wrote : Updates row_cmp m n place (Some new)) where
  pub here : tree.get row_cmp n place ≡ Some new
  here = wrote.1

  pub there : (p : Row) → is_at (row_cmp place) p ≡ false → tree.get row_cmp n p ≡ tree.get row_cmp m p
  there p miss = wrote.2 p miss

  -- what holds of each block before and after
  pub each : (R : Row → Option Block → Option Block → Type 0) → R place (tree.get row_cmp m place) (Some new) → ((p : Row) (o : Option Block) → R p o o)
      → (p : Row) → R p (tree.get row_cmp m p) (tree.get row_cmp n p)
  each R at others p = elim (cases_Bool (is_at (row_cmp place) p)) [
    | inl hit ↦
        let same : place ≡ p = same_row place p hit in
        subst (λ (q : Row). R q (tree.get row_cmp m q) (tree.get row_cmp n q)) same
        (subst (λ (o : Option Block). R place (tree.get row_cmp m place) o) (sym here) at)
    | inr miss ↦ subst (λ (o : Option Block). R p (tree.get row_cmp m p) o) (sym (there p miss)) (others p (tree.get row_cmp m p))
  ]

  pub kept_written : IsKept place new → AreKept m → AreKept n
  kept_written is all p = each (λ p o o'. ((b : Block) → o ≡ Some b → IsKept p b) → (b : Block) → o' ≡ Some b → IsKept p b)
      (λ before b same. let it : new ≡ b = cc in subst (IsKept place) it is) (λ p o before. before) p (all p)

  pub stays_written : StaysAt (tree.get row_cmp m place) (Some new) → Stays m n
  stays_written at = each (λ p o o'. StaysAt o o') at (λ p o. stays_itself o)

  pub same_written : ((k : ℕ) → row_in new k ≡ row_at (tree.get row_cmp m place) k) → (p : Row) (k : ℕ) → row_at (tree.get row_cmp n p) k ≡ row_at (tree.get row_cmp m p) k
  same_written at = each (λ p o o'. (k : ℕ) → row_at o' k ≡ row_at o k) at (λ p o k. refl)

  pub there_written : (p : Row) (k : ℕ) → is_at (row_cmp place) p ≡ false → row_at (tree.get row_cmp n p) k ≡ row_at (tree.get row_cmp m p) k
  there_written p k miss = ap (λ (o : Option Block). row_at o k) (there p miss)

module _ (m n : BTreeMap Row Block) (place : Row) (old new : Block) (was : tree.get row_cmp m place ≡ Some old) (wrote : Updates row_cmp m n place (Some new)) where
  stays_old : ((k : ℕ) → HasPlace old.versions k → HasPlace new.versions k) → Stays m n
  stays_old stays = stays_written m n place new wrote (subst (λ (o : Option Block). StaysAt o (Some new)) (sym was) stays)

  pub roomier_written : IsRoomier old new → AreRoomier m n
  roomier_written is = record {
    kept = λ all.
        let before : IsKept place old = all place old was in
        kept_written m n place new wrote (record {
          within = before.within;
          long = ap length is.words ∙ before.long;
          clear = λ k gone. is.same k ∙ before.clear k (sym (ap (λ (w : List ℕ). member w k) is.words) ∙ gone);
        }) all;
    same = same_written m n place new wrote (λ k. row_alike old new is.words is.same k ∙ ap (λ (o : Option Block). row_at o k) (sym was));
    stays = stays_old is.stays;
  }

-- a block of no row put in, where there was none
pub roomier_made : (m n : BTreeMap Row Block) (place : Row) (new : Block) → tree.get row_cmp m place ≡ None → Updates row_cmp m n place (Some new)
    → place.1 < 65536 → length new.words.items ≡ 1024 → ((k : ℕ) → member new.words.items k ≡ false) → ((k : ℕ) → version_of new.versions k ≡ 0) → AreRoomier m n
roomier_made m n place new none made within long empty zero = record {
  kept = kept_written m n place new made (record { within = within; long = long; clear = λ k gone. zero k });
  same = same_written m n place new made (λ k. ap (λ b. cond b (Some (version_of new.versions k)) None) (empty k) ∙ ap (λ (o : Option Block). row_at o k) (sym none));
  stays = stays_written m n place new made (subst (λ (o : Option Block). StaysAt o (Some new)) (sym none) tt);
}

-- ---- one row put in

none_member : (b : Block) (n : ℕ) → row_in b n ≡ None → member b.words.items n ≡ false
none_member b n is = elim (cases_Bool (member b.words.items n)) [
  | inl hit ↦
      let no : Some (version_of b.versions n) ≡ None = sym (ap (λ t. cond t (Some (version_of b.versions n)) None) hit) ∙ is in
      cc
  | inr gone ↦ gone
]

put_first : (e b : Bool) (v w : ℕ) → cond (e || b) (Some (cond e v w)) None ≡ cond e (Some v) (cond b (Some w) None)
put_first true b v w = refl
put_first false b v w = refl

whole_row : (a b : Row) → block_of a ≡ block_of b → a.1 % 65536 ≡ b.1 % 65536 → a ≡ b
whole_row a b block place =
    let table : a.0 ≡ b.0 = ap (λ (r : Row). r.0) block in
    let part : a.1 / 65536 ≡ b.1 / 65536 = ap (λ (r : Row). r.1) block in
    let number : a.1 ≡ b.1 = omega (arith, part, place) in
    λ j. (table j, number j)

in_block : (a b : Row) → block_of a ≡ block_of b → (a.1 % 65536 == b.1 % 65536) ≡ eq_by_cmp row_cmp a b
in_block a b block = both_ways (a.1 % 65536 == b.1 % 65536) (eq_by_cmp row_cmp a b)
    (λ is. tied_row a b (whole_row a b block ((Decides-eqb (a.1 % 65536) (b.1 % 65536)).0 is)))
    (λ is. eq-eqb (a.1 % 65536) (b.1 % 65536) (ap (λ (r : Row). r.1 % 65536) (same_row a b is)))

module _ (m n : BTreeMap Row Block) (row : Row) (v : ℕ) (old new : Block) (was : tree.get row_cmp m (block_of row) ≡ Some old) (kept : AreKept m) where
  pub put_room : HasRoom m row v → HasRoomIn old.versions (row.1 % 65536) v
  put_room room = subst (λ (o : Option Block). RoomAt o (row.1 % 65536) v) was room

  pub put_clear : found_at m row ≡ None → version_of old.versions (row.1 % 65536) ≡ 0
  put_clear none = (kept (block_of row) old was).clear (row.1 % 65536) (none_member old (row.1 % 65536) (sym (ap (λ (o : Option Block). row_at o (row.1 % 65536)) was) ∙ none))

  pub put_long : length old.words.items ≡ 1024
  put_long = (kept (block_of row) old was).long

  module _ (wrote : Updates row_cmp m n (block_of row) (Some new))
      (words : (k : ℕ) → member new.words.items k ≡ (k == row.1 % 65536 || member old.words.items k))
      (versions : (k : ℕ) → version_of new.versions k ≡ cond (k == row.1 % 65536) v (version_of old.versions k)) where
    pub put_kept : length new.words.items ≡ 1024 → AreKept n
    put_kept long = kept_written m n (block_of row) new wrote (record {
      within = (kept (block_of row) old was).within;
      long = long;
      clear = λ k gone.
          let both = or-parts (k == row.1 % 65536) (member old.words.items k) (sym (words k) ∙ gone) in
          versions k ∙ ap (λ b. cond b v (version_of old.versions k)) both.0 ∙ (kept (block_of row) old was).clear k both.1;
    }) kept

    pub put_stays : ((k : ℕ) → HasPlace old.versions k → HasPlace new.versions k) → Stays m n
    put_stays stays = stays_written m n (block_of row) new wrote (subst (λ (o : Option Block). StaysAt o (Some new)) (sym was) stays)

    put_row_in : (k : ℕ) → row_in new k ≡ cond (k == row.1 % 65536) (Some v) (row_in old k)
    put_row_in k = (λ j. cond (words k j) (Some (versions k j)) None) ∙ put_first (k == row.1 % 65536) (member old.words.items k) v (version_of old.versions k)

    pub put_found : (q : Row) → found_at n q ≡ cond (eq_by_cmp row_cmp q row) (Some v) (found_at m q)
    put_found q = elim (cases_Bool (is_at (row_cmp (block_of row)) (block_of q))) [
      | inl hit ↦
          let same : block_of row ≡ block_of q = same_row (block_of row) (block_of q) hit in
          let now : tree.get row_cmp n (block_of q) ≡ Some new = ap (tree.get row_cmp n) (sym same) ∙ here m n (block_of row) new wrote in
          let before : Some old ≡ tree.get row_cmp m (block_of q) = sym was ∙ ap (tree.get row_cmp m) same in
          ap (λ (o : Option Block). row_at o (q.1 % 65536)) now ∙ put_row_in (q.1 % 65536)
          ∙ (λ j. cond (in_block q row (sym same) j) (Some v) (row_at (before j) (q.1 % 65536)))
      | inr miss ↦
          let apart : eq_by_cmp row_cmp q row ≡ false = apart_row q row (λ is. true≢false (sym (tied_row (block_of row) (block_of q) (ap block_of (sym is))) ∙ miss)) in
          there_written m n (block_of row) new wrote (block_of q) (q.1 % 65536) miss
          ∙ sym (ap (λ b. cond b (Some v) (found_at m q)) apart)
    ]

-- ---- one block united

either_row : (a b : Bool) (v w : ℕ) → cond (a || b) (Some (cond a v w)) None ≡ option_or (cond a (Some v) None) (cond b (Some w) None)
either_row true b v w = refl
either_row false b v w = refl

neither_version : (a : Bool) (v w : ℕ) → a ≡ false → w ≡ 0 → cond a v w ≡ 0
neither_version true v w gone zero = cc
neither_version false v w gone zero = zero

module _ (m n : BTreeMap Row Block) (place : Row) (old new other : Block) (was : tree.get row_cmp m place ≡ Some old) (wrote : Updates row_cmp m n place (Some new))
    (words : (k : ℕ) → member new.words.items k ≡ (member old.words.items k || member other.words.items k))
    (versions : (k : ℕ) → version_of new.versions k ≡ cond (member old.words.items k) (version_of old.versions k) (version_of other.versions k)) where
  pub united_kept : AreKept m → IsKept place other → length new.words.items ≡ 1024 → AreKept n
  united_kept kept also long = kept_written m n place new wrote (record {
    within = also.within;
    long = long;
    clear = λ k gone.
        let both = or-parts (member old.words.items k) (member other.words.items k) (sym (words k) ∙ gone) in
        versions k ∙ neither_version (member old.words.items k) (version_of old.versions k) (version_of other.versions k) both.0 (also.clear k both.1);
  }) kept

  pub united_stays : ((k : ℕ) → HasPlace old.versions k → HasPlace new.versions k) → Stays m n
  united_stays stays = stays_written m n place new wrote (subst (λ (o : Option Block). StaysAt o (Some new)) (sym was) stays)

  pub united_here : (k : ℕ) → row_at (tree.get row_cmp n place) k ≡ row_of_both (tree.get row_cmp m place) (Some other) k
  united_here k =
      ap (λ (o : Option Block). row_at o k) (here m n place new wrote)
      ∙ (λ j. cond (words k j) (Some (versions k j)) None)
      ∙ either_row (member old.words.items k) (member other.words.items k) (version_of old.versions k) (version_of other.versions k)
      ∙ ap (λ (o : Option Block). row_of_both o (Some other) k) (sym was)

-- ---- all blocks in turn

pub all_stays : (m : BTreeMap Row Block) → Stays m m
all_stays m p = stays_itself (tree.get row_cmp m p)

pub room_step : (m n others : BTreeMap Row Block) (es rest : List (Row × Block)) (place : Row) (block : Block) → es ≡ (place, block) ∷ rest → AreRoomier m n
    → IsRoomy (tree.get row_cmp n place) (tree.get row_cmp others place)
    → ((p : Row) → lookup (is_at (row_cmp p)) es ≡ None → IsRoomy (tree.get row_cmp m p) (tree.get row_cmp others p))
    → (p : Row) → lookup (is_at (row_cmp p)) rest ≡ None → IsRoomy (tree.get row_cmp n p) (tree.get row_cmp others p)
room_step m n others es rest place block split roomier room before p none = elim (cases_Bool (is_at (row_cmp p) place)) [
  | inl hit ↦ subst (λ (q : Row). IsRoomy (tree.get row_cmp n q) (tree.get row_cmp others q)) (sym (same_row p place hit)) room
  | inr miss ↦ roomy_stays (tree.get row_cmp m p) (tree.get row_cmp n p) (tree.get row_cmp others p) (roomier.stays p)
      (before p (ap (lookup (is_at (row_cmp p))) split ∙ ap (λ b. cond b (Some block) (lookup (is_at (row_cmp p)) rest)) miss ∙ none))
]

pub room_first : (m others : BTreeMap Row Block) (es : List (Row × Block)) → es ≡ others.entries → (p : Row) → lookup (is_at (row_cmp p)) es ≡ None
    → IsRoomy (tree.get row_cmp m p) (tree.get row_cmp others p)
room_first m others es all p none = subst (IsRoomy (tree.get row_cmp m p)) (sym (ap (lookup (is_at (row_cmp p))) (sym all) ∙ none)) tt

-- what is united so far: the blocks that are left are as they were, and all others are as they are to be
abbrev pub UnitesOnto : BTreeMap Row Block → BTreeMap Row Block → BTreeMap Row Block → List (Row × Block) → Type 0
UnitesOnto start others now rest =
    ((p : Row) (k : ℕ) → lookup (is_at (row_cmp p)) rest ≡ None → row_at (tree.get row_cmp now p) k ≡ row_of_both (tree.get row_cmp start p) (tree.get row_cmp others p) k)
    × ((p : Row) (k : ℕ) → row_of_both (tree.get row_cmp now p) (tree.get row_cmp others p) k ≡ row_of_both (tree.get row_cmp start p) (tree.get row_cmp others p) k)

pub unites_first : (m others : BTreeMap Row Block) (es : List (Row × Block)) → es ≡ others.entries → UnitesOnto m others m es
unites_first m others es all = (
  λ p k none. sym (ap (λ (o : Option Block). row_of_both (tree.get row_cmp m p) o k) (ap (lookup (is_at (row_cmp p))) (sym all) ∙ none) ∙ or_none (row_at (tree.get row_cmp m p) k)),
  λ p k. refl,
)

twice_other : (a b : Option ℕ) → option_or (option_or a b) b ≡ option_or a b
twice_other None None = refl
twice_other None (Some v) = refl
twice_other (Some v) b = refl

pub unites_step : (start others m n : BTreeMap Row Block) (es rest : List (Row × Block)) (place : Row) (block : Block) → es ≡ (place, block) ∷ rest
    → ((k : ℕ) → row_at (tree.get row_cmp n place) k ≡ row_of_both (tree.get row_cmp m place) (tree.get row_cmp others place) k)
    → ((p : Row) (k : ℕ) → is_at (row_cmp place) p ≡ false → row_at (tree.get row_cmp n p) k ≡ row_at (tree.get row_cmp m p) k)
    → UnitesOnto start others m es → UnitesOnto start others n rest
unites_step start others m n es rest place block split hereof elsewhere before = (done, onto)
  where
    turned_miss : (p : Row) → is_at (row_cmp p) place ≡ false → is_at (row_cmp place) p ≡ false
    turned_miss p miss = apart_row place p (λ same. true≢false (sym (tied_row p place (sym same)) ∙ miss))

    done : (p : Row) (k : ℕ) → lookup (is_at (row_cmp p)) rest ≡ None → row_at (tree.get row_cmp n p) k ≡ row_of_both (tree.get row_cmp start p) (tree.get row_cmp others p) k
    done p k none = elim (cases_Bool (is_at (row_cmp p) place)) [
      | inl hit ↦
          let same : place ≡ p = sym (same_row p place hit) in
          subst (λ (q : Row). row_at (tree.get row_cmp n q) k ≡ row_of_both (tree.get row_cmp start q) (tree.get row_cmp others q) k) same
          (hereof k ∙ before.1 place k)
      | inr miss ↦
          elsewhere p k (turned_miss p miss)
          ∙ before.0 p k (ap (lookup (is_at (row_cmp p))) split ∙ ap (λ b. cond b (Some block) (lookup (is_at (row_cmp p)) rest)) miss ∙ none)
    ]

    onto : (p : Row) (k : ℕ) → row_of_both (tree.get row_cmp n p) (tree.get row_cmp others p) k ≡ row_of_both (tree.get row_cmp start p) (tree.get row_cmp others p) k
    onto p k = elim (cases_Bool (is_at (row_cmp p) place)) [
      | inl hit ↦
          let same : place ≡ p = sym (same_row p place hit) in
          subst (λ (q : Row). row_of_both (tree.get row_cmp n q) (tree.get row_cmp others q) k ≡ row_of_both (tree.get row_cmp start q) (tree.get row_cmp others q) k) same
          (ap (λ (o : Option ℕ). option_or o (row_at (tree.get row_cmp others place) k)) (hereof k)
          ∙ twice_other (row_at (tree.get row_cmp m place) k) (row_at (tree.get row_cmp others place) k) ∙ before.1 place k)
      | inr miss ↦
          ap (λ (o : Option ℕ). option_or o (row_at (tree.get row_cmp others p) k)) (elsewhere p k (turned_miss p miss)) ∙ before.1 p k
    ]

-- ---- rows in turn

pub row_first : (m n : BTreeMap Row Block) (row : Row) (v : ℕ) (es rest : List (Row × ℕ)) → ((q : Row) → found_at n q ≡ option_or (found_at m q) (cond (eq_by_cmp row_cmp q row) (Some v) None))
    → es ≡ (row, v) ∷ rest → (q : Row) → option_or (found_at n q) (find row_cmp q rest) ≡ option_or (found_at m q) (find row_cmp q es)
row_first m n row v es rest step split q =
    ap (λ (o : Option ℕ). option_or o (find row_cmp q rest)) (step q)
    ∙ or_assoc (found_at m q) (cond (eq_by_cmp row_cmp q row) (Some v) None) (find row_cmp q rest)
    ∙ ap (option_or (found_at m q)) (one_first (eq_by_cmp row_cmp q row) v (find row_cmp q rest) ∙ ap (find row_cmp q) (sym split))

-- a row that is there stays
pub kept_there : (a : Option ℕ) (e : Bool) (v : ℕ) → (e ≡ true → is_some a ≡ true) → a ≡ option_or a (cond e (Some v) None)
kept_there (Some w) e v there = refl
kept_there None true v there = absurd (true≢false (sym (there refl)))
kept_there None false v there = refl

-- a row that isn't is put in
pub put_there : (a : Option ℕ) (e : Bool) (v : ℕ) → (e ≡ true → a ≡ None) → cond e (Some v) a ≡ option_or a (cond e (Some v) None)
put_there None true v gone = refl
put_there None false v gone = refl
put_there (Some w) true v gone = let no : Some w ≡ None = gone refl in cc
put_there (Some w) false v gone = refl

pub row_at_place : (rows : List (Row × ℕ)) (i : ℕ) (d : Row × ℕ) → i < length rows → drop i rows ≡ get_or rows i d ∷ drop (i + 1) rows
row_at_place rows i d below = drop-cons rows i d below ∙ ap (λ (n : ℕ). get_or rows i d ∷ drop n rows) (sym (add-one i))
