-- Versions in a log, and the links between them.
use Rattle.std.proofs.Common.{◌≡◌, ◌==◌, ◌≢◌, ℕ, zero, suc, ◌+◌, ◌-◌, ◌<◌, ◌≤◌, inl, inr, Bool, true, false, cond, List, [], ◌∷◌, ◌++◌, map, length, get_or, set, take, refl, ap, sym, subst, ◌∙◌, arith, Option, Some, None, append-nil, get_or-set_same, get_or-set_other}
use Rattle.std.specs.Prelude.{filter, nat_le, ◌^◌}
use Rattle.std.proofs.lemmas.Bool.{cases_eq, cases_lt, ne_eqb, eq-eqb}
use Rattle.std.proofs.lemmas.List.{map-append, length-map, length-append, length_push, take-append-le, take_all, take_more, get_or_append_left, get_or_push, get_or_past}
use Rattle.std.proofs.lemmas.List.Elements.{filter-append}
use Rattle.row_version.specs.History.{Change, as_of}
use Rattle.row_version.proofs.Later.{as_of_later, as_of_earlier}
use Rattle.table_store.specs.Types.{Value}
use Rattle.table_store.specs.inner.Past.{no_version, is_of_slot, versions_of, write_of, past, IsLink, count_at, AreLinked}
use Rattle.table_store.specs.declared.rows.logged.Logged.{Logged}

-- ---- one version more

module _ (versions : List Logged) (version : Logged) where
  abbrev more : List Logged
  more = versions ++ version ∷ []

  versions_here : (slot : ℕ) → version.slot ≡ slot → versions_of more slot ≡ versions_of versions slot ++ version ∷ []
  versions_here slot is = filter-append (is_of_slot slot) versions (version ∷ []) ∙ ap (λ b. versions_of versions slot ++ cond b (version ∷ []) []) (eq-eqb version.slot slot is)

  versions_elsewhere : (slot : ℕ) → version.slot ≢ slot → versions_of more slot ≡ versions_of versions slot
  versions_elsewhere slot away =
      filter-append (is_of_slot slot) versions (version ∷ [])
      ∙ ap (λ b. versions_of versions slot ++ cond b (version ∷ []) []) (ne_eqb version.slot slot away)
      ∙ append-nil (versions_of versions slot)

  pub past_here : (slot : ℕ) → version.slot ≡ slot → past more slot ≡ past versions slot ++ write_of version ∷ []
  past_here slot is = ap (map write_of) (versions_here slot is) ∙ map-append write_of (versions_of versions slot) (version ∷ [])

  pub past_elsewhere : (slot : ℕ) → version.slot ≢ slot → past more slot ≡ past versions slot
  past_elsewhere slot away = ap (map write_of) (versions_elsewhere slot away)

-- ---- links

-- a link counts the versions of its slot
pub count_by : (versions : List Logged) (last : List ℕ) → AreLinked versions last → (bound slot link : ℕ) → bound ≤ length versions → IsLink versions bound slot link
    → count_at versions link ≡ length (versions_of (take bound versions) slot)
count_by versions last linked bound slot zero within is = sym (ap length is.same)
count_by versions last linked bound slot (suc place) within is =
    let inside : place < length versions = omega (arith, is.within, within) in
    let at : suc place - 1 ≡ place = omega arith in
    let own : (get_or versions place no_version).slot ≡ slot = subst (λ (n : ℕ). (get_or versions n no_version).slot ≡ slot) at (is.own (omega arith)) in
    linked.counts place inside
    ∙ ap (λ (n : ℕ). length (versions_of (take (suc place) versions) n)) own
    ∙ sym (ap length is.same)

pub head_count : (versions : List Logged) (last : List ℕ) → AreLinked versions last → (slot : ℕ) → count_at versions (get_or last slot 0) ≡ length (past versions slot)
head_count versions last linked slot =
    count_by versions last linked (length versions) slot (get_or last slot 0) (omega arith) (linked.heads slot)
    ∙ ap (λ (l : List Logged). length (versions_of l slot)) (take_all (length versions) versions (omega arith))
    ∙ sym (length-map (versions_of versions slot) write_of)

module _ (versions : List Logged) (version : Logged) where
  link_more : (bound slot link : ℕ) → bound ≤ length versions → IsLink versions bound slot link → IsLink (versions ++ version ∷ []) bound slot link
  link_more bound slot link within is = record {
    within = is.within;
    same = ap (λ (l : List Logged). versions_of l slot) (take-append-le bound versions (version ∷ []) within)
        ∙ is.same
        ∙ sym (ap (λ (l : List Logged). versions_of l slot) (take-append-le link versions (version ∷ []) (omega (arith, within, is.within))));
    own = λ some. ap (λ (v : Logged). v.slot) (get_or_append_left versions (version ∷ []) no_version (link - 1) (omega (arith, within, is.within, some))) ∙ is.own some;
  }

  module _ (last new : List ℕ) (linked : AreLinked versions last) (within : version.slot < length last) (before : version.before ≡ get_or last version.slot 0)
      (count : version.count ≡ count_at versions version.before + 1) (noted : new ≡ set last version.slot (length versions + 1)) where
    links_more : (p : ℕ) → p < length (versions ++ version ∷ [])
        → IsLink (versions ++ version ∷ []) p (get_or (versions ++ version ∷ []) p no_version).slot (get_or (versions ++ version ∷ []) p no_version).before
    links_more p below = elim (cases_lt p (length versions)) [
      | inl inside ↦
          subst (λ (v : Logged). IsLink (versions ++ version ∷ []) p v.slot v.before) (sym (get_or_append_left versions (version ∷ []) no_version p inside))
          (link_more p (get_or versions p no_version).slot (get_or versions p no_version).before (omega (arith, inside)) (linked.links p inside))
      | inr from ↦
          let is : length versions ≡ p = omega (arith, from, below, length_push versions version) in
          subst (λ (v : Logged). IsLink (versions ++ version ∷ []) p v.slot v.before) (sym (get_or_push versions version no_version p is))
          (subst (λ (n : ℕ). IsLink (versions ++ version ∷ []) n version.slot version.before) is
          (subst (λ (l : ℕ). IsLink (versions ++ version ∷ []) (length versions) version.slot l) (sym before)
          (link_more (length versions) version.slot (get_or last version.slot 0) (omega arith) (linked.heads version.slot))))
    ]

    all_here : take (length (versions ++ version ∷ [])) (versions ++ version ∷ []) ≡ versions ++ version ∷ []
    all_here = take_all (length (versions ++ version ∷ [])) (versions ++ version ∷ []) (omega arith)

    counted : version.count ≡ length (versions_of (versions ++ version ∷ []) version.slot)
    counted =
        let earlier : count_at versions version.before ≡ length (versions_of versions version.slot) =
        ap (count_at versions) before
        ∙ count_by versions last linked (length versions) version.slot (get_or last version.slot 0) (omega arith) (linked.heads version.slot)
        ∙ ap (λ (l : List Logged). length (versions_of l version.slot)) (take_all (length versions) versions (omega arith)) in
        count
        ∙ ap (λ (n : ℕ). n + 1) earlier
        ∙ sym (ap length (versions_here versions version version.slot refl) ∙ length_push (versions_of versions version.slot) version)

    counts_more : (p : ℕ) → p < length (versions ++ version ∷ [])
        → (get_or (versions ++ version ∷ []) p no_version).count ≡ length (versions_of (take (suc p) (versions ++ version ∷ [])) (get_or (versions ++ version ∷ []) p no_version).slot)
    counts_more p below = elim (cases_lt p (length versions)) [
      | inl inside ↦
          subst (λ (v : Logged). v.count ≡ length (versions_of (take (suc p) (versions ++ version ∷ [])) v.slot)) (sym (get_or_append_left versions (version ∷ []) no_version p inside))
          (linked.counts p inside
          ∙ sym (ap (λ (l : List Logged). length (versions_of l (get_or versions p no_version).slot)) (take-append-le (suc p) versions (version ∷ []) (omega (arith, inside)))))
      | inr from ↦
          let is : length versions ≡ p = omega (arith, from, below, length_push versions version) in
          subst (λ (v : Logged). v.count ≡ length (versions_of (take (suc p) (versions ++ version ∷ [])) v.slot)) (sym (get_or_push versions version no_version p is))
          (counted ∙ sym (ap (λ (l : List Logged). length (versions_of l version.slot)) (take_all (suc p) (versions ++ version ∷ []) (omega (arith, is, length_push versions version)))))
    ]

    heads_more : (slot : ℕ) → IsLink (versions ++ version ∷ []) (length (versions ++ version ∷ [])) slot (get_or new slot 0)
    heads_more slot = elim (cases_eq slot version.slot) [
      | inl same ↦
          let link : get_or new slot 0 ≡ length versions + 1 =
          ap (λ (l : List ℕ). get_or l slot 0) noted ∙ ap (λ (n : ℕ). get_or (set last version.slot (length versions + 1)) n 0) same ∙ get_or-set_same last version.slot (length versions + 1) 0 within in
          let at : length versions ≡ length versions + 1 - 1 = omega arith in
          subst (λ (l : ℕ). IsLink (versions ++ version ∷ []) (length (versions ++ version ∷ [])) slot l) (sym link) (record {
            within = omega (arith, length_push versions version);
            same = ap (λ (n : ℕ). versions_of (take n (versions ++ version ∷ [])) slot) (length_push versions version);
            own = λ some. ap (λ (v : Logged). v.slot) (get_or_push versions version no_version (length versions + 1 - 1) at) ∙ sym same;
          })
      | inr other ↦
          let link : get_or new slot 0 ≡ get_or last slot 0 = ap (λ (l : List ℕ). get_or l slot 0) noted ∙ get_or-set_other last version.slot slot (length versions + 1) 0 other in
          let old = link_more (length versions) slot (get_or last slot 0) (omega arith) (linked.heads slot) in
          subst (λ (l : ℕ). IsLink (versions ++ version ∷ []) (length (versions ++ version ∷ [])) slot l) (sym link) (record {
            within = omega (arith, old.within, length_push versions version);
            same = ap (λ (l : List Logged). versions_of l slot) all_here
                ∙ versions_elsewhere versions version slot (λ is. other (sym is))
                ∙ sym (ap (λ (l : List Logged). versions_of l slot) (take-append-le (length versions) versions (version ∷ []) (omega arith) ∙ take_all (length versions) versions (omega arith)))
                ∙ old.same;
            own = old.own;
          })
    ]

    pub linked_more : AreLinked (versions ++ version ∷ []) new
    linked_more = record { links = links_more; counts = counts_more; heads = heads_more }

-- zeros at the end of the links change nothing
pub linked_same : (versions : List Logged) (last new : List ℕ) → ((k : ℕ) → get_or new k 0 ≡ get_or last k 0) → AreLinked versions last → AreLinked versions new
linked_same versions last new same linked = record {
  links = linked.links;
  counts = linked.counts;
  heads = λ slot. subst (λ (l : ℕ). IsLink versions (length versions) slot l) (sym (same slot)) (linked.heads slot);
}

pub none_linked : AreLinked [] []
none_linked = record {
  links = λ p below. absurd (omega (arith, below));
  counts = λ p below. absurd (omega (arith, below));
  heads = λ slot. record { within = omega arith; same = refl; own = λ some. absurd (omega (arith, some)) };
}

-- ---- the way back from the last version

pub head_within : (versions : List Logged) (last : List ℕ) → AreLinked versions last → (slot : ℕ) → get_or last slot 0 ≤ length versions
head_within versions last linked slot = (linked.heads slot).within

-- from the last version of a slot on all of it is before
pub head_left : (versions : List Logged) (last : List ℕ) → AreLinked versions last → (slot time : ℕ) → as_of (past (take (get_or last slot 0) versions) slot) time ≡ as_of (past versions slot) time
head_left versions last linked slot time =
    ap (λ (l : List Logged). as_of (map write_of l) time) (sym (linked.heads slot).same)
    ∙ ap (λ (l : List Logged). as_of (past l slot) time) (take_all (length versions) versions (omega arith))

module _ (versions : List Logged) (last : List ℕ) (linked : AreLinked versions last) (slot time link place : ℕ) (some : 0 < link) (at : place ≡ link - 1) (within : link ≤ length versions)
    (own : (get_or versions place no_version).slot ≡ slot) where
  inside : place < length versions
  inside = omega (arith, some, at, within)

  up_to : past (take link versions) slot ≡ past (take place versions) slot ++ write_of (get_or versions place no_version) ∷ []
  up_to =
      let next : link ≡ place + 1 = omega (arith, some, at) in
      ap (λ (n : ℕ). past (take n versions) slot) next
      ∙ ap (λ (l : List Logged). past l slot) (take_more versions place no_version inside)
      ∙ past_here (take place versions) (get_or versions place no_version) slot own

  -- a version that had begun is the one
  pub found_by : (get_or versions place no_version).since ≤ time → as_of (past (take link versions) slot) time ≡ Some (get_or versions place no_version).values
  found_by late = ap (λ (l : List Change). as_of l time) up_to ∙ as_of_later (past (take place versions) slot) (write_of (get_or versions place no_version)) time late

  before_it : past (take place versions) slot ≡ past (take (get_or versions place no_version).before versions) slot
  before_it =
      let is : IsLink versions place slot (get_or versions place no_version).before =
      subst (λ (n : ℕ). IsLink versions place n (get_or versions place no_version).before) own (linked.links place inside) in
      ap (map write_of) is.same

  -- else it is one before it
  pub went_back : time < (get_or versions place no_version).since
      → as_of (past (take link versions) slot) time ≡ as_of (past (take (get_or versions place no_version).before versions) slot) time
  went_back early =
      ap (λ (l : List Change). as_of l time) up_to
      ∙ as_of_earlier (past (take place versions) slot) (write_of (get_or versions place no_version)) time early
      ∙ ap (λ (l : List Change). as_of l time) before_it

  pub before_within : (get_or versions place no_version).before ≤ place
  before_within = (linked.links place inside).within

  pub before_own : 0 < (get_or versions place no_version).before → (get_or versions ((get_or versions place no_version).before - 1) no_version).slot ≡ slot
  before_own more = (linked.links place inside).own more ∙ own

pub none_left : (versions : List Logged) (slot time link : ℕ) → link ≤ 0 → as_of (past (take link versions) slot) time ≡ None
none_left versions slot time link done = let is : link ≡ 0 = omega (arith, done) in ap (λ (n : ℕ). as_of (past (take n versions) slot) time) is
