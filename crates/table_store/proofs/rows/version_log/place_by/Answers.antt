use Rattle.std.proofs.Common.{rules, ◌≡◌, ◌∙◌, ◌-◌, ◌<◌, ◌≤◌, ap, sym, subst, refl, ℕ, get_or, length, arith, take}
use Rattle.std.proofs.lemmas.List.{get_or_default}
use Rattle.row_version.specs.History.{as_of}
use Rattle.table_store.specs.inner.Past.{no_version, past}
use Rattle.table_store.specs.declared.rows.logged.Logged.{Logged}
use Rattle.table_store.proofs.PastLaws.{head_within, head_left, found_by, went_back, before_within, before_own, none_left}
use Rattle.table_store.proofs.rows.version_log.place_by.Goals as goal

pub back-init : goal.back-init
back-init c =
    let held = c.args.held.now in
    let last = c.args.last.now in
    let slot = c.args.slot in
    let is = c.head-link.ensures in
    record {
      within = subst (λ (n : ℕ). n ≤ length held) (sym is) (head_within held last c.requires slot);
      own = subst (λ (n : ℕ). 0 < n → (get_or held (n - 1) no_version).slot ≡ slot) (sym is) (c.requires.heads slot).own;
      left = ap (λ (n : ℕ). as_of (past (take n held) slot) c.args.time) is ∙ head_left held last c.requires slot c.args.time;
    }

pub back-preserved : goal.back-preserved
back-preserved c =
    let held = c.args.held.now in
    let last = c.args.last.now in
    let slot = c.args.slot in
    let time = c.args.time in
    let link = c.back.link in
    let place = c.back.link - 1 in
    let v : Logged = c.index-held-place.result in
    let inv = c.back.invariant in
    let some : 0 < link = search rules in
    let inside : place < length held = omega (arith, some, inv.within) in
    let at : v ≡ get_or held place no_version = c.index-held-place.is ∙ get_or_default held place v no_version inside in
    let begun : time < v.since = search rules in
    let early : time < (get_or held place no_version).since = subst (λ (w : Logged). time < w.since) at begun in
    let down : (get_or held place no_version).before ≤ place = before_within held last c.requires slot time link place some refl inv.within (inv.own some) in
    let before : v.before ≡ (get_or held place no_version).before = ap (λ (w : Logged). w.before) at in
    record {
      within = omega (arith, before, down, inside);
      own = subst (λ (n : ℕ). 0 < n → (get_or held (n - 1) no_version).slot ≡ slot) (sym before) (before_own held last c.requires slot time link place some refl inv.within (inv.own some));
      left = ap (λ (n : ℕ). as_of (past (take n held) slot) time) before
          ∙ sym (went_back held last c.requires slot time link place some refl inv.within (inv.own some) early) ∙ inv.left;
    }

pub returns-then-version-time-clause-found : goal.returns-then-version-time-clause-found
returns-then-version-time-clause-found c =
    let held = c.args.held.now in
    let last = c.args.last.now in
    let slot = c.args.slot in
    let time = c.args.time in
    let link = c.back.link in
    let place = c.back.link - 1 in
    let v : Logged = c.index-held-place.result in
    let inv = c.back.invariant in
    let some : 0 < link = c.back-test.true in
    let inside : place < length held = omega (arith, some, inv.within) in
    let at : v ≡ get_or held place no_version = c.index-held-place.is ∙ get_or_default held place v no_version inside in
    let late : (get_or held place no_version).since ≤ time = subst (λ (w : Logged). w.since ≤ time) at c.if-version-time.true in
    (inside, sym inv.left ∙ found_by held last c.requires slot time link place some refl inv.within (inv.own some) late)

pub returns-clause-absent : goal.returns-clause-absent
returns-clause-absent c = λ none.
    sym c.back.invariant.left ∙ none_left c.args.held.now c.args.slot c.args.time c.back.link (omega (arith, c.back-test.false))
