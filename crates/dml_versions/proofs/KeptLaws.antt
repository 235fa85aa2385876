-- The result of a change with and without its lists.
use Rattle.std.proofs.Common.{◌≡◌, ℕ, List, [], refl, ap, sym, ◌∙◌, Some, Bool, true, false, IsTrue}
use Rattle.ldv_value.proofs.Booleans.{true≢false}
use Rattle.sql_model.specs.Needs.{Versions}
use Rattle.dml_versions.specs.Changing.{IsChange, IsWhole, refused_by, refused_change, reply_alone, change_with_lists}
use Rattle.dml_versions.specs.inner.Needing.{with_key_rows, with_child_row}
use Rattle.dml_versions.specs.Types.{Need, RowHistory, Statement, StoreHistory, NotNull, KeyTaken, Full, NoParent, HasChild}
use Rattle.dml_versions.specs.declared.change.Change.{Change}
use Rattle.table_store.specs.declared.error.StoreStop.{StoreStop}
use Rattle.table_store.specs.declared.error.StoreStop.TheVariants as stop

pub whole-change : (s : Statement) (keep : Bool) (store : StoreHistory) (change : Change)
    → IsWhole s store change → IsChange s keep store change
whole-change s keep store change is = record {
  reply = is.reply;
  made = λ kept. is.made;
  needs = λ kept. is.needs;
}

-- the lists may be left out where they aren't kept
pub change_with_lists-change : (s : Statement) (keep : Bool) (store : StoreHistory) (whole change : Change)
    → IsWhole s store whole → change ≡ change_with_lists keep whole → IsChange s keep store change
change_with_lists-change s true store whole change is same = record {
  reply = ap (λ (c : Change). c.reply) same ∙ is.reply;
  made = λ kept. ap (λ (c : Change). c.made) same ∙ is.made;
  needs = λ kept. ap (λ (c : Change). c.needs) same ∙ is.needs;
}
change_with_lists-change s false store whole change is same = record {
  reply = ap (λ (c : Change). c.reply) same ∙ is.reply;
  made = λ kept. absurd (true≢false (sym kept));
  needs = λ kept. absurd (true≢false (sym kept));
}

-- ---- refusals over some needs, and over others

-- the matched rows, where a refusal needs these alone
abbrev pub SameOwn : StoreStop → List Need → List Need → Type 0
SameOwn stop.NotNull needs others = needs ≡ others
SameOwn (stop.KeyTaken earlier later key) needs others = needs ≡ others
SameOwn stop.Full needs others = Unit {0}
SameOwn (stop.NoParent table key) needs others = Unit {0}
SameOwn (stop.HasChild table row key) needs others = Unit {0}
SameOwn stop.NoMemory needs others = Unit {0}

pub same-own : (at : StoreStop) (needs others : List Need) → needs ≡ others → SameOwn at needs others
same-own stop.NotNull needs others same = same
same-own (stop.KeyTaken earlier later key) needs others same = same
same-own stop.Full needs others same = tt
same-own (stop.NoParent table key) needs others same = tt
same-own (stop.HasChild table row key) needs others same = tt
same-own stop.NoMemory needs others same = tt

-- with parents, where a refusal needs these too
abbrev pub SameAll : StoreStop → List Need → List Need → Type 0
SameAll stop.NotNull all others = Unit {0}
SameAll (stop.KeyTaken earlier later key) all others = Unit {0}
SameAll stop.Full all others = Unit {0}
SameAll (stop.NoParent table key) all others = all ≡ others
SameAll (stop.HasChild table row key) all others = all ≡ others
SameAll stop.NoMemory all others = Unit {0}

pub record IsRefusedOver (versions : Versions) (name : List ℕ) (slots : List RowHistory) (needs others all all_others : List Need)
    (at : StoreStop) (change : Change) : Type 0 where
  pub whole : Change
  pub is : refused_change versions name slots others all_others at ≡ Some whole
  pub reply : change.reply ≡ whole.reply
  pub made : change.made ≡ whole.made
  pub needs_are : SameOwn at needs others → SameAll at all all_others → change.needs ≡ whole.needs

some_is : (a b : Change) → Some a ≡ Some b → b ≡ a
some_is a b is = cc

module _ (versions : Versions) (name : List ℕ) (slots : List RowHistory) (needs others all all_others : List Need) where
  pub refused-over : (at : StoreStop) (change : Change) → refused_change versions name slots needs all at ≡ Some change
      → IsRefusedOver versions name slots needs others all all_others at change
  refused-over stop.NotNull change is =
      let same = some_is (refused_by NotNull needs) change is in
      record {
        whole = refused_by NotNull others;
        is = refl;
        reply = ap (λ (c : Change). c.reply) same;
        made = ap (λ (c : Change). c.made) same;
        needs_are = λ own more. ap (λ (c : Change). c.needs) same ∙ own;
      }
  refused-over (stop.KeyTaken earlier later key) change is =
      let same = some_is (refused_by (KeyTaken name key) (with_key_rows name slots earlier later needs)) change is in
      record {
        whole = refused_by (KeyTaken name key) (with_key_rows name slots earlier later others);
        is = refl;
        reply = ap (λ (c : Change). c.reply) same;
        made = ap (λ (c : Change). c.made) same;
        needs_are = λ own more. ap (λ (c : Change). c.needs) same ∙ ap (with_key_rows name slots earlier later) own;
      }
  refused-over stop.Full change is =
      let same = some_is (refused_by Full []) change is in
      record {
        whole = refused_by Full [];
        is = refl;
        reply = ap (λ (c : Change). c.reply) same;
        made = ap (λ (c : Change). c.made) same;
        needs_are = λ own more. ap (λ (c : Change). c.needs) same;
      }
  refused-over (stop.NoParent table key) change is =
      let same = some_is (refused_by (NoParent table key) all) change is in
      record {
        whole = refused_by (NoParent table key) all_others;
        is = refl;
        reply = ap (λ (c : Change). c.reply) same;
        made = ap (λ (c : Change). c.made) same;
        needs_are = λ own more. ap (λ (c : Change). c.needs) same ∙ more;
      }
  refused-over (stop.HasChild table row key) change is =
      let same = some_is (refused_by (HasChild table key) (with_child_row versions table row all)) change is in
      record {
        whole = refused_by (HasChild table key) (with_child_row versions table row all_others);
        is = refl;
        reply = ap (λ (c : Change). c.reply) same;
        made = ap (λ (c : Change). c.made) same;
        needs_are = λ own more. ap (λ (c : Change). c.needs) same ∙ ap (with_child_row versions table row) more;
      }
  refused-over stop.NoMemory change is = cc

  -- a refusal over needs that are there where they are kept
  pub refused-change_with_lists : (s : Statement) (keep : Bool) (store : StoreHistory) (at : StoreStop) (change : Change)
      → (over : IsRefusedOver versions name slots needs others all all_others at change)
      → (IsTrue keep → SameOwn at needs others) → (IsTrue keep → SameAll at all all_others)
      → IsWhole s store over.whole → IsChange s keep store change
  refused-change_with_lists s keep store at change over own more is = record {
    reply = over.reply ∙ is.reply;
    made = λ kept. over.made ∙ is.made;
    needs = λ kept. over.needs_are (own kept) (more kept) ∙ is.needs;
  }

-- what is told of a change with needs that are there where they are kept
pub change_with_lists-over : (keep : Bool) (of : List Need → Change) → ((a b : List Need) → (of a).reply ≡ (of b).reply) → (needs others : List Need)
    → (IsTrue keep → needs ≡ others) → change_with_lists keep (of needs) ≡ change_with_lists keep (of others)
change_with_lists-over true of same needs others are = ap of (are refl)
change_with_lists-over false of same needs others are = ap reply_alone (same needs others)

-- the needs of a change that is told
pub change_with_lists-needs : (keep : Bool) (whole change : Change) → change ≡ change_with_lists keep whole → IsTrue keep → change.needs ≡ whole.needs
change_with_lists-needs true whole change same kept = ap (λ (c : Change). c.needs) same
change_with_lists-needs false whole change same kept = absurd (true≢false (sym kept))
