-- The events of a run, step by step.
use Rattle.std.proofs.Common.{◌≡◌, ℕ, zero, suc, ◌+◌, ◌<◌, ◌≤◌, List, [], ◌∷◌, ◌++◌, length, refl, sym, ap, ◌∙◌, subst, Bool, true, false, arith, inl, inr}
use Rattle.std.specs.Prelude.{Option, Some, None, map, slice_get, is_some, ◌&&◌, nat_le, nat_lt}
use Rattle.std.specs.List.{AllByRecursion}
use Rattle.std.proofs.lemmas.Bool.{cases_Bool, le-leb, lt-ltb, ltb-true}
use Rattle.ldv_value.specs.Limits.{max_processes}
use Rattle.ldv_value.specs.Names.{path_test}
use Rattle.ldv_value.proofs.Booleans.{and-from}
use Rattle.sql_model.specs.Statements.{reply_of}
use Rattle.sql_model.specs.Texts.{statement_of}
use Rattle.replay_db.specs.Types.{Reply, Statement, Act, Started, Spawned, Waited, Ended, Asked, Event}
use Rattle.run_model.specs.Core.{Process, Core, have_all_ended, is_over}
use Rattle.run_model.specs.Events.{event_at, events_of_step, events}
use Rattle.run_model.specs.Run.{first_pick, later_picks, chosen, move_of, move, steps}
use Rattle.run_model.specs.RunLaw.{MayRun}
use Rattle.run_model.specs.Schedule.{choose}
use Rattle.run_model.specs.SqlDatabase.{SqlDatabase, db_after, lists_of, sql_base}
use Rattle.run_model.specs.State.{State, StepResult}
use Rattle.run_model.specs.Step.{Ask, Effect, local_step, took, next_ask, ends_at, asked_act, asking}
use Rattle.run_model.proofs.Equations.{events-zero, events-over, events-suc, steps-suc}
use Rattle.run_model.proofs.NeverStuck.{Ordered, found_below, move_ordered, chosen_runs}
use Rattle.package_codec.specs.Events.{act_room, TypedAct}
use Rattle.package_codec.specs.inner.Trace.{act_rule, made_after, is_asked, asked_after, follows}
use Rattle.replay_db.proofs.StatementEvents.{RuledNames, GoodDatabase, good_after, asked_ruled}
use Rattle.replay_db.proofs.TraceLists.{all_append}
use Rattle.run_laws.proofs.StepKinds.{Kind, Quiet, Asks, asked_then, db_then, made_in, StepOf, move_step, events_by_kind, step_events}
use Rattle.run_laws.proofs.TraceState.{GoodList, PlainAct, PlainActs, made_by}

-- so many steps are left
steps_left : (n number total : ℕ) (picks : List ℕ) (s : State SqlDatabase) → is_over s.core ≡ false
    → number + steps sql_base (suc n) picks s ≤ total + 1
    → (number ≤ total) × (number + 1 + steps sql_base n (later_picks picks) (move sql_base (first_pick picks) s).state ≤ total + 1)
steps_left n number total picks s going enough =
    let count : steps sql_base (suc n) picks s ≡ 1 + steps sql_base n (later_picks picks) (move sql_base (first_pick picks) s).state = steps-suc sql_base n picks s going in
    (omega arith, omega arith)

module _ (names : List (List ℕ)) where
  kind_good : (kind : Kind) (asked : ℕ) (db : SqlDatabase) → GoodDatabase names asked db → GoodDatabase names (asked_then kind asked) (db_then kind db)
  kind_good Quiet asked db good = good
  kind_good (Asks statement) asked db good = good_after names asked db statement good

  -- the database after a step
  pub step_good : (s : State SqlDatabase) (m : StepResult SqlDatabase) → StepOf s m → GoodDatabase names s.core.asked s.db
      → GoodDatabase names m.state.core.asked m.state.db
  step_good s m of good =
      subst (λ (n : ℕ). GoodDatabase names n m.state.db) (sym of.asked)
      (subst (GoodDatabase names (asked_then of.kind s.core.asked)) (sym of.db) (kind_good of.kind s.core.asked s.db good))

-- ---- what acts that aren't questions meet

pub plain_quiet : (made : ℕ) (act : Act) → PlainAct made act → is_asked act ≡ false
plain_quiet made (Asked statement tables reads written) plain = absurd plain
plain_quiet made other plain = refl

plain_rule : (made asked step : ℕ) (act : Act) → PlainAct made act
    → act_rule (record { made = made; asked = asked; step = step }) act ≡ true
plain_rule made asked step (Started path) plain = absurd plain
plain_rule made asked step (Spawned path) plain = and-from (path_test path) (nat_lt made max_processes) plain.0.0 plain.1
plain_rule made asked step (Waited child) plain = lt-ltb child made plain
plain_rule made asked step (Ended status) plain = refl
plain_rule made asked step (Asked statement tables reads written) plain = absurd plain
plain_rule made asked step other plain = plain.0

pub plain_room : (made : ℕ) (act : Act) → PlainAct made act → act_room act ≡ true
plain_room made (Asked statement tables reads written) plain = absurd plain
plain_room made other plain = refl

pub plain_typed : (made : ℕ) (act : Act) → made ≤ 65535 → PlainAct made act → TypedAct act
plain_typed made (Started path) few plain = absurd plain
plain_typed made (Spawned path) few plain = plain.0.1
plain_typed made (Waited child) few plain = omega (arith, few, plain)
plain_typed made (Ended status) few plain = plain
plain_typed made (Asked statement tables reads written) few plain = absurd plain
plain_typed made other few plain = plain.1

made_more : (made : ℕ) (act : Act) → made ≤ made_after made act
made_more made (Spawned path) = omega arith
made_more made other = omega arith

made_few : (made : ℕ) (act : Act) → made ≤ 65535 → PlainAct made act → made_after made act ≤ 65535
made_few made (Spawned path) few plain = let below : made < 65535 = ltb-true made max_processes plain.1 in omega (arith, below)
made_few made other few plain = few

-- ---- one event follows another

module _ (names : List (List ℕ)) (ruled : RuledNames names) (total : ℕ) where
  one_follows : (number process made asked step : ℕ) (act : Act) (rest : List Event) → step ≤ number → number ≤ total → process < made
      → act_rule (record { made = made; asked = asked; step = step }) act ≡ true
      → follows total (record { made = made_after made act; asked = asked_after asked (is_asked act); step = number }) rest ≡ true
      → follows total (record { made = made; asked = asked; step = step }) (event_at number process act ∷ rest) ≡ true
  one_follows number process made asked step act rest later within below rule more =
      let numbers = nat_le step number && nat_le number total in
      let two = and-from (nat_le step number) (nat_le number total) (le-leb step number later) (le-leb number total within) in
      let three = and-from numbers (nat_lt process made) two (lt-ltb process made below) in
      let four = and-from (numbers && nat_lt process made) (act_rule (record { made = made; asked = asked; step = step }) act) three rule in
      and-from (numbers && nat_lt process made && act_rule (record { made = made; asked = asked; step = step }) act)
      (follows total (record { made = made_after made act; asked = asked_after asked (is_asked act); step = number }) rest) four more

  -- where so many processes were made and so many statements were asked, the rest follows
  abbrev Goes : ℕ → ℕ → ℕ → List Event → Type 0
  Goes number made asked rest = (step : ℕ) → step ≤ number → follows total (record { made = made; asked = asked; step = step }) rest ≡ true

  plain_follows : (acts : List Act) (number process made asked : ℕ) (rest : List Event) → number ≤ total → process < made
      → PlainActs made acts → Goes (number + 1) (made_by made acts) asked rest
      → Goes number made asked (map (event_at number process) acts ++ rest)
  plain_follows [] number process made asked rest within below rules goes step later = goes step (omega (arith, later))
  plain_follows (act ∷ acts) number process made asked rest within below rules goes step later =
      let next : process < made_after made act = omega (arith, below, made_more made act) in
      let same : number ≤ number = omega arith in
      let after : Goes number (made_after made act) asked (map (event_at number process) acts ++ rest) =
      plain_follows acts number process (made_after made act) asked rest within next rules.1 goes in
      one_follows number process made asked step act (map (event_at number process) acts ++ rest) later within below
      (plain_rule made asked step act rules.0)
      (subst
      (λ (b : Bool). follows total (record { made = made_after made act; asked = asked_after asked b; step = number }) (map (event_at number process) acts ++ rest) ≡ true)
      (sym (plain_quiet made act rules.0)) (after number same))

  kind_follows : (kind : Kind) (number process made asked : ℕ) (db : SqlDatabase) (plain : List Act) (rest : List Event) → GoodDatabase names asked db
      → number ≤ total → process < made → PlainActs made plain → Goes (number + 1) (made_by made plain) (asked_then kind asked) rest
      → Goes number made asked (events_by_kind kind number process asked db plain ++ rest)
  kind_follows Quiet number process made asked db plain rest good within below rules goes step later =
      plain_follows plain number process made asked rest within below rules goes step later
  kind_follows (Asks statement) number process made asked db plain rest good within below rules goes step later =
      let same : number ≤ number = omega arith in
      one_follows number process made asked step (asked_act asked (lists_of statement db)) (map (event_at number process) plain ++ rest) later within below
      (asked_ruled names asked db good statement ruled made step)
      (plain_follows plain number process made (asked + 1) rest within below rules goes number same)

  pub run_follows : (n number : ℕ) (picks : List ℕ) (s : State SqlDatabase) → GoodList s.core.processes → Ordered s.core → GoodDatabase names s.core.asked s.db
      → number + steps sql_base n picks s ≤ total + 1 → Goes number (made_in s) s.core.asked (events sql_base n number picks s)
  run_follows zero number picks s list ordered good enough step later =
      ap (follows total (record { made = made_in s; asked = s.core.asked; step = step })) (events-zero sql_base number picks s)
  run_follows (suc n) number picks s list ordered good enough step later = elim (cases_Bool (is_over s.core)) [
    | inl over ↦ ap (follows total (record { made = made_in s; asked = s.core.asked; step = step })) (events-over sql_base (suc n) number picks s over)
    | inr going ↦
        let left = steps_left n number total picks s going enough in
        let m : StepResult SqlDatabase = move sql_base (first_pick picks) s in
        let of : StepOf s m = move_step (first_pick picks) s list ordered going in
        let rest : List Event = events sql_base n (number + 1) (later_picks picks) m.state in
        let next : Ordered m.state.core = move_ordered sql_base (choose (first_pick picks) s.core) s ordered in
        let more : Goes (number + 1) (made_in m.state) m.state.core.asked rest =
        run_follows n (number + 1) (later_picks picks) m.state of.good next (step_good names s m of good) left.1 in
        let made : Goes (number + 1) (made_by (made_in s) of.plain) m.state.core.asked rest =
        subst (λ (k : ℕ). Goes (number + 1) k m.state.core.asked rest) of.made more in
        let then_on : Goes (number + 1) (made_by (made_in s) of.plain) (asked_then of.kind s.core.asked) rest =
        subst (λ (k : ℕ). Goes (number + 1) (made_by (made_in s) of.plain) k rest) of.asked made in
        let all : events sql_base (suc n) number picks s ≡ events_by_kind of.kind number m.process s.core.asked s.db of.plain ++ rest =
        events-suc sql_base n number picks s going ∙ ap (λ (es : List Event). es ++ rest) (step_events number s m of) in
        ap (follows total (record { made = made_in s; asked = s.core.asked; step = step })) all
        ∙ kind_follows of.kind number m.process (made_in s) s.core.asked s.db of.plain rest good left.0 of.process of.rules then_on step later
  ]

-- ---- what holds of each event

module _ (names : List (List ℕ)) (P : Event → Type 0) (total : ℕ)
    (asked_good : (number process asked : ℕ) (statement : Option Statement) (db : SqlDatabase) → number ≤ total → process < 65535 → asked ≤ number → GoodDatabase names asked db → P (event_at number process (asked_act asked (lists_of statement db))))
    (plain_good : (number process made : ℕ) (act : Act) → number ≤ total → process < 65535 → made ≤ 65535 → PlainAct made act → P (event_at number process act)) where
  plains_good : (acts : List Act) (number process made : ℕ) → number ≤ total → process < 65535 → made ≤ 65535 → PlainActs made acts
      → AllByRecursion P (map (event_at number process) acts)
  plains_good [] number process made within below few rules = tt
  plains_good (act ∷ acts) number process made within below few rules = (
    plain_good number process made act within below few rules.0,
    plains_good acts number process (made_after made act) within below (made_few made act few rules.0) rules.1,
  )

  kind_events : (kind : Kind) (number process made asked : ℕ) (db : SqlDatabase) (plain : List Act) → number ≤ total → process < 65535 → made ≤ 65535
      → asked + 1 ≤ number → GoodDatabase names asked db → PlainActs made plain
      → AllByRecursion P (events_by_kind kind number process asked db plain)
  kind_events Quiet number process made asked db plain within below few little good rules = plains_good plain number process made within below few rules
  kind_events (Asks statement) number process made asked db plain within below few little good rules =
      (asked_good number process asked statement db within below (omega (arith, little)) good, plains_good plain number process made within below few rules)

  -- each step asks once at most
  asked_few : (kind : Kind) (number asked next : ℕ) → next ≡ asked_then kind asked → asked + 1 ≤ number → next + 1 ≤ number + 1
  asked_few Quiet number asked next is few = omega (arith, is, few)
  asked_few (Asks statement) number asked next is few = omega (arith, is, few)

  pub run_good : (n number : ℕ) (picks : List ℕ) (s : State SqlDatabase) → GoodList s.core.processes → Ordered s.core → GoodDatabase names s.core.asked s.db
      → number + steps sql_base n picks s ≤ total + 1 → s.core.asked + 1 ≤ number → AllByRecursion P (events sql_base n number picks s)
  run_good zero number picks s list ordered good enough few = subst (AllByRecursion P) (sym (events-zero sql_base number picks s)) tt
  run_good (suc n) number picks s list ordered good enough few = elim (cases_Bool (is_over s.core)) [
    | inl over ↦ subst (AllByRecursion P) (sym (events-over sql_base (suc n) number picks s over)) tt
    | inr going ↦
        let left = steps_left n number total picks s going enough in
        let m : StepResult SqlDatabase = move sql_base (first_pick picks) s in
        let of : StepOf s m = move_step (first_pick picks) s list ordered going in
        let rest : List Event = events sql_base n (number + 1) (later_picks picks) m.state in
        let next : Ordered m.state.core = move_ordered sql_base (choose (first_pick picks) s.core) s ordered in
        let below : m.process < 65535 = omega (arith, of.process, list.few) in
        let here : AllByRecursion P (events_by_kind of.kind number m.process s.core.asked s.db of.plain) =
        kind_events of.kind number m.process (made_in s) s.core.asked s.db of.plain left.0 below list.few few good of.rules in
        let more : AllByRecursion P rest =
        run_good n (number + 1) (later_picks picks) m.state of.good next (step_good names s m of good) left.1 (asked_few of.kind number s.core.asked m.state.core.asked of.asked few) in
        let all : events sql_base (suc n) number picks s ≡ events_by_kind of.kind number m.process s.core.asked s.db of.plain ++ rest =
        events-suc sql_base n number picks s going ∙ ap (λ (es : List Event). es ++ rest) (step_events number s m of) in
        subst (AllByRecursion P) (sym all) (all_append P (events_by_kind of.kind number m.process s.core.asked s.db of.plain) rest here more)
  ]
