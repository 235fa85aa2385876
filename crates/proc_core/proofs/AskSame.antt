-- The statement that a step asks, and its result after the reply: over slots they are as the model says.
use Rattle.std.proofs.Common.{◌≡◌, ℕ, zero, suc, ◌+◌, List, [], ◌∷◌, ◌++◌, length, map, refl, sym, ap, ◌∙◌, subst}
use Rattle.std.specs.Prelude.{Option, Some, None, slice_get, slice_set, option_map}
use Rattle.std.proofs.lemmas.List.{map-set}
use Rattle.script_parse.specs.declared.script.Instr.TheVariants as instr
use Rattle.sql_model.specs.declared.reply.Reply.{Reply}
use Rattle.proc_core.specs.Types.{Value, Null, Int, Text, Instr, Entry}
use Rattle.run_model.specs.Core.{bind, Cursor, Process, Core}
use Rattle.run_model.specs.Database.{Question}
use Rattle.run_model.specs.Outcome.{entry_reply}
use Rattle.run_model.specs.Step.{Ask, ask, asked_by, ask_of_instr, ask_of_process, next_ask, took_of, took, process_with_reply, entry_of}
use Rattle.run_model.specs.StepBase.{operand_value, operand_values}
use Rattle.script_code.specs.declared.code.Code.{Code}
use Rattle.script_code.specs.declared.code.Scope.{Scope}
use Rattle.script_code.specs.declared.code.SlotInstr.{SlotInstr}
use Rattle.script_code.specs.Resolved.{slot_of, HasName, slot_instr, HasAll, IsScope}
use Rattle.script_code.proofs.SlotLists.{set_slot}
use Rattle.proc_core.specs.declared.instructions.ask.Statement.{Statement}
use Rattle.proc_core.specs.declared.machine.Machine.{Machine}
use Rattle.proc_core.specs.declared.process.SlotCursor.{SlotCursor}
use Rattle.proc_core.specs.declared.process.SlotProcess.{SlotProcess}
use Rattle.proc_core.specs.Stands.{bound_value, cursor_in, HasReply, HaveReplies, Holds}
use Rattle.proc_core.specs.inner.SlotAsk.{text_statement, slot_ask, slot_ask_in, slot_ask_at, slot_replied, question_of}
use Rattle.proc_core.specs.inner.SlotStep.{next_slot_instr}
use Rattle.proc_core.specs.Stands.{IsProcess, AreProcesses, IsCore}
use Rattle.proc_core.proofs.Holding.{value_same, values_same}
use Rattle.proc_core.proofs.Lookups.{lookup_bound, lookup_other}
use Rattle.proc_core.proofs.Machines.{slot_process-at, not_found, replaced, AtSame, next_same}
use Rattle.proc_core.proofs.ReplySame.{set_reply}

-- ---- one reply more

pub get_last : {X : Type 0} (xs : List X) (x : X) → slice_get (xs ++ x ∷ []) (length xs) ≡ Some x
get_last [] x = refl
get_last (y ∷ ys) x = get_last ys x

pub get_before : {X : Type 0} (xs : List X) (x y : X) (n : ℕ) → slice_get xs n ≡ Some y → slice_get (xs ++ x ∷ []) n ≡ Some y
get_before [] x y n is = absurd cc
get_before (z ∷ zs) x y zero is = is
get_before (z ∷ zs) x y (suc n) is = get_before zs x y n is

module _ (replies : List Reply) (x : Reply) where
  more_reply : (c : Option SlotCursor) → HasReply replies c → HasReply (replies ++ x ∷ []) c
  more_reply None has = tt
  more_reply (Some c) has = (has.0, get_before replies x has.0 c.reply has.1)

  more_replies : (cs : List (Option SlotCursor)) → HaveReplies replies cs → HaveReplies (replies ++ x ∷ []) cs
  more_replies [] have = tt
  more_replies (c ∷ cs) have = (more_reply c have.0, more_replies cs have.1)

  cursor_stays : (c : Option SlotCursor) → HasReply replies c → cursor_in (replies ++ x ∷ []) c ≡ cursor_in replies c
  cursor_stays None has = refl
  cursor_stays (Some c) has =
      let meant : Option Reply → Option Cursor = option_map (λ reply. record { reply = reply; fetched = c.fetched }) in
      ap meant (get_before replies x has.0 c.reply has.1) ∙ ap meant (sym has.1)

  cursors_stay : (cs : List (Option SlotCursor)) → HaveReplies replies cs → map (cursor_in (replies ++ x ∷ [])) cs ≡ map (cursor_in replies) cs
  cursors_stay [] have = refl
  cursors_stay (c ∷ cs) have = λ i. cursor_stays c have.0 i ∷ cursors_stay cs have.1 i

  reply_last : (n : ℕ) → cursor_in (replies ++ x ∷ []) (Some (record { reply = length replies; fetched = n })) ≡ Some (record { reply = x; fetched = n })
  reply_last n = ap (option_map (λ reply. record { reply = reply; fetched = n })) (get_last replies x)

entries_more : (es : List Entry) (e : Entry) → map entry_reply (es ++ e ∷ []) ≡ map entry_reply es ++ e.reply ∷ []
entries_more [] e = refl
entries_more (d ∷ es) e = ap (λ (l : List Reply). d.reply ∷ l) (entries_more es e)

module _ (s : Scope) (index : ℕ) (script : List Instr) where
  holds_replied : (name : List ℕ) (q : Question) (x : Reply) (r : SlotProcess) (p : Process) → IsScope s → HasName s.cursors name
      → Holds s index script r p
      → Holds s index script (slot_replied (slot_of s.cursors name) x r) (process_with_reply (record { cursor = name; question = q }) x p)
  holds_replied name q x r p scope has h =
      let slot : ℕ = slot_of s.cursors name in
      let held : SlotCursor = record { reply = length r.replies; fetched = 0 } in
      let meant : Cursor = record { reply = x; fetched = 0 } in
      let f : List ℕ → Option Cursor = bound_value p.cursors in
      let g : List ℕ → Option Cursor = bound_value (bind name meant p.cursors) in
      let more : List Reply = r.replies ++ x ∷ [] in
      let set : slice_set (map f s.cursors) slot (g name) ≡ map g s.cursors =
      set_slot f g s.cursors name scope.cursors has (λ n other. lookup_other name n meant p.cursors other) in
      record {
        code = h.code;
        runs = h.runs;
        name = h.name;
        place = ap (λ (n : ℕ). n + 1) h.place;
        variables = h.variables;
        files = h.files;
        cursors = map-set (cursor_in more) r.cursors slot (Some held)
            ∙ (λ i. slice_set ((cursors_stay r.replies x r.cursors h.replied ∙ h.cursors) i) slot (reply_last r.replies x 0 i))
            ∙ ap (λ (o : Option Cursor). slice_set (map f s.cursors) slot o) (sym (lookup_bound name meant p.cursors)) ∙ set;
        replied = set_reply more r.cursors slot (Some held) (more_replies r.replies x r.cursors h.replied) (x, get_last r.replies x);
        children = h.children;
        spawned = h.spawned;
        printed = h.printed;
        replies = ap (λ (l : List Reply). l ++ x ∷ []) h.replies ∙ sym (entries_more p.entries (entry_of q x));
        status = h.status;
      }

  -- ---- what is asked

  -- the same is asked, or nothing is
  abbrev pub AskSame : Option Statement → Option Ask → SlotProcess → Process → Type 0
  AskSame None None r p = Unit {0}
  AskSame None (Some a) r p = ⊥
  AskSame (Some t) None r p = ⊥
  AskSame (Some t) (Some a) r p =
      (a.question ≡ question_of r t) × ((x : Reply) → Holds s index script (slot_replied t.cursor x r) (process_with_reply a x p))

  statement_same : (name : List ℕ) (text : Value) (params : List Value) (r : SlotProcess) (p : Process) → IsScope s → HasName s.cursors name
      → Holds s index script r p → AskSame (text_statement (slot_of s.cursors name) text params) (ask name text params p) r p
  statement_same name Null params r p scope has h = tt
  statement_same name (Int n) params r p scope has h = tt
  statement_same name (Text text) params r p scope has h = (
    λ i. record { process = sym h.name i; text = text; params = params },
    λ x. holds_replied name (record { process = p.name; text = text; params = params }) x r p scope has h,
  )

  asks_same : (i : Instr) (r : SlotProcess) (p : Process) → IsScope s → HasAll s i → Holds s index script r p
      → AskSame (slot_ask (Some (slot_instr s i)) r) (asked_by i p) r p
  asks_same (instr.Let to value) r p scope has h = tt
  asks_same (instr.Calc to op left right) r p scope has h = tt
  asks_same (instr.Glue to left right) r p scope has h = tt
  asks_same (instr.ToInt to value) r p scope has h = tt
  asks_same (instr.Cut before after by) r p scope has h = tt
  asks_same (instr.Jump place) r p scope has h = tt
  asks_same (instr.JumpIf op left right place) r p scope has h = tt
  asks_same (instr.Print operands) r p scope has h = tt
  asks_same (instr.Exit status) r p scope has h = tt
  asks_same (instr.OpenPath file mode path place) r p scope has h = tt
  asks_same (instr.ReadLine to file place) r p scope has h = tt
  asks_same (instr.WriteLine file operands) r p scope has h = tt
  asks_same (instr.CopyRest source target) r p scope has h = tt
  asks_same (instr.Close file) r p scope has h = tt
  asks_same (instr.Remove path place) r p scope has h = tt
  asks_same (instr.Exists to path) r p scope has h = tt
  asks_same (instr.Spawn child path arguments place) r p scope has h = tt
  asks_same (instr.Wait to child) r p scope has h = tt
  asks_same (instr.Sql cursor text params) r p scope has h =
      subst (λ (v : Value × List Value). AskSame (text_statement (slot_of s.cursors cursor) v.0 v.1) (ask cursor (operand_value p text) (operand_values p params) p) r p)
      (λ j. (sym (value_same s index script text r p has.1 h) j, sym (values_same s index script params r p has.2 h) j))
      (statement_same cursor (operand_value p text) (operand_values p params) r p scope has.0 h)
  asks_same (instr.Fetch cursor to place) r p scope has h = tt
  asks_same (instr.Count to cursor) r p scope has h = tt
  asks_same (instr.Status to cursor) r p scope has h = tt

  asks_at : (i : Option Instr) (o : Option SlotInstr) (r : SlotProcess) (p : Process) → AtSame s i o → IsScope s → Holds s index script r p
      → AskSame (slot_ask o r) (ask_of_instr i p) r p
  asks_at None None r p at scope h = tt
  asks_at None (Some o) r p at scope h = absurd at
  asks_at (Some i) None r p at scope h = absurd at
  asks_at (Some i) (Some o) r p at scope h =
      subst (λ (x : SlotInstr). AskSame (slot_ask (Some x) r) (asked_by i p) r p) (sym at.0) (asks_same i r p scope at.1 h)

  -- a statement is asked where it is
  asks_some : (t : Statement) (o : Option Statement) (oa : Option Ask) (r : SlotProcess) (p : Process) → AskSame o oa r p → o ≡ Some t
      → (a : Ask) × (oa ≡ Some a) × (a.question ≡ question_of r t) × ((x : Reply) → Holds s index script (slot_replied t.cursor x r) (process_with_reply a x p))
  asks_some t None oa r p same is = absurd cc
  asks_some t (Some u) None r p same is = absurd same
  asks_some t (Some u) (Some a) r p same is =
      let at : u ≡ t = cc in
      let both = subst (λ (v : Statement). (a.question ≡ question_of r v) × ((x : Reply) → Holds s index script (slot_replied v.cursor x r) (process_with_reply a x p))) at same in
      (a, refl, both.0, both.1)

  asks_none : (o : Option Statement) (oa : Option Ask) (r : SlotProcess) (p : Process) → AskSame o oa r p → o ≡ None → oa ≡ None
  asks_none None None r p same is = refl
  asks_none None (Some a) r p same is = absurd same
  asks_none (Some t) oa r p same is = absurd cc

-- ---- by the number of the process

same_at : (m : Machine) (r : SlotProcess) (p : Process) (is : IsProcess m.codes r p)
    → AskSame is.2.scope is.0 is.1 (slot_ask_in m.codes (Some r)) (ask_of_process (Some p)) r p
same_at m r p is =
    asks_at is.2.scope is.0 is.1 (slice_get p.script p.place) (next_slot_instr m.codes (Some r)) r p (next_same m.codes r p is) is.4.scope is.5

none_by : (m : Machine) (number : ℕ) (c : Core) (o : Option SlotProcess) → slice_get m.processes.items number ≡ o → IsCore m c
    → slot_ask_in m.codes o ≡ None → next_ask number c ≡ None
none_by m number c None is core none = ap ask_of_process (not_found m.codes m.processes.items c.processes number core.processes is)
none_by m number c (Some r) is core none =
    let there = slot_process-at m.codes m.processes.items c.processes number r core.processes is in
    let isp : IsProcess m.codes r there.0 = there.2 in
    ap ask_of_process there.1 ∙ asks_none isp.2.scope isp.0 isp.1 (slot_ask_in m.codes (Some r)) (ask_of_process (Some there.0)) r there.0 (same_at m r there.0 isp) none

-- where nothing is asked over slots, nothing is asked
pub asks_nothing : (m : Machine) (number : ℕ) (c : Core) → IsCore m c → slot_ask_at m number ≡ None → next_ask number c ≡ None
asks_nothing m number c core none = none_by m number c (slice_get m.processes.items number) refl core none

-- what is asked, and what its reply leaves
pub record Asks (m : Machine) (number : ℕ) (t : Statement) (c : Core) : Type 0 where
  pub held : SlotProcess
  pub process : Process
  pub what : Ask
  pub at_held : slice_get m.processes.items number ≡ Some held
  pub at_process : slice_get c.processes number ≡ Some process
  pub said : next_ask number c ≡ Some what
  pub name : held.name ≡ process.name
  pub count : length held.replies ≡ length process.entries
  pub question : what.question ≡ question_of held t
  pub takes : (x : Reply) → IsProcess m.codes (slot_replied t.cursor x held) (process_with_reply what x process)

length_replies : (es : List Entry) → length (map entry_reply es) ≡ length es
length_replies [] = refl
length_replies (e ∷ es) = ap suc (length_replies es)

some_by : (m : Machine) (number : ℕ) (t : Statement) (c : Core) (o : Option SlotProcess) → slice_get m.processes.items number ≡ o → IsCore m c
    → slot_ask_in m.codes o ≡ Some t → Asks m number t c
some_by m number t c None is core some = absurd cc
some_by m number t c (Some r) is core some =
    let there = slot_process-at m.codes m.processes.items c.processes number r core.processes is in
    let p : Process = there.0 in
    let isp : IsProcess m.codes r p = there.2 in
    let got = asks_some isp.2.scope isp.0 isp.1 t (slot_ask_in m.codes (Some r)) (ask_of_process (Some p)) r p (same_at m r p isp) some in
    record {
      held = r;
      process = p;
      what = got.0;
      at_held = is;
      at_process = there.1;
      said = ap ask_of_process there.1 ∙ got.1;
      name = isp.5.name;
      count = ap length isp.5.replies ∙ length_replies p.entries;
      question = got.2;
      takes = λ x. (isp.0, isp.1, isp.2, isp.3, isp.4, got.3 x);
    }

pub asks_statement : (m : Machine) (number : ℕ) (t : Statement) (c : Core) → IsCore m c → slot_ask_at m number ≡ Some t → Asks m number t c
asks_statement m number t c core some = some_by m number t c (slice_get m.processes.items number) refl core some

-- the machine after the reply
pub took_core : (m after : Machine) (number : ℕ) (t : Statement) (x : Reply) (c : Core) → IsCore m c → (is : Asks m number t c)
    → after.codes ≡ m.codes → after.processes.items ≡ slice_set m.processes.items number (slot_replied t.cursor x is.held)
    → after.tree ≡ m.tree → after.seed ≡ m.seed → after.last ≡ m.last → after.generator ≡ m.generator → after.asked ≡ m.asked + 1
    → IsCore after (took number is.what x c)
took_core m after number t x c core is codes processes tree seed last xs asked =
    let all : AreProcesses m.codes (slice_set m.processes.items number (slot_replied t.cursor x is.held)) (slice_set c.processes number (process_with_reply is.what x is.process)) =
    replaced m.codes m.processes.items c.processes number (slot_replied t.cursor x is.held) (process_with_reply is.what x is.process) core.processes (is.takes x) in
    let here : IsCore after (took_of (Some is.process) number is.what x c) = record {
      files = tree ∙ core.files;
      processes = subst (λ (l : List SlotProcess). AreProcesses after.codes l (slice_set c.processes number (process_with_reply is.what x is.process))) (sym processes)
          (subst (λ (k : List Code). AreProcesses k (slice_set m.processes.items number (slot_replied t.cursor x is.held)) (slice_set c.processes number (process_with_reply is.what x is.process))) (sym codes) all);
      seed = seed ∙ core.seed;
      last = last ∙ core.last;
      generator = xs ∙ core.generator;
      asked = asked ∙ ap (λ (n : ℕ). n + 1) core.asked;
      going = core.going;
    } in
    subst (λ (o : Option Process). IsCore after (took_of o number is.what x c)) (sym is.at_process) here
