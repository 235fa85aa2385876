-- `fetch`, `count`, `status`, `close` and the result of an `sql`, over slots and as they are defined.
use Rattle.std.proofs.Common.{◌≡◌, ℕ, zero, suc, ◌+◌, List, [], ◌∷◌, length, map, refl, sym, ap, ◌∙◌, subst, true, false, inl, inr}
use Rattle.std.specs.Prelude.{Option, Some, None, slice_get, slice_set, option_map, option_and_then, ◌==◌}
use Rattle.std.proofs.lemmas.Option.{slice_get-map}
use Rattle.std.proofs.lemmas.List.{map-set, length-map}
use Rattle.ldv_value.proofs.Cases.{cases-bool}
use Rattle.sql_model.specs.declared.reply.Reply.{Reply}
use Rattle.proc_core.specs.Types.{Value, Instr}
use Rattle.run_model.specs.Core.{lookup, bind, unbind, OpenFile, Cursor, Process}
use Rattle.run_model.specs.StepBase.{with_variable, wrong_kind}
use Rattle.run_model.specs.StepFiles.{close_file, close}
use Rattle.run_model.specs.StepReplies.{next_row, with_values, one_more, fetch_row, fetch_from, fetch, row_count, count, status_value, status}
use Rattle.script_code.specs.declared.code.Scope.{Scope}
use Rattle.script_code.specs.Resolved.{slot_of, HasName, HasNames, IsScope}
use Rattle.script_code.proofs.SlotLists.{get_slot, set_slot}
use Rattle.proc_core.specs.declared.process.SlotCursor.{SlotCursor}
use Rattle.proc_core.specs.declared.process.SlotProcess.{SlotProcess}
use Rattle.proc_core.specs.inner.Slots.{flatten_option, cursor_of, slot_ended, slot_with_variable}
use Rattle.proc_core.specs.inner.Slots.{slot_with_file, slot_with_cursor, slot_assign}
use Rattle.proc_core.specs.Stands.{bound_value, cursor_at, cursor_in, HasReply, HaveReplies, Holds}
use Rattle.proc_core.specs.inner.SlotReplies.{slot_close_file, slot_close, slot_with_values, slot_one_more, slot_fetch_row, slot_next_row, slot_fetch_from, slot_fetch, slot_count, slot_status}
use Rattle.proc_core.proofs.Holding.{holds_ended, holds_went_on, holds_went_to, holds_variable, holds_closed, holds_assign, open_same}
use Rattle.proc_core.proofs.Lookups.{lookup_bound, lookup_other}

-- ---- cursors among replies

module _ (replies : List Reply) where
  in_joined : (o : Option (Option SlotCursor)) (x : Option Cursor) → option_map (cursor_in replies) o ≡ Some x
      → option_and_then (cursor_at replies) (flatten_option o) ≡ x
  in_joined None x is = absurd cc
  in_joined (Some c) x is = cc

  got_reply : (cs : List (Option SlotCursor)) (slot : ℕ) (c : SlotCursor) → HaveReplies replies cs → flatten_option (slice_get cs slot) ≡ Some c
      → HasReply replies (Some c)
  got_reply [] slot c have is = absurd cc
  got_reply (o ∷ cs) zero c have is = subst (HasReply replies) is have.0
  got_reply (o ∷ cs) (suc slot) c have is = got_reply cs slot c have.1 is

  pub set_reply : (cs : List (Option SlotCursor)) (slot : ℕ) (c : Option SlotCursor) → HaveReplies replies cs → HasReply replies c
      → HaveReplies replies (slice_set cs slot c)
  set_reply [] slot c have is = tt
  set_reply (o ∷ cs) zero c have is = (is, have.1)
  set_reply (o ∷ cs) (suc slot) c have is = (have.0, set_reply cs slot c have.1 is)

  reply_by : (o : Option Reply) (n : ℕ) (x : Cursor) → option_map (λ reply. record { reply = reply; fetched = n }) o ≡ Some x
      → (reply : Reply) × (o ≡ Some reply)
  reply_by None n x is = absurd cc
  reply_by (Some reply) n x is = (reply, refl)

module _ (s : Scope) (index : ℕ) (script : List Instr) where
  pub cursor_same : (name : List ℕ) (r : SlotProcess) (p : Process) → HasName s.cursors name → Holds s index script r p
      → option_and_then (cursor_at r.replies) (cursor_of (slot_of s.cursors name) r) ≡ lookup name p.cursors
  cursor_same name r p has h =
      let slot : ℕ = slot_of s.cursors name in
      in_joined r.replies (slice_get r.cursors slot) (lookup name p.cursors)
      (sym (slice_get-map (cursor_in r.replies) r.cursors slot) ∙ ap (λ (l : List (Option Cursor)). slice_get l slot) h.cursors
      ∙ get_slot (bound_value p.cursors) s.cursors name has)

  pub holds_cursor : (name : List ℕ) (c : SlotCursor) (x : Cursor) (r : SlotProcess) (p : Process) → cursor_at r.replies c ≡ Some x
      → IsScope s → HasName s.cursors name → Holds s index script r p
      → Holds s index script (slot_with_cursor (slot_of s.cursors name) c r) (record p { cursors = bind name x p.cursors })
  holds_cursor name c x r p is scope has h =
      let slot : ℕ = slot_of s.cursors name in
      let f : List ℕ → Option Cursor = bound_value p.cursors in
      let g : List ℕ → Option Cursor = bound_value (bind name x p.cursors) in
      let set : slice_set (map f s.cursors) slot (g name) ≡ map g s.cursors =
      set_slot f g s.cursors name scope.cursors has (λ n other. lookup_other name n x p.cursors other) in
      record {
        code = h.code;
        runs = h.runs;
        name = h.name;
        place = h.place;
        variables = h.variables;
        files = h.files;
        cursors = map-set (cursor_in r.replies) r.cursors slot (Some c)
            ∙ (λ i. slice_set (h.cursors i) slot (is i))
            ∙ ap (λ (o : Option Cursor). slice_set (map f s.cursors) slot o) (sym (lookup_bound name x p.cursors)) ∙ set;
        replied = set_reply r.replies r.cursors slot (Some c) h.replied (reply_by r.replies (slice_get r.replies c.reply) c.fetched x is);
        children = h.children;
        spawned = h.spawned;
        printed = h.printed;
        replies = h.replies;
        status = h.status;
      }

  -- ---- `close`

  close_file_same : (file : Option OpenFile) (name : List ℕ) (r : SlotProcess) (p : Process) → IsScope s → HasName s.files name
      → Holds s index script r p → Holds s index script (slot_close_file file (slot_of s.files name) r) (close_file file name p)
  close_file_same None name r p scope has h = holds_ended s index script wrong_kind r p h
  close_file_same (Some file) name r p scope has h =
      holds_went_on s index script (slot_with_file (slot_of s.files name) None r) (record p { files = unbind name p.files })
      (holds_closed s index script name r p scope has h)

  pub close_same : (name : List ℕ) (r : SlotProcess) (p : Process) → IsScope s → HasName s.files name → Holds s index script r p
      → Holds s index script (slot_close (slot_of s.files name) r) (close name p)
  close_same name r p scope has h =
      subst (λ (o : Option OpenFile). Holds s index script (slot_close_file o (slot_of s.files name) r) (close name p))
      (sym (open_same s index script name r p has h)) (close_file_same (lookup name p.files) name r p scope has h)

  -- ---- `fetch`

  values_held : (to : List (List ℕ)) (row : List Value) (r : SlotProcess) (p : Process) → IsScope s → HasNames s.variables to
      → Holds s index script r p
      → Holds s index script (slot_with_values (map (slot_of s.variables) to) row r) (with_values to row p)
  values_held [] row r p scope has h = h
  values_held (n ∷ ns) [] r p scope has h = h
  values_held (n ∷ ns) (v ∷ vs) r p scope has h =
      values_held ns vs (slot_with_variable (slot_of s.variables n) v r) (with_variable n v p) scope has.1
      (holds_variable s index script n v r p scope has.0 h)

  fetch_row_same : (row : Option (List Value)) (c : SlotCursor) (x : Cursor) (name : List ℕ) (to : List (List ℕ)) (place : ℕ)
      (r : SlotProcess) (p : Process) → cursor_at r.replies c ≡ Some x → cursor_at r.replies (record c { fetched = c.fetched + 1 }) ≡ Some (record x { fetched = x.fetched + 1 })
      → IsScope s → HasName s.cursors name → HasNames s.variables to → Holds s index script r p
      → Holds s index script (slot_fetch_row row c (slot_of s.cursors name) (map (slot_of s.variables) to) place r) (fetch_row row x name to place p)
  fetch_row_same None c x name to place r p is next scope has more h = holds_went_to s index script place r p h
  fetch_row_same (Some row) c x name to place r p is next scope has more h =
      let slots : List ℕ = map (slot_of s.variables) to in
      let r1 : SlotProcess = slot_one_more (slot_of s.cursors name) c r in
      let p1 : Process = one_more name x p in
      let h1 : Holds s index script r1 p1 = holds_cursor name (record c { fetched = c.fetched + 1 }) (record x { fetched = x.fetched + 1 }) r p next scope has h in
      let count : length slots ≡ length to = length-map to (slot_of s.variables) in
      elim (cases-bool (length row == length to)) [
        | inl fits ↦
            let too : (length row == length slots) ≡ true = ap (λ (n : ℕ). length row == n) count ∙ fits in
            rw (fits, too) (holds_went_on s index script (slot_with_values slots row r1) (with_values to row p1) (values_held to row r1 p1 scope more h1))
        | inr misfits ↦
            let too : (length row == length slots) ≡ false = ap (λ (n : ℕ). length row == n) count ∙ misfits in
            rw (misfits, too) (holds_ended s index script wrong_kind r p h)
      ]

  fetch_from_same : (o : Option SlotCursor) (name : List ℕ) (to : List (List ℕ)) (place : ℕ) (r : SlotProcess) (p : Process)
      → cursor_of (slot_of s.cursors name) r ≡ o → IsScope s → HasName s.cursors name → HasNames s.variables to → Holds s index script r p
      → Holds s index script (slot_fetch_from o (slot_of s.cursors name) (map (slot_of s.variables) to) place r) (fetch name to place p)
  fetch_from_same None name to place r p is scope has more h =
      let none : lookup name p.cursors ≡ None = sym (cursor_same name r p has h) ∙ ap (option_and_then (cursor_at r.replies)) is in
      subst (λ (o : Option Cursor). Holds s index script (slot_ended wrong_kind r) (fetch_from o name to place p)) (sym none)
      (holds_ended s index script wrong_kind r p h)
  fetch_from_same (Some c) name to place r p is scope has more h =
      let got : HasReply r.replies (Some c) = got_reply r.replies r.cursors (slot_of s.cursors name) c h.replied is in
      let x : Cursor = record { reply = got.0; fetched = c.fetched } in
      let at : cursor_at r.replies c ≡ Some x = ap (option_map (λ reply. record { reply = reply; fetched = c.fetched })) got.1 in
      let next : cursor_at r.replies (record c { fetched = c.fetched + 1 }) ≡ Some (record x { fetched = x.fetched + 1 }) = ap (option_map (λ reply. record { reply = reply; fetched = c.fetched + 1 })) got.1 in
      let found : lookup name p.cursors ≡ Some x = sym (cursor_same name r p has h) ∙ ap (option_and_then (cursor_at r.replies)) is ∙ at in
      let row : slot_next_row c r ≡ next_row x = ap (option_and_then next_row) at in
      subst (λ (o : Option Cursor). Holds s index script (slot_fetch_from (Some c) (slot_of s.cursors name) (map (slot_of s.variables) to) place r) (fetch_from o name to place p)) (sym found)
      (subst (λ (o : Option (List Value)). Holds s index script (slot_fetch_row o c (slot_of s.cursors name) (map (slot_of s.variables) to) place r) (fetch_row (next_row x) x name to place p)) (sym row)
      (fetch_row_same (next_row x) c x name to place r p at next scope has more h))

  pub fetch_same : (name : List ℕ) (to : List (List ℕ)) (place : ℕ) (r : SlotProcess) (p : Process)
      → IsScope s → HasName s.cursors name → HasNames s.variables to → Holds s index script r p
      → Holds s index script (slot_fetch (slot_of s.cursors name) (map (slot_of s.variables) to) place r) (fetch name to place p)
  fetch_same name to place r p scope has more h =
      fetch_from_same (cursor_of (slot_of s.cursors name) r) name to place r p refl scope has more h

  -- ---- `count` and `status`

  pub count_same : (to name : List ℕ) (r : SlotProcess) (p : Process) → IsScope s → HasName s.variables to → HasName s.cursors name
      → Holds s index script r p
      → Holds s index script (slot_count (slot_of s.variables to) (slot_of s.cursors name) r) (count to name p)
  count_same to name r p scope has more h =
      subst (λ (o : Option Cursor). Holds s index script (slot_assign (slot_of s.variables to) (row_count o) r) (count to name p))
      (sym (cursor_same name r p more h)) (holds_assign s index script to (row_count (lookup name p.cursors)) r p scope has h)

  pub status_same : (to name : List ℕ) (r : SlotProcess) (p : Process) → IsScope s → HasName s.variables to → HasName s.cursors name
      → Holds s index script r p
      → Holds s index script (slot_status (slot_of s.variables to) (slot_of s.cursors name) r) (status to name p)
  status_same to name r p scope has more h =
      subst (λ (o : Option Cursor). Holds s index script (slot_assign (slot_of s.variables to) (status_value o) r) (status to name p))
      (sym (cursor_same name r p more h)) (holds_assign s index script to (status_value (lookup name p.cursors)) r p scope has h)
