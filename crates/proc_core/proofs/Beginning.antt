-- The slots of a process as it begins.
use Rattle.std.proofs.Common.{◌≡◌, ℕ, zero, suc, ◌+◌, List, [], ◌∷◌, length, map, drop, refl, sym, ap, ◌∙◌, subst, arith}
use Rattle.std.specs.Prelude.{Option, None, replicate}
use Rattle.std.proofs.lemmas.List.{at_drop_all}
use Rattle.sql_model.specs.declared.reply.Reply.{Reply}
use Rattle.proc_core.specs.Types.{Value, Null, Instr}
use Rattle.run_model.specs.Core.{NameBinding, Cursor, arguments_from, argument_variables, new_process}
use Rattle.script_code.specs.declared.code.Scope.{Scope}
use Rattle.proc_core.specs.declared.process.SlotCursor.{SlotCursor}
use Rattle.proc_core.specs.declared.process.SlotProcess.{SlotProcess}
use Rattle.proc_core.specs.Stands.{value_held, bound_value, cursor_in, HaveReplies, Holds}
use Rattle.proc_core.proofs.Begins.{none_bound, none_set}

-- no argument is bound yet
pub none_yet : (names : List (List ℕ)) (vs slots : List Value) → slots ≡ replicate (length names) Null
    → slots ≡ map (value_held (arguments_from (length vs + 1) (drop (length vs) vs))) names
none_yet names vs slots is =
    is ∙ none_set names
    ∙ ap (λ (bs : List (NameBinding Value)). map (value_held bs) names) (sym (at_drop_all (arguments_from (length vs + 1)) vs (length vs) (omega arith)))

-- other names mean nothing
abbrev no_cursor : Option SlotCursor
no_cursor = None

no_cursors : (replies : List Reply) (names : List (List ℕ))
    → map (cursor_in replies) (replicate (length names) no_cursor) ≡ map (bound_value []) names
no_cursors replies [] = refl
no_cursors replies (n ∷ ns) = ap (λ (l : List (Option Cursor)). None ∷ l) (no_cursors replies ns)

no_replies : (replies : List Reply) (n : ℕ) → HaveReplies replies (replicate n no_cursor)
no_replies replies zero = tt
no_replies replies (suc n) = (tt, no_replies replies n)

pub begun : (s : Scope) (index : ℕ) (script : List Instr) (name : List ℕ) (vs : List Value) (r : SlotProcess)
    → r.code ≡ index → r.name ≡ name → r.place ≡ 0 → r.variables ≡ map (value_held (argument_variables vs)) s.variables
    → r.files ≡ replicate (length s.files) None → r.cursors ≡ replicate (length s.cursors) None → r.children ≡ replicate (length s.children) None
    → r.spawned ≡ 0 → r.printed ≡ [] → r.replies ≡ [] → r.status ≡ None
    → Holds s index script r (new_process name script vs)
begun s index script name vs r code named place variables files cursors children spawned printed replies status = record {
  code = code;
  runs = refl;
  name = named;
  place = place;
  variables = variables;
  files = files ∙ none_bound s.files;
  cursors = ap (λ (l : List (Option SlotCursor)). map (cursor_in r.replies) l) cursors ∙ no_cursors r.replies s.cursors;
  replied = subst (HaveReplies r.replies) (sym cursors) (no_replies r.replies (length s.cursors));
  children = children ∙ none_bound s.children;
  spawned = spawned;
  printed = printed;
  replies = replies;
  status = status;
}
