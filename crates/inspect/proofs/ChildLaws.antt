-- The counts of children stay within their type until all processes of a trace are made.
use Rattle.std.proofs.Common.{◌≡◌, ℕ, ◌+◌, ◌<◌, ◌≤◌, ◌^◌, List, [], ◌∷◌, true, false, refl, subst, arith, Option, inl, inr}
use Rattle.std.specs.Prelude.{if◌then◌else◌, Bool, Some, None, nat_le, slice_get, slice_set, slice_index_or}
use Rattle.std.proofs.lemmas.Bool.{leb-true}
use Rattle.std.proofs.lemmas.List.Elements.{All-append, All-cons, All-nil, All-set}
use Rattle.std.proofs.lemmas.Option.{get_or_from_slice_get, slice_get_cases}
use Rattle.inspect.specs.inner.ChildRoom.{HasRoom, HaveRoom, births, all_births}
use Rattle.ldv_value.proofs.Booleans.{and-first, and-second}
use Rattle.ldv_value.specs.Limits.{max_processes}
use Rattle.run_model.specs.Acts.{is_spawn}
use Rattle.run_model.specs.ValidTrace.{made_after, IsTrace}
use Rattle.run_model.proofs.ActLaws.{made_spawned}
use Rattle.trace_graph.specs.inner.Building.{made_fits}
use Rattle.trace_graph.proofs.TraceLaws.{trace_fits}
use Rattle.inspect.specs.ProcessNames.{parent_of, child_of, with_child, named_after}
use Rattle.inspect.specs.Types.{Event, NamedProcess}

-- who has room for one child more than others need has room for them
room_later : (more : ℕ) (ps : List NamedProcess) → HaveRoom (1 + more) ps → HaveRoom more ps
room_later more ps room k d below = let here : HasRoom (1 + more) (slice_index_or ps k d) = room k d below in omega (arith, here)

-- the room of a process that is there
pub room_at : (more : ℕ) (ps : List NamedProcess) (number : ℕ) (p : NamedProcess) → slice_get ps number ≡ Some p → HaveRoom more ps → HasRoom more p
room_at more ps number p is room = elim ((slice_get_cases ps number).1) [
  | inl there ↦ subst (HasRoom more) (get_or_from_slice_get ps number p p is) (room number p there.1)
  | inr past ↦ let none : slice_get ps number ≡ None = past.1 in cc
]

room_with : (more : ℕ) (ps : List NamedProcess) (number : ℕ) (found : Option NamedProcess) → slice_get ps number ≡ found
    → HaveRoom (1 + more) ps → HaveRoom more (with_child number found ps)
room_with more ps number None is room = room_later more ps room
room_with more ps number (Some p) is room =
    let has : HasRoom (1 + more) p = room_at (1 + more) ps number p is room in
    let parent : HasRoom more (parent_of p) = omega (arith, has) in
    let child : HasRoom more (child_of p) = omega (arith, has) in
    All-append (HasRoom more) (slice_set ps number (parent_of p)) (child_of p ∷ [])
    (All-set (HasRoom more) ps number (parent_of p) parent (room_later more ps room)) (All-cons (HasRoom more) (child_of p) [] child (All-nil (HasRoom more)))

room_if : (spawned : Bool) (more : ℕ) (ps : List NamedProcess) (number : ℕ) → HaveRoom ((if spawned then 1 else 0) + more) ps
    → HaveRoom more (if spawned then with_child number (slice_get ps number) ps else ps)
room_if true more ps number room = room_with more ps number (slice_get ps number) refl room
room_if false more ps number room = λ k d below.
    let here : HasRoom (0 + more) (slice_index_or ps k d) = room k d below in omega (arith, here)

pub room_after : (e : Event) (more : ℕ) (ps : List NamedProcess) → HaveRoom (births e + more) ps → HaveRoom more (named_after ps e)
room_after e more ps room = room_if (is_spawn e.act) more ps e.process room

-- ---- how many children the events of a trace make

births_among : (made : ℕ) (es : List Event) → made ≤ max_processes → made_fits made es ≡ true
    → made + all_births es ≤ max_processes
births_among made [] below fits = omega (arith, below)
births_among made (e ∷ es) below fits =
    let next : made_after made e.act ≤ max_processes =
    leb-true (made_after made e.act) max_processes
    (and-first (nat_le (made_after made e.act) max_processes) (made_fits (made_after made e.act) es) fits) in
    let rest : made_after made e.act + all_births es ≤ max_processes =
    births_among (made_after made e.act) es next
    (and-second (nat_le (made_after made e.act) max_processes) (made_fits (made_after made e.act) es) fits) in
    omega (arith, rest, made_spawned made e.act)

pub births_fit : (events : List Event) → IsTrace events → all_births events < 2 ^ 32
births_fit events trace =
    let most : 1 + all_births events ≤ max_processes = births_among 1 events (omega arith) (trace_fits events trace) in
    omega (arith, most)
