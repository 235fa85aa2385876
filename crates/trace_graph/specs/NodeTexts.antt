-- The texts of the nodes of a trace: paths, and the tables of rows.
use Rattle.std.specs.Prelude.{ℕ, List, [], ◌∷◌, ◌++◌, map, Bool, bytes_eq, if◌then◌else◌}
use Rattle.std.specs.List.{flat_map, list_any, list_all}
use Rattle.run_model.specs.declared.event.Act.TheVariants as acts
use Rattle.trace_graph.specs.Types.{Member, Need, Act, Event}
use Rattle.trace_graph.specs.declared.texts.NodeTexts.{NodeTexts}

-- the tables of the rows that are read
abbrev pub read_texts : List Need → List (List ℕ)
read_texts reads = map (λ (need : Need). need.member.table) reads

-- and of those that are made
abbrev pub made_texts : List Member → List (List ℕ)
made_texts made = map (λ (member : Member). member.table) made

-- the path that an act names, or the tables of the rows that it reads and makes
abbrev pub act_texts : Act → List (List ℕ)
act_texts (acts.Started path) = path ∷ []
act_texts (acts.Spawned path) = path ∷ []
act_texts (acts.Unspawned path found) = path ∷ []
act_texts (acts.OpenedRead path) = path ∷ []
act_texts (acts.OpenedWrite path) = path ∷ []
act_texts (acts.OpenedAppend path found) = path ∷ []
act_texts (acts.OpenedNew path) = path ∷ []
act_texts (acts.Unopened path found) = path ∷ []
act_texts (acts.Read path) = path ∷ []
act_texts (acts.Wrote path) = path ∷ []
act_texts (acts.Removed path) = path ∷ []
act_texts (acts.Tested path found) = path ∷ []
act_texts (acts.Waited child) = []
act_texts (acts.Ended status) = []
act_texts (acts.Asked statement tables reads made) = read_texts reads ++ made_texts made

abbrev pub event_texts : List Event → List (List ℕ)
event_texts events = flat_map (λ (e : Event). act_texts e.act) events

-- with a text at the end, if it isn't there yet
abbrev pub with_text : List (List ℕ) → List ℕ → List (List ℕ)
with_text held text = if list_any (bytes_eq text) held then held else held ++ text ∷ []

abbrev pub with_texts : List (List ℕ) → List (List ℕ) → List (List ℕ)
with_texts held [] = held
with_texts held (t ∷ ts) = with_texts (with_text held t) ts

-- a text is among those that are held
abbrev pub is_held : List (List ℕ) → List ℕ → Bool
is_held held text = list_any (bytes_eq text) held

abbrev pub are_held : List (List ℕ) → List (List ℕ) → Bool
are_held held texts = list_all (is_held held) texts

-- the texts of each act are
abbrev pub acts_held : List (List ℕ) → List Event → Bool
acts_held held events = list_all (λ (e : Event). are_held held (act_texts e.act)) events

-- the texts of a trace are among those that are lent
abbrev pub lends_texts : NodeTexts → List Event → Bool
lends_texts texts events = are_held texts.held.keys (event_texts events)
