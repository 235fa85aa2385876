-- The row versions that the graph of a trace has, and those that statements made.
use Rattle.std.proofs.Common.{◌≡◌, ◌∙◌, ap, refl, ℕ, Bool, true, false, ◌||◌, List, [], ◌∷◌, ◌++◌, map, Option, Some, None}
use Rattle.std.specs.Prelude.{option_map}
use Rattle.std.specs.List.{list_any, filter_map, cons_option}
use Rattle.std.specs.Option.{option_map_or}
use Rattle.ldv_value.proofs.Lists.{list_any-map, list_any-append, list_any-false}
use Rattle.ldv_value.proofs.Booleans.{or-false, or-parts}
use Rattle.run_model.specs.declared.event.Act.TheVariants as acts
use Rattle.run_model.specs.ValidTrace.{made_after}
use Rattle.trace_graph.specs.Types.{Member, Need, Act, Event, Row}
use Rattle.trace_graph.specs.Links.{Link, link, member_before, read_link, made_link, change_link, act_links, event_links, links_after, links_of}
use Rattle.trace_graph.specs.Graph.{same_member}
use Rattle.trace_graph.specs.GraphLaws.{touches, links_to}
use Rattle.trace_graph.specs.VersionLaws.{is_read, is_changed, makes_version, has_version, is_statement, VersionsLaw, MadeLaw}
use Rattle.trace_graph.proofs.GraphFacts.{nodes_law, edges_law}

any_same : {X : Type 0} (p q : X → Bool) → ((x : X) → p x ≡ q x) → (xs : List X) → list_any p xs ≡ list_any q xs
any_same p q same [] = refl
any_same p q same (x ∷ xs) = λ j. same x j || any_same p q same xs j

any_mapped : {X Y : Type 0} (q : Y → Bool) (f : X → Option Y) (xs : List X) → list_any q (filter_map f xs) ≡ list_any (λ x. option_map_or q (f x) false) xs
any_mapped q f [] = refl
any_mapped q f (x ∷ xs) = by (f x) (any_mapped q f xs)
  where
    by : (o : Option _) → list_any q (filter_map f xs) ≡ list_any (λ x. option_map_or q (f x) false) xs
        → list_any q (cons_option o (filter_map f xs)) ≡ (option_map_or q o false || list_any (λ x. option_map_or q (f x) false) xs)
    by None rest = rest
    by (Some y) rest = ap (λ (b : Bool). q y || b) rest

-- a test of links finds in a trace what it finds in one of its acts
any_linked : (q : Link → Bool) (p : Act → Bool) → ((time process made : ℕ) (act : Act) → list_any q (act_links time process made act) ≡ p act)
    → (made : ℕ) (es : List Event) → list_any q (links_after made es) ≡ list_any (λ e. p e.act) es
any_linked q p same made [] = refl
any_linked q p same made (e ∷ es) =
    list_any-append q (event_links made e) (links_after (made_after made e.act) es)
    ∙ (λ j. same e.step e.process made e.act j || any_linked q p same (made_after made e.act) es j)

-- ---- what statements make

-- what is made of a version comes from that version, and from no statement
no_change : (time : ℕ) (v m : Member) → option_map_or (links_to is_statement (Row v)) (change_link time m) false ≡ false
no_change time v m = by (member_before m)
  where
    by : (o : Option Member) → option_map_or (links_to is_statement (Row v)) (option_map (λ b. link time (Row b) (Row m)) o) false ≡ false
    by None = refl
    by (Some b) = refl

made_asked : (time statement : ℕ) (v : Member) (reads : List Need) (made : List Member)
    → list_any (links_to is_statement (Row v)) (map (read_link time statement) reads ++ (map (made_link time statement) made ++ filter_map (change_link time) made))
    ≡ list_any (same_member v) made
made_asked time statement v reads made =
    let q = links_to is_statement (Row v) in
    let from-reads = map (read_link time statement) reads in
    let from-made = map (made_link time statement) made in
    let changes = filter_map (change_link time) made in
    let read : list_any q from-reads ≡ false = list_any-map q (read_link time statement) reads ∙ list_any-false reads in
    let changed : list_any q changes ≡ false =
    any_mapped q (change_link time) made ∙ any_same (λ m. option_map_or q (change_link time m) false) (λ m. false) (no_change time v) made ∙ list_any-false made in
    list_any-append q from-reads (from-made ++ changes)
    ∙ ap (λ (b : Bool). b || list_any q (from-made ++ changes)) read
    ∙ list_any-append q from-made changes
    ∙ ap (λ (b : Bool). list_any q from-made || b) changed
    ∙ or-false (list_any q from-made)
    ∙ list_any-map q (made_link time statement) made

made_act : (v : Member) (time process made : ℕ) (act : Act) → list_any (links_to is_statement (Row v)) (act_links time process made act) ≡ makes_version v act
made_act v time process made (acts.Started path) = refl
made_act v time process made (acts.Spawned path) = refl
made_act v time process made (acts.Unspawned path found) = refl
made_act v time process made (acts.OpenedRead path) = refl
made_act v time process made (acts.OpenedWrite path) = refl
made_act v time process made (acts.OpenedAppend path found) = refl
made_act v time process made (acts.OpenedNew path) = refl
made_act v time process made (acts.Unopened path found) = refl
made_act v time process made (acts.Read path) = refl
made_act v time process made (acts.Wrote path) = refl
made_act v time process made (acts.Removed path) = refl
made_act v time process made (acts.Tested path found) = refl
made_act v time process made (acts.Waited child) = refl
made_act v time process made (acts.Ended status) = refl
made_act v time process made (acts.Asked statement tables reads written) = made_asked time statement v reads written

pub made_law : MadeLaw
made_law events v =
    edges_law (links_of events) is_statement (Row v)
    ∙ any_linked (links_to is_statement (Row v)) (makes_version v) (made_act v) 1 events

-- ---- what the graph has

-- both ends of a change: the version, and what is made of it
change_touches : (time : ℕ) (v m : Member)
    → option_map_or (touches (Row v)) (change_link time m) false ≡ option_map_or (λ b. same_member v b || same_member v m) (member_before m) false
change_touches time v m = by (member_before m)
  where
    by : (o : Option Member) → option_map_or (touches (Row v)) (option_map (λ b. link time (Row b) (Row m)) o) false ≡ option_map_or (λ b. same_member v b || same_member v m) o false
    by None = refl
    by (Some b) = refl

change_alone : (v m : Member) → same_member v m ≡ false → option_map_or (λ b. same_member v b || same_member v m) (member_before m) false ≡ is_changed v m
change_alone v m apart = by (member_before m)
  where
    by : (o : Option Member) → option_map_or (λ b. same_member v b || same_member v m) o false ≡ option_map_or (same_member v) o false
    by None = refl
    by (Some b) = ap (λ (c : Bool). same_member v b || c) apart ∙ or-false (same_member v b)

-- where the version isn't made, the changes that have it are made of it
changes_alone : (time : ℕ) (v : Member) (made : List Member) → list_any (same_member v) made ≡ false
    → list_any (λ m. option_map_or (touches (Row v)) (change_link time m) false) made ≡ list_any (is_changed v) made
changes_alone time v [] none = refl
changes_alone time v (m ∷ ms) none =
    let parts = or-parts (same_member v m) (list_any (same_member v) ms) none in
    let here = change_touches time v m ∙ change_alone v m parts.0 in
    λ j. here j || changes_alone time v ms parts.1 j

made_or_changed : (time : ℕ) (v : Member) (made : List Member)
    → (list_any (same_member v) made || list_any (λ m. option_map_or (touches (Row v)) (change_link time m) false) made)
    ≡ (list_any (same_member v) made || list_any (is_changed v) made)
made_or_changed time v made = by (list_any (same_member v) made) refl
  where
    by : (b : Bool) → list_any (same_member v) made ≡ b
        → (b || list_any (λ m. option_map_or (touches (Row v)) (change_link time m) false) made) ≡ (b || list_any (is_changed v) made)
    by true is = refl
    by false is = changes_alone time v made is

has_asked : (time statement : ℕ) (v : Member) (reads : List Need) (made : List Member)
    → list_any (touches (Row v)) (map (read_link time statement) reads ++ (map (made_link time statement) made ++ filter_map (change_link time) made))
    ≡ (list_any (is_read v) reads || (list_any (same_member v) made || list_any (is_changed v) made))
has_asked time statement v reads made =
    let q = touches (Row v) in
    let from-reads = map (read_link time statement) reads in
    let from-made = map (made_link time statement) made in
    let changes = filter_map (change_link time) made in
    let read : list_any q from-reads ≡ list_any (is_read v) reads =
    list_any-map q (read_link time statement) reads
    ∙ any_same (λ need. same_member v need.member || false) (is_read v) (λ need. or-false (same_member v need.member)) reads in
    let written : list_any q from-made ≡ list_any (same_member v) made = list_any-map q (made_link time statement) made in
    let changed : list_any q changes ≡ list_any (λ m. option_map_or q (change_link time m) false) made = any_mapped q (change_link time) made in
    list_any-append q from-reads (from-made ++ changes)
    ∙ (λ j. read j || (list_any-append q from-made changes ∙ (λ i. written i || changed i) ∙ made_or_changed time v made) j)

has_act : (v : Member) (time process made : ℕ) (act : Act) → list_any (touches (Row v)) (act_links time process made act) ≡ has_version v act
has_act v time process made (acts.Started path) = refl
has_act v time process made (acts.Spawned path) = refl
has_act v time process made (acts.Unspawned path found) = refl
has_act v time process made (acts.OpenedRead path) = refl
has_act v time process made (acts.OpenedWrite path) = refl
has_act v time process made (acts.OpenedAppend path found) = refl
has_act v time process made (acts.OpenedNew path) = refl
has_act v time process made (acts.Unopened path found) = refl
has_act v time process made (acts.Read path) = refl
has_act v time process made (acts.Wrote path) = refl
has_act v time process made (acts.Removed path) = refl
has_act v time process made (acts.Tested path found) = refl
has_act v time process made (acts.Waited child) = refl
has_act v time process made (acts.Ended status) = refl
has_act v time process made (acts.Asked statement tables reads written) = has_asked time statement v reads written

pub versions_law : VersionsLaw
versions_law events v =
    nodes_law (links_of events) (Row v)
    ∙ any_linked (touches (Row v)) (has_version v) (has_act v) 1 events
