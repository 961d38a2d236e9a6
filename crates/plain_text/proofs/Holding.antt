-- What a text of tables and lists holds once it is read.
use Rattle.std.proofs.Common.{◌≡◌, ℕ, false, List, [], ◌∷◌, ◌++◌, Option, Some, None, option_map, option_and_then, refl, ap, sym, subst, ◌∙◌, inl, inr, append_assoc, append-nil}
use Rattle.std.specs.Prelude.{flat_map}
use Rattle.std.specs.List.{AllByRecursion}
use Rattle.std.proofs.lemmas.Bool.{cases_Bool}
use Rattle.std.proofs.lemmas.Option.{none-some}
use Rattle.toml.specs.Data.{Data, Items, Members, array, get_member, item, no_items, push_item, same_key, table}
use Rattle.toml.specs.Tables.{Document, Expression, Node, Nodes, along_header, array_table, at_key, close, close_node, define, get_node, header, insert, no_nodes, open_array, open_table, replace, std_table, value}
use Rattle.toml.proofs.NodeLaws.{get_node-insert, get_node-replace, replace-insert, replace-replace, replace-self}
use Rattle.plain_text.specs.Document.{defined, document_of}
use Rattle.plain_text.specs.Headings.{a_list, a_table, found, headed_lines, item_lines, lines_under, named, pair_lines, AreApart, AreItemsOf, Headed, Heading, Holds, IsEachOnce, IsEachOnceBelow, IsHeaded, IsTableOf, IsValueOr, Pairs}
use Rattle.plain_text.proofs.Filling.{all_new, below_filled, closed_at, filled, found_first, or_else, other_insert, other_way, same_from, top_filled}

-- ---- lines one list after the other

then_more : (o : Option Document) (es fs : List Expression) → ((doc : Document) → defined doc (es ++ fs) ≡ option_and_then (λ next. defined next fs) (defined doc es))
    → option_and_then (λ next. defined next (es ++ fs)) o ≡ option_and_then (λ next. defined next fs) (option_and_then (λ next. defined next es) o)
then_more None es fs more = refl
then_more (Some doc) es fs more = more doc

defined-append : (doc : Document) (es fs : List Expression) → defined doc (es ++ fs) ≡ option_and_then (λ next. defined next fs) (defined doc es)
defined-append doc [] fs = refl
defined-append doc (e ∷ es) fs = then_more (define doc e) es fs (λ next. defined-append next es fs)

and_then : (doc next : Document) (after : Option Document) (es fs : List Expression) → defined doc es ≡ Some next → defined next fs ≡ after → defined doc (es ++ fs) ≡ after
and_then doc next after es fs first second =
    defined-append doc es fs ∙ ap (option_and_then (λ (d : Document). defined d fs)) first ∙ second

-- ---- headers

new_table : (name : List ℕ) (root : Nodes) (last : List (List ℕ)) → get_node name root ≡ None
    → define (root, last) (([], name), std_table) ≡ Some (insert name (open_table header no_nodes) root, name ∷ [])
unfolding define along_header at_key
new_table name root last new = rw new refl

new_list : (name : List ℕ) (root : Nodes) (last : List (List ℕ)) → get_node name root ≡ None
    → define (root, last) (([], name), array_table) ≡ Some (insert name (open_array no_items no_nodes) root, name ∷ [])
unfolding define along_header at_key
new_list name root last new = rw new refl

next_item : (name : List ℕ) (root : Nodes) (last : List (List ℕ)) (done : Items) (inner : Nodes) → get_node name root ≡ Some (open_array done inner)
    → define (root, last) (([], name), array_table) ≡ Some (replace name (open_array (push_item done (table (close inner))) no_nodes) root, name ∷ [])
unfolding define along_header at_key
next_item name root last done inner there = rw there refl

at_name : (name : List ℕ) (x y : Nodes) → x ≡ y → ◌≡◌ {A = Option Document} (Some (x, name ∷ [])) (Some (y, name ∷ []))
at_name name x y same = ap (λ (ns : Nodes). Some (ns, name ∷ [])) same

-- ---- a table, and the items of a list

table_there : (name : List ℕ) (pairs : Pairs) (root : Nodes) (last : List (List ℕ)) → get_node name root ≡ None → IsEachOnce pairs
    → defined (root, last) (headed_lines name (a_table pairs)) ≡ Some (insert name (open_table header (filled pairs no_nodes)) root, name ∷ [])
table_there name pairs root last new once =
    let empty = open_table header no_nodes in
    rw (new_table name root last new)
    (below_filled name (open_table header) (λ e ns. refl) pairs no_nodes (insert name empty root) (get_node-insert name empty root) once (all_new pairs)
    ∙ at_name name _ _ (replace-insert name empty (open_table header (filled pairs no_nodes)) root))

first_there : (name : List ℕ) (pairs : Pairs) (root : Nodes) (last : List (List ℕ)) → get_node name root ≡ None → IsEachOnce pairs
    → defined (root, last) (item_lines name pairs) ≡ Some (insert name (open_array no_items (filled pairs no_nodes)) root, name ∷ [])
first_there name pairs root last new once =
    let empty = open_array no_items no_nodes in
    rw (new_list name root last new)
    (below_filled name (open_array no_items) (λ e ns. refl) pairs no_nodes (insert name empty root) (get_node-insert name empty root) once (all_new pairs)
    ∙ at_name name _ _ (replace-insert name empty (open_array no_items (filled pairs no_nodes)) root))

next_there : (name : List ℕ) (pairs : Pairs) (root : Nodes) (last : List (List ℕ)) (done : Items) (inner : Nodes) → get_node name root ≡ Some (open_array done inner) → IsEachOnce pairs
    → defined (root, last) (item_lines name pairs) ≡ Some (replace name (open_array (push_item done (table (close inner))) (filled pairs no_nodes)) root, name ∷ [])
next_there name pairs root last done inner there once =
    let next = push_item done (table (close inner)) in
    let empty = open_array next no_nodes in
    rw (next_item name root last done inner there)
    (below_filled name (open_array next) (λ e ns. refl) pairs no_nodes (replace name empty root) (get_node-replace name empty root (open_array done inner) there) once (all_new pairs)
    ∙ at_name name _ _ (replace-replace name empty (open_array next (filled pairs no_nodes)) root))

-- a list with more items
abbrev pushed : List Pairs → Items → Nodes → Node
pushed [] done last = open_array done last
pushed (pairs ∷ more) done last = pushed more (push_item done (table (close last))) (filled pairs no_nodes)

more_there : (name : List ℕ) (items : List Pairs) (root : Nodes) (last : List (List ℕ)) (done : Items) (inner : Nodes) → get_node name root ≡ Some (open_array done inner)
    → AllByRecursion IsEachOnce items
    → (now : List (List ℕ)) × (defined (root, last) (flat_map (item_lines name) items) ≡ Some (replace name (pushed items done inner) root, now))
more_there name [] root last done inner there once = (last, ap (λ (ns : Nodes). Some (ns, last)) (sym (replace-self name (open_array done inner) root there)))
more_there name (pairs ∷ items) root last done inner there once =
    let next = push_item done (table (close inner)) in
    let here = open_array next (filled pairs no_nodes) in
    let root_now = replace name here root in
    let rest = more_there name items root_now (name ∷ []) next (filled pairs no_nodes) (get_node-replace name here root (open_array done inner) there) once.1 in (
      rest.0,
      and_then (root, last) (root_now, name ∷ []) _ (item_lines name pairs) (flat_map (item_lines name) items) (next_there name pairs root last done inner there once.0) rest.1
          ∙ ap (λ (ns : Nodes). Some (ns, rest.0)) (replace-replace name here (pushed items next (filled pairs no_nodes)) root),
    )

-- ---- headings

abbrev node_below : Headed → Option Node
node_below (a_table pairs) = Some (open_table header (filled pairs no_nodes))
node_below (a_list []) = None
node_below (a_list (pairs ∷ more)) = Some (pushed more no_items (filled pairs no_nodes))

abbrev with_node : List ℕ → Option Node → Nodes → Nodes
with_node name None root = root
with_node name (Some x) root = insert name x root

heading_there : (name : List ℕ) (below : Headed) (root : Nodes) (last : List (List ℕ)) → get_node name root ≡ None → IsEachOnceBelow below
    → (now : List (List ℕ)) × (defined (root, last) (headed_lines name below) ≡ Some (with_node name (node_below below) root, now))
heading_there name (a_table pairs) root last new once = (name ∷ [], table_there name pairs root last new once)
heading_there name (a_list []) root last new once = (last, refl)
heading_there name (a_list (pairs ∷ more)) root last new once =
    let first = open_array no_items (filled pairs no_nodes) in
    let root_now = insert name first root in
    let rest = more_there name more root_now (name ∷ []) no_items (filled pairs no_nodes) (get_node-insert name first root) once.1 in (
      rest.0,
      and_then (root, last) (root_now, name ∷ []) _ (item_lines name pairs) (flat_map (item_lines name) more) (first_there name pairs root last new once.0) rest.1
          ∙ ap (λ (ns : Nodes). Some (ns, rest.0)) (replace-insert name first (pushed more no_items (filled pairs no_nodes)) root),
    )

with_other : (key name : List ℕ) (x : Option Node) (root : Nodes) → same_key key name ≡ false → get_node key (with_node name x root) ≡ get_node key root
with_other key name None root other = refl
with_other key name (Some x) root other = other_insert key name x root other

with_here : (name : List ℕ) (x : Option Node) (root : Nodes) → get_node name (with_node name x root) ≡ or_else x (get_node name root)
with_here name None root = refl
with_here name (Some x) root = get_node-insert name x root

-- no heading is there yet
abbrev NamesNew : List Heading → Nodes → Type 0
NamesNew headings root = AllByRecursion (λ (heading : Heading). get_node heading.name root ≡ None) headings

name_apart : (name : List ℕ) (heading : Heading) (headings : List Heading) → named name (heading ∷ headings) ≡ None → (same_key name heading.name ≡ false) × (named name headings ≡ None)
name_apart name heading headings none =
    elim (cases_Bool (same_key name heading.name)) [
      | inl same ↦ absurd (none-some heading.below (sym (rw same at none)))
      | inr other ↦ (other, rw other at none)
    ]

names_still_new : (name : List ℕ) (x : Option Node) (headings : List Heading) (root : Nodes) → named name headings ≡ None → NamesNew headings root
    → NamesNew headings (with_node name x root)
names_still_new name x [] root none new = tt
names_still_new name x (heading ∷ headings) root none new =
    let (other, more) = name_apart name heading headings none in
    (with_other heading.name name x root (other_way name heading.name other) ∙ new.0, names_still_new name x headings root more new.1)

-- what stands at a key behind some headings
abbrev seen_at : List ℕ → List Heading → Nodes → Option Node
seen_at key headings root = or_else (option_and_then node_below (named key headings)) (get_node key root)

seen_more : (key : List ℕ) (heading : Heading) (headings : List Heading) (root : Nodes) → named heading.name headings ≡ None
    → seen_at key headings (with_node heading.name (node_below heading.below) root) ≡ seen_at key (heading ∷ headings) root
seen_more key heading headings root none =
    elim (cases_Bool (same_key key heading.name)) [
      | inl same ↦
          let is = sym (same_from key heading.name same) in
          let rest : named key headings ≡ None = subst (λ (k : List ℕ). named k headings ≡ None) is none in
          let here : get_node key (with_node heading.name (node_below heading.below) root) ≡ or_else (node_below heading.below) (get_node key root) =
          subst (λ (k : List ℕ). get_node k (with_node heading.name (node_below heading.below) root) ≡ or_else (node_below heading.below) (get_node k root)) is
          (with_here heading.name (node_below heading.below) root) in
          rw (rest, same) here
      | inr other ↦ rw other (ap (or_else (option_and_then node_below (named key headings))) (with_other key heading.name (node_below heading.below) root other))
    ]

headings_there : (top : Pairs) (headings : List Heading) (root : Nodes) (last : List (List ℕ)) → NamesNew headings root → AreApart top headings
    → (after : Nodes) × (now : List (List ℕ)) × (defined (root, last) (lines_under headings) ≡ Some (after, now)) × ((key : List ℕ) → get_node key after ≡ seen_at key headings root)
headings_there top [] root last new apart = (root, last, refl, λ key. refl)
headings_there top (heading ∷ headings) root last new apart =
    let name = heading.name in
    let root_now = with_node name (node_below heading.below) root in
    let here = heading_there name heading.below root last new.0 apart.2 in
    let rest = headings_there top headings root_now here.0 (names_still_new name (node_below heading.below) headings root apart.1 new.1) apart.3 in (
      rest.0,
      rest.1,
      and_then (root, last) (root_now, here.0) _ (headed_lines name heading.below) (lines_under headings) here.1 rest.2,
      λ key. rest.3 key ∙ seen_more key heading headings root apart.1,
    )

-- ---- what is held

kept : (o : Option Data) → option_map close_node (or_else (option_map value o) None) ≡ o
kept None = refl
kept (Some d) = refl

table_held : (pairs : Pairs) → IsEachOnce pairs → IsTableOf pairs (close (filled pairs no_nodes))
table_held pairs once = λ key.
    closed_at key (filled pairs no_nodes) ∙ ap (option_map close_node) (found_first key pairs no_nodes once) ∙ kept (found key pairs)

one_more : (before : List Pairs) (ds : Items) (pairs : Pairs) (ms : Members) → AreItemsOf before ds → IsTableOf pairs ms
    → AreItemsOf (before ++ pairs ∷ []) (push_item ds (table ms))
one_more [] no_items pairs ms so_far is = (is, tt)
one_more [] (item d ds) pairs ms so_far is = absurd so_far
one_more (first ∷ before) no_items pairs ms so_far is = absurd so_far
one_more (first ∷ before) (item (table other) ds) pairs ms so_far is = (so_far.0, one_more before ds pairs ms so_far.1 is)
one_more (first ∷ before) (item d ds) pairs ms so_far is = absurd so_far

items_held : (more before : List Pairs) (done : Items) (last : Nodes) → AreItemsOf before (push_item done (table (close last))) → AllByRecursion IsEachOnce more
    → (ds : Items) × AreItemsOf (before ++ more) ds × (close_node (pushed more done last) ≡ array ds)
items_held [] before done last so_far once =
    (push_item done (table (close last)), subst (λ (items : List Pairs). AreItemsOf items (push_item done (table (close last)))) (sym (append-nil before)) so_far, refl)
items_held (pairs ∷ more) before done last so_far once =
    let next = push_item done (table (close last)) in
    let rest = items_held more (before ++ pairs ∷ []) next (filled pairs no_nodes)
    (one_more before next pairs (close (filled pairs no_nodes)) so_far (table_held pairs once.0)) once.1 in
    (rest.0, subst (λ (items : List Pairs). AreItemsOf items rest.0) (append_assoc before (pairs ∷ []) more) rest.1, rest.2)

abbrev OnceAt : Option Headed → Type 0
OnceAt None = Unit {0}
OnceAt (Some below) = IsEachOnceBelow below

headed_held : (headed : Option Headed) → OnceAt headed → IsHeaded headed (option_map close_node (or_else (option_and_then node_below headed) None))
headed_held None once = refl
headed_held (Some (a_table pairs)) once = (close (filled pairs no_nodes), table_held pairs once, refl)
headed_held (Some (a_list [])) once = refl
headed_held (Some (a_list (pairs ∷ more))) once =
    let is = items_held more (pairs ∷ []) no_items (filled pairs no_nodes) (table_held pairs once.0, tt) once.1 in
    (is.0, is.1, ap Some is.2)

once_at : (key : List ℕ) (top : Pairs) (headings : List Heading) → AreApart top headings → OnceAt (named key headings)
once_at key top [] apart = tt
once_at key top (heading ∷ headings) apart =
    elim (cases_Bool (same_key key heading.name)) [
      | inl same ↦ rw same apart.2
      | inr other ↦ rw other (once_at key top headings apart.3)
    ]

-- a key of the top is no heading's name
no_heading : (key : List ℕ) (d : Data) (top : Pairs) (headings : List Heading) → found key top ≡ Some d → AreApart top headings → named key headings ≡ None
no_heading key d top [] there apart = refl
no_heading key d top (heading ∷ headings) there apart =
    elim (cases_Bool (same_key key heading.name)) [
      | inl same ↦ absurd (none-some d (sym (subst (λ (k : List ℕ). found k top ≡ None) (sym (same_from key heading.name same)) apart.0) ∙ there))
      | inr other ↦ rw other (no_heading key d top headings there apart.3)
    ]

held_at : (key : List ℕ) (top : Pairs) (headings : List Heading) (value_there : Option Data) → found key top ≡ value_there → AreApart top headings
    → IsValueOr value_there (named key headings) (option_map close_node (or_else (option_and_then node_below (named key headings)) (or_else (option_map value value_there) None)))
held_at key top headings (Some d) there apart = rw (no_heading key d top headings there apart) refl
held_at key top headings None there apart = headed_held (named key headings) (once_at key top headings apart)

names_new : (top : Pairs) (headings : List Heading) → IsEachOnce top → AreApart top headings → NamesNew headings (filled top no_nodes)
names_new top [] once apart = tt
names_new top (heading ∷ headings) once apart =
    (found_first heading.name top no_nodes once ∙ ap (λ (o : Option Data). or_else (option_map value o) None) apart.0, names_new top headings once apart.3)

pub text_holds : (top : Pairs) (headings : List Heading) → IsEachOnce top → AreApart top headings
    → (ms : Members) × (document_of (pair_lines top ++ lines_under headings) ≡ Some ms) × Holds top headings ms
text_holds top headings once apart =
    let root = filled top no_nodes in
    let first = top_filled top no_nodes once (all_new top) in
    let rest = headings_there top headings root [] (names_new top headings once apart) apart in (
      close rest.0,
      ap (option_map (λ (doc : Document). close doc.0)) (and_then (no_nodes, []) (root, []) _ (pair_lines top) (lines_under headings) first rest.2),
      λ key.
          let seen : get_member key (close rest.0) ≡ option_map close_node (or_else (option_and_then node_below (named key headings)) (or_else (option_map value (found key top)) None)) =
          closed_at key rest.0 ∙ ap (option_map close_node) (rest.3 key ∙ ap (or_else (option_and_then node_below (named key headings))) (found_first key top no_nodes once)) in
          subst (λ (d : Option Data). IsValueOr (found key top) (named key headings) d) (sym seen) (held_at key top headings (found key top) refl apart),
    )
