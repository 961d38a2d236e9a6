-- What the lines of a whole document leave at each key of the top.
use Rattle.std.proofs.Common.{◌≡◌, ℕ, Bool, true, false, List, [], ◌∷◌, ◌++◌, Option, Some, None, codes, pos, String, Global, refl, ap, sym, subst, ◌∙◌, inl, inr, ◌⊎◌, append_assoc, append-nil}
use Rattle.std.specs.Prelude.{flat_map, bytes_eq, is_some, is_none}
use Rattle.std.specs.List.{AllByRecursion, IsDistinct}
use Rattle.std.proofs.lemmas.Bool.{cases_Bool, false≢true}
use Rattle.std.specs.List.Sorted.{IsPermutation}
use Rattle.std.proofs.lemmas.List.{map-append}
use Rattle.std.proofs.lemmas.Map.Text.{is_eq-slice_cmp}
use Rattle.std.proofs.lemmas.Option.{none-some, same_Some}
use Rattle.toml.specs.Data.{Data, Items, Members, array, boolean, datetime, float, get, get_member, integer, item, no_items, same_key, string, table}
use Rattle.toml.specs.Tables.{Expression, array_table, key_value, std_table}
use Rattle.toml.proofs.NodeLaws.{same_key-self}
use Rattle.toml_places.specs.declared.places.Places.{Places}
use Rattle.schema.specs.Tree.{keys_in, keys_of, list_of}
use Rattle.scenario.specs.declared.spells.Spell.{Spell}
use Rattle.plain_entries.specs.declared.departures.Departure.{Departure}
use Rattle.plain_entries.specs.declared.restarts.Restart.{Restart}
use Rattle.plain_entries.specs.declared.plain.Plain.{Plain}
use Rattle.plain_text.specs.Document.{document_of}
use Rattle.plain_text.specs.Headings.{a_list, a_table, found, headed_lines, item_lines, lines_under, named, pair_lines, AreApart, AreItemsOf, Headed, Heading, IsEachOnce, IsEachOnceBelow, IsHeaded, IsValueOr, Pairs}
use Rattle.plain_text.proofs.Filling.{other_way, same_from}
use Rattle.plain_text.proofs.Holding.{text_holds}
use Rattle.plain_document.specs.Document.{lines_of_part, lines_of_restarts, AddsPart, AddsSections, AddsValueBelow, AreLinesOf}
use Rattle.plain_document.specs.Entries.{contact_lines, departure_lines, extra_at, name_at, restart_lines, slow_lines, spell_lines}
use Rattle.plain_document.specs.Keys.{kind_of}
use Rattle.plain_document.specs.Order.{names_of, value_at, AreKeysOrdered, IsOrderedBelow, IsOrderedDocument, IsSectionOrdered, Section}
use Rattle.plain_document.specs.Tree.{listed, ways_of, AreListed, ArePlainItems, IsListed, IsPlainAt, IsPlainPart, IsPlainTree}
use Rattle.plain_document.specs.declared.document.PlainParts.{PlainParts}
use Rattle.plain_document.specs.declared.keys.Way.{Way}
use Rattle.plain_document.specs.declared.keys.Way.TheVariants.{Straight}
use Rattle.plain_document.proofs.Given.{first_apart, has, has_key, items_of, items_read, others_apart, pairs_of, table_given, table_read, GiveItems, GivenIf, Gives, GivesTable}
use Rattle.plain_document.proofs.Ordered.{one_more as one_more_all}
use Rattle.plain_document.proofs.Stays.{no_array, no_table}
use Rattle.plain_document.proofs.Walks.{one_more}

same_bytes : (k l : List ℕ) → bytes_eq k l ≡ true → k ≡ l
same_bytes k l same = same_from k l (is_eq-slice_cmp k l ∙ same)

-- ---- the items of the six lists

-- these lines are the items of a list, each key once
record AreItems (name : List ℕ) (lines : List Expression) : Type 0 where
  pub entries : List Pairs
  pub is : lines ≡ flat_map (item_lines name) entries
  pub once : AllByRecursion IsEachOnce entries

all_items : {X : Type 0} (name : List ℕ) (lines_of : X → List Expression) (pairs : X → Pairs) (xs : List X)
    → ((x : X) → lines_of x ≡ item_lines name (pairs x)) → ((x : X) → IsEachOnce (pairs x)) → AreItems name (flat_map lines_of xs)
all_items name lines_of pairs [] same once = record { entries = []; is = refl; once = tt }
all_items name lines_of pairs (x ∷ xs) same once =
    let rest = all_items name lines_of pairs xs same once in
    record {
      entries = pairs x ∷ rest.entries;
      is = (λ i. same x i ++ rest.is i);
      once = (once x, rest.once);
    }

abbrev departure_pairs : List (String Global) → Plain Departure → Pairs
departure_pairs names it = (codes "member", string (name_at names it.member)) ∷ (codes "at", integer (pos it.time.at)) ∷ []

abbrev contact_pairs : List (String Global) → Option ℕ → Pairs
contact_pairs names None = []
contact_pairs names (Some contact) = (codes "contact", string (name_at names contact)) ∷ []

abbrev restart_pairs : List (String Global) → Plain Restart → Pairs
restart_pairs names it =
    (codes "member", string (name_at names it.member)) ∷ (codes "at", integer (pos it.time.at)) ∷ contact_pairs names it.time.contact

abbrev spell_pairs : List (String Global) → Plain Spell → Pairs
spell_pairs names it =
    (codes "member", string (name_at names it.member)) ∷ (codes "from", integer (pos it.time.from)) ∷ (codes "until", integer (pos it.time.until)) ∷ []

abbrev slow_pairs : List ℕ → List (String Global) → Plain Spell → Pairs
slow_pairs extras names it =
    (codes "member", string (name_at names it.member)) ∷ (codes "from", integer (pos it.time.from)) ∷ (codes "until", integer (pos it.time.until))
    ∷ (codes "extra", integer (pos (extra_at extras it.entry))) ∷ []

departures : (name : List ℕ) (names : List (String Global)) (entries : List (Plain Departure)) → AreItems name (flat_map (departure_lines name names) entries)
departures name names entries = all_items name (departure_lines name names) (departure_pairs names) entries (λ it. refl) (λ it. (refl, (refl, tt)))

same_contact : (names : List (String Global)) (contact : Option ℕ) → contact_lines names contact ≡ pair_lines (contact_pairs names contact)
same_contact names None = refl
same_contact names (Some contact) = refl

same_restart : (names : List (String Global)) (it : Plain Restart) → restart_lines names it ≡ item_lines (codes "restart") (restart_pairs names it)
same_restart names it =
    ap (λ (es : List Expression). (([], codes "restart"), array_table) ∷ (([], codes "member"), key_value (string (name_at names it.member))) ∷ (([], codes "at"), key_value (integer (pos it.time.at))) ∷ es)
    (same_contact names it.time.contact)

contact_once : (names : List (String Global)) (d e : Data) (contact : Option ℕ) → IsEachOnce ((codes "member", d) ∷ (codes "at", e) ∷ contact_pairs names contact)
contact_once names d e None = (refl, (refl, tt))
contact_once names d e (Some contact) = (refl, (refl, (refl, tt)))

restarts : (parts : PlainParts) → AreItems (codes "restart") (lines_of_restarts parts)
restarts parts =
    all_items (codes "restart") (restart_lines parts.names.now) (restart_pairs parts.names.now) parts.script.now.restarts.items (same_restart parts.names.now)
    (λ it. contact_once parts.names.now (string (name_at parts.names.now it.member)) (integer (pos it.time.at)) it.time.contact)

spells : (name : List ℕ) (names : List (String Global)) (entries : List (Plain Spell)) → AreItems name (flat_map (spell_lines name names) entries)
spells name names entries = all_items name (spell_lines name names) (spell_pairs names) entries (λ it. refl) (λ it. (refl, (refl, (refl, tt))))

slows : (extras : List ℕ) (names : List (String Global)) (entries : List (Plain Spell)) → AreItems (codes "slow") (flat_map (slow_lines extras names) entries)
slows extras names entries =
    all_items (codes "slow") (slow_lines extras names) (slow_pairs extras names) entries (λ it. refl) (λ it. (refl, (refl, (refl, (refl, tt)))))

renamed : (name own : List ℕ) (lines found_lines : List Expression) → bytes_eq name own ≡ true → Some found_lines ≡ Some lines → AreItems own found_lines → AreItems name lines
renamed name own lines found_lines same is items =
    subst (λ (es : List Expression). AreItems name es) (same_Some found_lines lines is)
    (subst (λ (n : List ℕ). AreItems n found_lines) (sym (same_bytes name own same)) items)

part_items : (parts : PlainParts) (name : List ℕ) (lines : List Expression) → lines_of_part parts name ≡ Some lines → AreItems name lines
part_items parts name lines is =
    let names = parts.names.now in
    let script = parts.script.now in
    elim (cases_Bool (bytes_eq name (codes "crash"))) [
      | inl crash ↦ renamed name (codes "crash") lines _ crash (rw crash at is) (departures (codes "crash") names script.crashes.items)
      | inr no_crash ↦ elim (cases_Bool (bytes_eq name (codes "leave"))) [
        | inl leave ↦ renamed name (codes "leave") lines _ leave (rw (no_crash, leave) at is) (departures (codes "leave") names script.leaves.items)
        | inr no_leave ↦ elim (cases_Bool (bytes_eq name (codes "restart"))) [
          | inl restart ↦ renamed name (codes "restart") lines _ restart (rw (no_crash, no_leave, restart) at is) (restarts parts)
          | inr no_restart ↦ elim (cases_Bool (bytes_eq name (codes "slow"))) [
            | inl slow ↦ renamed name (codes "slow") lines _ slow (rw (no_crash, no_leave, no_restart, slow) at is) (slows parts.extras.now names script.slows.items)
            | inr no_slow ↦ elim (cases_Bool (bytes_eq name (codes "pause"))) [
              | inl pause ↦ renamed name (codes "pause") lines _ pause (rw (no_crash, no_leave, no_restart, no_slow, pause) at is) (spells (codes "pause") names script.pauses.items)
              | inr no_pause ↦ elim (cases_Bool (bytes_eq name (codes "block"))) [
                | inl block ↦ renamed name (codes "block") lines _ block (rw (no_crash, no_leave, no_restart, no_slow, no_pause, block) at is) (spells (codes "block") names script.blocks.items)
                | inr no_block ↦ absurd (none-some lines (rw (no_crash, no_leave, no_restart, no_slow, no_pause, no_block) at is))
              ]
            ]
          ]
        ]
      ]
    ]

-- ---- what stands below the heading of a section

abbrev pub IsHeadedFor : (tick : ℕ) → (key : List ℕ) → Option (List Expression) → (written : Option Data) → Option Headed → Type 0
IsHeadedFor tick key (Some lines) written headed = (entries : List Pairs) × (lines ≡ flat_map (item_lines key) entries) × (headed ≡ Some (a_list entries))
IsHeadedFor tick key None (Some (array ds)) headed = (items : List Pairs) × GiveItems tick key (flat_map (ways_of key) (list_of ds)) items × (headed ≡ Some (a_list items))
IsHeadedFor tick key None (Some (table ms)) headed = (pairs : Pairs) × GivesTable tick key Straight (table ms) pairs × (headed ≡ Some (a_table pairs))
IsHeadedFor tick key None written headed = headed ≡ None

abbrev some_lines : List ℕ → Option Headed → List Expression
some_lines name None = []
some_lines name (Some below) = headed_lines name below

abbrev OnceIn : Option Headed → Type 0
OnceIn None = Unit {0}
OnceIn (Some below) = IsEachOnceBelow below

record HasHeading (tick : ℕ) (name : List ℕ) (lines : Option (List Expression)) (written : Option Data) (before after : List Expression) : Type 0 where
  pub headed : Option Headed
  pub is : after ≡ before ++ some_lines name headed
  pub once : OnceIn headed
  pub given : IsHeadedFor tick name lines written headed

no_heading : (tick : ℕ) (name : List ℕ) (written : Option Data) (before after : List Expression) → IsHeadedFor tick name None written None → after ≡ before
    → HasHeading tick name None written before after
no_heading tick name written before after none same = record { headed = None; is = same ∙ sym (append-nil before); once = tt; given = none }

table_heading : (places : Places) (place : Option ℕ) (tick : ℕ) (name : List ℕ) (ms : Members) (own keys : List (List ℕ)) (more below : List (List (List ℕ))) (before after : List Expression)
    → below ≡ own ∷ [] → below ≡ keys ∷ more → AreKeysOrdered places place (keys_in ms) own
    → AddsValueBelow tick name (Some (table ms)) below before after → HasHeading tick name None (Some (table ms)) before after
table_heading places place tick name ms own keys more below before after is split ordered adds =
    let adds_own : AddsValueBelow tick name (Some (table ms)) (own ∷ []) before after = subst (λ (ks : List (List (List ℕ))). AddsValueBelow tick name (Some (table ms)) ks before after) is adds in
    let gives = pairs_of tick name Straight (table ms) own (before ++ (([], name), std_table) ∷ []) after ordered.once adds_own in
    record {
      headed = Some (a_table gives.pairs);
      is = gives.is ∙ append_assoc before ((([], name), std_table) ∷ []) (pair_lines gives.pairs);
      once = gives.once;
      given = (gives.pairs, table_given tick name Straight (table ms) own gives.pairs ordered.same gives.given, refl);
    }

value_heading : (places : Places) (place : Option ℕ) (tick : ℕ) (name : List ℕ) (written : Option Data) (below : List (List (List ℕ))) (before after : List Expression)
    → IsOrderedBelow places place written below → AddsValueBelow tick name written below before after → HasHeading tick name None written before after
value_heading places place tick name None below before after ordered adds = no_heading tick name None before after refl adds
value_heading places place tick name (Some (array ds)) below before after ordered adds =
    let gives = items_of places place tick name 0 (list_of ds) below before after ordered adds in
    record { headed = Some (a_list gives.items); is = gives.is; once = gives.once; given = (gives.items, gives.given, refl) }
value_heading places place tick name (Some (table ms)) below before after ordered adds =
    table_heading places place tick name ms ordered.0 ordered.0 [] below before after ordered.2 ordered.2 ordered.1 adds
value_heading places place tick name (Some (string word)) below before after ordered adds = no_heading tick name (Some (string word)) before after refl adds
value_heading places place tick name (Some (integer z)) below before after ordered adds = no_heading tick name (Some (integer z)) before after refl adds
value_heading places place tick name (Some (float x)) below before after ordered adds = no_heading tick name (Some (float x)) before after refl adds
value_heading places place tick name (Some (boolean on)) below before after ordered adds = no_heading tick name (Some (boolean on)) before after refl adds
value_heading places place tick name (Some (datetime dt)) below before after ordered adds = no_heading tick name (Some (datetime dt)) before after refl adds

section_heading : (places : Places) (tick : ℕ) (d : Data) (parts : PlainParts) (section : Section) (lines : Option (List Expression)) (before after : List Expression)
    → lines_of_part parts section.name ≡ lines → IsSectionOrdered places d section ⊎ (is_some lines ≡ true) → AddsPart tick d lines section before after
    → HasHeading tick section.name lines (get section.name d) before after
section_heading places tick d parts section (Some lines) before after is ordered adds =
    let items = part_items parts section.name lines is in
    record {
      headed = Some (a_list items.entries);
      is = adds ∙ ap (λ (es : List Expression). before ++ es) items.is;
      once = items.once;
      given = (items.entries, items.is, refl);
    }
section_heading places tick d parts section None before after is (inl ordered) adds =
    value_heading places (value_at places (Some 0) section.name) tick section.name (get section.name d) section.items before after ordered adds
section_heading places tick d parts section None before after is (inr some) adds = absurd (false≢true some)

-- ---- the sections

abbrev OfKey : (tick : ℕ) → Data → PlainParts → (key : List ℕ) → Bool → Option Headed → Type 0
OfKey tick d parts key true headed = IsHeadedFor tick key (lines_of_part parts key) (get key d) headed
OfKey tick d parts key false headed = headed ≡ None

pub record HasHeadings (tick : ℕ) (d : Data) (parts : PlainParts) (top : Pairs) (names : List (List ℕ)) (before after : List Expression) : Type 0 where
  pub headings : List Heading
  pub is : after ≡ before ++ lines_under headings
  pub apart : AreApart top headings
  pub given : (key : List ℕ) → OfKey tick d parts key (has key names) (named key headings)

-- a heading's name isn't at the top
abbrev TopIsFree : (tick : ℕ) → Data → PlainParts → Pairs → Type 0
TopIsFree tick d parts top =
    (key : List ℕ) (below : Headed) → IsHeadedFor tick key (lines_of_part parts key) (get key d) (Some below) → found key top ≡ None

module _ (tick : ℕ) (d : Data) (parts : PlainParts) (top : Pairs) where
  not_named : (key : List ℕ) (names : List (List ℕ)) (headings : List Heading) → has key names ≡ false
      → ((k : List ℕ) → OfKey tick d parts k (has k names) (named k headings)) → named key headings ≡ None
  not_named key names headings none given = subst (λ (there : Bool). OfKey tick d parts key there (named key headings)) none (given key)

  given_more : (name : List ℕ) (names : List (List ℕ)) (headings more : List Heading)
      → IsHeadedFor tick name (lines_of_part parts name) (get name d) (named name headings)
      → ((key : List ℕ) → same_key key name ≡ false → named key more ≡ named key headings) → ((key : List ℕ) → OfKey tick d parts key (has key names) (named key more))
      → (key : List ℕ) → OfKey tick d parts key (has key (name ∷ names)) (named key headings)
  given_more name names headings more here past given = λ key.
      elim (cases_Bool (same_key key name)) [
        | inl same ↦
            let own : IsHeadedFor tick key (lines_of_part parts key) (get key d) (named key headings) =
            subst (λ (k : List ℕ). IsHeadedFor tick k (lines_of_part parts k) (get k d) (named k headings)) (sym (same_from key name same)) here in
            rw same own
        | inr other ↦
            let rest : OfKey tick d parts key (has key names) (named key headings) =
            subst (λ (o : Option Headed). OfKey tick d parts key (has key names) o) (past key other) (given key) in
            rw other rest
      ]

  past_heading : (name : List ℕ) (below : Headed) (more : List Heading) (key : List ℕ) → same_key key name ≡ false
      → named key more ≡ named key (record { name = name; below = below } ∷ more)
  past_heading name below more key other = rw other refl

  at_heading : (name : List ℕ) (below : Headed) (more : List Heading) → named name (record { name = name; below = below } ∷ more) ≡ Some below
  at_heading name below more = rw (same_key-self name) refl

  heading_before : (name : List ℕ) (names : List (List ℕ)) (headed : Option Headed) (before between after : List Expression) → TopIsFree tick d parts top
      → has name names ≡ false → between ≡ before ++ some_lines name headed → OnceIn headed
      → IsHeadedFor tick name (lines_of_part parts name) (get name d) headed
      → HasHeadings tick d parts top names between after → HasHeadings tick d parts top (name ∷ names) before after
  heading_before name names None before between after free apart is once given more = record {
    headings = more.headings;
    is = more.is ∙ ap (λ (es : List Expression). es ++ lines_under more.headings) (is ∙ append-nil before);
    apart = more.apart;
    given =
        given_more name names more.headings more.headings
        (subst (λ (o : Option Headed). IsHeadedFor tick name (lines_of_part parts name) (get name d) o) (sym (not_named name names more.headings apart more.given)) given)
        (λ key other. refl) more.given;
  }
  heading_before name names (Some below) before between after free apart is once given more = record {
    headings = record { name = name; below = below } ∷ more.headings;
    is =
        more.is ∙ ap (λ (es : List Expression). es ++ lines_under more.headings) is
        ∙ append_assoc before (headed_lines name below) (lines_under more.headings);
    apart = (free name below given, not_named name names more.headings apart more.given, once, more.apart);
    given =
        given_more name names (record { name = name; below = below } ∷ more.headings) more.headings
        (subst (λ (o : Option Headed). IsHeadedFor tick name (lines_of_part parts name) (get name d) o) (sym (at_heading name below more.headings)) given)
        (past_heading name below more.headings) more.given;
  }

  pub sections_of : (places : Places) (sections : List Section) (before after : List Expression) → TopIsFree tick d parts top → IsDistinct same_key (names_of sections)
      → AllByRecursion (λ (section : Section). IsSectionOrdered places d section ⊎ (is_some (lines_of_part parts section.name) ≡ true)) sections
      → AddsSections tick d parts sections before after → HasHeadings tick d parts top (names_of sections) before after
  sections_of places [] before after free once ordered adds =
      record { headings = []; is = adds ∙ sym (append-nil before); apart = tt; given = λ key. refl }
  sections_of places (section ∷ sections) before after free once ordered adds =
      let here = section_heading places tick d parts section (lines_of_part parts section.name) before adds.0 refl ordered.0 adds.1 in
      heading_before section.name (names_of sections) here.headed before adds.0 after free (first_apart section.name (names_of sections) once) here.is here.once here.given
      (sections_of places sections adds.0 after free (others_apart section.name (names_of sections) once) ordered.1 adds.2)

-- ---- the top, and the whole

top_free : (tick : ℕ) (key : List ℕ) (lines : Option (List Expression)) (written : Option Data) (below : Headed) (there : Bool) (plain : Option Data)
    → IsListed key lines written → IsHeadedFor tick key lines written (Some below) → GivenIf tick (kind_of [] key) there written plain → plain ≡ None
top_free tick key lines written below false plain listed headed given = given
top_free tick key (Some lines) None below true plain listed headed given = given
top_free tick key (Some lines) (Some (array ds)) below true plain listed headed (inl x) = absurd (no_array tick (kind_of [] key) ds x.0 x.1)
top_free tick key (Some lines) (Some (array ds)) below true plain listed headed (inr x) = x.1
top_free tick key (Some lines) (Some (table ms)) below true plain listed headed given = absurd listed
top_free tick key (Some lines) (Some (string word)) below true plain listed headed given = absurd listed
top_free tick key (Some lines) (Some (integer z)) below true plain listed headed given = absurd listed
top_free tick key (Some lines) (Some (float x)) below true plain listed headed given = absurd listed
top_free tick key (Some lines) (Some (boolean on)) below true plain listed headed given = absurd listed
top_free tick key (Some lines) (Some (datetime dt)) below true plain listed headed given = absurd listed
top_free tick key None None below true plain listed headed given = given
top_free tick key None (Some (array ds)) below true plain listed headed (inl x) = absurd (no_array tick (kind_of [] key) ds x.0 x.1)
top_free tick key None (Some (array ds)) below true plain listed headed (inr x) = x.1
top_free tick key None (Some (table ms)) below true plain listed headed (inl x) = absurd (no_table tick (kind_of [] key) ms x.0 x.1)
top_free tick key None (Some (table ms)) below true plain listed headed (inr x) = x.1
top_free tick key None (Some (string word)) below true plain listed headed given = absurd (none-some below (sym headed))
top_free tick key None (Some (integer z)) below true plain listed headed given = absurd (none-some below (sym headed))
top_free tick key None (Some (float x)) below true plain listed headed given = absurd (none-some below (sym headed))
top_free tick key None (Some (boolean on)) below true plain listed headed given = absurd (none-some below (sym headed))
top_free tick key None (Some (datetime dt)) below true plain listed headed given = absurd (none-some below (sym headed))

-- what stands at a key, of what the headings have and of the top
list_read_more : (tick : ℕ) (key : List ℕ) (written : List (Way × Data)) (pairs : Pairs) (more : List Pairs) (plain : Option Data) (ds : Items)
    → GiveItems tick key written (pairs ∷ more) → AreItemsOf (pairs ∷ more) ds → plain ≡ Some (array ds)
    → (own : Items) × ArePlainItems tick key written own × (plain ≡ listed own)
list_read_more tick key written pairs more plain no_items gives are is = absurd are
list_read_more tick key written pairs more plain (item d ds) gives are is = (item d ds, items_read tick key written (pairs ∷ more) (item d ds) gives are, is)

list_read : (tick : ℕ) (key : List ℕ) (written : List (Way × Data)) (items : List Pairs) (plain : Option Data) → GiveItems tick key written items
    → IsHeaded (Some (a_list items)) plain → (own : Items) × ArePlainItems tick key written own × (plain ≡ listed own)
list_read tick key written [] plain gives is = (no_items, items_read tick key written [] no_items gives tt, is)
list_read tick key written (pairs ∷ more) plain gives is = list_read_more tick key written pairs more plain is.0 gives is.1 is.2

-- a value that is neither a table nor a list
value_read : (tick : ℕ) (key : List ℕ) (d : Data) (top plain : Option Data) → IsPlainAt tick (kind_of [] key) (Some d) top → IsValueOr top None plain
    → IsPlainAt tick (kind_of [] key) (Some d) plain
value_read tick key d (Some value) plain (inl x) is = inl (x.0, x.1, is ∙ x.2)
value_read tick key d (Some value) plain (inr x) is = absurd (none-some value (sym x.1))
value_read tick key d None plain (inl x) is = absurd (none-some x.0 x.2)
value_read tick key d None plain (inr x) is = inr (x.0, is)

-- under a heading, the top having no such key
headed_read : (tick : ℕ) (key : List ℕ) (lines : Option (List Expression)) (written : Option Data) (below : Headed) (plain : Option Data)
    → IsHeadedFor tick key lines written (Some below) → IsHeaded (Some below) plain → IsPlainPart tick key lines written plain
headed_read tick key (Some lines) written below plain headed is =
    (headed.0, headed.1, subst (λ (o : Option Headed). IsHeaded o plain) headed.2 is)
headed_read tick key None (Some (array ds)) below plain headed is =
    list_read tick key (flat_map (ways_of key) (list_of ds)) headed.0 plain headed.1 (subst (λ (o : Option Headed). IsHeaded o plain) headed.2 is)
headed_read tick key None (Some (table ms)) below plain headed is =
    let own : IsHeaded (Some (a_table headed.0)) plain = subst (λ (o : Option Headed). IsHeaded o plain) headed.2 is in
    (own.0, table_read tick key Straight (table ms) headed.0 own.0 headed.1 own.1, own.2)
headed_read tick key None None below plain headed is = absurd (none-some below (sym headed))
headed_read tick key None (Some (string word)) below plain headed is = absurd (none-some below (sym headed))
headed_read tick key None (Some (integer z)) below plain headed is = absurd (none-some below (sym headed))
headed_read tick key None (Some (float x)) below plain headed is = absurd (none-some below (sym headed))
headed_read tick key None (Some (boolean on)) below plain headed is = absurd (none-some below (sym headed))
headed_read tick key None (Some (datetime dt)) below plain headed is = absurd (none-some below (sym headed))

-- without a heading
bare_read : (tick : ℕ) (key : List ℕ) (lines : Option (List Expression)) (written top plain : Option Data) → IsHeadedFor tick key lines written None
    → GivenIf tick (kind_of [] key) (is_some written) written top → IsValueOr top None plain → IsPlainPart tick key lines written plain
bare_read tick key (Some lines) written top plain headed given is = absurd (none-some (a_list headed.0) headed.2)
bare_read tick key None None (Some value) plain headed given is = absurd (none-some value (sym given))
bare_read tick key None None None plain headed given is = is
bare_read tick key None (Some (array ds)) top plain headed given is = absurd (none-some (a_list headed.0) headed.2)
bare_read tick key None (Some (table ms)) top plain headed given is = absurd (none-some (a_table headed.0) headed.2)
bare_read tick key None (Some (string word)) top plain headed given is = value_read tick key (string word) top plain given is
bare_read tick key None (Some (integer z)) top plain headed given is = value_read tick key (integer z) top plain given is
bare_read tick key None (Some (float x)) top plain headed given is = value_read tick key (float x) top plain given is
bare_read tick key None (Some (boolean on)) top plain headed given is = value_read tick key (boolean on) top plain given is
bare_read tick key None (Some (datetime dt)) top plain headed given is = value_read tick key (datetime dt) top plain given is

-- a key for which there is no section
absent_read : (tick : ℕ) (key : List ℕ) (lines : Option (List Expression)) (written top plain : Option Data) → written ≡ None
    → (bytes_eq key (codes "restart") ≡ true → ⊥) → IsListed key lines written → GivenIf tick (kind_of [] key) (is_some written) written top → IsValueOr top None plain
    → IsPlainPart tick key lines written plain
absent_read tick key lines (Some d) top plain none other listed given is = absurd (none-some d (sym none))
absent_read tick key lines None (Some value) plain none other listed given is = absurd (none-some value (sym given))
absent_read tick key None None None plain none other listed given is = is
absent_read tick key (Some lines) None None plain none other (inl restart) given is = absurd (other restart)
absent_read tick key (Some lines) None None plain none other (inr empty) given is = ([], empty, is)

key_read : (tick : ℕ) (d : Data) (parts : PlainParts) (key : List ℕ) (there : Bool) (headed : Option Headed) (top plain : Option Data)
    → OfKey tick d parts key there headed → (there ≡ false → (get key d ≡ None) × (bytes_eq key (codes "restart") ≡ true → ⊥))
    → IsListed key (lines_of_part parts key) (get key d) → GivenIf tick (kind_of [] key) (is_some (get key d)) (get key d) top → IsValueOr top headed plain
    → IsPlainPart tick key (lines_of_part parts key) (get key d) plain
key_read tick d parts key false headed top plain headed_is absent listed given is =
    let none = absent refl in
    absent_read tick key (lines_of_part parts key) (get key d) top plain none.0 none.1 listed given (subst (λ (o : Option Headed). IsValueOr top o plain) headed_is is)
key_read tick d parts key true None top plain headed_is absent listed given is =
    bare_read tick key (lines_of_part parts key) (get key d) top plain headed_is given is
key_read tick d parts key true (Some below) top plain headed_is absent listed given is =
    let none : top ≡ None = top_free tick key (lines_of_part parts key) (get key d) below (is_some (get key d)) top listed headed_is given in
    headed_read tick key (lines_of_part parts key) (get key d) below plain headed_is (subst (λ (o : Option Data). IsValueOr o (Some below) plain) none is)

-- the document that the lines of the top and of the sections define
laid_out : (tick : ℕ) (d : Data) (parts : PlainParts) (names more : List (List ℕ)) (pairs lines : List Expression) → IsPermutation (keys_of d) names → AreListed d parts
    → (top : Gives tick [] Straight d names [] pairs) → HasHeadings tick d parts top.pairs more pairs lines
    → ((key : List ℕ) → has key more ≡ false → (get key d ≡ None) × (bytes_eq key (codes "restart") ≡ true → ⊥))
    → (ms : Members) × (document_of lines ≡ Some ms) × IsPlainTree tick d parts ms
laid_out tick d parts names more pairs lines same listed top headings absent =
    let held = text_holds top.pairs headings.headings top.once headings.apart in
    let is : lines ≡ pair_lines top.pairs ++ lines_under headings.headings = headings.is ∙ ap (λ (es : List Expression). es ++ lines_under headings.headings) top.is in (
      held.0,
      ap document_of is ∙ held.1,
      λ key.
          let given : GivenIf tick (kind_of [] key) (is_some (get key d)) (get key d) (found key top.pairs) =
          subst (λ (there : Bool). GivenIf tick (kind_of [] key) there (get key d) (found key top.pairs)) (has_key key d names same) (top.given key) in
          key_read tick d parts key (has key more) (named key headings.headings) (found key top.pairs) (get_member key held.0) (headings.given key) (absent key) (listed key) given
          (held.2 key),
    )

none_from : {A : Type 0} (o : Option A) → is_some o ≡ false → o ≡ None
none_from None none = refl
none_from (Some x) none = absurd (false≢true (sym none))

none_here : {A : Type 0} (o : Option A) → is_none o ≡ true → o ≡ None
none_here None none = refl
none_here (Some x) none = absurd (false≢true none)

some_here : {A : Type 0} (o : Option A) → is_none o ≡ false → o ≡ None → ⊥
some_here None some none = false≢true (sym some)
some_here (Some x) some none = none-some x (sym none)

all_left : (places : Places) (d : Data) (parts : PlainParts) (sections : List Section) → AllByRecursion (IsSectionOrdered places d) sections
    → AllByRecursion (λ (section : Section). IsSectionOrdered places d section ⊎ (is_some (lines_of_part parts section.name) ≡ true)) sections
all_left places d parts [] ordered = tt
all_left places d parts (section ∷ sections) ordered = (inl ordered.0, all_left places d parts sections ordered.1)

not_in_more : (key name : List ℕ) (names : List (List ℕ)) → has key (names ++ name ∷ []) ≡ false → (has key names ≡ false) × (same_key key name ≡ false)
not_in_more key name [] none =
    elim (cases_Bool (same_key key name)) [
      | inl same ↦ absurd (false≢true (sym (rw same at none)))
      | inr other ↦ (refl, other)
    ]
not_in_more key name (first ∷ names) none =
    elim (cases_Bool (same_key key first)) [
      | inl same ↦ absurd (false≢true (sym (rw same at none)))
      | inr other ↦
          let rest = not_in_more key name names (rw other at none) in
          (rw other (rest.0), rest.1)
    ]

apart_from : (name : List ℕ) (names : List (List ℕ)) → has name names ≡ false → IsDistinct same_key names → IsDistinct same_key (names ++ name ∷ [])
unfolding IsDistinct
apart_from name [] none once = (tt, tt)
apart_from name (first ∷ names) none once =
    elim (cases_Bool (same_key name first)) [
      | inl same ↦ absurd (false≢true (sym (rw same at none)))
      | inr other ↦ (
        one_more_all (λ (key : List ℕ). same_key first key ≡ false) names name once.0 (other_way name first other),
        apart_from name names (rw other at none) once.1,
      )
    ]

-- the restarts as a section behind the others
abbrev restart_section : Section
restart_section = record { name = codes "restart"; items = [] }

pub text_holds_document : (tick : ℕ) (d : Data) (places : Places) (sections : List Section) (parts : PlainParts) (lines : List Expression) → IsOrderedDocument places d sections
    → AreListed d parts → AreLinesOf tick d sections parts lines → (ms : Members) × (document_of lines ≡ Some ms) × IsPlainTree tick d parts ms
text_holds_document tick d places sections parts lines ordered listed are =
    let names = names_of sections in
    let restart = codes "restart" in
    let same = ordered.top.same in
    let top = pairs_of tick [] Straight d names [] are.pairs ordered.top.once are.of_top in
    let free : TopIsFree tick d parts top.pairs =
    λ key below headed. top_free tick key (lines_of_part parts key) (get key d) below (has key names) (found key top.pairs) (listed key) headed (top.given key) in
    let left = all_left places d parts sections ordered.below in
    elim (cases_Bool (is_none (get restart d))) [
      | inl none ↦
          let more = sections ++ restart_section ∷ [] in
          let names_more : names_of more ≡ names ++ restart ∷ [] = map-append (λ (section : Section). section.name) sections (restart_section ∷ []) in
          let last : lines ≡ are.listed ++ lines_of_restarts parts = rw none at are.whole in
          let adds = one_more tick d parts sections restart_section are.pairs are.listed lines are.of_sections last in
          let absent : has restart names ≡ false = has_key restart d names same ∙ ap is_some (none_here (get restart d) none) in
          let once : IsDistinct same_key (names_of more) = subst (λ (ns : List (List ℕ)). IsDistinct same_key ns) (sym names_more) (apart_from restart names absent ordered.top.once) in
          let headings = sections_of tick d parts top.pairs places more are.pairs lines free once
          (one_more_all (λ (section : Section). IsSectionOrdered places d section ⊎ (is_some (lines_of_part parts section.name) ≡ true)) sections restart_section left (inr refl)) adds in
          laid_out tick d parts names (names_of more) are.pairs lines same listed top headings
          (λ key missing.
          let rest = not_in_more key restart names (subst (λ (ns : List (List ℕ)). has key ns ≡ false) names_more missing) in
          (none_from (get key d) (sym (has_key key d names same) ∙ rest.0), λ is. false≢true (sym rest.1 ∙ is_eq-slice_cmp key restart ∙ is)))
      | inr some ↦
          let last : lines ≡ are.listed = (rw some at are.whole) ∙ append-nil are.listed in
          let headings = sections_of tick d parts top.pairs places sections are.pairs lines free ordered.top.once left
          (subst (λ (es : List Expression). AddsSections tick d parts sections are.pairs es) (sym last) are.of_sections) in
          laid_out tick d parts names names are.pairs lines same listed top headings
          (λ key missing.
          let none = none_from (get key d) (sym (has_key key d names same) ∙ missing) in
          (none, λ is. some_here (get restart d) some (subst (λ (k : List ℕ). get k d ≡ None) (same_bytes key restart is) none)))
    ]
