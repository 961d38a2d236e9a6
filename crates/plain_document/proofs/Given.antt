-- The keys and values of the lines of a table, and of the items of a list.
use Rattle.std.proofs.Common.{◌≡◌, ℕ, ◌+◌, Bool, true, false, not, List, [], ◌∷◌, ◌++◌, Option, Some, None, nat_cmp, refl, ap, sym, subst, ◌∙◌, inl, inr, append_assoc, append-nil}
use Rattle.std.specs.Prelude.{flat_map, is_some}
use Rattle.std.specs.Bool.{OnTrue}
use Rattle.std.specs.Cmp.Lexicographic.{slice_cmp}
use Rattle.std.specs.List.{AllByRecursion, IsDistinct, list_any}
use Rattle.std.specs.List.Sorted.{IsPermutation}
use Rattle.std.proofs.lemmas.Bool.{cases_Bool}
use Rattle.std.proofs.lemmas.List.Sorted.{list_any-IsPermutation}
use Rattle.toml.specs.Data.{Data, Items, Members, array, boolean, datetime, float, get, get_member, integer, item, member, no_items, no_members, same_key, string, table}
use Rattle.toml.specs.Tables.{Expression, array_table, key_value}
use Rattle.toml.proofs.NodeLaws.{same_key-self}
use Rattle.toml_places.specs.declared.places.Places.{Places}
use Rattle.schema.specs.Tree.{keys_in, keys_of}
use Rattle.plain_text.specs.Headings.{found, item_lines, pair_lines, AreItemsOf, IsEachOnce, IsTableOf, Pairs}
use Rattle.plain_text.proofs.Filling.{by_order, same_from}
use Rattle.plain_document.specs.Document.{AddsItems}
use Rattle.plain_document.specs.Keys.{kind_of, read_key}
use Rattle.plain_document.specs.Order.{item_at, AreItemsOrdered, AreKeysOrdered}
use Rattle.plain_document.specs.Pairs.{goes_both_ways, AddsPairs, AddsValue, AddsWay}
use Rattle.plain_document.specs.Tree.{ways_of, ArePlainItems, IsPlainAt, IsPlainKey, IsPlainTable}
use Rattle.plain_document.specs.declared.keys.KeyKind.{KeyKind}
use Rattle.plain_document.specs.declared.keys.Way.{Way}
use Rattle.plain_document.specs.declared.keys.Way.TheVariants.{Straight, Turned}

-- ---- which keys there are

abbrev pub has : List ℕ → List (List ℕ) → Bool
has key keys = list_any (same_key key) keys

none_apart : (key : List ℕ) (keys : List (List ℕ)) → AllByRecursion (λ other. same_key key other ≡ false) keys → has key keys ≡ false
none_apart key [] apart = refl
none_apart key (other ∷ keys) apart = rw (apart.0) (none_apart key keys apart.1)

pub first_apart : (key : List ℕ) (keys : List (List ℕ)) → IsDistinct same_key (key ∷ keys) → has key keys ≡ false
unfolding IsDistinct
first_apart key keys once = none_apart key keys once.0

pub others_apart : (key : List ℕ) (keys : List (List ℕ)) → IsDistinct same_key (key ∷ keys) → IsDistinct same_key keys
unfolding IsDistinct
others_apart key keys once = once.1

in_members : (key : List ℕ) (ms : Members) → has key (keys_in ms) ≡ is_some (get_member key ms)
in_members key no_members = refl
in_members key (member l d ms) =
    elim (by_order (slice_cmp nat_cmp key l)) [
      | inl less ↦ rw less (in_members key ms)
      | inr more ↦ elim more [
        | inl tie ↦ rw tie refl
        | inr greater ↦ rw greater (in_members key ms)
      ]
    ]

in_keys : (key : List ℕ) (d : Data) → has key (keys_of d) ≡ is_some (get key d)
in_keys key (string word) = refl
in_keys key (integer z) = refl
in_keys key (float x) = refl
in_keys key (boolean on) = refl
in_keys key (datetime dt) = refl
in_keys key (array ds) = refl
in_keys key (table ms) = in_members key ms

pub has_key : (key : List ℕ) (d : Data) (keys : List (List ℕ)) → IsPermutation (keys_of d) keys → has key keys ≡ is_some (get key d)
has_key key d keys same = sym (list_any-IsPermutation (same_key key) (keys_of d) keys same) ∙ in_keys key d

-- ---- the lines of keys in a row

abbrev pub GivenIf : (tick : ℕ) → KeyKind → Bool → (read plain : Option Data) → Type 0
GivenIf tick kind true read plain = IsPlainAt tick kind read plain
GivenIf tick kind false read plain = plain ≡ None

abbrev pub AreGivenBy : (tick : ℕ) → (section : List ℕ) → Way → Data → List (List ℕ) → Pairs → Type 0
AreGivenBy tick section way d keys pairs =
    (key : List ℕ) → GivenIf tick (kind_of section key) (has key keys) (get (read_key way key) d) (found key pairs)

pub record Gives (tick : ℕ) (section : List ℕ) (way : Way) (d : Data) (keys : List (List ℕ)) (before after : List Expression) : Type 0 where
  pub pairs : Pairs
  pub is : after ≡ before ++ pair_lines pairs
  pub once : IsEachOnce pairs
  pub given : AreGivenBy tick section way d keys pairs

module _ (tick : ℕ) (section : List ℕ) (way : Way) (d : Data) where
  not_given : (k : List ℕ) (keys : List (List ℕ)) (pairs : Pairs) → has k keys ≡ false → AreGivenBy tick section way d keys pairs → found k pairs ≡ None
  not_given k keys pairs none given =
      subst (λ (there : Bool). GivenIf tick (kind_of section k) there (get (read_key way k) d) (found k pairs)) none (given k)

  given_more : (k : List ℕ) (keys : List (List ℕ)) (pairs more : Pairs) → IsPlainAt tick (kind_of section k) (get (read_key way k) d) (found k pairs)
      → ((key : List ℕ) → same_key key k ≡ false → found key more ≡ found key pairs) → AreGivenBy tick section way d keys more
      → AreGivenBy tick section way d (k ∷ keys) pairs
  given_more k keys pairs more here past given = λ key.
      elim (cases_Bool (same_key key k)) [
        | inl same ↦
            let plain : IsPlainAt tick (kind_of section key) (get (read_key way key) d) (found key pairs) =
            subst (λ (name : List ℕ). IsPlainAt tick (kind_of section name) (get (read_key way name) d) (found name pairs)) (sym (same_from key k same)) here in
            rw same plain
        | inr other ↦
            let rest : GivenIf tick (kind_of section key) (has key keys) (get (read_key way key) d) (found key pairs) =
            subst (λ (o : Option Data). GivenIf tick (kind_of section key) (has key keys) (get (read_key way key) d) o) (past key other) (given key) in
            rw other rest
      ]

  past_pair : (k : List ℕ) (plain : Data) (more : Pairs) (key : List ℕ) → same_key key k ≡ false → found key more ≡ found key ((k, plain) ∷ more)
  past_pair k plain more key other = rw other refl

  at_pair : (k : List ℕ) (plain : Data) (more : Pairs) → found k ((k, plain) ∷ more) ≡ Some plain
  at_pair k plain more = rw (same_key-self k) refl

  -- a key without a line
  no_line : (k : List ℕ) (keys : List (List ℕ)) (before between after : List Expression) → has k keys ≡ false → between ≡ before
      → ((pairs : Pairs) → found k pairs ≡ None → IsPlainAt tick (kind_of section k) (get (read_key way k) d) (found k pairs))
      → Gives tick section way d keys between after → Gives tick section way d (k ∷ keys) before after
  no_line k keys before between after apart same here more = record {
    pairs = more.pairs;
    is = more.is ∙ ap (λ (es : List Expression). es ++ pair_lines more.pairs) same;
    once = more.once;
    given = given_more k keys more.pairs more.pairs (here more.pairs (not_given k keys more.pairs apart more.given)) (λ key other. refl) more.given;
  }

  one_line : (k : List ℕ) (plain : Data) (keys : List (List ℕ)) (before between after : List Expression) → has k keys ≡ false
      → between ≡ before ++ (([], k), key_value plain) ∷ [] → IsPlainAt tick (kind_of section k) (get (read_key way k) d) (Some plain)
      → Gives tick section way d keys between after → Gives tick section way d (k ∷ keys) before after
  one_line k plain keys before between after apart same here more = record {
    pairs = (k, plain) ∷ more.pairs;
    is =
        more.is ∙ ap (λ (es : List Expression). es ++ pair_lines more.pairs) same
        ∙ append_assoc before ((([], k), key_value plain) ∷ []) (pair_lines more.pairs);
    once = (not_given k keys more.pairs apart more.given, more.once);
    given =
        given_more k keys ((k, plain) ∷ more.pairs) more.pairs
        (subst (λ (o : Option Data). IsPlainAt tick (kind_of section k) (get (read_key way k) d) o) (sym (at_pair k plain more.pairs)) here)
        (past_pair k plain more.pairs) more.given;
  }

  by_value : (k : List ℕ) (keys : List (List ℕ)) (read : Option Data) (before between after : List Expression) → get (read_key way k) d ≡ read → has k keys ≡ false
      → AddsValue tick (kind_of section k) k read before between → Gives tick section way d keys between after → Gives tick section way d (k ∷ keys) before after
  by_value k keys None before between after is apart adds more =
      no_line k keys before between after apart adds
      (λ pairs none. subst (λ (r : Option Data). IsPlainAt tick (kind_of section k) r (found k pairs)) (sym is) none) more
  by_value k keys (Some own) before between after is apart (inl x) more =
      one_line k x.0 keys before between after apart x.2
      (subst (λ (r : Option Data). IsPlainAt tick (kind_of section k) r (Some x.0)) (sym is) (inl (x.0, x.1, refl))) more
  by_value k keys (Some own) before between after is apart (inr x) more =
      no_line k keys before between after apart x.1
      (λ pairs none. subst (λ (r : Option Data). IsPlainAt tick (kind_of section k) r (found k pairs)) (sym is) (inr (x.0, none))) more

  pub pairs_of : (keys : List (List ℕ)) (before after : List Expression) → IsDistinct same_key keys → AddsPairs tick section way d keys before after
      → Gives tick section way d keys before after
  pairs_of [] before after once adds = record { pairs = []; is = adds ∙ sym (append-nil before); once = tt; given = λ key. refl }
  pairs_of (k ∷ keys) before after once adds =
      by_value k keys (get (read_key way k) d) before adds.0 after refl (first_apart k keys once) adds.1 (pairs_of keys adds.0 after (others_apart k keys once) adds.2)

-- ---- a table

abbrev pub GivesTable : (tick : ℕ) → (section : List ℕ) → Way → Data → Pairs → Type 0
GivesTable tick section way d pairs =
    (key : List ℕ) → IsPlainKey tick (kind_of section key) (get key d) (get (read_key way key) d) (found key pairs)

as_key : (tick : ℕ) (kind : KeyKind) (own read plain : Option Data) → GivenIf tick kind (is_some own) read plain → IsPlainKey tick kind own read plain
as_key tick kind None read plain given = given
as_key tick kind (Some d) read plain given = given

pub table_given : (tick : ℕ) (section : List ℕ) (way : Way) (d : Data) (keys : List (List ℕ)) (pairs : Pairs) → IsPermutation (keys_of d) keys
    → AreGivenBy tick section way d keys pairs → GivesTable tick section way d pairs
table_given tick section way d keys pairs same given = λ key.
    as_key tick (kind_of section key) (get key d) (get (read_key way key) d) (found key pairs)
    (subst (λ (there : Bool). GivenIf tick (kind_of section key) there (get (read_key way key) d) (found key pairs)) (has_key key d keys same) (given key))

pub table_read : (tick : ℕ) (section : List ℕ) (way : Way) (d : Data) (pairs : Pairs) (ms : Members) → GivesTable tick section way d pairs → IsTableOf pairs ms
    → IsPlainTable tick section way d ms
table_read tick section way d pairs ms gives is = λ key.
    subst (λ (o : Option Data). IsPlainKey tick (kind_of section key) (get key d) (get (read_key way key) d) o) (sym (is key)) (gives key)

-- ---- items

abbrev pub GiveItems : (tick : ℕ) → (section : List ℕ) → List (Way × Data) → List Pairs → Type 0
GiveItems tick section [] [] = Unit {0}
GiveItems tick section (it ∷ more) (pairs ∷ items) = GivesTable tick section it.0 it.1 pairs × GiveItems tick section more items
GiveItems tick section written items = ⊥

pub items_read : (tick : ℕ) (section : List ℕ) (written : List (Way × Data)) (items : List Pairs) (ds : Items) → GiveItems tick section written items
    → AreItemsOf items ds → ArePlainItems tick section written ds
items_read tick section [] [] no_items gives are = tt
items_read tick section [] [] (item d ds) gives are = absurd are
items_read tick section [] (pairs ∷ items) ds gives are = absurd gives
items_read tick section (it ∷ more) [] ds gives are = absurd gives
items_read tick section (it ∷ more) (pairs ∷ items) no_items gives are = absurd are
items_read tick section (it ∷ more) (pairs ∷ items) (item (table ms) ds) gives are =
    (table_read tick section it.0 it.1 pairs ms gives.0 are.0, items_read tick section more items ds gives.1 are.1)
items_read tick section (it ∷ more) (pairs ∷ items) (item d ds) gives are = absurd are

-- the lines of one item, one way
record GivesWay (tick : ℕ) (section : List ℕ) (way : Way) (d : Data) (before after : List Expression) : Type 0 where
  pub pairs : Pairs
  pub is : after ≡ before ++ item_lines section pairs
  pub once : IsEachOnce pairs
  pub given : GivesTable tick section way d pairs

way_of : (places : Places) (place : Option ℕ) (tick : ℕ) (section : List ℕ) (way : Way) (d : Data) (keys : List (List ℕ)) (before after : List Expression)
    → AreKeysOrdered places place (keys_of d) keys → AddsWay tick section way d keys before after → GivesWay tick section way d before after
way_of places place tick section way d keys before after ordered adds =
    let gives = pairs_of tick section way d keys (before ++ (([], section), array_table) ∷ []) after ordered.once adds in
    record {
      pairs = gives.pairs;
      is = gives.is ∙ append_assoc before ((([], section), array_table) ∷ []) (pair_lines gives.pairs);
      once = gives.once;
      given = table_given tick section way d keys gives.pairs ordered.same gives.given;
    }

pub record GivesList (tick : ℕ) (section : List ℕ) (written : List (Way × Data)) (before after : List Expression) : Type 0 where
  pub items : List Pairs
  pub is : after ≡ before ++ flat_map (item_lines section) items
  pub once : AllByRecursion IsEachOnce items
  pub given : GiveItems tick section written items

no_item : (tick : ℕ) (section : List ℕ) (before after : List Expression) → after ≡ before → GivesList tick section [] before after
no_item tick section before after same = record { items = []; is = same ∙ sym (append-nil before); once = tt; given = tt }

item_before : (tick : ℕ) (section : List ℕ) (way : Way) (d : Data) (written : List (Way × Data)) (before between after : List Expression)
    → GivesWay tick section way d before between → GivesList tick section written between after → GivesList tick section ((way, d) ∷ written) before after
item_before tick section way d written before between after first more = record {
  items = first.pairs ∷ more.items;
  is =
      more.is ∙ ap (λ (es : List Expression). es ++ flat_map (item_lines section) more.items) first.is
      ∙ append_assoc before (item_lines section first.pairs) (flat_map (item_lines section) more.items);
  once = (first.once, more.once);
  given = (first.given, more.given);
}

item_of : (places : Places) (place : Option ℕ) (tick : ℕ) (section : List ℕ) (d : Data) (keys : List (List ℕ)) (written : List (Way × Data)) (both : Bool)
    (before straight between after : List Expression) → goes_both_ways section d ≡ both → AreKeysOrdered places place (keys_of d) keys
    → AddsWay tick section Straight d keys before straight → OnTrue both (AddsWay tick section Turned d keys straight between) → OnTrue (not both) (between ≡ straight)
    → GivesList tick section written between after → GivesList tick section (ways_of section d ++ written) before after
item_of places place tick section d keys written true before straight between after is ordered first second none more =
    rw is
    (item_before tick section Straight d ((Turned, d) ∷ written) before straight after (way_of places place tick section Straight d keys before straight ordered first)
    (item_before tick section Turned d written straight between after (way_of places place tick section Turned d keys straight between ordered second) more))
item_of places place tick section d keys written false before straight between after is ordered first second none more =
    rw is
    (item_before tick section Straight d written before straight after (way_of places place tick section Straight d keys before straight ordered first)
    (subst (λ (es : List Expression). GivesList tick section written es after) none more))

pub items_of : (places : Places) (list : Option ℕ) (tick : ℕ) (section : List ℕ) (number : ℕ) (ds : List Data) (keys : List (List (List ℕ))) (before after : List Expression)
    → AreItemsOrdered places list number ds keys → AddsItems tick section ds keys before after → GivesList tick section (flat_map (ways_of section) ds) before after
items_of places list tick section number [] [] before after ordered adds = no_item tick section before after adds
items_of places list tick section number [] (first ∷ keys) before after ordered adds = absurd ordered
items_of places list tick section number (d ∷ ds) [] before after ordered adds = absurd ordered
items_of places list tick section number (d ∷ ds) (first ∷ keys) before after ordered adds =
    let it = adds.1 in
    item_of places (item_at places list number) tick section d first (flat_map (ways_of section) ds) (goes_both_ways section d) before it.0 adds.0 after refl ordered.0
    it.1 it.2 it.3 (items_of places list tick section (number + 1) ds keys adds.0 after ordered.1 adds.2)
