-- A document has one list of lines.
use Rattle.std.proofs.Common.{◌≡◌, ◌≤◌, ℕ, List, [], ◌∷◌, ◌++◌, map, Bool, true, false, not, Option, Some, None, ap, sym, subst, ◌∙◌, inl, inr}
use Rattle.std.specs.Bool.{OnTrue}
use Rattle.toml.specs.Data.{Data, array, boolean, datetime, float, get, integer, string, table}
use Rattle.toml.specs.Tables.{Expression, array_table, key_value, std_table}
use Rattle.schema.specs.Tree.{list_of}
use Rattle.plain_document.specs.Document.{lines_of_part, AddsItems, AddsPart, AddsSections, AddsValueBelow, AreLinesOf, last_lines}
use Rattle.plain_document.specs.Keys.{kind_of, read_key}
use Rattle.plain_document.specs.Order.{Section}
use Rattle.plain_document.specs.Pairs.{AddsItem, AddsPairs, AddsValue, AddsWay, goes_both_ways}
use Rattle.plain_document.specs.declared.document.PlainParts.{PlainParts}
use Rattle.plain_document.specs.declared.keys.KeyKind.{KeyKind}
use Rattle.plain_document.specs.declared.keys.Way.{Way}
use Rattle.plain_document.specs.declared.keys.Way.TheVariants.{Straight, Turned}
use Rattle.plain_document.proofs.Plain.{plain_is_one}

-- ---- the lines of keys

one_value : (tick : ℕ) (kind : KeyKind) (key : List ℕ) (d : Option Data) (before a b : List Expression) → 1 ≤ tick
    → AddsValue tick kind key d before a → AddsValue tick kind key d before b → a ≡ b
one_value tick kind key None before a b some first second = first ∙ sym second
one_value tick kind key (Some d) before a b some (inl x) (inl y) =
    x.2 ∙ ap (λ (plain : Data). before ++ (([], key), key_value plain) ∷ []) (plain_is_one tick kind d x.0 y.0 some x.1 y.1) ∙ sym y.2
one_value tick kind key (Some d) before a b some (inl x) (inr y) = absurd (y.0 x.0 x.1)
one_value tick kind key (Some d) before a b some (inr x) (inl y) = absurd (x.0 y.0 y.1)
one_value tick kind key (Some d) before a b some (inr x) (inr y) = x.1 ∙ sym y.1

one_pairs : (tick : ℕ) (section : List ℕ) (way : Way) (d : Data) (keys : List (List ℕ)) (before a b : List Expression) → 1 ≤ tick
    → AddsPairs tick section way d keys before a → AddsPairs tick section way d keys before b → a ≡ b
one_pairs tick section way d [] before a b some first second = first ∙ sym second
one_pairs tick section way d (key ∷ keys) before a b some first second =
    let same : second.0 ≡ first.0 = one_value tick (kind_of section key) key (get (read_key way key) d) before second.0 first.0 some second.1 first.1 in
    one_pairs tick section way d keys first.0 a b some first.2 (subst (λ (es : List Expression). AddsPairs tick section way d keys es b) same second.2)

-- ---- items and tables

one_more_way : (tick : ℕ) (section : List ℕ) (d : Data) (keys : List (List ℕ)) (both : Bool) (between a b : List Expression) → 1 ≤ tick
    → OnTrue both (AddsWay tick section Turned d keys between a) → OnTrue (not both) (a ≡ between)
    → OnTrue both (AddsWay tick section Turned d keys between b) → OnTrue (not both) (b ≡ between) → a ≡ b
one_more_way tick section d keys true between a b some first none second more =
    one_pairs tick section Turned d keys (between ++ (([], section), array_table) ∷ []) a b some first second
one_more_way tick section d keys false between a b some first none second more = none ∙ sym more

one_item : (tick : ℕ) (section : List ℕ) (d : Data) (keys : List (List ℕ)) (before a b : List Expression) → 1 ≤ tick
    → AddsItem tick section d keys before a → AddsItem tick section d keys before b → a ≡ b
one_item tick section d keys before a b some first second =
    let same : second.0 ≡ first.0 = one_pairs tick section Straight d keys (before ++ (([], section), array_table) ∷ []) second.0 first.0 some second.1 first.1 in
    one_more_way tick section d keys (goes_both_ways section d) first.0 a b some first.2 first.3
    (subst (λ (es : List Expression). OnTrue (goes_both_ways section d) (AddsWay tick section Turned d keys es b)) same second.2)
    (subst (λ (es : List Expression). OnTrue (not (goes_both_ways section d)) (b ≡ es)) same second.3)

one_items : (tick : ℕ) (name : List ℕ) (ds : List Data) (keys : List (List (List ℕ))) (before a b : List Expression) → 1 ≤ tick
    → AddsItems tick name ds keys before a → AddsItems tick name ds keys before b → a ≡ b
one_items tick name [] keys before a b some first second = first ∙ sym second
one_items tick name (d ∷ ds) [] before a b some first second = first ∙ sym second
one_items tick name (d ∷ ds) (keys ∷ more) before a b some first second =
    let same : second.0 ≡ first.0 = one_item tick name d keys before second.0 first.0 some second.1 first.1 in
    one_items tick name ds more first.0 a b some first.2 (subst (λ (es : List Expression). AddsItems tick name ds more es b) same second.2)

one_below : (tick : ℕ) (name : List ℕ) (value : Option Data) (keys : List (List (List ℕ))) (before a b : List Expression) → 1 ≤ tick
    → AddsValueBelow tick name value keys before a → AddsValueBelow tick name value keys before b → a ≡ b
one_below tick name (Some (array ds)) keys before a b some first second = one_items tick name (list_of ds) keys before a b some first second
one_below tick name (Some (table ms)) (keys ∷ more) before a b some first second =
    one_pairs tick name Straight (table ms) keys (before ++ (([], name), std_table) ∷ []) a b some first second
one_below tick name (Some (table ms)) [] before a b some first second = first ∙ sym second
one_below tick name (Some (string word)) keys before a b some first second = first ∙ sym second
one_below tick name (Some (integer z)) keys before a b some first second = first ∙ sym second
one_below tick name (Some (float x)) keys before a b some first second = first ∙ sym second
one_below tick name (Some (boolean on)) keys before a b some first second = first ∙ sym second
one_below tick name (Some (datetime dt)) keys before a b some first second = first ∙ sym second
one_below tick name None keys before a b some first second = first ∙ sym second

-- ---- sections

one_part : (tick : ℕ) (d : Data) (lines : Option (List Expression)) (section : Section) (before a b : List Expression) → 1 ≤ tick
    → AddsPart tick d lines section before a → AddsPart tick d lines section before b → a ≡ b
one_part tick d (Some lines) section before a b some first second = first ∙ sym second
one_part tick d None section before a b some first second = one_below tick section.name (get section.name d) section.items before a b some first second

one_sections : (tick : ℕ) (d : Data) (parts : PlainParts) (sections : List Section) (before a b : List Expression) → 1 ≤ tick
    → AddsSections tick d parts sections before a → AddsSections tick d parts sections before b → a ≡ b
one_sections tick d parts [] before a b some first second = first ∙ sym second
one_sections tick d parts (section ∷ sections) before a b some first second =
    let same : second.0 ≡ first.0 = one_part tick d (lines_of_part parts section.name) section before second.0 first.0 some second.1 first.1 in
    one_sections tick d parts sections first.0 a b some first.2 (subst (λ (es : List Expression). AddsSections tick d parts sections es b) same second.2)

pub one_document : (tick : ℕ) (d : Data) (sections : List Section) (parts : PlainParts) (a b : List Expression) → 1 ≤ tick
    → AreLinesOf tick d sections parts a → AreLinesOf tick d sections parts b → a ≡ b
one_document tick d sections parts a b some first second =
    let top : second.pairs ≡ first.pairs =
    one_pairs tick [] Straight d (map (λ (section : Section). section.name) sections) [] second.pairs first.pairs some second.of_top first.of_top in
    let listed : first.listed ≡ second.listed =
    one_sections tick d parts sections first.pairs first.listed second.listed some first.of_sections
    (subst (λ (es : List Expression). AddsSections tick d parts sections es second.listed) top second.of_sections) in
    first.whole ∙ ap (λ (es : List Expression). es ++ last_lines d parts) listed ∙ sym second.whole
