-- The lines of a plain document are its own.
use Rattle.std.proofs.Common.{◌≡◌, ℕ, List, [], ◌∷◌, ◌++◌, Bool, true, false, not, Option, Some, None, ap, sym, ◌∙◌, inl, inr, append_assoc, append-nil}
use Rattle.std.specs.Bool.{OnTrue}
use Rattle.std.specs.List.{AllByRecursion}
use Rattle.toml.specs.Data.{Data, Items, Members, array, boolean, datetime, float, get, integer, string, table}
use Rattle.toml.specs.Tables.{Expression, array_table, key_value, std_table}
use Rattle.schema.specs.Tree.{list_of}
use Rattle.plain_document.specs.Document.{lines_of_part, AddsItems, AddsPart, AddsSections, AddsValueBelow, AreLinesOf, last_lines}
use Rattle.plain_document.specs.Keys.{kind_of}
use Rattle.plain_document.specs.Order.{names_of, Section}
use Rattle.plain_document.specs.Pairs.{AddsPairs, AddsValue, AddsWay, goes_both_ways}
use Rattle.plain_document.specs.Stays.{own_below, own_document, own_items, own_line, own_pairs, own_part, own_sections, IsPlainDocument, ItemsStay, SectionStays, StayIn, StaysAt, StaysBelow}
use Rattle.plain_document.specs.Values.{IsPlainOf}
use Rattle.plain_document.specs.declared.document.PlainParts.{PlainParts}
use Rattle.plain_document.specs.declared.keys.KeyKind.{KeyKind}
use Rattle.plain_document.specs.declared.keys.KeyKind.TheVariants.{Ticks, Share, Plain, Gone}
use Rattle.plain_document.specs.declared.keys.Way.TheVariants.{Straight, Turned}
use Rattle.plain_document.proofs.Plain.{plain_stays}

-- ---- a key

nothing : (before : List Expression) → before ≡ before ++ []
nothing before = sym (append-nil before)

pub no_table : (tick : ℕ) (kind : KeyKind) (ms : Members) (plain : Data) → ¬ (IsPlainOf tick kind (table ms) plain)
no_table tick Ticks ms plain is = absurd is.1
no_table tick Share ms plain is = absurd is.1
no_table tick Plain ms plain is = absurd is
no_table tick Gone ms plain is = absurd is

-- a value that stands for itself adds the key's own line
own_by : (tick : ℕ) (kind : KeyKind) (key : List ℕ) (d : Data) (before after : List Expression) → ((t : ℕ) → IsPlainOf t kind d d)
    → AddsValue tick kind key (Some d) before after → after ≡ before ++ (([], key), key_value d) ∷ []
own_by tick kind key d before after stays (inl x) =
    x.2 ∙ ap (λ (plain : Data). before ++ (([], key), key_value plain) ∷ []) (plain_stays tick tick kind d d x.0 (stays tick) x.1)
own_by tick kind key d before after stays (inr x) = absurd (x.0 d (stays tick))

pub no_array : (tick : ℕ) (kind : KeyKind) (ds : Items) (plain : Data) → ¬ (IsPlainOf tick kind (array ds) plain)
no_array tick Ticks ds plain is = absurd is.1
no_array tick Share ds plain is = absurd is.1
no_array tick Plain ds plain is = absurd is
no_array tick Gone ds plain is = absurd is

none_by : (tick : ℕ) (kind : KeyKind) (key : List ℕ) (d : Data) (before after : List Expression) → ((plain : Data) → ¬ (IsPlainOf tick kind d plain))
    → AddsValue tick kind key (Some d) before after → after ≡ before ++ []
none_by tick kind key d before after none (inl x) = absurd (none x.0 x.1)
none_by tick kind key d before after none (inr x) = x.1 ∙ nothing before

own_value : (tick : ℕ) (kind : KeyKind) (key : List ℕ) (d : Option Data) (before after : List Expression) → StaysAt kind d
    → AddsValue tick kind key d before after → after ≡ before ++ own_line key d
own_value tick kind key None before after stays adds = adds ∙ nothing before
own_value tick kind key (Some (array ds)) before after stays adds = none_by tick kind key (array ds) before after (no_array tick kind ds) adds
own_value tick kind key (Some (table ms)) before after stays adds = none_by tick kind key (table ms) before after (no_table tick kind ms) adds
own_value tick kind key (Some (string word)) before after stays adds = own_by tick kind key (string word) before after stays adds
own_value tick kind key (Some (integer z)) before after stays adds = own_by tick kind key (integer z) before after stays adds
own_value tick kind key (Some (float x)) before after stays adds = own_by tick kind key (float x) before after stays adds
own_value tick kind key (Some (boolean on)) before after stays adds = own_by tick kind key (boolean on) before after stays adds
own_value tick kind key (Some (datetime dt)) before after stays adds = own_by tick kind key (datetime dt) before after stays adds

-- ---- keys in a row

further : (before made more after between : List Expression) → between ≡ before ++ made → after ≡ between ++ more → after ≡ before ++ (made ++ more)
further before made more after between first second = second ∙ ap (λ (es : List Expression). es ++ more) first ∙ append_assoc before made more

own_keys : (tick : ℕ) (section : List ℕ) (d : Data) (keys : List (List ℕ)) (before after : List Expression) → StayIn section d keys
    → AddsPairs tick section Straight d keys before after → after ≡ before ++ own_pairs d keys
own_keys tick section d [] before after stays adds = adds ∙ nothing before
own_keys tick section d (key ∷ keys) before after stays adds =
    further before (own_line key (get key d)) (own_pairs d keys) after adds.0
    (own_value tick (kind_of section key) key (get key d) before adds.0 stays.0 adds.1)
    (own_keys tick section d keys adds.0 after stays.1 adds.2)

-- ---- items

one_way : (tick : ℕ) (section : List ℕ) (d : Data) (keys : List (List ℕ)) (both : Bool) (between after : List Expression) → both ≡ false
    → OnTrue both (AddsWay tick section Turned d keys between after) → OnTrue (not both) (after ≡ between) → after ≡ between
one_way tick section d keys true between after is more none = cc
one_way tick section d keys false between after is more none = none

headed : (before after : List Expression) (head : Expression) (more : List Expression) → after ≡ (before ++ head ∷ []) ++ more → after ≡ before ++ head ∷ more
headed before after head more is = is ∙ append_assoc before (head ∷ []) more

own_list : (tick : ℕ) (name : List ℕ) (ds : List Data) (keys : List (List (List ℕ))) (before after : List Expression) → ItemsStay name ds keys
    → AddsItems tick name ds keys before after → after ≡ before ++ own_items name ds keys
own_list tick name [] keys before after stays adds = adds ∙ nothing before
own_list tick name (d ∷ ds) [] before after stays adds = adds ∙ nothing before
own_list tick name (d ∷ ds) (keys ∷ more) before after stays adds =
    let item = adds.1 in
    let same : adds.0 ≡ item.0 = one_way tick name d keys (goes_both_ways name d) item.0 adds.0 stays.0 item.2 item.3 in
    let first : item.0 ≡ before ++ (([], name), array_table) ∷ own_pairs d keys =
    headed before item.0 (([], name), array_table) (own_pairs d keys) (own_keys tick name d keys (before ++ (([], name), array_table) ∷ []) item.0 stays.1 item.1) in
    further before ((([], name), array_table) ∷ own_pairs d keys) (own_items name ds more) after adds.0 (same ∙ first)
    (own_list tick name ds more adds.0 after stays.2 adds.2)

-- ---- sections

own_value_below : (tick : ℕ) (name : List ℕ) (value : Option Data) (keys : List (List (List ℕ))) (before after : List Expression) → StaysBelow name value keys
    → AddsValueBelow tick name value keys before after → after ≡ before ++ own_below name value keys
own_value_below tick name (Some (array ds)) keys before after stays adds = own_list tick name (list_of ds) keys before after stays adds
own_value_below tick name (Some (table ms)) (keys ∷ more) before after stays adds =
    headed before after (([], name), std_table) (own_pairs (table ms) keys)
    (own_keys tick name (table ms) keys (before ++ (([], name), std_table) ∷ []) after stays adds)
own_value_below tick name (Some (table ms)) [] before after stays adds = adds ∙ nothing before
own_value_below tick name (Some (string word)) keys before after stays adds = adds ∙ nothing before
own_value_below tick name (Some (integer z)) keys before after stays adds = adds ∙ nothing before
own_value_below tick name (Some (float x)) keys before after stays adds = adds ∙ nothing before
own_value_below tick name (Some (boolean on)) keys before after stays adds = adds ∙ nothing before
own_value_below tick name (Some (datetime dt)) keys before after stays adds = adds ∙ nothing before
own_value_below tick name None keys before after stays adds = adds ∙ nothing before

own_section : (tick : ℕ) (d : Data) (lines : Option (List Expression)) (section : Section) (before after : List Expression) → SectionStays d lines section
    → AddsPart tick d lines section before after → after ≡ before ++ own_part d lines section
own_section tick d (Some lines) section before after stays adds = adds
own_section tick d None section before after stays adds =
    own_value_below tick section.name (get section.name d) section.items before after stays adds

own_all : (tick : ℕ) (d : Data) (parts : PlainParts) (sections : List Section) (before after : List Expression)
    → AllByRecursion (λ (section : Section). SectionStays d (lines_of_part parts section.name) section) sections
    → AddsSections tick d parts sections before after → after ≡ before ++ own_sections d parts sections
own_all tick d parts [] before after stays adds = adds ∙ nothing before
own_all tick d parts (section ∷ sections) before after stays adds =
    further before (own_part d (lines_of_part parts section.name) section) (own_sections d parts sections) after adds.0
    (own_section tick d (lines_of_part parts section.name) section before adds.0 stays.0 adds.1)
    (own_all tick d parts sections adds.0 after stays.1 adds.2)

pub document_stays : (tick : ℕ) (d : Data) (sections : List Section) (parts : PlainParts) (lines : List Expression) → IsPlainDocument d parts sections
    → AreLinesOf tick d sections parts lines → lines ≡ own_document d parts sections
document_stays tick d sections parts lines stays are =
    let top : are.pairs ≡ own_pairs d (names_of sections) = own_keys tick [] d (names_of sections) [] are.pairs stays.top are.of_top in
    let listed = own_all tick d parts sections are.pairs are.listed stays.below are.of_sections in
    are.whole ∙ ap (λ (es : List Expression). es ++ last_lines d parts) (listed ∙ ap (λ (es : List Expression). es ++ own_sections d parts sections) top)
