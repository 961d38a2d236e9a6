-- Sections and items in a row, and what one of them adds.
use Rattle.std.proofs.Common.{◌≡◌, ◌<◌, ◌≤◌, ℕ, ◌+◌, List, [], ◌∷◌, ◌++◌, map, take, drop, length, get_or, Option, Some, None, Result, Bor, string_bytes, OnOk, refl, ap, sym, subst, ◌∙◌, arith}
use Rattle.std.specs.Slice.{IsItemAt}
use Rattle.std.proofs.lemmas.List.{drop_all, drop_more, map_more}
use Rattle.std.proofs.lemmas.Simd.{map-map}
use Rattle.toml.specs.Data.{Data, Items, Members, array, table}
use Rattle.toml.specs.Tables.{Expression}
use Rattle.schema.specs.Tree.{list_of}
use Rattle.plain_document.specs.Document.{last_lines, lines_of_part, AddsItems, AddsPart, AddsSections, AddsValueBelow, AreLinesOf}
use Rattle.plain_document.specs.Order.{section_of, Section}
use Rattle.plain_document.specs.Pairs.{AddsItem, AddsPairs, AddsTable}
use Rattle.plain_document.specs.declared.keys.Way.TheVariants.{Straight}
use Rattle.plain_document.specs.declared.order.SectionOrder.{SectionOrder}
use Rattle.plain_document.specs.declared.document.PlainParts.{PlainParts}

some_not_none : {X : Type 0} {x : X} → Some x ≡ None → ⊥
some_not_none is = cc

-- ---- sections

pub one_more : (tick : ℕ) (d : Data) (parts : PlainParts) (sections : List Section) (section : Section) (before between after : List Expression)
    → AddsSections tick d parts sections before between → AddsPart tick d (lines_of_part parts section.name) section between after
    → AddsSections tick d parts (sections ++ section ∷ []) before after
one_more tick d parts [] section before between after so_far next =
    (after, subst (λ (es : List Expression). AddsPart tick d (lines_of_part parts section.name) section es after) so_far next, refl)
one_more tick d parts (s ∷ sections) section before between after so_far next =
    (so_far.0, so_far.1, one_more tick d parts sections section so_far.0 between after so_far.2 next)

module _ {X : Type 0} (seen : X → Section) where
  pub next_section : (tick : ℕ) (d : Data) (parts : PlainParts) (sections : List X) (place : ℕ) (it : X) (before between after : List Expression)
      → place < length sections → it ≡ get_or sections place it → AddsSections tick d parts (map seen (take place sections)) before between
      → AddsPart tick d (lines_of_part parts (seen it).name) (seen it) between after
      → AddsSections tick d parts (map seen (take (place + 1) sections)) before after
  next_section tick d parts sections place it before between after within is so_far next =
      let same : map seen (take (place + 1) sections) ≡ map seen (take place sections) ++ seen it ∷ [] =
      map_more seen sections place it within ∙ ap (λ (x : X). map seen (take place sections) ++ seen x ∷ []) (sym is) in
      subst (λ (ss : List Section). AddsSections tick d parts ss before after) (sym same)
      (one_more tick d parts (map seen (take place sections)) (seen it) before between after so_far next)

-- ---- items

none_left : (tick : ℕ) (name : List ℕ) (keys : List (List (List ℕ))) (before after : List Expression) → AddsItems tick name [] keys before after → after ≡ before
none_left tick name keys before after adds = adds

none_first : (tick : ℕ) (name : List ℕ) (ds : List Data) (lines : List Expression) → AddsItems tick name ds [] lines lines
none_first tick name [] lines = refl
none_first tick name (d ∷ ds) lines = refl

module _ {X Y : Type 0} (seen : X → Data) (words : Y → List (List ℕ)) where
  -- an item and those behind it
  pub next_item : (tick : ℕ) (name : List ℕ) (items : List X) (keys : List Y) (place : ℕ) (item : X) (key : Y) (before between after : List Expression)
      → place < length items → place < length keys → item ≡ get_or items place item → key ≡ get_or keys place key
      → AddsItem tick name (seen item) (words key) before between
      → AddsItems tick name (map seen (drop (place + 1) items)) (map words (drop (place + 1) keys)) between after
      → AddsItems tick name (map seen (drop place items)) (map words (drop place keys)) before after
  next_item tick name items keys place item key before between after within there is named adds more =
      let ds : map seen (drop place items) ≡ seen item ∷ map seen (drop (place + 1) items) =
      ap (map seen) (drop_more items place item within) ∙ ap (λ (x : X). seen x ∷ map seen (drop (place + 1) items)) (sym is) in
      let ks : map words (drop place keys) ≡ words key ∷ map words (drop (place + 1) keys) =
      ap (map words) (drop_more keys place key there) ∙ ap (λ (y : Y). words y ∷ map words (drop (place + 1) keys)) (sym named) in
      rw (ds, ks) (between, adds, more)

  -- where the items are over, nothing is added
  pub past_items : (tick : ℕ) (name : List ℕ) (items : List X) (keys : List Y) (place : ℕ) (before after : List Expression) → length items ≤ place
      → AddsItems tick name (map seen (drop (place + 1) items)) (map words (drop (place + 1) keys)) before after
      → AddsItems tick name (map seen (drop place items)) (map words (drop place keys)) before after
  past_items tick name items keys place before after past adds =
      let end : after ≡ before =
      none_left tick name (map words (drop (place + 1) keys)) before after
      (subst (λ (xs : List X). AddsItems tick name (map seen xs) (map words (drop (place + 1) keys)) before after) (drop_all (place + 1) items (omega (arith, past))) adds) in
      subst (λ (xs : List X). AddsItems tick name (map seen xs) (map words (drop place keys)) before after) (sym (drop_all place items past)) end

  pub no_keys : (tick : ℕ) (name : List ℕ) (items : List X) (keys : List Y) (place : ℕ) (lines : List Expression) → length keys ≤ place
      → AddsItems tick name (map seen (drop place items)) (map words (drop place keys)) lines lines
  no_keys tick name items keys place lines past =
      subst (λ (ys : List Y). AddsItems tick name (map seen (drop place items)) (map words ys) lines lines) (sym (drop_all place keys past))
      (none_first tick name (map seen (drop place items)) lines)

-- ---- what a slice lends

pub lent : {X : Type 0} (xs : List X) (i : ℕ) (r : Option (Bor X)) (x : Bor X) → r ≡ Some x → IsItemAt xs i r → (i < length xs) × (x.now ≡ get_or xs i x.now)
lent {X} xs i r x is at =
    let there : IsItemAt xs i (Some x) = subst (λ (o : Option (Bor X)). IsItemAt xs i o) is at in
    (there.3.0, there.1)

pub not_lent : {X : Type 0} (xs : List X) (i : ℕ) (r : Option (Bor X)) → r ≡ None → IsItemAt xs i r → length xs ≤ i
not_lent {X} xs i r is at =
    let there : IsItemAt xs i None = subst (λ (o : Option (Bor X)). IsItemAt xs i o) is at in
    there.3

-- ---- a value below the top

module _ {T E : Type 0} (r : Result T E) (tick : ℕ) (before after : List Expression) where
  pub array_adds : (name own : List ℕ) (value : Data) (items : Items) (ds : List Data) (keys own_keys : List (List (List ℕ))) → value ≡ array items → ds ≡ list_of items
      → name ≡ own → keys ≡ own_keys → OnOk r (AddsItems tick name ds keys before after) → OnOk r (AddsValueBelow tick own (Some value) own_keys before after)
  array_adds name own value items ds keys own_keys is listed named keyed adds =
      subst (λ (v : Data). OnOk r (AddsValueBelow tick own (Some v) own_keys before after)) (sym is)
      (subst (λ (ks : List (List (List ℕ))). OnOk r (AddsItems tick own (list_of items) ks before after)) keyed
      (subst (λ (n : List ℕ). OnOk r (AddsItems tick n (list_of items) keys before after)) named
      (subst (λ (l : List Data). OnOk r (AddsItems tick name l keys before after)) listed adds)))

  pub table_adds : (name own : List ℕ) (value : Data) (ms : Members) (key own_key : List (List ℕ)) (keys more : List (List (List ℕ))) → value ≡ table ms → name ≡ own
      → key ≡ own_key → keys ≡ own_key ∷ more → OnOk r (AddsTable tick name value key before after) → OnOk r (AddsValueBelow tick own (Some value) keys before after)
  table_adds name own value ms key own_key keys more is named keyed listed adds =
      subst (λ (v : Data). OnOk r (AddsValueBelow tick own (Some v) keys before after)) (sym is)
      (subst (λ (ks : List (List (List ℕ))). OnOk r (AddsValueBelow tick own (Some (table ms)) ks before after)) (sym listed)
      (subst (λ (k : List (List ℕ)). OnOk r (AddsTable tick own (table ms) k before after)) keyed
      (subst (λ (n : List ℕ). OnOk r (AddsTable tick n (table ms) key before after)) named
      (subst (λ (v : Data). OnOk r (AddsTable tick name v key before after)) is adds))))

pub none_adds : (tick : ℕ) (name : List ℕ) (value : Data) (ms : Members) (keys : List (List (List ℕ))) (lines : List Expression) → value ≡ table ms → keys ≡ []
    → AddsValueBelow tick name (Some value) keys lines lines
none_adds tick name value ms keys lines is none =
    subst (λ (v : Data). AddsValueBelow tick name (Some v) keys lines lines) (sym is)
    (subst (λ (ks : List (List (List ℕ))). AddsValueBelow tick name (Some (table ms)) ks lines lines) (sym none) refl)

module _ {X Y : Type 0} (f : X → Y) (xs : List X) where
  pub first_of : (x : X) → 0 < length xs → x ≡ get_or xs 0 x → map f xs ≡ f x ∷ map f (drop 1 xs)
  first_of x some is = ap (map f) (drop_more xs 0 x some) ∙ ap (λ (y : X). f y ∷ map f (drop 1 xs)) (sym is)

  pub none_of : length xs ≤ 0 → map f xs ≡ []
  none_of none = ap (map f) (drop_all 0 xs none)

-- ---- the whole document

pub whole_lines : (tick : ℕ) (d : Data) (parts : PlainParts) (order seen : List SectionOrder) (top pairs listed lines : List Expression) → seen ≡ order → top ≡ []
    → AddsPairs tick [] Straight d (map (λ (it : SectionOrder). string_bytes it.name) seen) top pairs → AddsSections tick d parts (map section_of seen) pairs listed
    → lines ≡ listed ++ last_lines d parts → AreLinesOf tick d (map section_of order) parts lines
whole_lines tick d parts order seen top pairs listed lines same none first sections whole = record {
  pairs = pairs;
  listed = listed;
  of_top =
      subst (λ (es : List Expression). AddsPairs tick [] Straight d (map (λ (section : Section). section.name) (map section_of order)) es pairs) none
      (subst (λ (ks : List (List ℕ)). AddsPairs tick [] Straight d ks top pairs)
      (ap (map (λ (it : SectionOrder). string_bytes it.name)) same ∙ sym (map-map (λ (section : Section). section.name) section_of order)) first);
  of_sections = subst (λ (xs : List SectionOrder). AddsSections tick d parts (map section_of xs) pairs listed) same sections;
  whole = whole;
}
