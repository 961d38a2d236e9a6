-- Swept keys that are read one after the other, and why words ask for no others.
use Rattle.std.proofs.Common.{◌≡◌, ◌≢◌, ◌<◌, ◌+◌, ℕ, suc, Bool, true, false, ◌&&◌, List, [], ◌∷◌, ◌++◌, Option, Some, None, Bor, All, drop, filter, map, take, length, get_or, bytes_eq, sym, ap, subst, refl, ◌∙◌, arith}
use Rattle.std.specs.List.{list_any}
use Rattle.std.proofs.lemmas.Bool.{false≢true, false_from_ne_true, or_from, or_parts, and_parts}
use Rattle.std.proofs.lemmas.List.{append_assoc, length-map, length-append, map-append, take-append-drop, take-map, map_more, get_or-map, get_or_append_left, get_or_at}
use Rattle.std.proofs.lemmas.List.Elements.{All-append, All-head, All-tail, All-nil, All-cons, All-take}
use Rattle.std.proofs.lemmas.List.Folds.{list_any_none}
use Rattle.std.proofs.lemmas.List.Quantifiers.{all_pairs_push}
use Rattle.schema.specs.Schema.{spelling_of}
use Rattle.schema.specs.declared.schema.FormatKey.{FormatKey}
use Rattle.sweep_plan.specs.Items.{is_letter}
use Rattle.sweep_plan.specs.Keys.{item_part, key_name, is_same, are_same_items, are_same_tables, names_first, sets_again}
use Rattle.sweep_plan.specs.declared.items.ItemName.{ItemName}
use Rattle.sweep_plan.specs.Sweep.{KeyValues}
use Rattle.sweep_plan.specs.Axes.{axes_of, goes_on}
use Rattle.sweep_plan.specs.Asked.{axis_text, AreApart, AreAxes, AreSweptKeys, IsLevel, IsSwept, RefusesAxis, RefusesMore, RefusesSweptKeys}
use Rattle.sweep_plan.specs.SetKeys.{key_spelling}
use Rattle.sweep_plan.specs.declared.keys.SweptKey.{SweptKey}
use Rattle.sweep_plan.specs.declared.set_keys.SetKey.{SetKey}
use Rattle.sweep_plan.specs.declared.fault.PlanFault.{PlanFault}
use Rattle.sweep_plan.specs.declared.fault.PlanFault.TheVariants.{Words, Memory}
use Rattle.sweep_plan.proofs.Names.{bytes_eq_true, bytes_eq_same}
use Rattle.sweep_plan.proofs.Apart.{same_key}
use Rattle.sweep_plan.proofs.Grouped.{are_axes, axes_behind, axes_flat, together, IsAxis}
use Rattle.sweep_plan.proofs.Columns.{alone, same_axis}

-- ---- keys that are spelt alike

tables_itself : (o : Option FormatKey) → are_same_tables o o ≡ true
tables_itself None = refl
tables_itself (Some t) = bytes_eq_same (spelling_of t) (spelling_of t) refl

items_itself : (o : Option ItemName) → are_same_items o o ≡ true
items_itself None = refl
items_itself (Some item) = bytes_eq_same item.bytes item.bytes refl

same_itself : (a b : SweptKey) → a ≡ b → is_same a b ≡ true
same_itself a b same =
    subst (λ k. is_same a k ≡ true) same
    (ap (λ v. (v && are_same_tables a.table a.table) && are_same_items a.item a.item) (bytes_eq_same (key_spelling a.key) (key_spelling a.key) refl)
    ∙ ap (λ v. v && are_same_items a.item a.item) (tables_itself a.table) ∙ items_itself a.item)

-- items of one name
items_by : (a b : Option ItemName) → are_same_items a b ≡ true → item_part a ≡ item_part b
items_by None None alike = refl
items_by None (Some b) alike = absurd (false≢true alike)
items_by (Some a) None alike = absurd (false≢true alike)
items_by (Some a) (Some b) alike = ap (filter is_letter) (bytes_eq_true a.bytes b.bytes alike)

names_by : (s t : Option FormatKey) (a b : Option ItemName) (x y : SetKey) → are_same_tables s t ≡ true → item_part a ≡ item_part b → key_spelling x ≡ key_spelling y
    → key_name (record { table = s; item = a; key = x }) ≡ key_name (record { table = t; item = b; key = y })
names_by None None a b x y alike items same = same
names_by None (Some t) a b x y alike items same = absurd (false≢true alike)
names_by (Some s) None a b x y alike items same = absurd (false≢true alike)
names_by (Some s) (Some t) a b x y alike items same =
    let tables : spelling_of s ≡ spelling_of t = bytes_eq_true (spelling_of s) (spelling_of t) alike in
    (λ i. tables i ++ (items i ++ 46 ∷ same i))

same_names : (a b : SweptKey) → is_same a b ≡ true → key_name a ≡ key_name b
same_names a b alike =
    let both = and_parts (bytes_eq (key_spelling a.key) (key_spelling b.key) && are_same_tables a.table b.table) (are_same_items a.item b.item) alike in
    let parts = and_parts (bytes_eq (key_spelling a.key) (key_spelling b.key)) (are_same_tables a.table b.table) both.0 in
    names_by a.table b.table a.item b.item a.key b.key parts.1 (items_by a.item b.item both.1) (bytes_eq_true (key_spelling a.key) (key_spelling b.key) parts.0)

-- ---- swept keys of words

none_of : {A : Type 0} (p : A → Bool) (xs : List A) → list_any p xs ≡ false → All (λ x. p x ≡ false) xs
none_of p [] none = All-nil (λ x. p x ≡ false)
none_of p (x ∷ xs) none = let parts = or_parts (p x) (list_any p xs) none in All-cons (λ y. p y ≡ false) x xs parts.0 (none_of p xs parts.1)

pub same_axes : (xs ys : List (List KeyValues)) → All IsAxis xs → All IsAxis ys → map axis_text xs ≡ map axis_text ys → xs ≡ ys
same_axes [] [] a b same = refl
same_axes [] (y ∷ ys) a b same = let none : 0 ≡ suc (length (map axis_text ys)) = ap length same in absurd (omega arith)
same_axes (x ∷ xs) [] a b same = let none : suc (length (map axis_text xs)) ≡ 0 = ap length same in absurd (omega arith)
same_axes (x ∷ xs) (y ∷ ys) a b same =
    let first : axis_text x ≡ axis_text y = cc in
    let rest : map axis_text xs ≡ map axis_text ys = cc in
    let one = same_axis x y (All-head IsAxis x xs a) (All-head IsAxis y ys b) first in
    let more = same_axes xs ys (All-tail IsAxis x xs a) (All-tail IsAxis y ys b) rest in
    ap (λ z. z ∷ xs) one ∙ ap (λ zs. y ∷ zs) more

pub axes_in : (words : List (List ℕ)) (ss : List KeyValues) → AreAxes words ss → All IsAxis (axes_of ss)
axes_in words ss are = are_axes ss are.begins are.level are.sound

-- words ask for one list of swept keys
pub same_swept_keys : (words : List (List ℕ)) (ss ts : List KeyValues) → AreAxes words ss → AreAxes words ts → ss ≡ ts
same_swept_keys words ss ts a b =
    sym (axes_flat ss) ∙ ap together (same_axes (axes_of ss) (axes_of ts) (axes_in words ss a) (axes_in words ts b) (a.written ∙ sym b.written)) ∙ axes_flat ts

abbrev now : Bor (List ℕ) → List ℕ
now word = word.now

flat_both : (xs ys : List (List KeyValues)) → together (xs ++ ys) ≡ together xs ++ together ys
flat_both [] ys = refl
flat_both (x ∷ xs) ys = ap (λ l. x ++ l) (flat_both xs ys) ∙ sym (append_assoc x (together xs) (together ys))

goes_both : (front back : List KeyValues) → goes_on front ≡ false → goes_on back ≡ false → goes_on (front ++ back) ≡ false
goes_both [] back a b = b
goes_both (s ∷ front) back a b = a

-- ---- keys that stand once

-- two swept keys have keys that don't set one item
abbrev TwoKeys : KeyValues → KeyValues → Type 0
TwoKeys a b = (a.key ≢ b.key) × (names_first a.key b.key ≡ false)

apart_front : (front back : List KeyValues) → AreApart (front ++ back) → AreApart front
apart_front front back apart k j d before inside =
    let long = length-append front back in
    subst (λ s. TwoKeys s (get_or front j d)) (get_or_append_left front back d k (omega (arith, before, inside)))
    (subst (TwoKeys (get_or (front ++ back) k d)) (get_or_append_left front back d j inside) (apart k j d before (omega (arith, long, inside))))

module _ (words : List (Bor (List ℕ))) (i : ℕ) (d : Bor (List ℕ)) (inside : i < length words) where
  -- the word at the place is that of an axis, among any swept keys that the words ask for
  asked_at : (ts : List KeyValues) → AreSweptKeys (map now words) ts → (axis : List KeyValues) × AreAxes ((get_or words i d).now ∷ []) axis
  asked_at ts are =
      let word : List ℕ = (get_or words i d).now in
      let count : length (axes_of ts) ≡ length words = sym (length-map (axes_of ts) axis_text) ∙ ap length are.axes.written ∙ length-map words now in
      let there : i < length (axes_of ts) = omega (arith, count, inside) in
      let text : axis_text (get_or (axes_of ts) i []) ≡ word =
      sym (get_or-map axis_text (axes_of ts) i [] word there) ∙ ap (λ l. get_or l i word) are.axes.written ∙ get_or-map now words i d word inside in
      (get_or (axes_of ts) i [], alone (get_or (axes_of ts) i []) word (axes_in (map now words) ts are.axes i [] there) text)

  pub refused_at : (fault : PlanFault) → RefusesAxis (get_or words i d).now fault → RefusesSweptKeys (map now words) fault
  refused_at Words none = λ ts are. let one = asked_at ts are in none one.0 one.1
  refused_at Memory none = tt

  module _ (ss axis : List KeyValues) (so_far : AreAxes (map now (take i words)) ss) (is : AreAxes ((get_or words i d).now ∷ []) axis) where
    -- the axis of one word more
    pub gathered_more : AreAxes (map now (take (i + 1) words)) (ss ++ axis)
    gathered_more =
        let axes = axes_behind ss axis is.begins in
        record {
          written = ap (map axis_text) axes ∙ map-append axis_text (axes_of ss) (axes_of axis) ∙ (λ k. so_far.written k ++ is.written k) ∙ sym (map_more now words i d inside);
          begins = goes_both ss axis so_far.begins is.begins;
          level = subst (All IsLevel) (sym axes) (All-append IsLevel (axes_of ss) (axes_of axis) so_far.level is.level);
          sound = All-append IsSwept ss axis so_far.sound is.sound;
        }

    -- swept keys that these words ask for are the first of those that all words ask for
    pub refused_more : (fault : PlanFault) → RefusesMore (ss ++ axis) fault → RefusesSweptKeys (map now words) fault
    refused_more Memory none = tt
    refused_more Words none = λ ts are.
        let first : map axis_text (take (i + 1) (axes_of ts)) ≡ map now (take (i + 1) words) =
        sym (take-map axis_text (i + 1) (axes_of ts)) ∙ ap (take (i + 1)) are.axes.written ∙ take-map now (i + 1) words in
        let same : axes_of (ss ++ axis) ≡ take (i + 1) (axes_of ts) =
        same_axes (axes_of (ss ++ axis)) (take (i + 1) (axes_of ts)) (axes_in (map now (take (i + 1) words)) (ss ++ axis) gathered_more)
        (All-take IsAxis (i + 1) (axes_of ts) (axes_in (map now words) ts are.axes)) (gathered_more.written ∙ sym first) in
        let rest = together (drop (i + 1) (axes_of ts)) in
        let whole : ts ≡ (ss ++ axis) ++ rest =
        sym (axes_flat ts) ∙ ap together (sym (take-append-drop (i + 1) (axes_of ts))) ∙ flat_both (take (i + 1) (axes_of ts)) (drop (i + 1) (axes_of ts))
        ∙ ap (λ l. l ++ rest) (ap together (sym same) ∙ axes_flat (ss ++ axis)) in
        none (apart_front (ss ++ axis) rest (subst AreApart whole are.once))

-- a key that no swept key has so far
pub apart_more : (ss : List KeyValues) (s : KeyValues) → list_any (λ t. sets_again s.key t.key) ss ≡ false → AreApart ss → AreApart (ss ++ s ∷ [])
apart_more ss s none apart =
    all_pairs_push TwoKeys ss s apart
    (λ k e within.
    let parts = or_parts (is_same s.key (get_or ss k e).key) (names_first (get_or ss k e).key s.key) (none_of (λ t. sets_again s.key t.key) ss none k e within) in
    ((λ same. false≢true (sym parts.0 ∙ same_itself s.key (get_or ss k e).key (sym same))), parts.1))

-- a key that one has
pub set_twice : (ss : List KeyValues) (s : KeyValues) (rest : List KeyValues) → All IsSwept (ss ++ s ∷ rest) → list_any (λ t. sets_again s.key t.key) ss ≡ true → ¬ (AreApart (ss ++ s ∷ rest))
set_twice ss s rest sound twice apart =
    let long = length-append ss (s ∷ rest) in
    let other : (k : ℕ) (e : KeyValues) → k < length ss → sets_again s.key (get_or ss k e).key ≡ false =
    λ k e within.
    let one : get_or (ss ++ s ∷ rest) k e ≡ get_or ss k e = get_or_append_left ss (s ∷ rest) e k within in
    let own : get_or (ss ++ s ∷ rest) (length ss) e ≡ s = get_or_at ss s rest e (length ss) refl in
    let left : IsSwept (get_or ss k e) = subst IsSwept one (sound k e (omega (arith, long, within))) in
    let right : IsSwept s = subst IsSwept own (sound (length ss) e (omega (arith, long))) in
    let two : TwoKeys (get_or ss k e) s = subst (TwoKeys (get_or ss k e)) own (subst (λ t. TwoKeys t (get_or (ss ++ s ∷ rest) (length ss) e)) one (apart k (length ss) e within (omega (arith, long)))) in
    or_from (is_same s.key (get_or ss k e).key) (names_first (get_or ss k e).key s.key)
    (false_from_ne_true (is_same s.key (get_or ss k e).key) (λ alike. two.0 (sym (same_key s.key (get_or ss k e).key right.key left.key (same_names s.key (get_or ss k e).key alike))))) two.1 in
    false≢true (sym (list_any_none (λ t. sets_again s.key t.key) ss other) ∙ twice)
