-- The keys of a document in the order of its text.
use Rattle.std.proofs.Common.{◌≡◌, ◌<◌, ℕ, ◌+◌, List, [], ◌∷◌, ◌++◌, map, take, length, get_or, Option, Some, Result, IfOk, String, Global, string_bytes, true, false, refl, ap, sym, subst, ◌∙◌, inl, inr, append-nil, arith}
use Rattle.std.specs.List.{AllByRecursion, IsDistinct}
use Rattle.std.specs.List.Sorted.{IsNonDecreasingBy, IsPermutation, IsStrictlySortedBy}
use Rattle.std.specs.Ordering.{eq_by_cmp}
use Rattle.std.specs.String.{string_cmp}
use Rattle.std.proofs.lemmas.Bool.{cases_Bool}
use Rattle.std.proofs.lemmas.Map.Keys.{IsDistinct-IsPermutation, IsDistinct-from_sorted}
use Rattle.std.specs.Map.{keys_of as keys_at}
use Rattle.std.proofs.lemmas.List.{get_or-map, length-map, length-take-le, map-append, map_more}
use Rattle.std.proofs.lemmas.List.Sorted.{IsPermutation-map}
use Rattle.toml.specs.Data.{Data, Items, array, same_key}
use Rattle.toml.proofs.NodeLaws.{same_key-self}
use Rattle.plain_text.proofs.Filling.{other_way, same_from}
use Rattle.toml.specs.View.{members_view}
use Rattle.toml.specs.declared.value.Value.{Value}
use Rattle.toml_places.specs.declared.places.Places.{Places}
use Rattle.schema.specs.Tree.{keys_in, keys_of, list_of}
use Rattle.plain_document.specs.Order.{item_at, number_of, words, AreItemsOrdered, AreKeysOrdered, IsOrderedBelow}

-- the keys of a table, entry by entry
pub keys_of-entries : (es : List (String Global × Value)) → keys_in (members_view es) ≡ words (keys_at es)
keys_of-entries [] = refl
keys_of-entries (e ∷ es) = ap (λ (more : List (List ℕ)). string_bytes e.0 ∷ more) (keys_of-entries es)

-- ---- keys, each once

either_way : (k l : List ℕ) → same_key k l ≡ same_key l k
either_way k l =
    elim (cases_Bool (same_key k l)) [
      | inl same ↦ same ∙ sym (subst (λ (m : List ℕ). same_key m k ≡ true) (same_from k l same) (same_key-self k))
      | inr other ↦ other ∙ sym (other_way k l other)
    ]

apart_words : (name : String Global) (names : List (String Global)) → AllByRecursion (λ other. eq_by_cmp string_cmp name other ≡ false) names
    → AllByRecursion (λ other. same_key (string_bytes name) other ≡ false) (words names)
apart_words name [] apart = tt
apart_words name (other ∷ names) apart = (apart.0, apart_words name names apart.1)

once_words : (names : List (String Global)) → IsDistinct (eq_by_cmp string_cmp) names → IsDistinct same_key (words names)
unfolding IsDistinct
once_words [] once = tt
once_words (name ∷ names) once = (apart_words name names once.0, once_words names once.1)

none_distinct : IsDistinct same_key []
unfolding IsDistinct
none_distinct = tt

pub none_once : (names : List (String Global)) → names ≡ [] → IsDistinct same_key (words names)
none_once names none = subst (λ (ns : List (String Global)). IsDistinct same_key (words ns)) (sym none) none_distinct

pub once_at_end : (es : List (String Global × Value)) (made left : List (String Global)) → IsStrictlySortedBy string_cmp (keys_at es) → left ≡ []
    → words made ++ words left ≡ keys_in (members_view es) → IsDistinct same_key (words made)
once_at_end es made left sorted none all =
    let whole : words made ≡ words (keys_at es) =
    sym (append-nil (words made)) ∙ ap (λ (ns : List (String Global)). words made ++ words ns) (sym none) ∙ all ∙ keys_of-entries es in
    subst (λ (ks : List (List ℕ)). IsDistinct same_key ks) (sym whole) (once_words (keys_at es) (IsDistinct-from_sorted string_cmp (keys_at es) sorted))

-- ---- sorted keys

rising_map : {X Y : Type 0} (f : X → Y) (n : Y → ℕ) (xs : List X) → IsNonDecreasingBy (λ x. n (f x)) xs → IsNonDecreasingBy n (map f xs)
rising_map f n [] rising = λ i j d le within. absurd (omega (arith, within))
rising_map f n (x ∷ xs) rising = λ i j d le within.
    let short : j < length (x ∷ xs) = subst (λ (k : ℕ). j < k) (length-map (x ∷ xs) f) within in
    let first : get_or (map f (x ∷ xs)) i d ≡ f (get_or (x ∷ xs) i x) = get_or-map f (x ∷ xs) i x d (omega (arith, le, short)) in
    let second : get_or (map f (x ∷ xs)) j d ≡ f (get_or (x ∷ xs) j x) = get_or-map f (x ∷ xs) j x d short in
    rw (first, second) (rising i j x le short)

pub sorted_keys : (places : Places) (table : Option ℕ) (keys : List (List ℕ)) (names ordered : List (String Global)) → words names ≡ keys → IsDistinct same_key (words names) → IsPermutation names ordered
    → IsNonDecreasingBy (λ (name : String Global). number_of places table (string_bytes name)) ordered → AreKeysOrdered places table keys (words ordered)
sorted_keys places table keys names ordered named once same rising = record {
  same = subst (λ (ks : List (List ℕ)). IsPermutation ks (words ordered)) named (IsPermutation-map string_bytes names ordered same);
  once = IsDistinct-IsPermutation same_key either_way (words names) (words ordered) (IsPermutation-map string_bytes names ordered same) once;
  rising = rising_map string_bytes (number_of places table) ordered rising;
}

-- ---- lists

pub one_more : {X : Type 0} (P : X → Type 0) (xs : List X) (x : X) → AllByRecursion P xs → P x → AllByRecursion P (xs ++ x ∷ [])
one_more P [] x all next = (next, tt)
one_more P (y ∷ xs) x all next = (all.0, one_more P xs x all.1 next)

pub item_more : (places : Places) (list : Option ℕ) (from : ℕ) (ds : List Data) (below : List (List (List ℕ))) (d : Data) (keys : List (List ℕ))
    → AreItemsOrdered places list from ds below → AreKeysOrdered places (item_at places list (from + length ds)) (keys_of d) keys
    → AreItemsOrdered places list from (ds ++ d ∷ []) (below ++ keys ∷ [])
item_more places list from [] [] d keys so_far next = (subst (λ (n : ℕ). AreKeysOrdered places (item_at places list n) (keys_of d) keys) (omega arith) next, tt)
item_more places list from [] (k ∷ below) d keys so_far next = absurd so_far
item_more places list from (e ∷ ds) [] d keys so_far next = absurd so_far
item_more places list from (e ∷ ds) (k ∷ below) d keys so_far next = (
  so_far.0,
  item_more places list (from + 1) ds below d keys so_far.1
      (subst (λ (n : ℕ). AreKeysOrdered places (item_at places list n) (keys_of d) keys) (omega arith) next),
)

module _ {X Y : Type 0} (seen : X → Data) (words : Y → List (List ℕ)) where
  pub next_item : (places : Places) (list : Option ℕ) (items : List X) (number : ℕ) (item : X) (place : Option ℕ) (made next : List Y) (keys : Y)
      → number < length items → item ≡ get_or items number item → place ≡ item_at places list number → next ≡ made ++ keys ∷ []
      → AreItemsOrdered places list 0 (map seen (take number items)) (map words made) → AreKeysOrdered places place (keys_of (seen item)) (words keys)
      → AreItemsOrdered places list 0 (map seen (take (number + 1) items)) (map words next)
  next_item places list items number item place made next keys within is there pushed so_far ordered =
      let ds : map seen (take (number + 1) items) ≡ map seen (take number items) ++ seen item ∷ [] =
      map_more seen items number item within ∙ ap (λ (x : X). map seen (take number items) ++ seen x ∷ []) (sym is) in
      let ks : map words next ≡ map words made ++ words keys ∷ [] = ap (map words) pushed ∙ map-append words made (keys ∷ []) in
      let taken : length (map seen (take number items)) ≡ number = length-map (take number items) seen ∙ length-take-le number items (omega (arith, within)) in
      let counted : number ≡ 0 + length (map seen (take number items)) = omega (arith, taken) in
      let at : place ≡ item_at places list (0 + length (map seen (take number items))) = there ∙ ap (item_at places list) counted in
      rw (ds, ks)
      (item_more places list 0 (map seen (take number items)) (map words made) (seen item) (words keys) so_far
      (subst (λ (p : Option ℕ). AreKeysOrdered places p (keys_of (seen item)) (words keys)) at ordered))

-- the value at a key is a list
pub list_ordered : {T E : Type 0} (r : Result T E) (below : T → List (List (List ℕ))) (places : Places) (place : Option ℕ) (value : Option Data) (items : Items) (ds : List Data)
    → value ≡ Some (array items) → ds ≡ list_of items → IfOk r (λ made. AreItemsOrdered places place 0 ds (below made))
    → IfOk r (λ made. IsOrderedBelow places place value (below made))
list_ordered r below places place value items ds is listed ordered =
    subst (λ (v : Option Data). IfOk r (λ made. IsOrderedBelow places place v (below made))) (sym is)
    (subst (λ (xs : List Data). IfOk r (λ made. AreItemsOrdered places place 0 xs (below made))) listed ordered)
