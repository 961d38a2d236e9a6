-- Lists of names, items and members, walked from their front.
use Rattle.std.proofs.Common.{◌≡◌, ℕ, ◌+◌, ◌<◌, Bool, true, false, ◌||◌, List, ◌∷◌, length, get_or, drop, map, ap, ◌∙◌, sym}
use Rattle.std.proofs.lemmas.List.{drop_more}
use Rattle.std.specs.List.{list_any}
use Rattle.std.specs.Borrow.{Bor}
use Rattle.json.specs.Json.{item, member}
use Rattle.json.specs.Value.{value_view, items_view, members_view}
use Rattle.json.specs.declared.value.Value.{Value}

-- the names that are left, where one passes the test
pub any_here : (p : List ℕ → Bool) (xs : List (Bor (List ℕ))) (i : ℕ) (d : Bor (List ℕ)) → i < length xs → p (get_or xs i d).now ≡ true
    → list_any p (map (λ n. n.now) (drop i xs)) ≡ true
any_here p xs i d within is =
    ap (λ ys. list_any p (map (λ n. n.now) ys)) (drop_more xs i d within) ∙ ap (λ b. b || list_any p (map (λ n. n.now) (drop (i + 1) xs))) is

-- and where it fails the test
pub any_past : (p : List ℕ → Bool) (xs : List (Bor (List ℕ))) (i : ℕ) (d : Bor (List ℕ)) → i < length xs → p (get_or xs i d).now ≡ false
    → list_any p (map (λ n. n.now) (drop (i + 1) xs)) ≡ list_any p (map (λ n. n.now) (drop i xs))
any_past p xs i d within isnt =
    sym (ap (λ ys. list_any p (map (λ n. n.now) ys)) (drop_more xs i d within) ∙ ap (λ b. b || list_any p (map (λ n. n.now) (drop (i + 1) xs))) isnt)

pub list_here : {A : Type 0} → (xs : List A) (i : ℕ) (x : A) → i < length xs → x ≡ get_or xs i x → drop i xs ≡ x ∷ drop (i + 1) xs
list_here xs i x within is = drop_more xs i x within ∙ ap (λ y. y ∷ drop (i + 1) xs) (sym is)

pub items_here : {A : Type 0} → (xs : List (Value A)) (i : ℕ) (x : Value A) → i < length xs → x ≡ get_or xs i x
    → items_view (drop i xs) ≡ item (value_view x) (items_view (drop (i + 1) xs))
items_here xs i x within is = ap items_view (list_here xs i x within is)

pub members_here : {A : Type 0} → (xs : List (Bor (List ℕ) × Value A)) (i : ℕ) (x : Bor (List ℕ) × Value A) → i < length xs → x ≡ get_or xs i x
    → members_view (drop i xs) ≡ member x.0.now (value_view x.1) (members_view (drop (i + 1) xs))
members_here xs i x within is = ap members_view (list_here xs i x within is)
