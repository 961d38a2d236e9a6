-- A `Value` of `toml` beside what the format reads in it.
use Rattle.std.proofs.Common.{◌≡◌, ℕ, List, [], ◌∷◌, ◌||◌, Bool, map, length, ◌==◌, refl, ap, ◌∙◌, String, Global, string_bytes, arith}
use Rattle.std.specs.List.{list_any, flat_map}
use Rattle.std.specs.Map.{keys_of}
use Rattle.std.proofs.lemmas.List.Folds.{list_any-append}
use Rattle.std.proofs.lemmas.Bool.Decides.{nat_tests}
use Rattle.toml.specs.Data.{Data, array}
use Rattle.toml.specs.View.{items_of, items_view, members_view}
use Rattle.toml.specs.declared.value.Value.{Value}
use Rattle.schema.specs.Tree.{list_of, keys_in}
use Rattle.schema.specs.Shape.{is_empty_list}

-- the items of a list are those that its value shows
pub list_of-items : (ds : List Data) → list_of (items_of ds) ≡ ds
list_of-items [] = refl
list_of-items (d ∷ ds) = ap (λ more. d ∷ more) (list_of-items ds)

-- a test of the keys of a table
pub any_key : (test : List ℕ → Bool) (es : List (String Global × Value)) → list_any test (keys_in (members_view es)) ≡ list_any (λ k. test (string_bytes k)) (keys_of es)
any_key test [] = refl
any_key test (e ∷ es) = ap (λ more. test (string_bytes e.0) || more) (any_key test es)

-- a test of mapped elements, and of the elements of several lists
pub any-map : {A B : Type 0} (test : B → Bool) (f : A → B) (xs : List A) → list_any test (map f xs) ≡ list_any (λ x. test (f x)) xs
any-map test f [] = refl
any-map test f (x ∷ xs) = ap (λ more. test (f x) || more) (any-map test f xs)

pub any-flat_map : {A B : Type 0} (test : B → Bool) (f : A → List B) (xs : List A) → list_any test (flat_map f xs) ≡ list_any (λ x. list_any test (f x)) xs
any-flat_map test f [] = refl
any-flat_map test f (x ∷ xs) = list_any-append test (f x) (flat_map f xs) ∙ ap (λ more. list_any test (f x) || more) (any-flat_map test f xs)

pub empty_list : (vs : List Value) → is_empty_list (array (items_view vs)) ≡ (length vs == 0)
empty_list [] = refl
empty_list (v ∷ vs) = grind (arith, nat_tests)
