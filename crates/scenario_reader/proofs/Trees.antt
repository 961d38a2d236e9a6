-- Tests of the items of a list, and what is read of them.
use Rattle.std.proofs.Common.{◌≡◌, ℕ, List, [], ◌∷◌, ◌||◌, Bool, map, Option, is_some, refl, ap, sym, ◌∙◌}
use Rattle.std.specs.List.{list_any}
use Rattle.toml.specs.Data.{Data}
use Rattle.toml.specs.View.{view}
use Rattle.toml.specs.declared.value.Value.{Value}
use Rattle.schema.proofs.Trees.{any-map}

pub map_map : {A B C : Type 0} (g : B → C) (f : A → B) (xs : List A) → map g (map f xs) ≡ map (λ x. g (f x)) xs
map_map g f [] = refl
map_map g f (x ∷ xs) = ap (λ more. g (f x) ∷ more) (map_map g f xs)

-- a test of the items of a list, from where the first one was found
pub any_items : (test : Data → Bool) (ds : List Data) (vs : List Value) (r : Option ℕ) → map view vs ≡ ds → is_some r ≡ list_any (λ v. test (view v)) vs → list_any test ds ≡ is_some r
any_items test ds vs r items found = ap (list_any test) (sym items) ∙ any-map test view vs ∙ sym found

pub any_same : {A : Type 0} (f g : A → Bool) → ((x : A) → f x ≡ g x) → (xs : List A) → list_any f xs ≡ list_any g xs
any_same f g same [] = refl
any_same f g same (x ∷ xs) = (λ i. same x i || any_same f g same xs i)

-- what is read of the items of a list
pub map_items : {B : Type 0} (f : Data → B) (ds : List Data) (vs : List Value) → map view vs ≡ ds → map (λ v. f (view v)) vs ≡ map f ds
map_items f ds vs items = sym (map_map f view vs) ∙ ap (map f) items
