-- Places of a list before which no item passes a test.
use Rattle.std.proofs.Common.{◌≡◌, ◌∙◌, ◌<◌, ℕ, Bool, true, false, List, Some, length, get_or, take, arith, refl, sym, ap}
use Rattle.std.specs.Prelude.{slice_get}
use Rattle.std.specs.List.{list_any}
use Rattle.std.proofs.lemmas.List.{get_or-take, length-take}
use Rattle.std.proofs.lemmas.List.Folds.{list_any_at}
use Rattle.std.proofs.lemmas.Option.{get_or_from_slice_get, slice_get_within}

-- no item before a place passes, where none of the first items does
pub none_before : {X : Type 0} (p : X → Bool) (xs : List X) (i k : ℕ) (x : X) → list_any p (take i xs) ≡ false → k < i → slice_get xs k ≡ Some x → p x ≡ false
none_before p xs i k x none before there = decide (p x) refl
  where
    within : k < length xs
    within = slice_get_within xs k x there

    at : get_or (take i xs) k x ≡ x
    at = get_or-take i xs k x before ∙ get_or_from_slice_get xs k x x there

    decide : (b : Bool) → p x ≡ b → p x ≡ false
    decide false is = is
    decide true is =
        let size = length-take i xs in
        let some : list_any p (take i xs) ≡ true = list_any_at p (take i xs) k x (omega (arith, size, before, within)) (ap p at ∙ is) in
        let bad : true ≡ false = sym some ∙ none in
        cc
