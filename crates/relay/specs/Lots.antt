-- What a seat has sent or received: what the items stand for, oldest first.
use Rattle.std.specs.Prelude.{◌≡◌, Bool, List, [], ◌∷◌, true, ⊤}
use Rattle.std.specs.List.{list_any}

module _ {L : Type 0} (is_last : L → Bool) where
  -- one of them is the last
  abbrev pub has_last : List L → Bool
  has_last lots = list_any is_last lots

  -- none comes after the last
  abbrev pub NoneAfterLast : List L → Type 0
  NoneAfterLast [] = ⊤
  NoneAfterLast (lot ∷ lots) = (is_last lot ≡ true → lots ≡ []) × NoneAfterLast lots
