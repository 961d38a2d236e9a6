-- A list that contracts alone see.
use Rattle.std.specs.Prelude.{List, [], ◌∷◌, ◌++◌}
use Rattle.board.specs.declared.past.Link.{Link}
use Rattle.board.specs.declared.past.Link.TheVariants.{Start, After}

-- what was added so far, in order
abbrev pub linked_values : {V : Type 0} → Link V → List V
linked_values Start = []
linked_values (After before last) = before.value ++ last.value ∷ []
