-- Numbers by the members they are about, in two columns: the small ones and the large ones.
use Rattle.std.specs.Prelude.{ℕ, max, List, [], ◌∷◌}
use Rattle.membership.specs.declared.numbers.Numbers.{Numbers}

-- each number stands in one of the columns, with 0 or nothing in the other
abbrev pub joined : List ℕ → List ℕ → List ℕ
joined [] larges = larges
joined (small ∷ smalls) [] = small ∷ smalls
joined (small ∷ smalls) (large ∷ larges) = max small large ∷ joined smalls larges

-- the numbers that are kept in memory
abbrev pub numbers_of : Numbers → List ℕ
numbers_of numbers = joined numbers.smalls.items numbers.larges.items
