-- Words that go with a number.
use Rattle.std.specs.Prelude.{ℕ, nat_eq, if◌then◌else◌, List}

-- the words for one thing where the number is 1, else those for several
abbrev pub by_number : ℕ → List ℕ → List ℕ → List ℕ
by_number number one several = if nat_eq number 1 then one else several
