-- The refused writes that contracts alone see.
use Rattle.std.specs.Prelude.{ℕ, List, [], ◌∷◌}
use Rattle.files.specs.declared.refusals.Link.{Link}
use Rattle.files.specs.declared.refusals.Link.TheVariants.{Start, After}

-- those of each closed file, the last first
abbrev pub linked_refusals : Link → List ℕ
linked_refusals Start = []
linked_refusals (After before last) = last.value ∷ before.value
