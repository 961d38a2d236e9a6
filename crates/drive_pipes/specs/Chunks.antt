-- The lists of bytes that contracts alone see.
use Rattle.std.specs.Prelude.{ℕ, List, [], ◌∷◌, ◌++◌}
use Rattle.drive_pipes.specs.declared.chunks.Link.{Link}
use Rattle.drive_pipes.specs.declared.chunks.Link.TheVariants.{Start, After}

-- the lists so far, in order
abbrev pub linked_chunks : Link → List (List ℕ)
linked_chunks Start = []
linked_chunks (After before last) = before.value ++ last.value.items ∷ []
