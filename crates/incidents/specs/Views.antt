-- What a member says of others in its life, and so holds of them.
use Rattle.std.specs.Prelude.{ℕ, Bool, false, not, ◌&&◌, ◌||◌, ◌==◌, Option, List, [], ◌∷◌, if◌then◌else◌}
use Rattle.std.specs.Option.{option_map_or}
use Rattle.std.specs.List.{list_any, slice_index_or}
use Rattle.trace.specs.declared.row.What.{What}
use Rattle.trace.specs.declared.row.What.TheVariants as what
use Rattle.trace.specs.declared.row.Row.{Row}
use Rattle.trace_rows.specs.Rows.{has_kind, is_about}
use Rattle.incidents.specs.Lives.{last_row, begins, has_restarted}

-- the kinds of rows that say something of another member
abbrev pub views : List What
views = what.Alive ∷ what.Suspect ∷ what.Confirm ∷ what.Left ∷ what.Forget ∷ []

-- those that say whether it is a member of the cluster: a suspect still is
abbrev pub claims : List What
claims = what.Alive ∷ what.Confirm ∷ what.Left ∷ what.Forget ∷ []

-- the row is of one of these kinds
abbrev pub is_one_of : List What → Row → Bool
is_one_of kinds row = list_any (λ kind. has_kind kind row) kinds

-- the row is one of member i that says one of these of member j, or one that begins a life of i
abbrev pub is_said : List What → ℕ → ℕ → Row → Bool
is_said kinds i j row = (row.member == i) && (begins row || (is_one_of kinds row && is_about j row))

-- the last of what member i has said of member j, or the row that began its life where it has said nothing since
abbrev pub last_said : List What → List Row → ℕ → ℕ → Option Row
last_said kinds rows i j = last_row (is_said kinds i j) rows

-- the last of what member i has said of member j in its life is this
abbrev pub says : What → List Row → ℕ → ℕ → Bool
says kind rows i j = option_map_or (has_kind kind) (last_said views rows i j) false

-- member i suspects member j
abbrev pub suspects : List Row → ℕ → ℕ → Bool
suspects rows i j = says what.Suspect rows i j

-- member i holds member j dead
abbrev pub holds_dead : List Row → ℕ → ℕ → Bool
holds_dead rows i j = says what.Confirm rows i j

-- the member starts at moment 0, where these are who does
abbrev pub is_founder : List Bool → ℕ → Bool
is_founder founders m = slice_index_or founders m false

-- member i holds member j before it says anything of it: founders that haven't started again hold each other
abbrev pub holds_first : List Bool → List Row → ℕ → ℕ → Bool
holds_first founders rows i j = (is_founder founders i && is_founder founders j) && not (has_restarted rows i)

-- member i holds member j by what it said of it last, or by how its life began
abbrev pub holds_by : Bool → Row → Bool
holds_by first row = if begins row then first else has_kind what.Alive row

-- member i holds member j to be in the cluster
abbrev pub holds : List Bool → List Row → ℕ → ℕ → Bool
holds founders rows i j = option_map_or (holds_by (holds_first founders rows i j)) (last_said claims rows i j) (holds_first founders rows i j)
