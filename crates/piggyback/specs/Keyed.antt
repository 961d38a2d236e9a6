-- The entries of a buffer, in the order in which they are sent.
use Rattle.std.specs.Prelude.{◌≡◌, ℕ, ◌+◌, ◌-◌, ◌^◌, ◌==◌, ◌&&◌, Bool, true, false, not, min, nat_lt, if◌then◌else◌, Option, Some, None, List, [], ◌∷◌, map, drop}
use Rattle.std.specs.List.{list_all}
use Rattle.std.specs.Option.{option_and_then}
use Rattle.std.specs.Ordering.{nat_cmp}
use Rattle.std.specs.FinMap.{find}
use Rattle.incarnation.specs.declared.Update.{Update}
use Rattle.piggyback.specs.Picked.{Counted, counted_with, goes_before, is_of_subject}

-- each under its subject
abbrev pub keyed : List Counted → List (ℕ × Counted)
keyed these = map (λ it. (it.0.subject, it)) these

-- what stands of a subject
abbrev pub found_of : ℕ → List Counted → Option Counted
found_of subject these = find nat_cmp subject (keyed these)

-- whether the first goes before the second, and they are about different subjects
abbrev pub precedes : Counted → Counted → Bool
precedes x y = goes_before x y && not (x.0.subject == y.0.subject)

-- whether each goes before all later ones, and no two are about one subject
abbrev pub is_in_order : List Counted → Bool
is_in_order [] = true
is_in_order (x ∷ these) = list_all (precedes x) these && is_in_order these

-- an entry in its place among others in order
abbrev pub placed : Counted → List Counted → List Counted
placed x [] = x ∷ []
placed x (y ∷ ys) = if goes_before x y then x ∷ y ∷ ys else y ∷ placed x ys

-- entries placed one after another
abbrev pub all_placed : List Counted → List Counted → List Counted
all_placed these [] = these
all_placed these (x ∷ xs) = all_placed (placed x these) xs

-- whether an entry goes before the first of these, if there is one
abbrev pub goes_first : Counted → List Counted → Bool
goes_first x [] = true
goes_first x (y ∷ ys) = goes_before x y

-- whether the first of these is about the update's subject, with a count that the machine can raise
abbrev pub stands_first : Update → List Counted → Bool
stands_first update [] = false
stands_first update (it ∷ these) = it.0.subject == update.subject && nat_lt it.1 (2 ^ 64 - 1)

-- whether these begin with such entries, one for each of the updates
abbrev pub begins_with : List Update → List Counted → Bool
begins_with [] these = true
begins_with (update ∷ updates) these = stands_first update these && begins_with updates (drop 1 these)

-- an entry was put in the place of what was there about its subject
pub record IsPut (it : Counted) (old new : List Counted) : Type 0 where
  pub ordered : is_in_order new ≡ true
  pub stands : (subject : ℕ) → found_of subject new ≡ (if subject == it.0.subject then Some it else found_of subject old)

-- After a message that carried these updates: of each subject what stood of it, counted, if it was then sent fewer than limit times.
pub record IsSent (carried : List Update) (limit : ℕ) (old new : List Counted) : Type 0 where
  pub ordered : is_in_order new ≡ true
  pub stands : (subject : ℕ) → found_of subject new
      ≡ option_and_then (λ it. if nat_lt (counted_with carried it).1 limit then Some (counted_with carried it) else None) (found_of subject old)

-- an entry that was sent once more, with its count as far as the machine counts
abbrev pub counted_once : Counted → Counted
counted_once it = (it.0, min (it.1 + 1) (2 ^ 64 - 1))

-- an entry after a message that carried these updates
abbrev pub counted_within : List Update → Counted → Counted
counted_within carried it = if is_of_subject it.0.subject carried then counted_once it else it
