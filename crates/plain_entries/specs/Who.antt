-- Whom an entry is about.
use Rattle.std.specs.Prelude.{◌≤◌, ◌<◌, ℕ, Bool, List, [], ◌∷◌, length, All, nat_le, if◌then◌else◌}
use Rattle.streams.specs.Draw.{Words}
use Rattle.script_draws.specs.Choice.{chosen_of}
use Rattle.plain_entries.specs.declared.who.Who.{Who}

-- the members that an entry is about: all that it names, or so many of a group by chance
abbrev pub who_of : Who → Words → List ℕ × Words
who_of who words = chosen_of who.count who.members.items words

-- members in number order
abbrev pub placed : ℕ → List ℕ → List ℕ
placed member [] = member ∷ []
placed member (other ∷ others) = if nat_le member other then member ∷ other ∷ others else other ∷ placed member others

abbrev pub in_order : List ℕ → List ℕ
in_order [] = []
in_order (member ∷ members) = placed member (in_order members)

-- where an entry comes again and again its members draw in number order; else they stand as they are named
abbrev pub turns_of : (recurs : Bool) → List ℕ → List ℕ
turns_of recurs members = if recurs then in_order members else members

-- an entry is about some of so many members, which are no more than a scenario may have
pub record IsWho (count : ℕ) (who : Who) : Type 0 where
  pub few : length who.members.items ≤ 16384
  pub known : All (λ member. member < count) who.members.items
