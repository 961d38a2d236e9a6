-- What is kept of who holds whom: by how much that differs from the beginning of a life, and how many pairs miss each other.
use Rattle.std.specs.Prelude.{◌≡◌, ◌+◌, ℕ, Bool, true, false, not, ◌&&◌, ◌==◌, List, length, sum_by, count_by, if◌then◌else◌}
use Rattle.std.specs.Option.{option_map_or}
use Rattle.trace.specs.declared.row.What.TheVariants as what
use Rattle.trace.specs.declared.row.Row.{Row}
use Rattle.trace_rows.specs.Rows.{has_kind}
use Rattle.incidents.specs.declared.lives.Lives.{Lives}
use Rattle.incidents.specs.declared.cluster.Cluster.{Cluster}
use Rattle.incidents.specs.declared.wholeness.Wholeness.{Wholeness}
use Rattle.incidents.specs.declared.pairs.Pairs.{Pairs}
use Rattle.incidents.specs.Lives.{members, begins, is_turn_of, is_up, has_restarted}
use Rattle.incidents.specs.Views.{claims, last_said, is_founder, holds_first}
use Rattle.incidents.specs.Whole.{misses, made_whole_at}
use Rattle.incidents.specs.Flags.{is_up_in, has_restarted_in}
use Rattle.incidents.specs.Pairs.{has}
use Rattle.incidents.specs.Kept.{count_of, is_heard}

-- one of the two is so, and not the other
abbrev pub differs : Bool → Bool → Bool
differs a b = if a then not b else b

-- a row says another thing than what was held first
abbrev pub departs_by : Bool → Row → Bool
departs_by first row = not (begins row) && differs first (has_kind what.Alive row)

-- the last of what member i said of member j is another thing than what it held first
abbrev pub departs : Bool → List Row → ℕ → ℕ → Bool
departs first rows i j = option_map_or (departs_by first) (last_said claims rows i j) false

-- what member i holds of member j first, by what is kept
abbrev pub first_in : Cluster → Lives → ℕ → ℕ → Bool
first_in cluster lives i j = (is_founder cluster.founders.items i && is_founder cluster.founders.items j) && not (has_restarted_in lives i)

-- member i misses member j, by what is kept
abbrev pub misses_in : Pairs → Cluster → Lives → ℕ → ℕ → Bool
misses_in odd cluster lives i j =
    not (i == j) && (is_up_in lives i && (is_up_in lives j && not (differs (first_in cluster lives i j) (has odd i j))))

-- how many pairs of members pass a test
abbrev pub pair_count : ℕ → (ℕ → ℕ → Bool) → ℕ
pair_count count test = sum_by (λ i. count_by (test i) (members count)) (members count)

-- how many of them have this member in one of their places
abbrev pub pairs_around : ℕ → (ℕ → ℕ → Bool) → ℕ → ℕ
pairs_around count test i = count_by (test i) (members count) + count_by (λ k. test k i) (members count)

-- what departs, with what a row tells, where these are up and hold this first
abbrev pub odd_with : (ℕ → Bool) → (ℕ → ℕ → Bool) → Row → (ℕ → ℕ → Bool) → ℕ → ℕ → Bool
odd_with up first row odd a b =
    if is_turn_of a row then false else (if is_heard claims up a b row then differs (first a b) (has_kind what.Alive row) else odd a b)

-- who departs from what it held first, and how many pairs miss each other
pub record AreViewsOf (whole : Wholeness) (cluster : Cluster) (rows : List Row) : Type 0 where
  pub odd : (a b : ℕ) → has whole.odd a b ≡ (is_up rows a && departs (holds_first cluster.founders.items rows a b) rows a b)
  pub missed : whole.missed ≡ pair_count (count_of cluster) (misses cluster.founders.items rows)
  pub members : length whole.odd.columns.items ≡ count_of cluster

-- as long as founders start, and nothing else happens: nobody else is up, nobody has started again or said anything of another
pub record IsBeginning (founders : List Bool) (rows : List Row) : Type 0 where
  pub up : (m : ℕ) → is_up rows m ≡ true → is_founder founders m ≡ true
  pub again : (m : ℕ) → has_restarted rows m ≡ false
  pub said : (first : Bool) (i j : ℕ) → departs first rows i j ≡ false

-- and when the cluster was made whole
pub record IsWholenessOf (whole : Wholeness) (cluster : Cluster) (rows : List Row) : Type 0 where
  pub views : AreViewsOf whole cluster rows
  pub since : whole.since ≡ made_whole_at cluster.founders.items rows
  pub begins : whole.is_beginning ≡ true → IsBeginning cluster.founders.items rows
