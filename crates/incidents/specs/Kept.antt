-- What is kept of the rows so far: who is up, who doubts whom, and the counts.
use Rattle.std.specs.Prelude.{◌≡◌, ◌≤◌, ◌^◌, ℕ, Bool, false, ◌&&◌, ◌==◌, List, [], slice_index_or, length, if◌then◌else◌}
use Rattle.trace.specs.declared.row.What.{What}
use Rattle.trace.specs.declared.row.What.TheVariants as what
use Rattle.trace.specs.declared.row.Row.{Row}
use Rattle.trace_rows.specs.Rows.{Placed, has_kind, is_about}
use Rattle.incidents.specs.declared.lives.Lives.{Lives}
use Rattle.incidents.specs.declared.doubts.Doubts.{Doubts}
use Rattle.incidents.specs.declared.counts.Counts.{Counts}
use Rattle.incidents.specs.declared.counts.Told.{Told}
use Rattle.incidents.specs.declared.cluster.Cluster.{Cluster}
use Rattle.incidents.specs.Lives.{is_turn_of, is_up, has_restarted}
use Rattle.incidents.specs.Views.{views, is_one_of, says}
use Rattle.incidents.specs.Incidents.{is_alarm, is_death, is_well, alarms, deaths, deaths_well, has_died}
use Rattle.incidents.specs.Flags.{is_up_in, has_restarted_in}
use Rattle.incidents.specs.Pairs.{has}

-- so many members there are
abbrev pub count_of : Cluster → ℕ
count_of cluster = length cluster.founders.items

-- a row behind these
abbrev pub placed : List Row → Row → Placed
placed rows row = record { earlier = rows; row = row; later = [] }

-- what the row behind these is
pub record IsToldOf (cluster : Cluster) (rows : List Row) (row : Row) (told : Told) : Type 0 where
  pub alarm : told.is_alarm ≡ is_alarm (count_of cluster) (placed rows row)
  pub death : told.is_death ≡ is_death (count_of cluster) (placed rows row)
  pub well : told.is_well ≡ (is_death (count_of cluster) (placed rows row) && is_well cluster.troubles.items cluster.reach row)

-- who is up, and who has started again
pub record AreLivesOf (lives : Lives) (count : ℕ) (rows : List Row) : Type 0 where
  pub up : (m : ℕ) → is_up_in lives m ≡ is_up rows m
  pub restarted : (m : ℕ) → has_restarted_in lives m ≡ has_restarted rows m
  pub members : length lives.up.items ≡ count
  pub also : length lives.restarted.items ≡ count

-- the row is one of a member that is up, of these kinds and about the second member
abbrev pub is_heard : List What → (ℕ → Bool) → ℕ → ℕ → Row → Bool
is_heard kinds up a b row = (row.member == a) && (up a && (is_one_of kinds row && is_about b row))

-- the doubts of one kind, with what a row tells, where these are up
abbrev pub doubt_with : What → (ℕ → Bool) → Row → (ℕ → ℕ → Bool) → ℕ → ℕ → Bool
doubt_with kind up row doubts a b = if is_turn_of a row then false else (if is_heard views up a b row then has_kind kind row else doubts a b)

-- who of those that are up suspects whom, and holds whom dead
pub record AreDoubtsOf (doubts : Doubts) (count : ℕ) (rows : List Row) : Type 0 where
  pub suspected : (a b : ℕ) → has doubts.suspected a b ≡ (is_up rows a && says what.Suspect rows a b)
  pub dead : (a b : ℕ) → has doubts.dead a b ≡ (is_up rows a && says what.Confirm rows a b)
  pub members : length doubts.suspected.columns.items ≡ count
  pub also : length doubts.dead.columns.items ≡ count

-- how many false alarms and false deaths there are, and who had one
pub record AreCountsOf (counts : Counts) (cluster : Cluster) (rows : List Row) : Type 0 where
  pub all : counts.rows ≡ length rows
  pub few : counts.rows ≤ 2 ^ 63
  pub alarms : counts.alarms ≡ alarms (count_of cluster) rows
  pub deaths : counts.deaths ≡ deaths (count_of cluster) rows
  pub well : counts.well ≡ deaths_well (count_of cluster) cluster.troubles.items cluster.reach rows
  pub died : (m : ℕ) → slice_index_or counts.died.items m false ≡ has_died (count_of cluster) rows m
  pub members : length counts.died.items ≡ count_of cluster
