-- What an event keeps at each of its actions, of the events and the rows that it has made so far.
use Rattle.std.specs.Prelude.{◌≡◌, ◌≢◌, ◌⊎◌, ℕ, ◌+◌, ◌<◌, ◌≤◌, map, length}
use Rattle.std.specs.List.{AllByRecursion, range_with_len}
use Rattle.base.specs.declared.key.Key.{Key}
use Rattle.base.specs.Rising.{IsRising}
use Rattle.scenario.specs.Setup.{Setup, link_between, member_count}
use Rattle.member.specs.Places.{place_of}
use Rattle.drive_process.specs.Process.{Effect}

-- n is the member's next number at the beginning
pub record IsWellMade (s : Setup) (k : Key) (n : ℕ) (o : Effect) : Type 0 where
  -- each event comes later than now
  pub later : AllByRecursion (λ e. k.at < e.0.at) o.events
  -- and one for another member no earlier than the pair's link lets it
  pub linked : AllByRecursion (λ e. e.0.to ≢ k.to → k.at + (link_between s k.to e.0.to).delay ≤ e.0.at) o.events
  -- it is for oneself or for another member
  pub peopled : AllByRecursion (λ e. (e.0.to ≡ k.to) ⊎ (e.0.to < member_count s)) o.events
  -- the receiver is its sender, and its number was not used before
  pub made : AllByRecursion (λ e. (e.0.from ≡ k.to) × (n ≤ e.0.number) × (e.0.number < o.state.next_number)) o.events
  -- the numbers rise in the order made
  pub apart : IsRising (λ e f. e.0.number < f.0.number) o.events
  pub grows : n ≤ o.state.next_number
  -- the rows carry the event's key, and are counted from 0
  pub counts : map place_of o.rows ≡ map (λ i. (k, i)) (range_with_len 0 (length o.rows))
