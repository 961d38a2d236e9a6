-- What a message meets on its way from one member to another, and which links serve a scenario.
use Rattle.std.specs.Prelude.{◌≡◌, ℕ, ◌+◌, ◌<◌, ◌≤◌, length, Option, Some, None, if◌then◌else◌}
use Rattle.std.specs.List.{IsAmong}
use Rattle.streams.specs.Draw.{Words, below_of, lost_of}
use Rattle.scenario.specs.Setup.{Setup, member_count, group_at, link_between, extra_of, is_cut}
use Rattle.scenario.specs.declared.settings.Cut.{Cut}
use Rattle.links.specs.Table.{link_at, extra_at, is_cut_at}
use Rattle.links.specs.declared.table.Links.{Links}

-- A message that one member sends to another at a moment, while the link isn't cut, is lost, or it arrives after the link's delay, a jitter that chance decides, what the sender is slow by
-- at that moment, and what the receiver is slow by when it comes. A loss is drawn first, and the jitter only where there is none; the rest of the words is the second.
unfoldable pub uncut_arrival_of : Setup → ℕ → ℕ → ℕ → Words → Option ℕ × Words
uncut_arrival_of s from to now words =
    let link = link_between s from to in
    let lost = lost_of words link.loss in
    let jitter = below_of lost.1 (link.jitter + 1) in
    let coming = now + link.delay + jitter.0 + extra_of s from now in
    if lost.0 then (None, lost.1) else (Some (coming + extra_of s to coming), jitter.1)

-- What one member sends to another while the link is cut is lost, and nothing is drawn.
unfoldable pub arrival_of : Setup → ℕ → ℕ → ℕ → Words → Option ℕ × Words
arrival_of s from to now words = if is_cut s from to now then (None, words) else uncut_arrival_of s from to now words

-- a cut of the scenario's, from the group of the one member to that of the other, lasts at the moment
pub record IsCutBy (s : Setup) (from to now : ℕ) (c : Cut) : Type 0 where
  pub among : IsAmong s.cuts c
  pub sender : c.from ≡ group_at s.groups from
  pub receiver : c.to ≡ group_at s.groups to
  pub begun : c.at ≤ now
  pub lasting : now < c.until

-- the links serve this scenario: they have its members, of whom there is one at least, and give the link from each to each, when it is cut, by how much each is slow at each moment, and when streams send again
pub record AreLinksOf (l : Links) (s : Setup) : Type 0 where
  pub members : length l.groups.items ≡ member_count s
  pub some : 0 < member_count s
  pub links : (i j : ℕ) → i < member_count s → j < member_count s → link_at l i j ≡ link_between s i j
  pub cuts : (i j t : ℕ) → i < member_count s → j < member_count s → is_cut_at l i j t ≡ is_cut s i j t
  pub extras : (m t : ℕ) → extra_at l m t ≡ extra_of s m t
  pub connect : l.connect ≡ s.stream.connect
  pub again : l.again ≡ s.stream.again
