-- How long an answer takes.
use Rattle.std.specs.Prelude.{◌≡◌, ℕ, ◌+◌, ◌<◌, ◌≤◌, Bool, List, map, filter, slice_get, Some, set, if◌then◌else◌}
use Rattle.scenario.specs.Setup.{Setup, group_at, link_between, leads, last_link}
use Rattle.scenario.specs.declared.settings.Link.{Link}
use Rattle.scenario.specs.declared.settings.Path.{Path}
use Rattle.links.specs.Least.{AreOrderedPair}
use Rattle.meaning.specs.declared.ways.Ways.{Ways}

-- the longest time of a message on its way, where nobody is slow or paused: the delay, and the most that chance adds to it
abbrev pub longest_of : Link → ℕ
longest_of l = l.delay + l.jitter

-- the longest time of a message from one member to another and of the answer
abbrev pub round_trip : Setup → ℕ → ℕ → ℕ
round_trip s i j = longest_of (link_between s i j) + longest_of (link_between s j i)

-- the greatest of these times over the pairs of different members, among so many; 0 where there is no pair
pub record IsGreatest (trip : ℕ → ℕ → ℕ) (n g : ℕ) : Type 0 where
  pub no_greater : (i j : ℕ) → AreOrderedPair n i j → trip i j ≤ g
  pub reached : 0 < g → (i : ℕ) × (j : ℕ) × AreOrderedPair n i j × (trip i j ≡ g)

-- the greatest of these times over the receivers below k that aren't the sender
pub record IsGreatestFrom (trip : ℕ → ℕ) (from k g : ℕ) : Type 0 where
  pub no_greater : (j : ℕ) → j < k → ¬ (j ≡ from) → trip j ≤ g
  pub reached : 0 < g → (j : ℕ) × (j < k) × (¬ (j ≡ from)) × (trip j ≡ g)

-- the greatest of these times over the senders below k and all of n receivers
pub record IsGreatestBelow (trip : ℕ → ℕ → ℕ) (n k g : ℕ) : Type 0 where
  pub no_greater : (i j : ℕ) → i < k → j < n → ¬ (j ≡ i) → trip i j ≤ g
  pub reached : 0 < g → (i : ℕ) × (j : ℕ) × (i < k) × (j < n) × (¬ (j ≡ i)) × (trip i j ≡ g)

-- the link of the last of the paths that pass a test, else another
abbrev pub last_of : Link → (Path → Bool) → List Path → Link
last_of link test paths = last_link link (map (λ p. p.link) (filter test paths))

-- what stands in a list at a number is the link of that number
abbrev pub AreLinksBy : (ℕ → Link) → List Link → Type 0
AreLinksBy link links = (h : ℕ) (l : Link) → slice_get links h ≡ Some l → l ≡ link h

-- a list of links with one put at a place, where it is wanted
abbrev pub put_if : Bool → ℕ → Link → List Link → List Link
put_if wanted place link links = if wanted then set links place link else links

-- the links between a member's group and the groups of others
pub record AreWaysOf (s : Setup) (m : ℕ) (w : Ways) : Type 0 where
  pub there : AreLinksBy (λ h. last_of s.link (leads (group_at s.groups m) h) s.paths) w.there.items
  pub back : AreLinksBy (λ h. last_of s.link (leads h (group_at s.groups m)) s.paths) w.back.items
