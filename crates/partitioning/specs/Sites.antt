-- The sites of a cluster: groups that are joined by short links.
use Rattle.std.specs.Prelude.{◌≡◌, ◌==◌, ◌↔◌, ℕ, ◌<◌, nat_lt, if◌then◌else◌, List, All, length, slice_index}
use Rattle.scenario.specs.Setup.{Setup, member_count, group_at}
use Rattle.windows.specs.Cluster.{link_delay}

-- the group whose site is the member's: its own, and past the first 64 groups the first one
abbrev pub group_for : Setup → ℕ → ℕ
group_for s m = if nat_lt (group_at s.groups m) 64 then group_at s.groups m else 0

-- parts of the members that leave groups whole, and have those of the first 64 groups together that a link joins which is shorter than so many ticks
pub record JoinsNeighbours (s : Setup) (ticks : ℕ) (part_of : List ℕ) : Type 0 where
  pub one_each : length part_of ≡ member_count s
  pub whole : (i j : ℕ) → i < member_count s → j < member_count s → group_for s i ≡ group_for s j → slice_index part_of i ≡ slice_index part_of j
  pub near : (i j : ℕ) → i < member_count s → j < member_count s → group_at s.groups i < 64 → group_at s.groups j < 64 → link_delay s i j < ticks
      → slice_index part_of i ≡ slice_index part_of j

-- the sites are the smallest such parts: each lies in one of any others
pub record AreSites (s : Setup) (ticks : ℕ) (part_of : List ℕ) : Type 0 where
  pub joined : JoinsNeighbours s ticks part_of
  pub smallest : (others : List ℕ) → JoinsNeighbours s ticks others → (i j : ℕ) → i < member_count s → j < member_count s
      → slice_index part_of i ≡ slice_index part_of j → slice_index others i ≡ slice_index others j

-- members of the first 64 groups, among them one of each such group that has any
pub record StandForGroups (s : Setup) (firsts : List ℕ) : Type 0 where
  pub members : All (λ m. m < member_count s) firsts
  pub looked_at : All (λ m. group_at s.groups m < 64) firsts
  pub each : (m : ℕ) → m < member_count s → group_at s.groups m < 64 → (k : ℕ) × (k < length firsts) × (group_at s.groups (slice_index firsts k) ≡ group_at s.groups m)

-- a site for each of 64 groups, by the number of a group
pub record AreSiteNumbers (sites : List ℕ) : Type 0 where
  pub each : length sites ≡ 64
  pub few : All (λ site. site < 64) sites

-- the number of a site after the one became part of the other
abbrev pub joined_site : ℕ → ℕ → ℕ → ℕ
joined_site kept gone site = if site == gone then kept else site

-- groups of one site have one mark
abbrev pub AgreesOnSites : List ℕ → (ℕ → ℕ) → Type 0
AgreesOnSites sites mark = (a b : ℕ) → a < 64 → b < 64 → slice_index sites a ≡ slice_index sites b → mark a ≡ mark b

-- the groups of those to whom the member has a link that is shorter than so many ticks have the mark of its own group
abbrev pub AgreesOnNeighbours : Setup → ℕ → List ℕ → ℕ → (ℕ → ℕ) → Type 0
AgreesOnNeighbours s ticks others first mark = All (λ other. link_delay s first other < ticks → mark (group_at s.groups first) ≡ mark (group_at s.groups other)) others

-- the sites after the member's was joined with those of its neighbours, and no others
abbrev pub IsJoined : Setup → ℕ → List ℕ → ℕ → List ℕ → List ℕ → Type 0
IsJoined s ticks others first before after = (mark : ℕ → ℕ) → AgreesOnSites after mark ↔ (AgreesOnSites before mark × AgreesOnNeighbours s ticks others first mark)

-- the sites where each of these members' was joined with those of its neighbours, and no others
abbrev pub AreJoined : Setup → ℕ → List ℕ → List ℕ → List ℕ → Type 0
AreJoined s ticks others firsts sites = (mark : ℕ → ℕ) → AgreesOnSites sites mark ↔ All (λ first. AgreesOnNeighbours s ticks others first mark) firsts
