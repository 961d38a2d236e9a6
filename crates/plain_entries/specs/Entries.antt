-- What an entry of any of the six lists stands for: one entry for each of its members and times.
use Rattle.std.specs.Prelude.{ℕ, Bool, List, map, count_by, slice_index}
use Rattle.streams.specs.Draw.{Words}
use Rattle.script_draws.specs.Turns.{in_turn}
use Rattle.plain_entries.specs.declared.entry.Entry.{Entry}
use Rattle.plain_entries.specs.declared.plain.Plain.{Plain}
use Rattle.plain_entries.specs.declared.turn.Turn.{Turn}
use Rattle.plain_entries.specs.Who.{who_of, turns_of, IsWho}

-- When something is: whether it comes again and again, and the times that the k-th member of an entry draws, who
-- starts at a moment.
pub record Timing (W T : Type 0) : Type 0 where
  pub recurs : W → Bool
  pub times : W → (k : ℕ) → (start : ℕ) → Words → List T × Words

-- one of them
abbrev pub plain_at : {T : Type 0} → ℕ → ℕ → Bool → T → Plain T
plain_at entry member again time = record { entry = entry; member = member; time = time; again = again }

module _ {W T : Type 0} (timing : Timing W T) where
  -- the plain entries of one member of an entry, in the order of its times
  abbrev pub turn_of : W → Turn → Words → List (Plain T) × Words
  turn_of when turn words =
      let times = timing.times when turn.k turn.start words in
      (map (plain_at turn.entry turn.member (timing.recurs when)) times.0, times.1)

  -- of these members of an entry, one after the other; `start` says when each starts
  abbrev pub members_of : (start : ℕ → ℕ) → ℕ → W → List ℕ → Words → List (Plain T) × Words
  members_of start entry when members words =
      in_turn (λ k member. turn_of when (record { entry = entry; k = k; member = member; start = start member })) 0 members words

  -- of an entry
  abbrev pub entry_of : (start : ℕ → ℕ) → ℕ → Entry W → Words → List (Plain T) × Words
  entry_of start place entry words =
      let who = who_of entry.who words in
      members_of start place entry.when (turns_of (timing.recurs entry.when) who.0) who.1

  -- of a list, entry after entry
  abbrev pub list_of : (start : ℕ → ℕ) → List (Entry W) → Words → List (Plain T) × Words
  list_of start entries words = in_turn (entry_of start) 0 entries words

-- how many of them `every` makes
abbrev pub made_again : {T : Type 0} → List (Plain T) → ℕ
made_again entries = count_by (λ it. it.again) entries

-- what the format allows of an entry, where there are so many members
pub record IsEntry {W : Type 0} (IsTime : W → Type 0) (count : ℕ) (entry : Entry W) : Type 0 where
  pub who : IsWho count entry.who
  pub when : IsTime entry.when

-- when a member starts
abbrev pub start_in : List ℕ → ℕ → ℕ
start_in starts member = slice_index starts member
