-- What a member was in a time: slow, paused, blocked, cut off or well.
use Rattle.std.specs.Prelude.{ℕ, Bool, ◌&&◌, ◌==◌, nat_le, nat_lt, Option, Some, None, List, [], ◌++◌, codes, filter}
use Rattle.std.specs.List.{last_or}
use Rattle.scenario.specs.Setup.{Setup, name_of, group_at}
use Rattle.scenario.specs.declared.settings.Slow.{Slow}
use Rattle.scenario.specs.declared.settings.Pause.{Pause}
use Rattle.scenario.specs.declared.settings.Cut.{Cut}
use Rattle.drawing.specs.Escaped.{escaped}
use Rattle.member_timelines.specs.Lanes.{is_cut_of}
use Rattle.drawing.specs.Lengths.{time_text}
use Rattle.ticks.specs.declared.tick.Tick.{Tick}

-- what holds from one moment until another holds at some moment of a time
abbrev pub meets : ℕ → ℕ → ℕ → ℕ → Bool
meets first last from until = nat_le from last && nat_lt first until

-- the entry is about the member, or its group, and holds at some moment of the time
abbrev pub slows_in : ℕ → ℕ → ℕ → Slow → Bool
slows_in member first last slow = slow.member == member && meets first last slow.from slow.until

abbrev pub pauses_in : ℕ → ℕ → ℕ → Pause → Bool
pauses_in member first last pause = pause.member == member && meets first last pause.from pause.until

abbrev pub cuts_in : ℕ → ℕ → ℕ → Cut → Bool
cuts_in group first last cut = is_cut_of group cut && meets first last cut.at cut.until

-- of several the last in the text
abbrev pub last_slow : Setup → ℕ → ℕ → ℕ → Option Slow
last_slow s member first last = last_or None (filter (slows_in member first last) s.slows)

abbrev pub last_pause : Setup → ℕ → ℕ → ℕ → Option Pause
last_pause s member first last = last_or None (filter (pauses_in member first last) s.pauses)

abbrev pub last_block : Setup → ℕ → ℕ → ℕ → Option Pause
last_block s member first last = last_or None (filter (pauses_in member first last) s.blocks)

abbrev pub last_cut : Setup → ℕ → ℕ → ℕ → Option Cut
last_cut s member first last = last_or None (filter (cuts_in (group_at s.groups member) first last) s.cuts)

-- a sentence about a member begins
unfoldable pub sentence_opening : List ℕ → List ℕ → List ℕ
sentence_opening name words = codes " " ++ escaped name ++ words

-- it ends by a time
unfoldable pub time_words : Option Tick → ℕ → ℕ → List ℕ
time_words time from until = codes " from " ++ time_text time from ++ codes " until " ++ time_text time until ++ codes "."

unfoldable pub slow_sentence : Option Tick → List ℕ → ℕ → ℕ → ℕ → List ℕ
slow_sentence time name extra from until = sentence_opening name (codes " was slow by ") ++ time_text time extra ++ time_words time from until

unfoldable pub pause_sentence : Option Tick → List ℕ → ℕ → ℕ → List ℕ
pause_sentence time name from until = sentence_opening name (codes " was paused") ++ time_words time from until

unfoldable pub block_sentence : Option Tick → List ℕ → ℕ → ℕ → List ℕ
block_sentence time name from until = sentence_opening name (codes " was blocked") ++ time_words time from until

unfoldable pub cut_sentence : Option Tick → List ℕ → ℕ → ℕ → List ℕ
cut_sentence time name at until = sentence_opening name (codes " was cut off") ++ time_words time at until

-- the same, where there is one
abbrev pub slow_told : Option Tick → List ℕ → Option Slow → List ℕ
slow_told time name (Some slow) = slow_sentence time name slow.extra slow.from slow.until
slow_told time name None = []

abbrev pub pause_told : Option Tick → List ℕ → Option Pause → List ℕ
pause_told time name (Some pause) = pause_sentence time name pause.from pause.until
pause_told time name None = []

abbrev pub block_told : Option Tick → List ℕ → Option Pause → List ℕ
block_told time name (Some block) = block_sentence time name block.from block.until
block_told time name None = []

abbrev pub cut_told : Option Tick → List ℕ → Option Cut → List ℕ
cut_told time name (Some cut) = cut_sentence time name cut.at cut.until
cut_told time name None = []

-- that the member was well, where it was not slow, not paused, not blocked and not cut off
abbrev pub well_told : List ℕ → Option Slow → Option Pause → Option Pause → Option Cut → List ℕ
well_told name None None None None = sentence_opening name (codes " was well.")
well_told name (Some slow) pause block cut = []
well_told name None (Some pause) block cut = []
well_told name None None (Some block) cut = []
well_told name None None None (Some cut) = []

-- what a member of that name was
unfoldable pub states_told : Option Tick → List ℕ → Option Slow → Option Pause → Option Pause → Option Cut → List ℕ
states_told time name slow pause block cut =
    slow_told time name slow ++ pause_told time name pause ++ block_told time name block ++ cut_told time name cut ++ well_told name slow pause block cut

-- what the member was from a first moment up to a last one
abbrev pub states : Option Tick → Setup → ℕ → ℕ → ℕ → List ℕ
states time s member first last = states_told time (name_of s member) (last_slow s member first last) (last_pause s member first last) (last_block s member first last) (last_cut s member first last)
