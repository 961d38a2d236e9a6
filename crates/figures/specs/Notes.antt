-- What is kept of a run for its setting, and how it is written.
use Rattle.std.specs.Prelude.{◌≡◌, ◌≢◌, ℕ, ◌<◌, ◌^◌, ◌*◌, ◌%◌, ◌==◌, List, [], ◌∷◌, ◌++◌, Option, Some, None, All, length, map, take, drop, if◌then◌else◌}
use Rattle.std.specs.List.{flat_map, join_with_byte}
use Rattle.std.specs.Option.{ForSome, option_map}
use Rattle.scenario.specs.Setup.{Setup, member_count}
use Rattle.trace.specs.declared.row.What.TheVariants as what
use Rattle.trace.specs.declared.row.Row.{Row}
use Rattle.reports.specs.declared.departure.DepartureReport.{DepartureReport}
use Rattle.reports.specs.Departures.{latency_of}
use Rattle.reports.specs.Text.{figure}
use Rattle.incident_figures.specs.declared.run.RunCounts.{RunCounts}
use Rattle.incident_figures.specs.declared.run.RunIncidents.{RunIncidents}
use Rattle.figures.specs.declared.crashes.CrashTimes.{CrashTimes}
use Rattle.figures.specs.declared.note_words.MetadataFault.{MetadataFault}
use Rattle.figures.specs.declared.note_words.MetadataFault.TheVariants.{Word, Memory}
use Rattle.figures.specs.Figures.{suspected_after, last_after, crashes_told, claim_count, revivals_told, thrown_out, messages_sent, incidents_told}

-- How the crashes of a run were detected, in their order; how many suspicions were false positives, how many members had a false death, how
-- often members were taken for alive again and how many messages were sent; how long the members last together, in ticks; and what its setting
-- counts of its incidents, where the version of its text has them.
pub record Note : Type 0 where
  pub crashes : List CrashTimes
  pub false_suspect : ℕ
  pub thrown_out : ℕ
  pub revived : ℕ
  pub sent : ℕ
  pub member_ticks : ℕ
  pub incidents : Option RunCounts

-- the times until a crash was first suspected, first confirmed and last confirmed, where it was
abbrev pub times_of : DepartureReport → CrashTimes
times_of crash = record { suspected = suspected_after crash; confirmed = latency_of crash; last = last_after crash }

-- what a setting counts of the incidents of a run that lasts so many microseconds
abbrev pub counts_of : ℕ → RunIncidents → RunCounts
counts_of time run = record { alarms = run.alarms; deaths = run.deaths; deaths_well = run.deaths_well; time = time }

-- what is kept of a run of a scenario that has these rows, where a tick is so many microseconds; each member lasts from moment 0 to the end
unfoldable pub note_of : Setup → ℕ → List Row → Note
note_of s tick rows =
    record {
      crashes = map times_of (crashes_told s.version rows);
      false_suspect = claim_count s.version what.Suspect rows;
      thrown_out = thrown_out s rows;
      revived = revivals_told s.version rows;
      sent = messages_sent s.version rows;
      member_ticks = member_count s * s.end;
      incidents = option_map (counts_of (s.end * tick)) (incidents_told s.version s rows);
    }

-- the times of a crash, in the order in which they are written
abbrev pub times_in_order : CrashTimes → List (Option ℕ)
times_in_order t = t.suspected ∷ t.confirmed ∷ t.last ∷ []

-- the counts of incidents likewise
abbrev pub counts_in_order : Option RunCounts → List (Option ℕ)
counts_in_order (Some c) = Some c.alarms ∷ Some c.deaths ∷ Some c.deaths_well ∷ Some c.time ∷ []
counts_in_order None = []

-- What a note says, in the order in which it is written: five numbers, four more where it has incidents, and three times for each crash. So the
-- number of its figures tells whether it has incidents.
abbrev pub note_figures : Note → List (Option ℕ)
note_figures n =
    Some n.false_suspect ∷ Some n.thrown_out ∷ Some n.revived ∷ Some n.sent ∷ Some n.member_ticks ∷ (counts_in_order n.incidents ++ flat_map times_in_order n.crashes)

-- among the figures behind the first five those of incidents, and those of crashes: the former are four, and there where their number tells so
abbrev pub counts_part : List (Option ℕ) → List (Option ℕ)
counts_part fs = if length fs % 3 == 1 then take 4 fs else []

abbrev pub times_part : List (Option ℕ) → List (Option ℕ)
times_part fs = if length fs % 3 == 1 then drop 4 fs else fs

-- a note is written as its figures with spaces between them, and a dash for a time that isn't there
abbrev pub note_text : Note → List ℕ
note_text n = join_with_byte 32 (map figure (note_figures n))

-- before a run's line stand its note and a comma
abbrev pub note_cell : Note → List ℕ
note_cell n = note_text n ++ 44 ∷ []

-- each of its figures is at most 2^63 - 1
abbrev pub IsSmall : Note → Type 0
IsSmall n = All (λ f. ForSome f (λ m. m < 2 ^ 63)) (note_figures n)

-- the word says the note, whose figures are small
pub record IsNoteWord (word : List ℕ) (n : Note) : Type 0 where
  pub written : note_text n ≡ word
  pub small : IsSmall n

-- the same of one figure, and of several, as they are written in some way
pub record IsWordOf (text_of : Option ℕ → List ℕ) (word : List ℕ) (f : Option ℕ) : Type 0 where
  pub written : text_of f ≡ word
  pub small : ForSome f (λ m. m < 2 ^ 63)

pub record AreWordsOf (text_of : Option ℕ → List ℕ) (words : List (List ℕ)) (fs : List (Option ℕ)) : Type 0 where
  pub written : map text_of fs ≡ words
  pub small : All (λ f. ForSome f (λ m. m < 2 ^ 63)) fs

abbrev pub IsFigureWord : List ℕ → Option ℕ → Type 0
IsFigureWord = IsWordOf figure

abbrev pub AreFigureWords : List (List ℕ) → List (Option ℕ) → Type 0
AreFigureWords = AreWordsOf figure

-- the word says no note, or memory was refused
abbrev pub RefusesNote : List ℕ → MetadataFault → Type 0
RefusesNote word Word = (n : Note) → ¬ (IsNoteWord word n)
RefusesNote word Memory = Unit {0}

-- the same of words that say no figures, and of figures that no note has
abbrev pub RefusesFigures : List (List ℕ) → MetadataFault → Type 0
RefusesFigures words Word = (fs : List (Option ℕ)) → ¬ (AreFigureWords words fs)
RefusesFigures words Memory = Unit {0}

abbrev pub RefusesNoteOf : List (Option ℕ) → MetadataFault → Type 0
RefusesNoteOf fs Word = (n : Note) → note_figures n ≢ fs
RefusesNoteOf fs Memory = Unit {0}

-- and of figures that are no times of crashes
abbrev pub RefusesTimes : List (Option ℕ) → MetadataFault → Type 0
RefusesTimes fs Word = (times : List CrashTimes) → flat_map times_in_order times ≢ fs
RefusesTimes fs Memory = Unit {0}

-- and of figures that are no counts of incidents
abbrev pub RefusesCounts : List (Option ℕ) → MetadataFault → Type 0
RefusesCounts fs Word = (counts : Option RunCounts) → counts_in_order counts ≢ counts_part fs
RefusesCounts fs Memory = Unit {0}
