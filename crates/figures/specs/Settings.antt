-- The figures of a setting: of runs that belong together, by what is kept of each. In a sweep these differ in their seed alone.
use Rattle.std.specs.Prelude.{◌≡◌, ℕ, ◌+◌, ◌-◌, ◌*◌, ◌/◌, ◌==◌, nat_le, not, Option, Some, None, List, [], length, filter, flat_map, count_by, sum_by, min, max, if◌then◌else◌}
use Rattle.std.specs.List.{filter_map, range_with_len, reduce}
use Rattle.incident_figures.specs.declared.run.RunCounts.{RunCounts}
use Rattle.incident_figures.specs.declared.setting.IncidentSummary.{IncidentSummary}
use Rattle.incident_figures.specs.Settings.{IsSummaryOf as IsIncidentSummaryOf}
use Rattle.figures.specs.declared.crashes.CrashTimes.{CrashTimes}
use Rattle.figures.specs.declared.summary.SettingSummary.{SettingSummary}
use Rattle.figures.specs.Notes.{Note}
use Rattle.figures.specs.Histograms.{IsHistogramOf}

-- how the crashes of all runs were detected
abbrev pub crashes_in : List Note → List CrashTimes
crashes_in runs = flat_map (λ run. run.crashes) runs

-- the times until a crash was first suspected, first confirmed and last confirmed
abbrev pub suspected_in : CrashTimes → Option ℕ
suspected_in crash = crash.suspected

abbrev pub confirmed_in : CrashTimes → Option ℕ
confirmed_in crash = crash.confirmed

abbrev pub last_in : CrashTimes → Option ℕ
last_in crash = crash.last

-- how many of these times are no later
abbrev pub up_to : ℕ → List ℕ → ℕ
up_to time times = count_by (λ t. nat_le t time) times

-- the nearest rank of a percentile among so many, which is 1 at least
abbrev pub rank : ℕ → ℕ → ℕ
rank percent count = max 1 ((percent * count + 99) / 100)

-- the least of some times up to which as many of them come as a rank says: where they ascend, the one that stands there
abbrev pub at_rank : ℕ → List ℕ → Option ℕ
at_rank place times = reduce min (filter (λ time. nat_le place (up_to time times)) times)

-- A percentile of the times of these crashes. A crash that has no time counts as later than any, so the percentile may have none.
abbrev pub percentile : ℕ → (CrashTimes → Option ℕ) → List CrashTimes → Option ℕ
percentile percent time crashes = at_rank (rank percent (length crashes)) (filter_map time crashes)

-- how many suspicions in all runs were false positives
abbrev pub false_suspicions_in : List Note → ℕ
false_suspicions_in runs = sum_by (λ run. run.false_suspect) runs

-- how many members had a false death, each counted in each run
abbrev pub thrown_out_in : List Note → ℕ
thrown_out_in runs = sum_by (λ run. run.thrown_out) runs

-- how often members were taken for alive again in all runs
abbrev pub revived_in : List Note → ℕ
revived_in runs = sum_by (λ run. run.revived) runs

-- what is counted of the incidents of the runs that have them
abbrev pub incidents_in : List Note → List RunCounts
incidents_in runs = filter_map (λ run. run.incidents) runs

-- the incidents of these runs, where they have any
abbrev pub AreIncidents : Option IncidentSummary → List RunCounts → Type 0
AreIncidents (Some told) counts = IsIncidentSummaryOf told counts
AreIncidents None counts = counts ≡ []

-- in how many runs members had a false death
abbrev pub runs_with : List Note → ℕ
runs_with runs = count_by (λ run. not (run.thrown_out == 0)) runs

-- how many messages were sent in all runs
abbrev pub sent_in : List Note → ℕ
sent_in runs = sum_by (λ run. run.sent) runs

-- how long the members of all runs lasted together, in ticks
abbrev pub member_ticks_in : List Note → ℕ
member_ticks_in runs = sum_by (λ run. run.member_ticks) runs

-- messages a member and 1,000 ticks, in hundredths and rounded down, where the runs last at all
abbrev pub message_rate : List Note → Option ℕ
message_rate runs = if member_ticks_in runs == 0 then None else Some (sent_in runs * 100000 / member_ticks_in runs)

-- false suspicions a run, in hundredths and rounded down
abbrev pub false_rate : List Note → ℕ
false_rate runs = false_suspicions_in runs * 100 / length runs

-- the greatest number whose square is no greater: the numbers from 1 on whose squares are none are that many
unfoldable pub root : ℕ → ℕ
root n = count_by (λ r. nat_le (r * r) n) (range_with_len 1 n)

-- The 95 % interval of a share, by Wilson, where k of n runs have something. With z = 1.96 its ends are
--   (k + z²/2 ± z √(k (n - k) / n + z²/4)) / (n + z²).
-- `spread` is 8,000 times that root, rounded down: 64,000,000 is the square of 8,000, and 61,465,600 that times z²/4.
abbrev pub spread : ℕ → ℕ → ℕ
spread k n = root (64000000 * (k * (n - k)) / n + 61465600)

-- An end of the interval in thousandths, rounded to the nearest, from its numerator. Numerator and denominator are
-- taken 200,000 times: 768,320 is z² so often, and 384,160 half of it; 49 spreads are z times the root so often.
abbrev pub nearest_thousandth : ℕ → ℕ → ℕ
nearest_thousandth numerator n = (1000 * numerator + (100000 * n + 384160)) / (200000 * n + 768320)

abbrev pub share_low : ℕ → ℕ → ℕ
share_low k n = nearest_thousandth (200000 * k + 384160 - 49 * spread k n) n

abbrev pub share_high : ℕ → ℕ → ℕ
share_high k n = nearest_thousandth (200000 * k + 384160 + 49 * spread k n) n

-- The false deaths of a run, as many as its setting's interval counts: all of them, since no cluster has 1,000,000 members.
abbrev pub false_deaths : Note → ℕ
false_deaths run = min run.thrown_out 1000000

-- their sum over all runs, and that of their squares
abbrev pub false_deaths_in : List Note → ℕ
false_deaths_in runs = sum_by false_deaths runs

abbrev pub death_squares_in : List Note → ℕ
death_squares_in runs = sum_by (λ run. false_deaths run * false_deaths run) runs

-- The 95 % interval of the false deaths per run: Poisson's score interval, wider where the runs differ more than by chance. Let n runs have k_1 .. k_n
-- false deaths, k together, and let q be the sum of their squares. The variance of k is taken as w, the greater of k, as chance has it, and of what the runs show,
--   n Σ (k_i - k/n)² / (n - 1) = (n q - k²) / (n - 1), which one run alone doesn't.
-- With z = 1.96 the ends of the interval are (k + z²/2 ± z √(w + z²/4)) / n.
-- `death_variance` is 64,000,000 w, rounded down.
abbrev pub death_variance : ℕ → ℕ → ℕ → ℕ
death_variance k q n = if n == 1 then 64000000 * k else max (64000000 * k) (64000000 * (n * q - k * k) / (n - 1))

-- 8,000 times that root, rounded down: as in `spread`, 61,465,600 is 64,000,000 times z²/4
abbrev pub death_spread : ℕ → ℕ → ℕ → ℕ
death_spread k q n = root (death_variance k q n + 61465600)

-- A number per run in hundredths, rounded to the nearest, from 200,000 times the number of all runs: 384,160 is z²/2 so often, and 49 spreads are z times
-- the root.
abbrev pub nearest_hundredth : ℕ → ℕ → ℕ
nearest_hundredth numerator n = (numerator + 1000 * n) / (2000 * n)

-- the lower end is 0 where what is subtracted is greater
abbrev pub deaths_low : ℕ → ℕ → ℕ → ℕ
deaths_low k q n = nearest_hundredth (200000 * k + 384160 - 49 * death_spread k q n) n

abbrev pub deaths_high : ℕ → ℕ → ℕ → ℕ
deaths_high k q n = nearest_hundredth (200000 * k + 384160 + 49 * death_spread k q n) n

-- these are the figures of a setting with these runs
pub record IsSummaryOf (setting : SettingSummary) (runs : List Note) : Type 0 where
  pub all : setting.runs ≡ length runs
  pub crashed : setting.crashes ≡ length (crashes_in runs)
  pub early_suspicion : setting.suspect_p5 ≡ percentile 5 suspected_in (crashes_in runs)
  pub suspicion : setting.suspect_p50 ≡ percentile 50 suspected_in (crashes_in runs)
  pub late_suspicion : setting.suspect_p95 ≡ percentile 95 suspected_in (crashes_in runs)
  pub early_confirmation : setting.confirm_p5 ≡ percentile 5 confirmed_in (crashes_in runs)
  pub confirmation : setting.confirm_p50 ≡ percentile 50 confirmed_in (crashes_in runs)
  pub rather_late_confirmation : setting.confirm_p95 ≡ percentile 95 confirmed_in (crashes_in runs)
  pub late_confirmation : setting.confirm_p99 ≡ percentile 99 confirmed_in (crashes_in runs)
  pub latest_confirmation : setting.confirm_greatest ≡ percentile 100 confirmed_in (crashes_in runs)
  pub confirmations : IsHistogramOf setting.confirm_times (filter_map confirmed_in (crashes_in runs))
  pub early_last : setting.last_p5 ≡ percentile 5 last_in (crashes_in runs)
  pub last : setting.last_p50 ≡ percentile 50 last_in (crashes_in runs)
  pub late_last : setting.last_p95 ≡ percentile 95 last_in (crashes_in runs)
  pub latest_last : setting.last_greatest ≡ percentile 100 last_in (crashes_in runs)
  pub false_claims : setting.false_suspect ≡ false_rate runs
  pub thrown : setting.thrown_out ≡ thrown_out_in runs
  pub returned : setting.revived ≡ revived_in runs
  pub with_thrown : setting.runs_with ≡ runs_with runs
  pub low : setting.share_low ≡ share_low (runs_with runs) (length runs)
  pub high : setting.share_high ≡ share_high (runs_with runs) (length runs)
  pub per_run : setting.deaths ≡ nearest_hundredth (200000 * thrown_out_in runs) (length runs)
  pub fewest : setting.deaths_low ≡ deaths_low (false_deaths_in runs) (death_squares_in runs) (length runs)
  pub most : setting.deaths_high ≡ deaths_high (false_deaths_in runs) (death_squares_in runs) (length runs)
  pub rate : setting.messages ≡ message_rate runs
  pub incidents : AreIncidents setting.incidents (incidents_in runs)
