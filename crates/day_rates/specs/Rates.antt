-- How many false deaths a cluster has in a day, in hundredths, and the 95 % interval: Poisson's score interval, wider where runs differ more than by chance.
use Rattle.std.specs.Prelude.{ℕ, ◌+◌, ◌-◌, ◌*◌, ◌/◌, ◌==◌, max, if◌then◌else◌}
use Rattle.day_rates.specs.Roots.{root, root_up, scaled_square}
use Rattle.day_rates.specs.declared.rates.RunDeaths.{RunDeaths}

-- Let n runs of one length have k_1 .. k_n false deaths, k together, and let q be the sum of their squares. They last `time` microseconds together, and a day
-- has 86,400,000,000. So a day has k * 86,400,000,000 / time false deaths, here in hundredths and rounded half up.
abbrev pub day_rate : RunDeaths → ℕ
day_rate d = (17280000000000 * d.deaths + d.time) / (2 * d.time)

-- n - 1, but 1 for one run
abbrev pub freedom : ℕ → ℕ
freedom n = max 1 (n - 1)

-- That many times the variance w of k: the greater of k, as chance has it, and of what the runs show,
--   n Σ (k_i - k/n)² / (n - 1) = (n q - k²) / (n - 1), which one run alone doesn't.
abbrev pub death_variance : RunDeaths → ℕ
death_variance d = if d.runs == 1 then d.deaths else max (d.deaths * (d.runs - 1)) (d.runs * d.squares - d.deaths * d.deaths)

-- With z = 1.96 the ends of the interval of k are k + z²/2 ± z √(w + z²/4). In hundredths a day, and with the half for rounding, they are
--   (middle ± √ (846,720,000,000,000² * spread)) / width: all is taken 2,500 (n - 1) time so often; 17,280,000,000,000 is 200 days, and 846,720,000,000,000
-- is 9,800 days.
abbrev pub width : RunDeaths → ℕ
width d = 2500 * freedom d.runs * d.time

abbrev pub middle : RunDeaths → ℕ
middle d = 17280000000000 * (1250 * d.deaths + 2401) * freedom d.runs + 1250 * freedom d.runs * d.time

abbrev pub spread : RunDeaths → ℕ
spread d = (2500 * death_variance d + 2401 * freedom d.runs) * freedom d.runs

-- the lower end is 0 where what is subtracted is greater
abbrev pub day_low : RunDeaths → ℕ
day_low d = (middle d - root_up (scaled_square 0 (spread d))) / width d

abbrev pub day_high : RunDeaths → ℕ
day_high d = (middle d + root (scaled_square 0 (spread d))) / width d
