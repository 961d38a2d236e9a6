-- The summary of a setting, from what is kept of it.
use Rattle.std.proofs.Common.{◌≡◌, ◌*◌, ◌/◌, ◌==◌, ℕ, List, length, ap, ◌∙◌}
use Rattle.std.specs.Prelude.{Option, Some, None, if◌then◌else◌}
use Rattle.std.specs.List.{filter_map}
use Rattle.figures.specs.declared.crashes.CrashTimes.{CrashTimes}
use Rattle.figures.specs.Notes.{Note}
use Rattle.figures.specs.Settings.{rank, at_rank, percentile, false_rate, false_suspicions_in, message_rate, sent_in, member_ticks_in, share_low, share_high, nearest_hundredth}

-- a percentile
pub of_rank : (percent : ℕ) (time : CrashTimes → Option ℕ) (crashes : List CrashTimes) (told : Option ℕ) (given : List ℕ) (count : ℕ) → told ≡ at_rank (rank percent count) given
    → count ≡ length crashes → given ≡ filter_map time crashes → told ≡ percentile percent time crashes
of_rank percent time crashes told given count is counted are = is ∙ ap (λ n. at_rank (rank percent n) given) counted ∙ ap (at_rank (rank percent (length crashes))) are

pub false_rate_of : (runs : List Note) (claims kept count : ℕ) → claims ≡ false_suspicions_in runs → count ≡ kept → kept ≡ length runs → claims * 100 / count ≡ false_rate runs
false_rate_of runs claims kept count is same counted = ap (λ n. n * 100 / count) is ∙ ap (λ n. false_suspicions_in runs * 100 / n) (same ∙ counted)

pub low_of : (k n some all told : ℕ) → told ≡ share_low some all → some ≡ k → all ≡ n → told ≡ share_low k n
low_of k n some all told is same counted = is ∙ ap (λ m. share_low m all) same ∙ ap (share_low k) counted

pub high_of : (k n some all told : ℕ) → told ≡ share_high some all → some ≡ k → all ≡ n → told ≡ share_high k n
high_of k n some all told is same counted = is ∙ ap (λ m. share_high m all) same ∙ ap (share_high k) counted

pub per_run_of : (k n some all told : ℕ) → told ≡ nearest_hundredth (200000 * some) all → some ≡ k → all ≡ n → told ≡ nearest_hundredth (200000 * k) n
per_run_of k n some all told is same counted = is ∙ ap (λ m. nearest_hundredth (200000 * m) all) same ∙ ap (nearest_hundredth (200000 * k)) counted

-- an end of the interval of false deaths
pub end_of : (end : ℕ → ℕ → ℕ → ℕ) (k q n some squares all told : ℕ) → told ≡ end some squares all → some ≡ k → squares ≡ q → all ≡ n → told ≡ end k q n
end_of end k q n some squares all told is same squared counted = is ∙ ap (λ m. end m squares all) same ∙ ap (λ m. end k m all) squared ∙ ap (end k q) counted

pub rate_of : (runs : List Note) (sent ticks : ℕ) (told : Option ℕ) → told ≡ (if ticks == 0 then None else Some (sent * 100000 / ticks)) → sent ≡ sent_in runs → ticks ≡ member_ticks_in runs
    → told ≡ message_rate runs
rate_of runs sent ticks told is sends lasts =
    is ∙ ap (λ (m : ℕ). let rate : Option ℕ = (if ticks == 0 then None else Some (m * 100000 / ticks)) in rate) sends
    ∙ ap (λ (n : ℕ). let rate : Option ℕ = (if n == 0 then None else Some (sent_in runs * 100000 / n)) in rate) lasts
