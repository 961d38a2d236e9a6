-- How long a suspicion lasts, among n members and with C further accusers (Lifeguard's LHA-Suspicion). Quotients are rounded down.
use Rattle.std.specs.Prelude.{ℕ, ◌+◌, ◌-◌, ◌*◌, ◌/◌, max, min, not, nat_le, ◌||◌, if◌then◌else◌}
use Rattle.base.specs.Logarithm.{log_of, thousandths_of, fine_log_of, close_log_of}
use Rattle.base.specs.declared.profile.Profile.{Profile}
use Rattle.base.specs.declared.profile.Profile.TheVariants.{Papers, Memberlist, Hashicorp}
use Rattle.suspicion.specs.declared.terms.Terms.{Terms}

-- the logarithm of a cluster's size, in thousandths: by the leading digit, by the two leading ones, or by the three leading ones
abbrev pub size_log : Profile → ℕ → ℕ
size_log Papers n = log_of n
size_log Memberlist n = fine_log_of n
size_log Hashicorp n = close_log_of n

-- that of a number of accusers, from 1 to 10
abbrev pub accuser_log : Profile → ℕ → ℕ
accuser_log Papers d = thousandths_of d
accuser_log Memberlist d = fine_log_of d
accuser_log Hashicorp d = fine_log_of d

-- Lifeguard's Min: alpha periods times log10(n), a logarithm below 1 taken as 1; no less than a tick
abbrev pub min_timeout : Terms → ℕ → ℕ
min_timeout terms n = max 1 (terms.alpha * max 1000 (size_log terms.profile n) * terms.period / 1000)

-- Lifeguard's Max: beta times Min
abbrev pub max_timeout : Terms → ℕ → ℕ
max_timeout terms n = terms.beta * min_timeout terms n

-- so many of Lifeguard's K accusers count as there are members to accuse; by memberlist's rules all, or none where there are too few
abbrev pub counted_of : Profile → ℕ → ℕ → ℕ
counted_of Papers wanted others = min wanted others
counted_of Memberlist wanted others = if nat_le wanted others then wanted else 0
counted_of Hashicorp wanted others = if nat_le wanted others then wanted else 0

-- K': those who may accuse are all members but the suspect and the first accuser
abbrev pub most_accusers : Terms → ℕ → ℕ
most_accusers terms n = counted_of terms.profile terms.accusers_wanted (n - 2)

-- Lifeguard's timeout: from Max it falls with log(C + 1) / log(K' + 1) of the way to Min, and is Min from K' accusers on; without LHA-Suspicion always Min
abbrev pub timeout : Terms → ℕ → ℕ → ℕ
timeout terms n c =
    if not terms.shortens || nat_le (most_accusers terms n) c then min_timeout terms n
    else max_timeout terms n - (max_timeout terms n - min_timeout terms n) * accuser_log terms.profile (c + 1) / accuser_log terms.profile (most_accusers terms n + 1)
