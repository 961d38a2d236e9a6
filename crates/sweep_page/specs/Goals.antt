-- A goal in words: which figure, of which runs, and how it is compared.
use Rattle.std.specs.Prelude.{ℕ, ◌-◌, ◌*◌, ◌/◌, ◌%◌, ◌^◌, ◌==◌, if◌then◌else◌, min, List, [], ◌++◌, codes, decimal}
use Rattle.goals.specs.declared.statistic.Statistic.{Statistic}
use Rattle.goals.specs.declared.statistic.Statistic.TheVariants.{Out, SuspectP50, ConfirmP50, ConfirmP99, ConfirmGreatest, LastP50, LastGreatest, FalseSuspect, ThrownOut, Messages, Alarms, Deaths, DeathsWell, DeathsDay}
use Rattle.goals.specs.declared.want.Want.{Want}
use Rattle.drawing.specs.Escaped.{escaped, markup}
use Rattle.drawing.specs.Numbers.{grouped}

-- the figure, up to its bound
unfoldable pub figure_words : Statistic → List ℕ
figure_words Out = codes "Share of its runs with a false death: its whole 95&nbsp;% interval is at most <b>"
figure_words SuspectP50 = codes "Ticks until a crash is first suspected: the median over all crashes of all its runs is at most <b>"
figure_words ConfirmP50 = codes "Ticks until a crash is first confirmed: the median over all crashes of all its runs is at most <b>"
figure_words ConfirmP99 = codes "Ticks until a crash is first confirmed: the 99th percentile over all crashes of all its runs is at most <b>"
figure_words ConfirmGreatest = codes "Ticks until a crash is first confirmed: the greatest number over all crashes of all its runs is at most <b>"
figure_words LastP50 = codes "Ticks until a crash is last confirmed: the median over all crashes of all its runs is at most <b>"
figure_words LastGreatest = codes "Ticks until a crash is last confirmed: the greatest number over all crashes of all its runs is at most <b>"
figure_words FalseSuspect = codes "False suspicions per run: the average over all its runs is at most <b>"
figure_words ThrownOut = codes "Members with a false death: the sum over all its runs is at most <b>"
figure_words Messages = codes "Messages per member per 1,000 ticks: the average over all its runs is at most <b>"
figure_words Alarms = codes "Incidents per run: the average over all its runs is at most <b>"
figure_words Deaths = codes "Fatal incidents: the sum over all its runs is at most <b>"
figure_words DeathsWell = codes "Fatal incidents of members that were well: the sum over all its runs is at most <b>"
figure_words DeathsDay = codes "Fatal incidents of the whole cluster in a day: the whole 95&nbsp;% interval is at most <b>"

-- the bound in millionths of what is shown: a share is shown in percent
unfoldable pub shown_bound : Statistic → ℕ → ℕ
shown_bound Out most = most * 100
shown_bound _ most = most

unfoldable pub unit : Statistic → List ℕ
unit Out = codes "&nbsp;%</b> <code>"
unit _ = codes "</b> <code>"

-- the whole part of a number of millionths, as far as 64 bits hold it
abbrev pub whole : ℕ → ℕ
whole n = min (n / 1000000) (2 ^ 64 - 1)

-- a point where the number isn't whole
unfoldable pub point : ℕ → List ℕ
point n = if n % 1000000 == 0 then [] else codes "."

-- the digit of so many millionths, where something of the number is there or behind
unfoldable pub digit : ℕ → ℕ → List ℕ
digit n millionths = if n % (millionths * 10) == 0 then [] else decimal (n / millionths % 10)

-- a number of millionths in decimal
unfoldable pub number : ℕ → List ℕ
number n = grouped (whole n) ++ point n ++ digit n 100000 ++ digit n 10000 ++ digit n 1000 ++ digit n 100 ++ digit n 10 ++ digit n 1

-- the goal, and the word that says it
unfoldable pub goal_item : Want → List ℕ
goal_item want =
    markup (codes "<li>") ++ markup (figure_words want.statistic) ++ number (shown_bound want.statistic want.most) ++ markup (unit want.statistic) ++ escaped want.word.now ++ markup (codes "</code></li>")
