-- Which settings of a sweep no other beats, and how their lines are marked.
use Rattle.std.specs.Prelude.{ℕ, ◌*◌, Bool, true, false, not, ◌&&◌, ◌||◌, nat_le, nat_lt, if◌then◌else◌, List, Option, Some, None, codes}
use Rattle.std.specs.List.{list_any}
use Rattle.figures.specs.declared.summary.SettingSummary.{SettingSummary}

-- a time, or a number of messages, is no greater than another; none is greater than any
abbrev pub no_later : Option ℕ → Option ℕ → Bool
no_later (Some a) (Some b) = nat_le a b
no_later (Some a) None = true
no_later None (Some b) = false
no_later None None = true

-- some run of the sweep has a crash
abbrev pub has_crash : List SettingSummary → Bool
has_crash all = list_any (λ setting. nat_lt 0 setting.crashes) all

-- what a setting costs, beside the share of its runs with a false death: the median time until a crash was confirmed; where no run of the sweep has a
-- crash, its messages
abbrev pub cost : Bool → SettingSummary → Option ℕ
cost crashed setting = if crashed then setting.confirm_p50 else setting.messages

-- one setting costs no more than another
abbrev pub costs_no_more : Bool → SettingSummary → SettingSummary → Bool
costs_no_more crashed a b = no_later (cost crashed a) (cost crashed b)

-- the share of the runs with a false death is no greater: fractions, compared by their products
abbrev pub is_no_more_often : SettingSummary → SettingSummary → Bool
is_no_more_often a b = nat_le (a.runs_with * b.runs) (b.runs_with * a.runs)

-- the one beats the other: it is at most as great in both, and less in one
abbrev pub beats : Bool → SettingSummary → SettingSummary → Bool
beats crashed a b = costs_no_more crashed a b && (is_no_more_often a b && (not (costs_no_more crashed b a) || not (is_no_more_often b a)))

-- no setting of these beats it
abbrev pub is_on_front : SettingSummary → List SettingSummary → Bool
is_on_front setting all = not (list_any (λ other. beats (has_crash all) other setting) all)

-- the last cell of a setting's line, and the word over these cells: a star for a setting on the front, a dash for another
abbrev pub mark_word : List ℕ
mark_word = codes "  front\n"

abbrev pub mark_text : Bool → List ℕ
mark_text true = codes "      *\n"
mark_text false = codes "      -\n"
