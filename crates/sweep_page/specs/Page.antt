-- The page of a sweep.
use Rattle.std.specs.Prelude.{ℕ, Bool, if◌then◌else◌, List, [], ◌++◌, Option, codes}
use Rattle.goals.specs.Front.{has_crash}
use Rattle.goals.specs.declared.want.Want.{Want}
use Rattle.sweep_plan.specs.Sweep.{Sweep}
use Rattle.drawing.specs.Escaped.{escaped, markup}
use Rattle.drawing.specs.Pages.{page_opening}
use Rattle.figures.specs.declared.summary.SettingSummary.{SettingSummary}
use Rattle.sweep_keys.specs.Keys.{key_figures}
use Rattle.sweep_page.specs.Front.{front_where}
use Rattle.sweep_page.specs.Points.{front_points, places_of}
use Rattle.sweep_page.specs.Question.{question}
use Rattle.sweep_page.specs.Style.{page_style}
use Rattle.sweep_page.specs.Summary.{summary}
use Rattle.sweep_page.specs.Table.{table}
use Rattle.sweep_page.specs.declared.front_points.FrontPoint.{FrontPoint}
use Rattle.sweep_times.specs.Times.{times_figure}
use Rattle.ticks.specs.declared.tick.Tick.{Tick}

-- the page begins: its styles, and which scenario it is of
unfoldable pub page_head : List ℕ → List ℕ
page_head name = page_opening name (codes " - swimsim sweep") page_style ++ markup (codes "Which setting of ") ++ escaped name ++ markup (codes "?</h1></header>\n")

-- it ends by the release of the program
unfoldable pub page_end : List ℕ → List ℕ
page_end release = markup (codes "<footer class=\"soft\">swimsim ") ++ escaped release ++ markup (codes "</footer></main></body></html>\n")

-- how times spread, and what each key changes: nothing where no run has a crash
unfoldable pub time_figures : Option Tick → Sweep → List SettingSummary → List FrontPoint → List ℕ
time_figures time sweep settings points = times_figure time sweep.swept_keys settings (places_of points) ++ key_figures time sweep.swept_keys settings

unfoldable pub times_where : Option Tick → Bool → Sweep → List SettingSummary → List FrontPoint → List ℕ
times_where time crashed sweep settings points = if crashed then time_figures time sweep settings points else []

-- the page from its head to its end, with these settings on the front, in this order, and whether a run has a crash
unfoldable pub page_over : Option Tick → List ℕ → List ℕ → Sweep → List Want → Option ℕ → List SettingSummary → List Bool → Bool → List FrontPoint → List ℕ
page_over time name release sweep wants best settings front crashed points =
    page_head name ++ question time crashed sweep.swept_keys wants settings front points best ++ summary time crashed sweep settings points ++ front_where time crashed sweep.swept_keys settings front points
    ++ times_where time crashed sweep settings points ++ table time crashed sweep.swept_keys settings front ++ page_end release

-- the page of a sweep of the scenario with this name, of the summaries of its settings, of which are on the front, and of what is wanted of them: of those that
-- meet all, the best stands at this place
abbrev pub page_text : Option Tick → List ℕ → List ℕ → Sweep → List Want → Option ℕ → List SettingSummary → List Bool → List ℕ
page_text time name release sweep wants best settings front =
    page_over time name release sweep wants best settings front (has_crash settings) (front_points (has_crash settings) settings front)
