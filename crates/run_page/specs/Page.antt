-- The page of a run.
use Rattle.std.specs.Prelude.{ℕ, List, ◌++◌, codes, Option}
use Rattle.scenario.specs.Setup.{Setup}
use Rattle.trace.specs.declared.row.Row.{Row}
use Rattle.drawing.specs.Escaped.{escaped, markup}
use Rattle.drawing.specs.Pages.{page_opening}
use Rattle.member_timelines.specs.declared.chosen.Chosen.{Chosen}
use Rattle.member_timelines.specs.LaneTable.{lanes_text}
use Rattle.member_timelines.specs.ThrownOut.{thrown_out_text}
use Rattle.false_deaths.specs.Causes.{causes_text}
use Rattle.run_settings.specs.Settings.{settings_text}
use Rattle.run_summary.specs.Summary.{summary_text}
use Rattle.run_spread.specs.Spread.{spread_text}
use Rattle.run_page.specs.Styles.{layout_style}
use Rattle.run_page.specs.Traffic.{traffic_text}
use Rattle.run_page.specs.Health.{health_text}
use Rattle.ticks.specs.declared.tick.Tick.{Tick}

-- what stands before the figures
unfoldable pub head_text : List ℕ → List ℕ
head_text name = page_opening name (codes " - swimsim") layout_style ++ escaped name ++ markup (codes "</h1></header>\n")

-- what happened, the lanes, the table of false deaths and how they came about, where these are all members with a lane in their order
unfoldable pub page_front : Option Tick → Setup → List Row → List Chosen → List ℕ
page_front time s rows all = summary_text time s rows ++ lanes_text time s rows all ++ thrown_out_text time s rows all ++ causes_text time s rows

-- how the news of crashes spread, the messages, the members' health and what was run, by a release of the program
unfoldable pub page_back : Option Tick → Setup → List Row → List ℕ → List ℕ
page_back time s rows release = spread_text time s rows ++ traffic_text time s rows ++ health_text time s rows ++ settings_text s release ++ codes "</main></body></html>\n"

-- the page of the run of a name, where these are all members with a lane in their order
unfoldable pub page_text : Option Tick → List ℕ → Setup → List Row → List Chosen → List ℕ → List ℕ
page_text time name s rows all release = head_text name ++ page_front time s rows all ++ page_back time s rows release
