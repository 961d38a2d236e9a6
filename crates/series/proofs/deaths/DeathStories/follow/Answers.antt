use Rattle.std.proofs.Common.{sym, subst, arith}
use Rattle.series.specs.Deaths.{AreGoneOf, AreStandingsOf, AreProbesOf, AreAnswersOf}
use Rattle.series.proofs.Dying.{deaths_few}
use Rattle.series.proofs.deaths.DeathStories.follow.Goals as goal

pub keep-requires-clause-few : goal.keep-requires-clause-few
keep-requires-clause-few c =
    let can = c.requires.can in
    omega (arith, can.are.told.count, deaths_few can.rows, can.few)

pub returns-clause-follows : goal.returns-clause-follows
returns-clause-follows c rows numbered are =
    record {
      told = c.keep.ensures rows c.args.row.now (c.death_told-death.ensures rows numbered (subst (λ l. AreGoneOf l rows) (sym c.as_slice-gone.ensures.value) are.gone) (subst (λ l. AreStandingsOf l rows) (sym c.as_slice-standings.ensures.value) are.standings)) are.told;
      gone = c.follow_departure.ensures.follows rows are.gone;
      probes = c.follow_probe.ensures.follows rows numbered are.probes;
      answers = c.follow_answers.ensures.follows rows numbered (subst (λ l. AreProbesOf l rows) (sym c.as_slice-probes.ensures.value) are.probes) are.answers;
      standings = c.follow_standing.ensures.follows rows numbered (subst (λ l. AreProbesOf l rows) (sym c.as_slice-probes.ensures.value) are.probes)
          (subst (λ l. AreAnswersOf l rows) (sym c.as_slice-answers.ensures.value) are.answers) are.standings;
    }
