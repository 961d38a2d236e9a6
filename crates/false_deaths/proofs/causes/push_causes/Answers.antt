use Rattle.std.proofs.Common.{◌≡◌, ◌++◌, ap, sym, subst, ◌∙◌}
use Rattle.std.specs.Prelude.{OnOk}
use Rattle.std.specs.String.{string_bytes}
use Rattle.series.specs.declared.deaths.DeathStories.{DeathStories}
use Rattle.series.specs.Deaths.{AreToldOf, deaths_of}
use Rattle.false_deaths.specs.Causes.{causes_where}
use Rattle.false_deaths.proofs.causes.push_causes.Goals as goal

pub push_where-requires-clause-those : goal.push_where-requires-clause-those
push_where-requires-clause-those c =
    let rows = c.args.run.now.tallies.now in
    subst (λ list. AreToldOf list c.count-count.result rows) (sym (c.firsts-firsts.ensures ∙ ap (λ (d : DeathStories). d.told.items) c.deaths-deaths.ensures))
    (subst (λ n. AreToldOf c.args.run.now.series.now.deaths.told.items n rows) (sym (c.count-count.ensures ∙ ap (λ (d : DeathStories). d.count) c.deaths-deaths.ensures)) c.requires.told.gathered.deaths.told)

pub returns : goal.returns
returns c =
    subst (λ n. OnOk c.push_where.result (string_bytes c.push_where.new.text ≡ string_bytes c.args.text.now ++ causes_where c.args.run.now.tick c.args.run.now.scenario.now (deaths_of c.args.run.now.tallies.now) n))
    (c.count-count.ensures ∙ ap (λ (d : DeathStories). d.count) c.deaths-deaths.ensures ∙ c.requires.told.gathered.deaths.told.count) c.push_where.ensures
