use Rattle.std.proofs.Common.{◌<◌, ap, sym, subst, ◌∙◌, ◌++◌}
use Rattle.std.specs.String.{string_bytes}
use Rattle.scenario.specs.Setup.{member_count}
use Rattle.series.specs.declared.lines.TraceLine.{TraceLine}
use Rattle.series.specs.Accusers.{AreAccusers}
use Rattle.series.specs.Deaths.{accusations}
use Rattle.reports.proofs.Keeping.{on_ok}
use Rattle.false_deaths.proofs.Naming.{cause_is, accusers_named, of_some}
use Rattle.false_deaths.proofs.death.push_death.Goals as goal

pub push_words-requires-clause-subject : goal.push_words-requires-clause-subject
push_words-requires-clause-subject c = of_some _ _ _ c.requires.is.subject c.requires.named.row.about

pub push_words-requires-clause-by : goal.push_words-requires-clause-by
push_words-requires-clause-by c = subst (λ (line : TraceLine). line.member < member_count c.args.scenario.now) (sym c.requires.is.line) c.requires.named.row.member

pub push_words-requires-clause-accusers : goal.push_words-requires-clause-accusers
push_words-requires-clause-accusers c =
    let subject = c.args.death.now.subject in
    let rows = c.requires.reached.earlier in
    (accusations subject rows, subst (λ a. AreAccusers a (accusations subject rows)) (sym c.accusers.ensures) c.requires.is.standing.accusers, accusers_named c.args.scenario.now subject rows c.requires.named.earlier)

pub returns : goal.returns
returns c =
    on_ok c.push_words.result
    (λ told r is.
    told (accusations c.args.death.now.subject r.earlier) (subst (λ a. AreAccusers a (accusations c.args.death.now.subject r.earlier)) (sym c.accusers.ensures) is.standing.accusers)
    ∙ ap (λ words. string_bytes c.args.text.now ++ words) (cause_is c.args.time c.args.scenario.now c.args.death.now r c.is_later.result c.refuted-refutation.result c.heard.result c.refuted-refutation.ensures c.heard.ensures c.is_later.ensures is))
    c.push_words.ensures
