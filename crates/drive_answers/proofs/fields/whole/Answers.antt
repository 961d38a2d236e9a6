use Rattle.std.proofs.Common.{ap, ◌∙◌}
use Rattle.std.specs.Option.{option_and_then}
use Rattle.json.specs.Find.{as_number}
use Rattle.drive_answers.proofs.Whole.{none_in_range}
use Rattle.drive_answers.proofs.fields.whole.Goals as goal

pub returns-in-Some-clause-none : goal.returns-in-Some-clause-none
returns-in-Some-clause-none c = λ none n whole.
    none_in_range c.number.result _ c.args.least c.args.most c.requires c.number.ensures.some c.number.ensures.none (c.in_range.ensures.none none)
    n (ap (option_and_then as_number) c.in-Some.ensures ∙ whole.written) whole.no_less whole.no_more
