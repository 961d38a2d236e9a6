use Rattle.std.proofs.Common.{◌≡◌, sym, subst, ap, ◌∙◌, string_bytes}
use Rattle.toml.specs.Data.{Data, string}
use Rattle.toml.specs.View.{view}
use Rattle.toml.proofs.Views.{view-String}
use Rattle.written_values.specs.Values.{SaysTicksIn}
use Rattle.written_values.proofs.ticks.ticks_in.Goals as goal

pub returns-in-String : goal.returns-in-String
returns-in-String c =
    let same : view c.args.value.now ≡ string (string_bytes c.in-String.word) = ap view c.in-String.is ∙ view-String c.in-String.word in
    subst (λ (d : Data). SaysTicksIn c.args.tick c.args.least c.args.most d c.word_within.result) (sym same) c.word_within.ensures
