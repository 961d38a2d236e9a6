use Rattle.std.proofs.Common.{◌≡◌, ap, sym, subst, string_bytes, ◌∙◌}
use Rattle.toml.specs.Data.{Data, string}
use Rattle.toml.specs.View.{view}
use Rattle.toml.proofs.Views.{view-String}
use Rattle.written_values.specs.Values.{SaysTickOf, SaysTicksIn}
use Rattle.written_schema.proofs.values.tick_said.Goals as goal

pub returns-in-String : goal.returns-in-String
returns-in-String c =
    let word = string (string_bytes c.in-String.field-0) in
    let seen : view c.args.value.now ≡ word = ap view c.in-String.is ∙ view-String c.in-String.field-0 in
    let said : SaysTicksIn 1 1 1000000 word c.ticks_in.result = subst (λ (d : Data). SaysTicksIn 1 1 1000000 d c.ticks_in.result) seen c.ticks_in.ensures in
    subst (λ (d : Data). SaysTickOf d c.ticks_in.result) (sym seen) said
