use Rattle.std.proofs.Common.{◌/◌, length, max, take, ◌∙◌, ap}
use Rattle.sweep_keys.specs.Lines.{key_lines, shared_out}
use Rattle.sweep_cells.proofs.Firsts.{firsts}
use Rattle.sweep_keys.proofs.keys.lines_of.Goals as goal

pub returns : goal.returns
returns c =
    let settings = length c.args.settings.now in
    let keys = length c.args.axis.now in
    let few = c.place_count-values.result in
    c.new.ensures
    ∙ ap (λ n. key_lines keys few (n / c.max.result) settings) (c.shared_out.ensures ∙ ap (λ s. shared_out settings s) (firsts c.args.swept_keys.now c.args.key _ c.min.ensures))
    ∙ ap (λ m. key_lines keys few (shared_out settings (take c.args.key c.args.swept_keys.now) / m) settings) c.max.ensures
    ∙ ap (λ n. key_lines keys n (shared_out settings (take c.args.key c.args.swept_keys.now) / max n 1) settings) c.place_count-values.ensures
