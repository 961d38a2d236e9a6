use Rattle.std.proofs.Common.{◌++◌, ap, ◌∙◌}
use Rattle.std.specs.List.{filter_map}
use Rattle.figures.specs.Settings.{suspected_in, confirmed_in, last_in}
use Rattle.figures.proofs.Runs.{one_run}
use Rattle.figures.proofs.setting.SettingFigures.with.Goals as goal

pub returns : goal.returns
returns c runs were =
    one_run c.args.self c.count.new.self c.args.note.now runs were
    (c.count.ensures.suspected ∙ c.in_ok-push_suspected.ensures ∙ ap (λ crashes. c.args.self.suspected.items ++ filter_map suspected_in crashes) c.crashes-crashes.ensures)
    (c.count.ensures.confirmed ∙ c.in_ok-push_confirmed.ensures ∙ ap (λ crashes. c.args.self.confirmed.items ++ filter_map confirmed_in crashes) c.crashes-crashes.ensures)
    (c.count.ensures.last ∙ c.in_ok-push_last.ensures ∙ ap (λ crashes. c.args.self.last.items ++ filter_map last_in crashes) c.crashes-crashes.ensures)
    c.count.ensures.runs c.count.ensures.crashes c.count.ensures.false_suspect c.count.ensures.thrown_out c.count.ensures.revived c.count.ensures.runs_with c.count.ensures.deaths c.count.ensures.squares c.count.ensures.sent c.count.ensures.member_ticks c.count.ensures.incidents
