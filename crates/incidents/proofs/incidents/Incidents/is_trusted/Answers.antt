use Rattle.std.proofs.Common.{◌∙◌, ◌&&◌, ap}
use Rattle.incidents.specs.Lives.{is_up}
use Rattle.incidents.specs.Kept.{count_of}
use Rattle.incidents.proofs.Keeping.{up_is_member}
use Rattle.incidents.proofs.incidents.Incidents.is_trusted.Goals as goal

pub returns : goal.returns
returns c rows are =
    let count = count_of c.args.self.now.cluster in
    c.both.ensures ∙ ap (λ b. b && c.is_trusted.result) (c.is_up.ensures ∙ are.lives.up c.args.member)
    ∙ ap (λ b. is_up rows c.args.member && b) (c.is_trusted.ensures count rows are.doubts (up_is_member c.args.self.now.lives count rows are.lives))
