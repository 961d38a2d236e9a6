use Rattle.std.proofs.Common.{◌*◌, ◌≤◌, [], length, drop, refl, sym, subst}
use Rattle.figures.specs.Kept.{AreFiguresOf, runs_kept}
use Rattle.sweep.proofs.Gathered.{one_gathered, setting_gathered}
use Rattle.sweep.proofs.gathering.GatheringGather.add.Goals as goal

pub returns-then-runs-self : goal.returns-then-runs-self
returns-then-runs-self c each notes were =
    let old = c.args.self.now in
    let figures = c.in_ok-figures.figures in
    let before = drop (length old.summaries.items * each) notes in
    let kept = c.in_ok-figures.ensures before (subst (λ f. AreFiguresOf f before) (sym c.replace-figures.ensures.value) were.kept) in
    one_gathered each notes c.args.note.now old _ figures were refl kept refl refl

pub returns : goal.returns
returns c each notes were =
    let old = c.args.self.now in
    let figures = c.in_ok-figures.figures in
    let before = drop (length old.summaries.items * each) notes in
    let kept = c.in_ok-figures.ensures before (subst (λ f. AreFiguresOf f before) (sym c.replace-figures.ensures.value) were.kept) in
    let enough : old.each ≤ runs_kept figures = subst (λ n. old.each ≤ n) c.runs.ensures c.if-runs-self.false in
    setting_gathered each notes c.args.note.now old _ figures were refl kept enough
    c.in_ok-summary.summary c.in_ok-push.ensures.items c.in_ok-summary.ensures (subst (λ f. AreFiguresOf f []) (sym c.replace-figures.ensures.after) c.new.ensures)
