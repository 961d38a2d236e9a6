use Rattle.std.proofs.Common.{◌≡◌, ◌++◌, ap, ◌∙◌}
use Rattle.std.specs.String.{string_bytes}
use Rattle.run_spread.specs.Spread.{learned, staying, times, reached, shares}
use Rattle.run_spread.proofs.Spreading.{part_same}
use Rattle.run_spread.proofs.spread.push_crash.Goals as goal

pub returns : goal.returns
returns c =
    let s = c.args.run.now.scenario.now in
    let from = c.args.from in
    let step = c.args.step in
    let up : c.staying-staying.result ≡ staying s = c.staying-staying.ensures.value in
    let suspected : times s (learned c.suspected.result.now from) ≡ times s (learned c.args.spread.now.suspected.items from) = ap (λ moments. times s (learned moments from)) c.suspected.ensures in
    let dead : times s (learned c.confirmed.result.now from) ≡ times s (learned c.args.spread.now.confirmed.items from) = ap (λ moments. times s (learned moments from)) c.confirmed.ensures in
    c.in_ok-push_part.ensures
    ∙ ap (λ t. string_bytes c.args.text.now ++ t)
    (part_same c.args.run.now.tick c.args.name.now step _ _ _ _ _ _ _ _ _ _ up
    (c.in_ok-suspected.ensures.reached ∙ ap (λ list. reached list step) suspected)
    (c.in_ok-suspected.ensures.shares ∙ ap (λ n. shares n (times s (learned c.suspected.result.now from))) up ∙ ap (shares (staying s)) suspected)
    (c.in_ok-dead.ensures.reached ∙ ap (λ list. reached list step) dead)
    (c.in_ok-dead.ensures.shares ∙ ap (λ n. shares n (times s (learned c.confirmed.result.now from))) up ∙ ap (shares (staying s)) dead))
