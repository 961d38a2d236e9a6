use Rattle.std.proofs.Common.{◌≡◌, ◌+◌, ◌++◌, ◌∷◌, [], take, ap, ◌∙◌, sym, arith}
use Rattle.std.proofs.lemmas.List.{take_more}
use Rattle.lookahead_windows.proofs.Least.{least_more}
use Rattle.lookahead_windows.proofs.firsts.least_of.Goals as goal

pub loop-event-preserved : goal.loop-event-preserved
loop-event-preserved c =
    let events = c.args.events.now in
    let i = c.loop-event.event-index in
    let more : take (i + 1) events ≡ take i events ++ c.event-item.result ∷ [] = take_more events i c.event-item.result (omega arith) ∙ ap (λ e. take i events ++ e ∷ []) (sym c.event-item.is) in
    record { least = least_more (take i events) (take (i + 1) events) c.event-item.result c.loop-event.least c.lesser_moment-least.result more c.loop-event.invariant.least c.lesser_moment-least.ensures }
