use Rattle.std.proofs.Common.{◌≡◌, ℕ, List, not, filter, ap, ◌∙◌}
use Rattle.streams.specs.Draw.{words_of}
use Rattle.script_draws.specs.Choice.{is_among, left_after}
use Rattle.script_draws.proofs.ChoiceLemmas.{some_chosen, ok_then}
use Rattle.script_draws.proofs.choice.some_of.Goals as goal

pub returns : goal.returns
returns c =
    let members = c.args.members.now in
    let left = c.take_out.new.left.items in
    let from = words_of c.args.stream.now in
    let drawn = c.take_out.ensures ∙ ap (λ (items : List ℕ). left_after c.args.count items from) c.in_ok-left.ensures in
    ok_then (λ made. made.items ≡ filter (λ item. not (is_among c.as_slice.result.now item)) members) _ c.without.result c.without.ensures
    (λ made is. some_chosen c.args.count members left made.items from (words_of c.take_out.new.stream) c.requires.more drawn
    (is ∙ ap (λ (items : List ℕ). filter (λ item. not (is_among items item)) members) c.as_slice.ensures.value))
