use Rattle.std.proofs.Common.{◌≡◌, ◌++◌, ◌∷◌, ◌-◌, List, ℕ, drop, take, rules, string_bytes, arith}
use Rattle.sweep_plan.specs.Asked.{axis_text}
use Rattle.sweep_plan.specs.Sweep.{KeyValues}
use Rattle.shards.proofs.Axes.{axis_more, no_axis_more}
use Rattle.shards.proofs.words.push_swept_keys.Goals as goal

pub loop-from-preserved : goal.loop-from-preserved
loop-from-preserved c =
    let swept_keys = c.args.swept_keys.now in
    let from = c.loop-from.from in
    let end = c.axis_end-end.result in
    let axis : List KeyValues = take (end - from) (drop from swept_keys) in
    let pushed : string_bytes c.push_axis.new.text ≡ string_bytes c.loop-from.text ++ 32 ∷ axis_text axis = search rules in
    record {
      so_far = axis_more (λ (axis : List KeyValues). 32 ∷ axis_text axis) swept_keys from end axis (string_bytes c.loop-from.text) (string_bytes c.push_axis.new.text) _ c.axis_end-end.ensures.axis pushed c.loop-from.invariant.so_far;
      within = c.axis_end-end.ensures.within;
    }

pub returns : goal.returns
returns c =
    no_axis_more (λ (axis : List KeyValues). 32 ∷ axis_text axis) c.args.swept_keys.now c.loop-from.from _ _ c.loop-from-test.false c.loop-from.invariant.so_far
