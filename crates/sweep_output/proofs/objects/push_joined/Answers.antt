use Rattle.std.proofs.Common.{ap, string_bytes, ◌∙◌}
use Rattle.sweep_output.proofs.Joined.{joined_more}
use Rattle.sweep_output.proofs.objects.push_joined.Goals as goal

pub loop-place-preserved : goal.loop-place-preserved
loop-place-preserved c =
    joined_more string_bytes c.args.members.now c.loop-place.place c.index-members-place.result c.as_str.result.now (string_bytes c.args.text.now) _ _ _ c.loop-place-test.true
    (c.as_str.ensures.value ∙ ap string_bytes c.index-members-place.is) c.in_ok-push_str.ensures.bytes c.in_ok-push_comma.ensures c.loop-place.invariant
