use Rattle.std.proofs.Common.{◌+◌, ◌++◌, ◌∷◌, [], ℕ, sym, ◌∙◌, arith}
use Rattle.std.proofs.lemmas.List.FromFn.{map-range_with_len_more}
use Rattle.script_reader.proofs.who.members_from.Goals as goal

pub loop-k-preserved : goal.loop-k-preserved
loop-k-preserved c =
    c.in_ok-push.ensures.items ∙ (λ i. c.loop-k.invariant i ++ c.member_from.ensures i ∷ [])
    ∙ sym (map-range_with_len_more (λ (k : ℕ). c.args.first + k) 0 c.loop-k.k c.loop-k.k (omega arith))
