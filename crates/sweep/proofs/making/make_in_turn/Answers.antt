use Rattle.std.proofs.Common.{◌≡◌, ◌∙◌, ◌+◌, ◌-◌, ◌++◌, ◌∷◌, [], ap, arith, sym, subst}
use Rattle.std.specs.List.{AllZip, range_with_len}
use Rattle.std.proofs.lemmas.Slice.Zip.{all_zipped_more}
use Rattle.toml.specs.View.{view}
use Rattle.sweep.specs.Table.{IsMadeOf}
use Rattle.sweep.proofs.Numbers.{range_more}
use Rattle.sweep.proofs.making.make_in_turn.Goals as goal

pub loop-number-preserved : goal.loop-number-preserved
loop-number-preserved g c =
    let from = c.args.share.from in
    let number = c.loop-number.number in
    let R = IsMadeOf (view c.args.document.now) c.args.plan.now c.args.key.now in
    let here : from + (number - from) ≡ number = omega (arith, c.loop-number.invariant.low) in
    let more : (number - from) + 1 ≡ number + 1 - from = omega (arith, c.loop-number.invariant.low) in
    let numbers : range_with_len from (number - from) ++ number ∷ [] ≡ range_with_len from (number + 1 - from) =
    ap (λ n. range_with_len from (number - from) ++ n ∷ []) (sym here) ∙ sym (range_more from (number - from)) ∙ ap (range_with_len from) more in
    record {
      low = omega (arith, c.loop-number.invariant.low);
      high = omega (arith, c.loop-number-test.true);
      made = subst (λ l. AllZip R l c.push.new.self.items) numbers
          (subst (AllZip R (range_with_len from (number - from) ++ number ∷ [])) (sym c.in_ok-push.ensures.items)
          (all_zipped_more R (range_with_len from (number - from)) c.loop-number.runs.items number c.make_run.result c.loop-number.invariant.made c.make_run.ensures));
    }

pub returns : goal.returns
returns g c =
    let from = c.args.share.from in
    let till = c.args.share.till in
    let all : c.loop-number.number - from ≡ till - from = omega (arith, c.loop-number-test.false, c.loop-number.invariant.low, c.loop-number.invariant.high) in
    subst (λ n. AllZip (IsMadeOf (view c.args.document.now) c.args.plan.now c.args.key.now) (range_with_len from n) c.loop-number.runs.items) all c.loop-number.invariant.made
