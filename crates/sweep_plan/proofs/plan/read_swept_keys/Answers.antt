use Rattle.std.proofs.Common.{◌+◌, ℕ, List, Bor, map, take, sym, subst}
use Rattle.std.proofs.lemmas.List.Elements.{All-append}
use Rattle.sweep_plan.specs.Asked.{AreAxes, IsSwept}
use Rattle.sweep_plan.proofs.Gathered.{gathered_more, refused_at, refused_more}
use Rattle.sweep_plan.proofs.plan.read_swept_keys.Goals as goal

pub returns-in-Err-clause-refused : goal.returns-in-Err-clause-refused
returns-in-Err-clause-refused c = refused_at c.args.words.now c.loop-word.word-index _ c.loop-word-test.true c.in-Err.fault c.in-Err.ensures.refused

pub push_axis-requires : goal.push_axis-requires
push_axis-requires c = record { known = All-append IsSwept c.loop-word.swept_keys.items c.in-Ok.axis.items c.loop-word.invariant.axes.sound c.in-Ok.ensures.read.sound }

pub loop-word-preserved : goal.loop-word-preserved
loop-word-preserved c =
    let swept_keys = c.loop-word.swept_keys.items in
    let axis = c.in-Ok.axis.items in
    let more = gathered_more c.args.words.now c.loop-word.word-index _ c.loop-word-test.true swept_keys axis c.loop-word.invariant.axes c.in-Ok.ensures.read in
    record {
      axes = subst (AreAxes (map (λ (word : Bor (List ℕ)). word.now) (take (c.loop-word.word-index + 1) c.args.words.now))) (sym c.in_default.ensures.added) more;
      once = c.in_default.ensures.once c.loop-word.invariant.once;
    }

pub returns-in-Err-push_axis-clause-refused : goal.returns-in-Err-push_axis-clause-refused
returns-in-Err-push_axis-clause-refused c =
    refused_more c.args.words.now c.loop-word.word-index _ c.loop-word-test.true c.loop-word.swept_keys.items c.in-Ok.axis.items c.loop-word.invariant.axes c.in-Ok.ensures.read
    c.in-Err-push_axis.fault c.in-Err-push_axis.ensures.refused
