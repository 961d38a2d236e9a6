use Rattle.std.proofs.Common.{true, false, is_some, ap, sym}
use Rattle.written_entries.specs.Bad.{breaks_entries}
use Rattle.written_entries.proofs.Chain.{found_in, here, further, spells_sound}
use Rattle.written_entries.proofs.script.check_entries.Goals as goal

pub returns-in-Some-clause-judged : goal.returns-in-Some-clause-judged
unfolding breaks_entries
returns-in-Some-clause-judged c =
    let crash = found_in _ _ c.args.script.now.crashes.items c.in_ok-place.field-0 true c.in_ok-place.ensures c.as_slice.ensures.value (ap is_some c.in-Some.is) in
    here _ _ crash

pub returns-in-Some-2-clause-judged : goal.returns-in-Some-2-clause-judged
unfolding breaks_entries
returns-in-Some-2-clause-judged c =
    let crash = found_in _ _ c.args.script.now.crashes.items c.in_ok-place.field-0 false c.in_ok-place.ensures c.as_slice.ensures.value (ap is_some c.in_default.is) in
    let leave = found_in _ _ c.args.script.now.leaves.items c.in_ok-place-2.field-0 true c.in_ok-place-2.ensures c.as_slice-2.ensures.value (ap is_some c.in-Some-2.is) in
    further true _ _ crash (here _ _ leave)

pub returns-in-Some-3-clause-judged : goal.returns-in-Some-3-clause-judged
unfolding breaks_entries
returns-in-Some-3-clause-judged c =
    let crash = found_in _ _ c.args.script.now.crashes.items c.in_ok-place.field-0 false c.in_ok-place.ensures c.as_slice.ensures.value (ap is_some c.in_default.is) in
    let leave = found_in _ _ c.args.script.now.leaves.items c.in_ok-place-2.field-0 false c.in_ok-place-2.ensures c.as_slice-2.ensures.value (ap is_some c.in_default-2.is) in
    let restart = found_in _ _ c.args.script.now.restarts.items c.in_ok-place-3.field-0 true c.in_ok-place-3.ensures c.as_slice-3.ensures.value (ap is_some c.in-Some-3.is) in
    further true _ _ crash (further true _ _ leave (here _ _ restart))

pub returns-in-Some-4-clause-judged : goal.returns-in-Some-4-clause-judged
unfolding breaks_entries
returns-in-Some-4-clause-judged c =
    let crash = found_in _ _ c.args.script.now.crashes.items c.in_ok-place.field-0 false c.in_ok-place.ensures c.as_slice.ensures.value (ap is_some c.in_default.is) in
    let leave = found_in _ _ c.args.script.now.leaves.items c.in_ok-place-2.field-0 false c.in_ok-place-2.ensures c.as_slice-2.ensures.value (ap is_some c.in_default-2.is) in
    let restart = found_in _ _ c.args.script.now.restarts.items c.in_ok-place-3.field-0 false c.in_ok-place-3.ensures c.as_slice-3.ensures.value (ap is_some c.in_default-3.is) in
    let slow = found_in _ _ c.args.script.now.slows.items c.in_ok-place-4.field-0 true c.in_ok-place-4.ensures c.as_slice-4.ensures.value (ap is_some c.in-Some-4.is) in
    further true _ _ crash (further true _ _ leave (further true _ _ restart (here _ _ slow)))

pub returns-in-Some-5-clause-judged : goal.returns-in-Some-5-clause-judged
unfolding breaks_entries
returns-in-Some-5-clause-judged c =
    let crash = found_in _ _ c.args.script.now.crashes.items c.in_ok-place.field-0 false c.in_ok-place.ensures c.as_slice.ensures.value (ap is_some c.in_default.is) in
    let leave = found_in _ _ c.args.script.now.leaves.items c.in_ok-place-2.field-0 false c.in_ok-place-2.ensures c.as_slice-2.ensures.value (ap is_some c.in_default-2.is) in
    let restart = found_in _ _ c.args.script.now.restarts.items c.in_ok-place-3.field-0 false c.in_ok-place-3.ensures c.as_slice-3.ensures.value (ap is_some c.in_default-3.is) in
    let slow = found_in _ _ c.args.script.now.slows.items c.in_ok-place-4.field-0 false c.in_ok-place-4.ensures c.as_slice-4.ensures.value (ap is_some c.in_default-4.is) in
    let pause = found_in _ _ c.args.script.now.pauses.items c.in_ok-place-5.field-0 true c.in_ok-place-5.ensures c.as_slice-5.ensures.value (ap is_some c.in-Some-5.is) in
    further true _ _ crash (further true _ _ leave (further true _ _ restart (further true _ _ slow (here _ _ pause))))

pub returns-in-Some-6-clause-judged : goal.returns-in-Some-6-clause-judged
unfolding breaks_entries
returns-in-Some-6-clause-judged c =
    let crash = found_in _ _ c.args.script.now.crashes.items c.in_ok-place.field-0 false c.in_ok-place.ensures c.as_slice.ensures.value (ap is_some c.in_default.is) in
    let leave = found_in _ _ c.args.script.now.leaves.items c.in_ok-place-2.field-0 false c.in_ok-place-2.ensures c.as_slice-2.ensures.value (ap is_some c.in_default-2.is) in
    let restart = found_in _ _ c.args.script.now.restarts.items c.in_ok-place-3.field-0 false c.in_ok-place-3.ensures c.as_slice-3.ensures.value (ap is_some c.in_default-3.is) in
    let slow = found_in _ _ c.args.script.now.slows.items c.in_ok-place-4.field-0 false c.in_ok-place-4.ensures c.as_slice-4.ensures.value (ap is_some c.in_default-4.is) in
    let pause = found_in _ _ c.args.script.now.pauses.items c.in_ok-place-5.field-0 false c.in_ok-place-5.ensures c.as_slice-5.ensures.value (ap is_some c.in_default-5.is) in
    let block = found_in _ _ c.args.script.now.blocks.items c.in_ok-place-6.field-0 true c.in_ok-place-6.ensures c.as_slice-6.ensures.value (ap is_some c.in-Some-6.is) in
    further true _ _ crash (further true _ _ leave (further true _ _ restart (further true _ _ slow (further true _ _ pause (sym block)))))

pub returns-in-None-clause-judged : goal.returns-in-None-clause-judged
unfolding breaks_entries
returns-in-None-clause-judged c =
    let crash = found_in _ _ c.args.script.now.crashes.items c.in_ok-place.field-0 false c.in_ok-place.ensures c.as_slice.ensures.value (ap is_some c.in_default.is) in
    let leave = found_in _ _ c.args.script.now.leaves.items c.in_ok-place-2.field-0 false c.in_ok-place-2.ensures c.as_slice-2.ensures.value (ap is_some c.in_default-2.is) in
    let restart = found_in _ _ c.args.script.now.restarts.items c.in_ok-place-3.field-0 false c.in_ok-place-3.ensures c.as_slice-3.ensures.value (ap is_some c.in_default-3.is) in
    let slow = found_in _ _ c.args.script.now.slows.items c.in_ok-place-4.field-0 false c.in_ok-place-4.ensures c.as_slice-4.ensures.value (ap is_some c.in_default-4.is) in
    let pause = found_in _ _ c.args.script.now.pauses.items c.in_ok-place-5.field-0 false c.in_ok-place-5.ensures c.as_slice-5.ensures.value (ap is_some c.in_default-5.is) in
    let block = found_in _ _ c.args.script.now.blocks.items c.in_ok-place-6.field-0 false c.in_ok-place-6.ensures c.as_slice-6.ensures.value (ap is_some c.in-None.is) in
    further false _ _ crash (further false _ _ leave (further false _ _ restart (further false _ _ slow (further false _ _ pause (sym block)))))

pub returns-in-None-clause-sound : goal.returns-in-None-clause-sound
returns-in-None-clause-sound c = λ _.
    let slow = found_in _ _ c.args.script.now.slows.items c.in_ok-place-4.field-0 false c.in_ok-place-4.ensures c.as_slice-4.ensures.value (ap is_some c.in_default-4.is) in
    let pause = found_in _ _ c.args.script.now.pauses.items c.in_ok-place-5.field-0 false c.in_ok-place-5.ensures c.as_slice-5.ensures.value (ap is_some c.in_default-5.is) in
    let block = found_in _ _ c.args.script.now.blocks.items c.in_ok-place-6.field-0 false c.in_ok-place-6.ensures c.as_slice-6.ensures.value (ap is_some c.in-None.is) in
    record {
      crashes = c.requires.crashes;
      leaves = c.requires.leaves;
      restarts = c.requires.restarts;
      slows = spells_sound _ c.args.script.now.slows.items c.requires.slows slow;
      pauses = spells_sound _ c.args.script.now.pauses.items c.requires.pauses pause;
      blocks = spells_sound _ c.args.script.now.blocks.items c.requires.blocks block;
    }
