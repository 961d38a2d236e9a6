use Rattle.std.proofs.Common.{◌++◌, inl, inr, subst}
use Rattle.base.specs.World.{IsOver}
use Rattle.drive_world.specs.DriveOf.{drive_of, world_of}
use Rattle.drive_world.proofs.Handed.{turned}
use Rattle.drive_world.proofs.Nexts.{next_by, none_may}
use Rattle.drive_world.proofs.RowOrder.{cmp, row_order}
use Rattle.drive_world.proofs.early.go_on_untold.Goals as goal

pub loop-turn-init : goal.loop-turn-init
loop-turn-init c = record { way = c.requires.way.3.way; under = λ told gave written under. (told, under) }

pub returns-in_default-clause-under_way : goal.returns-in_default-clause-under_way
returns-in_default-clause-under_way c = λ told gave written under. c.loop-turn.invariant.under told gave written under

pub returns-in_default-clause-none : goal.returns-in_default-clause-none
returns-in_default-clause-none c = inl (subst (λ e. IsOver e (world_of c.loop-turn.world)) c.end.ensures.value c.in_default.ensures.over)

pub advance-requires-clause-next : goal.advance-requires-clause-next
advance-requires-clause-next c =
    next_by c.args.setting.now.scenario.now c.args.setting.now.least_delay (drive_of c.loop-turn.world) c.safe_bound-bound.result c.safe_bound-bound.ensures c.in-Some-first_free.key c.in-Some-first_free.ensures.first

pub returns-in-None-clause-under_way : goal.returns-in-None-clause-under_way
returns-in-None-clause-under_way c = λ told gave written under. c.loop-turn.invariant.under told gave written under

pub returns-in-None-clause-none : goal.returns-in-None-clause-none
returns-in-None-clause-none c =
    inr (none_may c.args.setting.now.scenario.now c.args.setting.now.least_delay (drive_of c.loop-turn.world) c.safe_bound-bound.result c.safe_bound-bound.ensures c.in-None.ensures.none)

pub loop-turn-preserved : goal.loop-turn-preserved
loop-turn-preserved c = record {
  way = c.in_ok-advance-in-Some-first_free.ensures.way;
  under = λ told gave written under.
      let so_far = c.loop-turn.invariant.under told gave written under in (
        so_far.0 ++ c.in_ok-advance-in-Some-first_free.field-0.items,
        turned cmp row_order c.args.setting.now.scenario.now c.args.setting.now.least_delay c.loop-turn.world c.advance.new.world so_far.0 _ gave gave written c.requires.setting.sound so_far.1
            (c.in_ok-advance-in-Some-first_free.ensures.turns so_far.0 gave) c.in_ok-advance-in-Some-first_free.ensures.way,
      );
}
