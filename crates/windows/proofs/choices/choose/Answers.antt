use Rattle.std.proofs.Common.{subst, rules}
use Rattle.worker_queue.specs.SetOf.{set_of}
use Rattle.windows.specs.Safe.{IsSafe}
use Rattle.windows.specs.Play.{NonePasses}
use Rattle.windows.specs.WorldOf.{world_of}
use Rattle.windows.proofs.PlayChoices.{none_handled, handled_here, names_there, holds_taken, new_taken, taken_wears_out, taken_handled_here}
use Rattle.windows.proofs.choices.choose.Goals as goal

pub returns-in-None-clause-ok : goal.returns-in-None-clause-ok
returns-in-None-clause-ok c =
    let s = c.args.cluster.scenario.now in
    let w = world_of set_of c.args.part.now in
    none_handled s c.args.least_delay c.args.member w (world_of set_of c.take_safe.new.part) c.args.made.now.rows.items
    (subst (λ end. NonePasses (IsSafe end c.args.least_delay) w c.args.member) c.end-end.ensures.value c.in-None.ensures.none) c.in-None.ensures.unchanged

pub handle_taken-requires-clause-here : goal.handle_taken-requires-clause-here
handle_taken-requires-clause-here c =
    let s = c.args.cluster.scenario.now in
    let w = world_of set_of c.args.part.now in
    let event = c.in-Some.event in
    let safe = subst (λ end. IsSafe end c.args.least_delay w event.key) c.end-end.ensures.value c.in-Some.ensures.safe in
    handled_here s c.requires.sound c.args.least_delay c.requires.least w c.requires.played event c.in-Some.ensures.here safe c.args.cluster.links.now c.args.cluster.fits

pub handle_taken-requires-clause-known : goal.handle_taken-requires-clause-known
handle_taken-requires-clause-known c =
    let s = c.args.cluster.scenario.now in
    let w = world_of set_of c.args.part.now in
    let event = c.in-Some.event in
    let safe = subst (λ end. IsSafe end c.args.least_delay w event.key) c.end-end.ensures.value c.in-Some.ensures.safe in
    holds_taken s c.requires.sound c.args.least_delay c.requires.least w c.requires.played event c.in-Some.ensures.here safe (world_of set_of c.take_safe.new.part) c.in-Some.ensures.members
    c.in-Some.ensures.taken

pub handle_taken-requires-clause-names : goal.handle_taken-requires-clause-names
handle_taken-requires-clause-names c =
    let s = c.args.cluster.scenario.now in
    let w = world_of set_of c.args.part.now in
    let event = c.in-Some.event in
    let safe = subst (λ end. IsSafe end c.args.least_delay w event.key) c.end-end.ensures.value c.in-Some.ensures.safe in
    names_there s c.requires.sound c.args.least_delay c.requires.least w c.requires.played event c.in-Some.ensures.here safe

pub handle_taken-requires-clause-new : goal.handle_taken-requires-clause-new
handle_taken-requires-clause-new c =
    let s = c.args.cluster.scenario.now in
    let w = world_of set_of c.args.part.now in
    let event = c.in-Some.event in
    let safe = subst (λ end. IsSafe end c.args.least_delay w event.key) c.end-end.ensures.value c.in-Some.ensures.safe in
    new_taken s c.requires.sound c.args.least_delay c.requires.least w c.requires.played event c.in-Some.ensures.here safe (world_of set_of c.take_safe.new.part) c.in-Some.ensures.members c.in-Some.ensures.taken

pub returns-clause-ok : goal.returns-clause-ok
returns-clause-ok c =
    let s = c.args.cluster.scenario.now in
    let w = world_of set_of c.args.part.now in
    let event = c.in-Some.event in
    let safe = subst (λ end. IsSafe end c.args.least_delay w event.key) c.end-end.ensures.value c.in-Some.ensures.safe in
    taken_handled_here s c.requires.sound c.args.least_delay c.requires.least w c.requires.played event c.in-Some.ensures.here safe (world_of set_of c.take_safe.new.part) c.in-Some.ensures.members
    c.in-Some.ensures.taken c.args.member (world_of set_of c.handle_taken.new.part) c.args.made.now c.handle_taken.new.out c.in-Some.ensures.own c.in_ok-handle_taken.ensures.ok

pub returns-in_err-handle_taken-clause-overflow : goal.returns-in_err-handle_taken-clause-overflow
returns-in_err-handle_taken-clause-overflow c = λ overflow.
    let s = c.args.cluster.scenario.now in
    let w = world_of set_of c.args.part.now in
    let event = c.in-Some.event in
    let safe = subst (λ end. IsSafe end c.args.least_delay w event.key) c.end-end.ensures.value c.in-Some.ensures.safe in
    taken_wears_out s c.requires.sound c.args.least_delay c.requires.least w c.requires.played event c.in-Some.ensures.here safe (world_of set_of c.take_safe.new.part) c.in-Some.ensures.members
    c.in-Some.ensures.taken (c.in_err-handle_taken.ensures.overflow (search rules))
