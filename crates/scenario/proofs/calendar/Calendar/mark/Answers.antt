use Rattle.std.proofs.Common.{◌≡◌, ◌+◌, ◌-◌, ◌/◌, ◌^◌, min, length, refl, sym, ap, ◌∙◌, arith}
use Rattle.scenario.specs.Calendar.{Stretches, may_be_in}
use Rattle.scenario.proofs.Noting.{past_all, now_unknown, others_kept, time_noted, times_kept}
use Rattle.scenario.proofs.calendar.Calendar.mark.Goals as goal

pub returns-clause-noted : goal.returns-clause-noted
returns-clause-noted c =
    let old : Stretches = record { shift = c.self.inside.shift; owners = c.self.inside.owners.items; unknown = c.self.inside.unknown } in
    let new : Stretches = record { shift = c.self.inside.shift; owners = c.mark_in.new.owners.items; unknown = c.self.inside.unknown } in
    time_noted old new c.args.owner c.args.from c.args.until _ _ refl refl c.mark_in.ensures.same refl refl c.mark_in.ensures.noted c.mark_in.ensures.kept

pub returns-clause-kept : goal.returns-clause-kept
returns-clause-kept c =
    let old : Stretches = record { shift = c.self.inside.shift; owners = c.self.inside.owners.items; unknown = c.self.inside.unknown } in
    let new : Stretches = record { shift = c.self.inside.shift; owners = c.mark_in.new.owners.items; unknown = c.self.inside.unknown } in
    λ o t is. times_kept old new c.args.owner c.args.from c.args.until _ _ refl refl c.mark_in.ensures.same refl refl c.mark_in.ensures.noted c.mark_in.ensures.kept o t (ap (λ (s : Stretches). may_be_in s o t) c.self.view_is ∙ is)

pub returns-then-end-first-clause-noted : goal.returns-then-end-first-clause-noted
returns-then-end-first-clause-noted c =
    let old : Stretches = record { shift = c.self.inside.shift; owners = c.self.inside.owners.items; unknown = c.self.inside.unknown } in
    let all : c.min-end.result ≡ min (length c.self.inside.owners.items) ((c.args.until - 1) / 2 ^ c.self.inside.shift + 1) = omega (arith, c.min-end.ensures, c.len.ensures) in
    λ t low high. ap (λ (s : Stretches). may_be_in s c.args.owner t) (sym c.self.view_is)
    ∙ past_all old c.args.owner c.args.from c.args.until (c.args.from / 2 ^ c.self.inside.shift) _ c.min-end.result refl refl all c.if-end-first.true t low high

pub returns-then-self-end-clause-noted : goal.returns-then-self-end-clause-noted
returns-then-self-end-clause-noted c =
    let old : Stretches = record { shift = c.self.inside.shift; owners = c.self.inside.owners.items; unknown = c.self.inside.unknown } in
    λ t low high. now_unknown old c.args.owner c.bit_of.result c.bit_of.ensures t

pub returns-then-self-end-clause-kept : goal.returns-then-self-end-clause-kept
returns-then-self-end-clause-kept c =
    let old : Stretches = record { shift = c.self.inside.shift; owners = c.self.inside.owners.items; unknown = c.self.inside.unknown } in
    λ o t is. others_kept old c.args.owner c.bit_of.result c.bit_of.ensures o t (ap (λ (s : Stretches). may_be_in s o t) c.self.view_is ∙ is)
