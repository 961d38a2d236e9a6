use Rattle.std.proofs.Common.{◌≡◌, ◌∙◌, ℕ, List, ap, inr, is_some, refl, subst, arith}
use Rattle.sweep_plan.specs.Sweep.{Sweep}
use Rattle.shards.specs.declared.shard.Shard.{Shard}
use Rattle.figures.specs.declared.column_set.ColumnSet.{ColumnSet}
use Rattle.figures.proofs.Handing.{handed}
use Rattle.shard_merge.specs.Reasons.{BeginsAs, BeginsAsNone}
use Rattle.shard_merge.proofs.Numbered.{memory_text, none_of_these, past_all}
use Rattle.shard_merge.proofs.places.number_at.Goals as goal

pub returns-in_default-number_of-clause-refused : goal.returns-in_default-number_of-clause-refused
returns-in_default-number_of-clause-refused c =
    let same = (rw c.in-Ok.is at c.from_utf8.ensures.cases).0 in
    (refl, inr (subst BeginsAsNone same (c.number_of.ensures.none (ap is_some c.in_default-number_of.is))))

pub returns-then-number-head-clause-refused : goal.returns-then-number-head-clause-refused
returns-then-number-head-clause-refused c =
    let same = (rw c.in-Ok.is at c.from_utf8.ensures.cases).0 in
    let only = subst (λ t. (m : List ℕ) (r : ColumnSet) (s : Sweep) (p : Shard) → BeginsAs t m r s p → p.number ≡ c.in-Some.number) same c.in-Some.ensures.only in
    (refl, past_all c.args.text.now c.args.head.now.mark.now c.args.head.now.columns c.args.head.now.plan c.args.head.now.shard.of c.in-Some.number only (omega arith))

pub returns-then-not-begins-clause-refused : goal.returns-then-not-begins-clause-refused
returns-then-not-begins-clause-refused c =
    let same = (rw c.in-Ok.is at c.from_utf8.ensures.cases).0 in
    let only = subst (λ t. (m : List ℕ) (r : ColumnSet) (s : Sweep) (p : Shard) → BeginsAs t m r s p → p.number ≡ c.in-Some.number) same c.in-Some.ensures.only in
    (refl, none_of_these c.args.text.now c.args.head.now.mark.now c.args.head.now.columns c.args.head.now.plan c.args.head.now.shard.of c.in-Some.number only _ refl refl (c.in_ok-begins.ensures.other c.if-not-begins.true))

pub returns-in_err-begins-clause-refused : goal.returns-in_err-begins-clause-refused
returns-in_err-begins-clause-refused c =
    handed c.from_residual.result _ _ c.from_residual.ensures.1 (λ e same. memory_text _ _ _ _ _ _ e (same ∙ c.in_err-begins.ensures.memory))
