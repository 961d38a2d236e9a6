use Rattle.std.proofs.Common.{◌∙◌, ap, inl, inr, is_some, rules, subst, sym}
use Rattle.figures.proofs.Handing.{handed}
use Rattle.shard_merge.specs.Reasons.{BeginsAs, BeginsAsNone, HasNoHead}
use Rattle.shard_merge.proofs.joining.first_head.Goals as goal

pub returns-in_default-clause-refused : goal.returns-in_default-clause-refused
returns-in_default-clause-refused c = inr (_, c.text_at-bytes.ensures, inl (search rules))

pub returns-in-None-clause-refused : goal.returns-in-None-clause-refused
returns-in-None-clause-refused c =
    let same = (rw c.in-Ok.is at c.from_utf8.ensures.cases).0 in
    inr (_, c.text_at-bytes.ensures, inr (subst BeginsAsNone same (c.in_ok-head.ensures.none (ap is_some c.in-None.is))))

pub returns-in-Some-clause-first : goal.returns-in-Some-clause-first
returns-in-Some-clause-first c =
    let same = (rw c.in-Ok.is at c.from_utf8.ensures.cases).0 in
    let head = c.in-Some.head in
    record {
      text = _;
      there = c.text_at-bytes.ensures;
      begins = subst (λ t. BeginsAs t head.mark.now head.columns head.plan head.shard) same (rw c.in-Some.is at c.in_ok-head.ensures.found);
    }

pub returns-in_err-head-clause-early : goal.returns-in_err-head-clause-early
returns-in_err-head-clause-early c =
    handed c.from_residual.result _ _ c.from_residual.ensures.1 (λ e same. subst HasNoHead (sym (same ∙ c.in_err-head.ensures.memory)) tt)
