use Rattle.std.proofs.Common.{List, ◌++◌, ap, ◌∙◌, sym}
use Rattle.membership.specs.declared.candidates.Candidate.{Candidate}
use Rattle.membership.specs.Deaths.{since_of}
use Rattle.membership.specs.Candidates.{does_fit}
use Rattle.membership.proofs.Sides.{none_known, one_pushed}
use Rattle.membership.proofs.candidates.append_known.Goals as goal

pub loop-place-preserved-in_default : goal.loop-place-preserved-in_default
loop-place-preserved-in_default c incs =
    c.loop-place.invariant incs
    ∙ ap (λ (l : List Candidate). c.args.them.now.items ++ l)
    (sym (none_known incs (does_fit c.args.fitting.now (since_of c.args.deaths.now)) c.args.claims.now _ c.args.first c.loop-place.place c.loop-place-test.true (sym c.claim_of.ensures ∙ c.in_default.is)))

pub loop-place-preserved : goal.loop-place-preserved
loop-place-preserved c incs =
    one_pushed incs (does_fit c.args.fitting.now (since_of c.args.deaths.now)) c.args.claims.now _ c.args.first c.loop-place.place c.in-Some.claim
    c.args.them.now.items c.loop-place.them.items c.push.new.self.items c.does_fit-fits.result c.loop-place-test.true (sym c.claim_of.ensures ∙ c.in-Some.is) (c.loop-place.invariant incs) c.does_fit-fits.ensures
    c.in_ok-push.ensures.items
