use Rattle.std.proofs.Common.{◌∙◌, ◌++◌, ap, sym, subst}
use Rattle.sweep.specs.Shards.{shard_header}
use Rattle.figures.proofs.Handing.{handed}
use Rattle.shard_merge.specs.Reasons.{BeginsAs, RefusesLines}
use Rattle.shard_merge.proofs.PlacesMore.{begins_there, lines_reason, missing}
use Rattle.shard_merge.proofs.behind.lines_behind.Goals as goal

pub returns-in_default-clause-refused : goal.returns-in_default-clause-refused
returns-in_default-clause-refused c =
    let head = c.args.head.now in
    missing c.args.texts.now head.mark.now head.columns head.plan head.shard c.requires.first c.args.places.now c.requires.places c.args.number c.requires.within
    (sym c.place_of_run.ensures ∙ c.in_default.is)

-- the text of a shard begins with its first line
pub lines_at-requires : goal.lines_at-requires
lines_at-requires c =
    let head = c.args.head.now in
    let found = sym c.place_of_run.ensures ∙ c.in-Some.is in
    record {
      begins = subst (λ p. BeginsAs c.text_at.result.now head.mark.now head.columns head.plan p) (sym c.shard_at-shard.ensures.same)
          (begins_there c.args.texts.now head.mark.now head.columns head.plan head.shard c.requires.first c.args.places.now c.requires.places c.args.number _ _ found c.text_at.ensures);
    }

pub returns-in_err-lines-clause-refused : goal.returns-in_err-lines-clause-refused
returns-in_err-lines-clause-refused c =
    let head = c.args.head.now in
    let found = sym c.place_of_run.ensures ∙ c.in-Some.is in
    let text = c.text_at.result.now in
    let place = c.in-Some.place in
    let header = shard_header head.columns head.mark.now head.plan in
    handed c.from_residual.result _ _ c.from_residual.ensures.1
    (λ e same. lines_reason c.args.texts.now head.mark.now head.columns head.plan head.shard c.requires.first c.args.places.now c.requires.places c.args.number place text found c.text_at.ensures e
    (subst (λ p. RefusesLines text (header p) place e) c.shard_at-shard.ensures.same
    (subst (RefusesLines text (header c.shard_at-shard.result) place) (sym same) c.in_err-lines.ensures.refused)))

pub returns-clause-there : goal.returns-clause-there
returns-clause-there c =
    let head = c.args.head.now in
    record {
      found = sym c.place_of_run.ensures ∙ c.in-Some.is;
      text = _;
      there = c.text_at.ensures;
      written = c.in_ok-lines.ensures.there ∙ ap (λ p. shard_header head.columns head.mark.now head.plan p ++ c.in_ok-lines.lines.now) c.shard_at-shard.ensures.same;
    }
