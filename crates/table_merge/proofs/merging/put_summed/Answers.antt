use Rattle.std.proofs.Common.{◌∙◌, subst, rules}
use Rattle.std.specs.Io.KnownBytes.{Appends}
use Rattle.table_merge.proofs.Puts.{must_cut, resummed_line}
use Rattle.table_merge.proofs.merging.put_summed.Goals as goal

pub unreachable-requires : goal.unreachable-requires
unreachable-requires g c = must_cut c.args.line.now c.requires.line (c.cut_at.ensures.none (search rules))

pub returns-in-Ok-clause-put : goal.returns-in-Ok-clause-put
returns-in-Ok-clause-put g c l sound is =
    let cut = rw c.in-Some.is at c.cut_at.ensures.some in
    subst (Appends (g.S.Sink.held c.args.sink.now) (g.S.Sink.held c.put_all.new.sink))
    (c.deref.ensures.value ∙ c.in_ok-whole.ensures ∙ resummed_line c.args.key.now c.args.line.now c.in-Some._sum.now c.in-Some.rest.now l sound is cut) c.in-Ok.ensures.whole
