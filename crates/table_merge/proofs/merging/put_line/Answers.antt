use Rattle.std.proofs.Common.{◌∙◌, ◌-◌, length, take}
use Rattle.sweep.proofs.Handing.{on_ok_then}
use Rattle.table_merge.proofs.Puts.{line_read_put}
use Rattle.table_merge.proofs.merging.put_line.Goals as goal

pub returns-clause-put : goal.returns-clause-put
returns-clause-put g c =
    let read = c.in-Ok.ensures.read in
    let line = c.before-line.ensures ∙ (λ i. take (length (c.as_bytes.ensures.value i) - length c.in-Ok.left.now) (c.as_bytes.ensures.value i)) in
    on_ok_then _ _ c.put_summed.result c.put_summed.ensures.put
    (λ put. line_read_put c.args.start.now c.in-Ok.left.now read.begins c.args.key.now c.args.gathering.now c.read_line.new.gathering (g.S.Sink.held c.args.sink.now) (g.S.Sink.held c.put_summed.new.sink)
    c.before-line.result.now line read.gathered put)
