use Rattle.table_merge.proofs.Reading.{slice_starts}
use Rattle.table_merge.proofs.lines.starts_of_setting.Goals as goal

pub returns : goal.returns
returns c = slice_starts c.args.number c.count_of-each.result _ c.args.table.now.starts.items c.deref.result.now c.count_of-each.ensures c.deref.ensures.value
