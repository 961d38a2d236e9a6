use Rattle.std.proofs.Common.{length, subst, sym}
use Rattle.decimals.specs.Items.{list_items}
use Rattle.sweep_plan.specs.Asked.{AreColumns}
use Rattle.sweep_plan.proofs.Columns.{axis_read, its_columns, its_names, refused_columns, refused_names, unparted}
use Rattle.sweep_plan.proofs.axes.read_axis.Goals as goal

pub returns-in_default-clause-refused : goal.returns-in_default-clause-refused
returns-in_default-clause-refused c axis are = unparted c.args.word.now axis are c.split_once.result c.in_default.is c.split_once.ensures.cases

pub returns-in-Err-clause-refused : goal.returns-in-Err-clause-refused
returns-in-Err-clause-refused c =
    refused_names c.args.word.now c.in-Some.names.now c.in-Err.fault
    (λ axis are. its_names c.args.word.now axis are c.split_once.result c.in-Some.names c.in-Some.list c.in-Some.is c.split_once.ensures.cases) c.in-Err.ensures.refused

pub returns-in-Ok-read_columns-clause-read : goal.returns-in-Ok-read_columns-clause-read
returns-in-Ok-read_columns-clause-read c =
    axis_read c.args.word.now c.in-Some.names c.in-Some.list c.split_once.result c.in-Ok.keys.items c.in-Ok-read_columns.axis.items c.in-Some.is c.split_once.ensures.cases c.in-Ok.ensures.read
    (subst (λ keys. AreColumns (length keys) keys (list_items c.in-Some.list.now) c.in-Ok-read_columns.axis.items) c.as_slice.ensures.value c.in-Ok-read_columns.ensures.read)

pub returns-clause-refused : goal.returns-clause-refused
returns-clause-refused c =
    refused_columns c.args.word.now c.in-Some.list.now c.as_slice.result.now c.in-Err-read_columns.fault
    (λ axis are. subst (λ keys. AreColumns (length keys) keys (list_items c.in-Some.list.now) axis) (sym c.as_slice.ensures.value)
    (its_columns c.args.word.now axis are c.split_once.result c.in-Some.names c.in-Some.list c.in-Some.is c.split_once.ensures.cases c.in-Ok.keys.items c.in-Ok.ensures.read)) c.in-Err-read_columns.ensures.refused
