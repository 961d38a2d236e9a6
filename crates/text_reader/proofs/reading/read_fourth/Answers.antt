use Rattle.toml.specs.View.{view}
use Rattle.text_reader.proofs.Plain.{accepted_too, numbered_as_written, numbered_too, refused_as_written, refused_too}
use Rattle.text_reader.proofs.reading.read_fourth.Goals as goal

pub returns-in-Ok-clause-accepted : goal.returns-in-Ok-clause-accepted
returns-in-Ok-clause-accepted c =
    accepted_too (view c.args.tree.now) _ _ c.in-Ok.ensures.text c.in-Ok.ensures.kept c.as_bytes.ensures.value c.read.result c.with_seed.result c.number-seed.result
    c.read.ensures.accepted c.number-seed.ensures c.with_seed.ensures.accepted

pub returns-in-Ok-clause-refused : goal.returns-in-Ok-clause-refused
returns-in-Ok-clause-refused c =
    refused_too (view c.args.tree.now) _ _ c.in-Ok.ensures.text c.in-Ok.ensures.kept c.as_bytes.ensures.value c.read.result c.with_seed.result c.read.ensures.refused
    c.with_seed.ensures.refused

pub returns-in-Err-clause-refused : goal.returns-in-Err-clause-refused
returns-in-Err-clause-refused c =
    refused_as_written (view c.args.tree.now) c.in-Err.error _ c.refusal_of.ensures c.in-Err.ensures.refused c.in-Err.ensures.broken

pub returns-in-Ok-clause-numbered : goal.returns-in-Ok-clause-numbered
returns-in-Ok-clause-numbered c = numbered_too c.read.result c.with_seed.result c.read.ensures.numbered c.with_seed.ensures.other

pub returns-in-Err-clause-numbered : goal.returns-in-Err-clause-numbered
returns-in-Err-clause-numbered c =
    numbered_as_written (view c.args.tree.now) c.in-Err.error _ c.refusal_of.ensures c.in-Err.ensures.refused c.in-Err.ensures.broken
