use Rattle.std.proofs.Common.{rules}
use Rattle.toml.specs.declared.value.Value.{the_lemmas}
use Rattle.plain_document.proofs.Ordered.{none_once}
use Rattle.plain_document.proofs.order.names.Goals as goal

pub returns-in_default : goal.returns-in_default
returns-in_default c = record { all = grind (rules, the_lemmas); once = none_once c.new.result.items c.new.ensures.items }
