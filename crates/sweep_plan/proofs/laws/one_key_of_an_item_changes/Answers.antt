use Rattle.sweep_plan.specs.Items.{item_text}
use Rattle.sweep_plan.proofs.Puts.{items_set, keys_kept, text_kept, value_set}
use Rattle.sweep_plan.proofs.laws.one_key_of_an_item_changes.Goals as goal

pub returns-clause-text : goal.returns-clause-text
returns-clause-text c tree d t u k item other = text_kept tree d t u k (item_text item) other

pub returns-clause-items : goal.returns-clause-items
returns-clause-items c tree d t k item = items_set tree d t k (item_text item)

pub returns-clause-keys : goal.returns-clause-keys
returns-clause-keys c one d meant k u other = keys_kept one d meant k u other

pub returns-clause-value : goal.returns-clause-value
returns-clause-value c members d k = value_set members d k
