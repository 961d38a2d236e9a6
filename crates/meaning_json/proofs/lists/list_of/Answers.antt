use Rattle.serde_json.proofs.Views.{view-Array}
use Rattle.meaning_json.proofs.lists.list_of.Goals as goal

pub returns : goal.returns
returns c = view-Array c.args.values
