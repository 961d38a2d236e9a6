use Rattle.std.proofs.Common.{ap, ◌∙◌}
use Rattle.std.specs.FinMap.{contains_key}
use Rattle.windows.specs.WorldOf.{states_in}
use Rattle.windows.proofs.Slots.{has_place}
use Rattle.windows.proofs.own_members.OwnMembers.has.Goals as goal

pub returns : goal.returns
returns c =
    let own = c.args.self.now in
    c.is_some.ensures ∙ has_place own.places.items own.members.items c.index.result c.place_of.result c.place_of.ensures ∙ ap (contains_key (states_in own)) c.index.ensures
