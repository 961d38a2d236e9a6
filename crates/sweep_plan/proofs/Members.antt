-- What an insert into the map of a table is to its members.
use Rattle.std.proofs.Common.{◌≡◌, List, [], ◌∷◌, String, Global, Ordering, Less, Equal, Greater, string_bytes, refl, ◌∙◌}
use Rattle.std.specs.Ordering.{match_ordering}
use Rattle.std.specs.String.{string_cmp}
use Rattle.std.specs.BTreeMap.{insert_entry}
use Rattle.toml.specs.View.{view, members_view}
use Rattle.toml.specs.declared.value.Value.{Value}
use Rattle.toml.proofs.Views.{Entry}
use Rattle.sweep_plan.specs.Document.{put}

by_order : (o : Ordering) (a b more : List Entry) → members_view (match_ordering o a b more) ≡ match_ordering o (members_view a) (members_view b) (members_view more)
by_order Less a b more = refl
by_order Equal a b more = refl
by_order Greater a b more = refl

pub members_view-insert_entry : (es : List Entry) (k : String Global) (v : Value) → members_view (insert_entry string_cmp es k v) ≡ put (string_bytes k) (view v) (members_view es)
members_view-insert_entry [] k v = refl
members_view-insert_entry (e ∷ es) k v = by_order (string_cmp k e.0) _ _ _ ∙ rw (members_view-insert_entry es k v)
