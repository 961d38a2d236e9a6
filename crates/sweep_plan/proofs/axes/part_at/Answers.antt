use Rattle.std.proofs.Common.{List, [], ℕ, Bor, Option, option_map, unwrap_or, sym, ap, ◌∙◌, lit<}
use Rattle.std.proofs.lemmas.Iterator.Consumers.{nth_from_yields_List}
use Rattle.std.proofs.lemmas.Iterator.Splits.{YieldsList-from_str_split}
use Rattle.std.proofs.lemmas.Option.{get_or_from_slice_get, unwrap_or-slice_get}
use Rattle.sweep_plan.specs.Asked.{parts_of}
use Rattle.sweep_plan.proofs.axes.part_at.Goals as goal

pub returns-in-Some : goal.returns-in-Some
returns-in-Some c =
    let item = c.args.item.now in
    let parts = YieldsList-from_str_split {s = c.split.result} 43 item (lit< tt) c.split.ensures.text c.split.ensures.has_more c.split.ensures.pattern in
    let nth = nth_from_yields_List c.nth.result _ c.args.place c.nth.ensures.ran parts in
    sym (get_or_from_slice_get (parts_of item) c.args.place c.in-Some.part.now [] (sym nth ∙ ap (option_map (λ (x : Bor (List ℕ)). x.now)) c.in-Some.is))

pub returns-in-None : goal.returns-in-None
returns-in-None c =
    let item = c.args.item.now in
    let parts = YieldsList-from_str_split {s = c.split.result} 43 item (lit< tt) c.split.ensures.text c.split.ensures.has_more c.split.ensures.pattern in
    let nth = nth_from_yields_List c.nth.result _ c.args.place c.nth.ensures.ran parts in
    sym (sym (unwrap_or-slice_get (parts_of item) c.args.place []) ∙ ap (λ (o : Option (List ℕ)). unwrap_or o []) (sym nth ∙ ap (option_map (λ (x : Bor (List ℕ)). x.now)) c.in-None.is))
