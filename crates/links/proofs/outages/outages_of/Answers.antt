use Rattle.std.proofs.Common.{sym, ap, ◌∙◌}
use Rattle.std.specs.List.{list_any}
use Rattle.std.proofs.lemmas.List.Sorted.{list_any-IsPermutation}
use Rattle.std.proofs.lemmas.Result.{IfOk-weaker}
use Rattle.scenario.specs.Setup.{cuts_off}
use Rattle.links.proofs.outages.outages_of.Goals as goal

pub returns : goal.returns
returns c =
    let cs = c.args.cuts.now in
    IfOk-weaker c.list_outages.result _ _ (λ outages kept from to t.
    kept from to t ∙ ap (list_any (cuts_off from to t)) c.as_slice.ensures.value
    ∙ sym (list_any-IsPermutation (cuts_off from to t) cs c.in_ok-sorted.sorted.items c.in_ok-sorted.ensures.same)) c.list_outages.ensures
