use Rattle.std.proofs.Common.{refl, sym, ap, ◌∙◌, subst, arith}
use Rattle.scenario.specs.Spells.{HaveBegun}
use Rattle.scenario.specs.declared.settings.Cut.{Cut}
use Rattle.links.specs.Entries.{outages_in}
use Rattle.links.proofs.Maps.{cut_more, begun_more}
use Rattle.links.proofs.outages.list_outages.Goals as goal

pub loop-cut-preserved : goal.loop-cut-preserved
loop-cut-preserved c =
    let old = c.loop-cut.outages.entries in
    let new = c.add.new.outages.entries in
    let cs = c.args.cuts.now in
    let cut = c.cut-item.result in
    record {
      same = cut_more old new cs c.loop-cut.cut-index c.ticks-from.result c.ticks-until.result (cut.from, cut.to) cut c.loop-cut-test.true c.cut-item.is refl refl c.ticks-from.ensures c.ticks-until.ensures
          c.in_ok-add.ensures.here c.in_ok-add.ensures.others c.in_ok-add.ensures.begun c.loop-cut.invariant.same;
      begun = begun_more old new cs c.loop-cut.cut-index c.ticks-from.result c.ticks-until.result (cut.from, cut.to) cut c.loop-cut-test.true c.cut-item.is refl refl c.ticks-from.ensures c.ticks-until.ensures
          c.in_ok-add.ensures.here c.in_ok-add.ensures.others c.in_ok-add.ensures.begun c.requires.rising c.loop-cut.invariant.begun;
    }

pub add-requires : goal.add-requires
add-requires c =
    let cut = c.cut-item.result in
    record {
      begun = subst (HaveBegun (outages_in c.loop-cut.outages.entries cut.from cut.to)) (sym (c.ticks-from.ensures ∙ ap (λ (q : Cut). q.at) c.cut-item.is))
          (c.loop-cut.invariant.begun cut.from cut.to c.loop-cut.cut-index cut (omega arith) c.loop-cut-test.true);
    }
