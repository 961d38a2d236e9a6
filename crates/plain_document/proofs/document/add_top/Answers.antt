use Rattle.std.proofs.Common.{string_bytes, []}
use Rattle.toml.specs.View.{view}
use Rattle.plain_document.specs.declared.keys.Way.TheVariants.{Straight}
use Rattle.plain_document.specs.declared.order.SectionOrder.{SectionOrder}
use Rattle.plain_document.proofs.Plain.{next_key}
use Rattle.plain_document.proofs.document.add_top.Goals as goal

pub loop-section-preserved : goal.loop-section-preserved
loop-section-preserved c =
    next_key (λ (s : SectionOrder). string_bytes s.name) c.args.tick [] Straight (view c.args.document.now) c.args.sections.now c.loop-section.section-index c.section-item.result _ _ _ _
    c.loop-section-test.true c.section-item.is c.as_str.ensures.value c.loop-section.invariant c.in_ok-add_pair.ensures
