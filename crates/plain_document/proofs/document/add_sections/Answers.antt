use Rattle.toml.specs.View.{view}
use Rattle.plain_document.specs.Order.{section_of}
use Rattle.plain_document.proofs.Walks.{next_section}
use Rattle.plain_document.proofs.document.add_sections.Goals as goal

pub loop-section-preserved : goal.loop-section-preserved
loop-section-preserved c =
    next_section section_of c.args.tick (view c.args.document.now) c.args.parts.now c.args.sections.now c.loop-section.section-index c.section-item.result _ _ _
    c.loop-section-test.true c.section-item.is c.loop-section.invariant c.in_ok-add_section.ensures
