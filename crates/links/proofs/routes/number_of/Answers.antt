use Rattle.std.proofs.Common.{◌≡◌, ◌<◌, Some, slice_get, length, ap, ◌∙◌, arith, rules}
use Rattle.links.specs.Entries.{numbered}
use Rattle.links.proofs.Maps.{numbered_last, numbered_there, keeps_behind}
use Rattle.links.proofs.routes.number_of.Goals as goal

pub returns-in-Some-clause-numbered : goal.returns-in-Some-clause-numbered
returns-in-Some-clause-numbered c =
    let found : (c.in-Some.place < length c.args.links.now.items) × (slice_get c.args.links.now.items c.in-Some.place ≡ Some c.args.link) = search rules in
    let within = found.0 in
    (omega (arith, within), numbered_there c.args.links.now.items c.args.link c.in-Some.place found.1)

pub returns-clause-kept : goal.returns-clause-kept
returns-clause-kept c = keeps_behind c.args.links.now.items c.push.new.self.items c.args.link c.in_ok-push.ensures.items

pub returns-clause-numbered : goal.returns-clause-numbered
returns-clause-numbered c =
    let counted : c.len.result ≡ length c.push.new.self.items = search rules in (
      omega (arith, counted),
      ap (λ ls. numbered ls c.len.result) c.in_ok-push.ensures.items
          ∙ numbered_last c.args.links.now.items c.args.link c.len.result (counted ∙ ap length c.in_ok-push.ensures.items),
    )
