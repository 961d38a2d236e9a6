use Rattle.std.proofs.Common.{◌≡◌, ◌<◌, Some, sym, ap, ◌∙◌, arith}
use Rattle.scenario.specs.Setup.{member_count}
use Rattle.std.specs.Option.{unwrap_or}
use Rattle.links.specs.Least.{lesser_of}
use Rattle.lookahead.specs.Between.{part_number}
use Rattle.lookahead.specs.Lengths.{length_at}
use Rattle.lookahead.proofs.Writing.{IsWritten}
use Rattle.lookahead.proofs.Linking.{link_within, link_taken}
use Rattle.lookahead.proofs.direct.take_link.Goals as goal

pub returns-then-from_part-to_part : goal.returns-then-from_part-to_part
returns-then-from_part-to_part c =
    let deal = c.args.division.now in
    let of_from : part_number deal c.args.from ≡ c.part-from_part.result = ap (λ o. unwrap_or o deal.parts) c.part-from_part.ensures.value in
    let of_to : part_number deal c.args.to ≡ c.part-to_part.result = ap (λ o. unwrap_or o deal.parts) c.part-to_part.ensures.value in
    λ s serve one_each are.
    link_within deal.parts s c.requires.parts (part_number deal) c.args.from c.args.to c.args.lengths.now are (of_from ∙ c.if-from_part-to_part.true ∙ sym of_to)
    (omega (arith, of_to, c.part-to_part.ensures.below))

pub returns : goal.returns
returns c =
    let deal = c.args.division.now in
    let from = c.args.from in
    let to = c.args.to in
    let p = c.part-from_part.result in
    let q = c.part-to_part.result in
    let old = c.args.lengths.now in
    let of_from : part_number deal from ≡ p = ap (λ o. unwrap_or o deal.parts) c.part-from_part.ensures.value in
    let of_to : part_number deal to ≡ q = ap (λ o. unwrap_or o deal.parts) c.part-to_part.ensures.value in
    let lesser : c.lesser_length-delay.result ≡ lesser_of (length_at old p q) (Some c.delay.result) = c.lesser_length-delay.ensures ∙ ap (λ o. lesser_of o (Some c.delay.result)) c.at.ensures in
    let written : IsWritten p q (lesser_of (length_at old p q) (Some c.delay.result)) old c.put.new.self = record { here = c.put.ensures.here ∙ lesser; others = c.put.ensures.others } in
    λ s serve one_each are.
    let here : from < member_count s = omega (arith, c.requires.from, one_each) in
    let there : to < member_count s = omega (arith, c.requires.to, one_each) in
    link_taken deal.parts s c.requires.parts (part_number deal) from to old are c.put.new.self p q c.delay.result here there of_from of_to c.if-from_part-to_part.false
    (omega (arith, c.part-to_part.ensures.below)) c.delay.ensures.bounded.1 (c.delay.ensures.value s serve here there) written
