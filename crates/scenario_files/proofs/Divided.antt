-- Each member has its part in a division that words ask for.
use Rattle.std.proofs.Common.{◌≡◌, ◌∙◌, ◌%◌, ℕ, length, decimal, ap, sym}
use Rattle.std.proofs.lemmas.List.{length-map}
use Rattle.std.proofs.lemmas.List.FromFn.{length-map-range_with_len}
use Rattle.scenario.specs.Division.{Deal}
use Rattle.command_line.specs.Division.{Divides}
use Rattle.command_line.specs.declared.words.Split.{Split}
use Rattle.command_line.specs.declared.words.Split.TheVariants as split

pub each_has_a_part : (members workers : ℕ) (asked : Split) (deal : Deal) → Divides members workers asked deal → length deal.part_of ≡ members
each_has_a_part members workers split.Workers deal is =
    ap (λ (d : Deal). length d.part_of) is ∙ length-map-range_with_len (λ m. m % workers) 0 members
each_has_a_part members workers (split.Parts word) deal is =
    ap (λ (d : Deal). length d.part_of) is.2 ∙ length-map-range_with_len (λ m. m % is.0) 0 members
each_has_a_part members workers (split.List list) deal is =
    sym (length-map deal.part_of decimal) ∙ (ap length is.listed.written ∙ is.each)
