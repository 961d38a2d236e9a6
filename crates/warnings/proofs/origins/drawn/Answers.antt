use Rattle.std.proofs.Common.{◌≡◌, ℕ, List, length, refl, ap, sym, subst, ◌∙◌}
use Rattle.script_reader.specs.Who.{member_total}
use Rattle.written_entries.specs.Ranges.{AreInRange}
use Rattle.expanded_text.proofs.Judged.{all_members}
use Rattle.warnings.proofs.origins.drawn.Goals as goal

pub expand_script-requires-clause-ranges : goal.expand_script-requires-clause-ranges
expand_script-requires-clause-ranges c =
    let groups = c.args.groups.now in
    let count : length c.as_slice-moments.result.now ≡ member_total groups =
    ap (λ (l : List ℕ). length l) c.as_slice-moments.ensures.value ∙ all_members groups groups _ refl c.in_ok-starts.ensures.count in
    subst (λ (n : ℕ). AreInRange n c.args.script.now) (sym count) c.requires
