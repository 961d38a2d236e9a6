use Rattle.std.proofs.Common.{◌≡◌, ℕ, List, length, refl, ap, sym, subst, ◌∙◌, arith}
use Rattle.toml.specs.View.{view}
use Rattle.plain_entries.specs.Entries.{start_in}
use Rattle.plain_entries.specs.Script.{plain_of}
use Rattle.script_draws.specs.Turns.{text_words}
use Rattle.script_reader.specs.Who.{member_total}
use Rattle.written_entries.specs.Ranges.{AreInRange}
use Rattle.expanded_text.specs.Rule.{seed_in, starts_of}
use Rattle.expanded_text.proofs.Judged.{all_members}
use Rattle.script_summary.proofs.text.drawn.Goals as goal

pub expand_script-requires-clause-members : goal.expand_script-requires-clause-members
expand_script-requires-clause-members c =
    let groups = c.args.groups.now in
    let count : length c.as_slice-moments.result.now ≡ member_total groups =
    ap (λ (l : List ℕ). length l) c.as_slice-moments.ensures.value ∙ all_members groups groups _ refl c.in_ok-starts.ensures.count in
    omega (arith, count, c.requires.few)

pub expand_script-requires-clause-ranges : goal.expand_script-requires-clause-ranges
expand_script-requires-clause-ranges c =
    let groups = c.args.groups.now in
    let count : length c.as_slice-moments.result.now ≡ member_total groups =
    ap (λ (l : List ℕ). length l) c.as_slice-moments.ensures.value ∙ all_members groups groups _ refl c.in_ok-starts.ensures.count in
    subst (λ (n : ℕ). AreInRange n c.args.script.now) (sym count) c.requires.ranges

pub returns-in-Ok : goal.returns-in-Ok
returns-in-Ok c =
    let starts : c.as_slice-moments.result.now ≡ starts_of c.args.groups.now = c.as_slice-moments.ensures.value ∙ c.in_ok-starts.ensures.starts in
    let seed : c.number-seed.result ≡ seed_in (view c.args.tree.now) = c.number-seed.ensures in
    c.in-Ok.ensures.made ∙ (λ i. plain_of (start_in (starts i)) c.args.script.now (text_words (seed i)))
