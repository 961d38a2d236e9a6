use Rattle.std.proofs.Common.{◌≡◌, ◌∙◌, ◌-◌, ◌+◌, List, ap, length, drop, take, map, subst}
use Rattle.toml.specs.View.{view}
use Rattle.plain_entries.specs.declared.plain.Plain.{Plain}
use Rattle.plain_entries.specs.declared.restarts.Restart.{Restart}
use Rattle.plain_entries.specs.Departures.{returns_of}
use Rattle.schema.specs.Tree.{items_at}
use Rattle.schema.specs.declared.schema.FormatKey.TheVariants as key
use Rattle.script_summary.specs.Entries.{AreOf}
use Rattle.script_summary.specs.Happenings.{of_restart}
use Rattle.script_summary.proofs.Parted.{crashes_next, leaves_last, own_first}
use Rattle.script_summary.proofs.summary.all_restarts.Goals as goal

pub returns : goal.returns
returns c =
    let d = view c.args.tree.now in
    let plain = c.args.plain.now in
    let rc = returns_of plain.crashes.items in
    let rl = returns_of plain.leaves.items in
    let n = c.count_back-crashes.result in
    let k = c.count_back-leaves.result in
    let all = c.as_slice-all.result.now in
    let whole = c.as_slice-all.ensures.value ∙ c.requires.whole in
    let nc = c.count_back-crashes.ensures.count ∙ ap (λ l. length (returns_of l)) c.as_slice.ensures.value in
    let nl = c.count_back-leaves.ensures.count ∙ ap (λ l. length (returns_of l)) c.as_slice-2.ensures.value in
    let back : c.split_at.result.1.now ≡ drop (length all - (n + k)) all = c.split_at.ensures.back in
    record {
      returns = c.requires;
      own = subst (λ (l : List (Plain Restart)). AreOf (items_at key.Restart d) (map of_restart l) c.in_ok-own.own.items)
          (c.split_at.ensures.front ∙ own_first all c.requires.own rc rl n k whole nc nl) c.in_ok-own.ensures;
      of_crashes = subst (λ (l : List (Plain Restart)). AreOf (items_at key.Crash d) (map of_restart l) c.in_ok-of_crashes.of_crashes.items)
          (c.split_at-2.ensures.front ∙ ap (take n) back ∙ crashes_next all c.requires.own rc rl n k whole nc nl) c.in_ok-of_crashes.ensures;
      of_leaves = subst (λ (l : List (Plain Restart)). AreOf (items_at key.Leave d) (map of_restart l) c.in_ok-of_leaves.of_leaves.items)
          (c.split_at-2.ensures.back ∙ ap (drop n) back ∙ leaves_last all c.requires.own rc rl n k whole nc nl) c.in_ok-of_leaves.ensures;
    }
