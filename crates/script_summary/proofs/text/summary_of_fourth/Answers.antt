use Rattle.std.proofs.Common.{ℕ, List, subst}
use Rattle.std.proofs.lemmas.Result.{IfOk-weaker}
use Rattle.toml.specs.View.{view}
use Rattle.plain_entries.specs.Script.{lists_of}
use Rattle.written_names.specs.declared.roster.WrittenGroup.{WrittenGroup}
use Rattle.script_summary.specs.Summary.{IsSummaryOf, StandsFor, SumsUp}
use Rattle.script_summary.proofs.Stands.{returned, slow_by}
use Rattle.script_summary.proofs.text.summary_of_fourth.Goals as goal

pub summary-requires : goal.summary-requires
summary-requires c = returned (view c.args.tree.now) c.tick_of-tick.result c.as_slice.result.now (lists_of c.in_ok-plain.plain) c.in_ok-plain.ensures

pub returns : goal.returns
returns c =
    let d = view c.args.tree.now in
    let tick = c.tick_of-tick.result in
    let lists = lists_of c.in_ok-plain.plain in
    IfOk-weaker c.summary.result _ (IsSummaryOf d) (λ made sums. record {
      tick = tick;
      groups = c.in_ok-groups.groups.items;
      lists = lists;
      extras = c.in_ok-extras.extras.items;
      says = record { ticks = c.tick_of-tick.ensures.tick; named = c.in_ok-groups.ensures };
      stands = subst (λ (groups : List WrittenGroup). StandsFor d tick groups lists) c.as_slice.ensures.value c.in_ok-plain.ensures;
      slow = slow_by d tick c.in_ok-extras.extras.items c.in_ok-extras.ensures;
      sums = subst (λ (extras : List ℕ). SumsUp d lists extras made) c.as_slice-2.ensures.value sums;
    }) c.summary.ensures
