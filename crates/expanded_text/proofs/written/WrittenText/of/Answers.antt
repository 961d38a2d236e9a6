use Rattle.std.proofs.Common.{◌≢◌, ℕ, List, map, subst}
use Rattle.toml.specs.View.{view}
use Rattle.script_reader.specs.Script.{IsScriptIn}
use Rattle.written_names.specs.Roster.{group_of}
use Rattle.written_names.specs.declared.roster.WrittenGroup.{WrittenGroup}
use Rattle.written_schema.specs.Lowest.{no_rule}
use Rattle.expanded_text.specs.Rule.{IfRefused, IsWrittenRule}
use Rattle.expanded_text.proofs.Judged.{is_broken, refused_written}
use Rattle.expanded_text.proofs.written.WrittenText.of.Goals as goal

pub returns-in-Ok-clause-read : goal.returns-in-Ok-clause-read
returns-in-Ok-clause-read c =
    let d = view c.args.document.now in
    let tick = c.tick_of-tick.result in
    record {
      range = c.tick_of-tick.ensures.range;
      says = record { ticks = c.tick_of-tick.ensures.tick; named = c.in_ok-groups.ensures };
      fine = subst (λ (groups : List WrittenGroup). IsWrittenRule tick groups d no_rule) c.as_slice.ensures.value c.in-Ok.ensures.kept;
      read = subst (λ (groups : List WrittenGroup). IsScriptIn tick d (map group_of groups) groups c.in-Ok.script) c.as_slice.ensures.value c.in-Ok.ensures.read;
    }

pub returns-in-Err-clause-refused : goal.returns-in-Err-clause-refused
returns-in-Err-clause-refused c =
    let d = view c.args.document.now in
    let tick = c.tick_of-tick.result in
    refused_written d tick c.in_ok-groups.groups.items (record { ticks = c.tick_of-tick.ensures.tick; named = c.in_ok-groups.ensures }) c.in-Err.error
    (subst (λ (groups : List WrittenGroup). IfRefused (λ (rule : ℕ). (rule ≢ no_rule) × IsWrittenRule tick groups d rule) c.in-Err.error) c.as_slice.ensures.value c.in-Err.ensures.refused)

pub returns-in-Err-clause-broken : goal.returns-in-Err-clause-broken
returns-in-Err-clause-broken c =
    let d = view c.args.document.now in
    let tick = c.tick_of-tick.result in
    is_broken d tick c.in_ok-groups.groups.items (record { ticks = c.tick_of-tick.ensures.tick; named = c.in_ok-groups.ensures }) c.in-Err.error
    (subst (λ (groups : List WrittenGroup). IfRefused (λ (rule : ℕ). (rule ≢ no_rule) × IsWrittenRule tick groups d rule) c.in-Err.error) c.as_slice.ensures.value c.in-Err.ensures.refused)
