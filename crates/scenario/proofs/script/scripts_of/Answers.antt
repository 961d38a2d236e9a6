use Rattle.std.proofs.Common.{◌≡◌, ◌++◌, ℕ, List, Vec, Global, map, ap, ◌∙◌, append_assoc}
use Rattle.std.specs.List.{filter}
use Rattle.std.proofs.lemmas.Result.{IfOk-weaker}
use Rattle.scenario.specs.Script.{by_moment, crash_event, leave_event, restart_event, entries_in, is_of, script_in}
use Rattle.scenario.specs.Scripts.{script_at}
use Rattle.scenario.specs.declared.script.ScriptEvent.{ScriptEvent}
use Rattle.scenario.proofs.script.scripts_of.Goals as goal

pub returns : goal.returns
unfolding script_in
returns c =
    let crashes = map crash_event c.args.crashes.now in
    let leaves = map leave_event c.args.leaves.now in
    let restarts = map restart_event c.args.restarts.now in
    let all : c.as_slice.result.now ≡ by_moment (entries_in c.args.crashes.now c.args.leaves.now c.args.restarts.now) =
    c.as_slice.ensures.value ∙ c.in_ok-sort.ensures
    ∙ ap by_moment (c.in_ok-add_restarts.ensures ∙ ap (λ (l : List ScriptEvent). l ++ restarts) (c.in_ok-add_leaves.ensures
    ∙ ap (λ (l : List ScriptEvent). l ++ leaves) (c.in_ok-add_crashes.ensures ∙ ap (λ (l : List ScriptEvent). l ++ crashes) c.new-events.ensures.items)) ∙ append_assoc crashes leaves restarts) in
    IfOk-weaker c.deal.result (λ scripts. (m : ℕ) → script_at scripts.items m ≡ filter (is_of m) c.as_slice.result.now)
    (λ scripts. (m : ℕ) → script_at scripts.items m ≡ script_in c.args.crashes.now c.args.leaves.now c.args.restarts.now m) (λ scripts dealt m. dealt m ∙ ap (filter (is_of m)) all) c.deal.ensures
