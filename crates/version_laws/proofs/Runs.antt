-- Runs of a scenario by versions 1 and 2.
use Rattle.std.proofs.Common.{◌≡◌, ◌≤◌, ◌^◌, List, ap, subst, sym, refl, ◌∙◌}
use Rattle.base.proofs.Rising.{all_weaker}
use Rattle.base.specs.World.{Run, SequentialRun}
use Rattle.base.specs.declared.key.Key.{Key}
use Rattle.schema.specs.declared.schema.Version.{Version}
use Rattle.schema.specs.declared.schema.Version.TheVariants.{One, Two, Three, Four}
use Rattle.std.specs.List.{list_all}
use Rattle.scenario.specs.GroupNames.{is_name_of}
use Rattle.scenario.specs.Setup.{Setup, Group, extra_by, entries_of, IsBeforeThird, IsBeforeFourth, IsSound, IsSoundEvent}
use Rattle.trace.specs.declared.row.Row.{Row}
use Rattle.trace.specs.Text.{line_of, trace_text}
use Rattle.member.specs.Opening.{opening}
use Rattle.member.specs.Step.{step}
use Rattle.member_laws.specs.Runs.{Cluster, IsRunOf, CounterOverflows}
use Rattle.version_laws.specs.Versions.{in_version_2}
use Rattle.version_laws.proofs.Steps.{in_version_1, same_opening, same_step}

module _ (s : Setup) (first : s.version ≡ One) where
  -- a scenario of version 1 is itself by version 1
  pub by_version_1 : s ≡ in_version_1 s
  by_version_1 = λ i. record s { version = first i }

  step_alike : step s ≡ step (in_version_2 s)
  step_alike = ap step by_version_1 ∙ same_step s

  opening_alike : opening s ≡ opening (in_version_2 s)
  opening_alike = ap opening by_version_1 ∙ same_opening s

  runs_alike : (rows : List Row) → IsRunOf s rows ≡ IsRunOf (in_version_2 s) rows
  runs_alike rows = λ i. (keys : List Key) × SequentialRun (step_alike i) s.end (opening_alike i) keys rows

  comes_alike : (keys : List Key) (rows : List Row) (w : Cluster) → Run (step s) s.end (opening s) keys rows w ≡ Run (step (in_version_2 s)) s.end (opening (in_version_2 s)) keys rows w
  comes_alike keys rows w = λ i. Run (step_alike i) s.end (opening_alike i) keys rows w

  pub run_stays : (rows : List Row) → IsRunOf s rows → IsRunOf (in_version_2 s) rows
  run_stays rows run = subst (λ (A : Type 0). A) (runs_alike rows) run

  pub run_was : (rows : List Row) → IsRunOf (in_version_2 s) rows → IsRunOf s rows
  run_was rows run = subst (λ (A : Type 0). A) (sym (runs_alike rows)) run

  pub wears : CounterOverflows s → CounterOverflows (in_version_2 s)
  wears w = record {
    keys = w.keys;
    rows = w.rows;
    world = w.world;
    reached = subst (λ (A : Type 0). A) (comes_alike w.keys w.rows w.world) w.reached;
    number = w.number;
    member = w.member;
    there = w.there;
    overflow = w.overflow;
  }

  pub wore : CounterOverflows (in_version_2 s) → CounterOverflows s
  wore w = record {
    keys = w.keys;
    rows = w.rows;
    world = w.world;
    reached = subst (λ (A : Type 0). A) (sym (comes_alike w.keys w.rows w.world)) w.reached;
    number = w.number;
    member = w.member;
    there = w.there;
    overflow = w.overflow;
  }

pub same_trace : (s : Setup) (rows : List Row) → trace_text (in_version_2 s) rows ≡ trace_text s rows
unfolding line_of
same_trace s rows = refl

abbrev IsTwo : Version → Type 0
IsTwo One = ⊥
IsTwo Two = Unit {0}
IsTwo Three = ⊥
IsTwo Four = ⊥

pub stays_sound : (s : Setup) → IsSound s → s.version ≡ One → IsSound (in_version_2 s)
stays_sound s sound first = record {
  end = sound.end;
  period = sound.period;
  timeout = sound.timeout;
  helpers = sound.helpers;
  carry = sound.carry;
  lambda = sound.lambda;
  spread = sound.spread;
  alpha = sound.alpha;
  beta = sound.beta;
  ceiling = sound.ceiling;
  confirmations = sound.confirmations;
  nack_percent = sound.nack_percent;
  delay = sound.delay;
  jitter = sound.jitter;
  loss = sound.loss;
  between = sound.between;
  names = ap (λ v. list_all (λ (g : Group). is_name_of v g.name) s.groups) (sym first) ∙ sound.names;
  members = sound.members;
  starts = sound.starts;
  contacts = λ m here. let contact = sound.contacts m here in record { none = contact.none; some = contact.some };
  crashes = sound.crashes;
  extras = λ m t. subst (λ v. extra_by v s.slows m t ≤ 2 ^ 24) first (sound.extras m t);
  leaves = sound.leaves;
  cuts = sound.cuts;
  first = λ is. absurd (subst IsTwo is tt);
  gossip = sound.gossip;
  connect = sound.connect;
  again = sound.again;
  pauses = sound.pauses;
  before_third = λ _. let without = sound.before_third (subst IsBeforeThird (sym first) tt) in record { fallback = without.fallback; gossip = without.gossip; pauses = without.pauses };
  events = all_weaker (IsSoundEvent s) (IsSoundEvent (in_version_2 s)) (λ e fine. record { after = fine.after; small = fine.small; contact = fine.contact }) (entries_of s) sound.events;
  blocks = sound.blocks;
  queue = sound.queue;
  limit = sound.limit;
  retry = sound.retry;
  serf = sound.serf;
  before_fourth = λ _.
      let without = sound.before_fourth (subst IsBeforeFourth (sym first) tt) in
      record { restarts = without.restarts; blocks = without.blocks; queue = without.queue; serf = without.serf; once = without.once };
}
