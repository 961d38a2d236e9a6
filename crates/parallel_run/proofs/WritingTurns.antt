-- How who writes the rows of a run goes on from turn to turn.
use Rattle.std.proofs.Common.{◌≡◌, ◌≢◌, ◌+◌, ◌<◌, ℕ, true, All, List, [], ◌++◌, Option, Some, Result, Ok, Err, zero-le, ◌∙◌, sym, subst, arith}
use Rattle.std.specs.Result.{IfOk, OnOk, IfErr}
use Rattle.std.specs.Bool.{OnTrue}
use Rattle.std.proofs.lemmas.Option.{same_Some}
use Rattle.base.specs.declared.fault.Fault.{Fault}
use Rattle.base.specs.declared.fault.Fault.TheVariants.{CounterOverflow, Write}
use Rattle.scenario.specs.Setup.{Setup, IsSound}
use Rattle.trace.specs.declared.row.Row.{Row}
use Rattle.trace.specs.Text.{NamesMembers}
use Rattle.member.specs.Opening.{opening}
use Rattle.member_laws.specs.Runs.{IsRunOf, CounterOverflows}
use Rattle.turns.specs.Beginning.{BeginsRun}
use Rattle.turns.proofs.Goes.{names_next}
use Rattle.lookahead_windows.proofs.Worlds.{opening_before, beginning_before}
use Rattle.run_output.specs.Written.{sink_failures, HasWritten}
use Rattle.run_output.specs.Traced.{KeepsTrace}
use Rattle.run_output.proofs.Runs.{some_run}
use Rattle.lookahead_windows.specs.Basis.{Basis, IsBasis}
use Rattle.parallel_run.specs.declared.batches.MergedBatch.{MergedBatch}
use Rattle.parallel_run.specs.Messages.{MayEndBy}
use Rattle.parallel_run.specs.Writing.{HasComeTo, IsNextTurn, fault_beside}
use Rattle.sequential_run.proofs.Endings.{comes_to}
use Rattle.parallel_run.proofs.EndingsOfRuns.{breaks_off}

-- a run goes by one basis
pub one_basis : (given : Option Basis) (a b : Basis) → given ≡ Some a → given ≡ Some b → a ≡ b
one_basis given a b x y = same_Some a b (sym x ∙ y)

-- The lots of so many workers are those of a run, and its rows before a moment were written and tallied; after a fault a beginning of them.
pub record IsWriting (given : Option Basis) (s : Setup) (count since : ℕ) (held_old held_new : Option (List ℕ)) (failed_old failed_new : ℕ) (tallied : List Row) (outcome : Result (Unit {0}) Fault) : Type 0 where
  pub basis : Basis
  pub known : given ≡ Some basis
  pub sound : IsBasis basis
  pub one : s ≡ basis.setup
  pub workers : count ≡ basis.deal.parts
  pub before : List Row
  pub come : HasComeTo basis since before
  pub written : HasWritten s before held_old held_new tallied outcome
  pub failures : failed_new ≡ failed_old + sink_failures outcome

-- who writes begins
pub begins : (given : Option Basis) (s : Setup) (count : ℕ) (held_old held_new : Option (List ℕ)) (failed_old failed_new : ℕ) (tallied : List Row) (outcome : Result (Unit {0}) Fault) (basis : Basis)
    → given ≡ Some basis → IsBasis basis → s ≡ basis.setup → count ≡ basis.deal.parts → tallied ≡ [] → HasWritten s [] held_old held_new [] outcome → failed_new ≡ failed_old + sink_failures outcome
    → IsWriting given s count 0 held_old held_new failed_old failed_new tallied outcome
begins given s count held_old held_new failed_old failed_new tallied outcome basis known sound one workers none written failures = record {
  basis = basis;
  known = known;
  sound = sound;
  one = one;
  workers = workers;
  before = [];
  come = ([], opening basis.setup, opening_before basis.setup 0 (λ q here. zero-le));
  written = subst (λ l. HasWritten s [] held_old held_new l outcome) (sym none) written;
  failures = failures;
}

module _ (given : Option Basis) (s : Setup) (count since : ℕ) (held_old held_new : Option (List ℕ)) (failed_old failed_new : ℕ) (tallied : List Row) (outcome : Result (Unit {0}) Fault)
    (on : IsWriting given s count since held_old held_new failed_old failed_new tallied outcome) where
  -- what taking a turn asks
  pub takes : (basis : Basis) → given ≡ Some basis → IsBasis basis × (count ≡ basis.deal.parts)
  takes basis known = subst (λ (b : Basis). IsBasis b × (count ≡ b.deal.parts)) (one_basis given on.basis basis on.known known) (on.sound, on.workers)

  is_sound : IsSound s
  is_sound = subst IsSound (sym on.one) on.sound.plan.sound

  -- rows up to a moment are the first of the run
  begun : (t : ℕ) (rows : List Row) → HasComeTo on.basis t rows → BeginsRun s rows
  begun t rows come =
      let run = some_run on.basis.setup on.sound.plan.sound in
      subst (λ t. BeginsRun t rows) (sym on.one) (run.0, run.1, beginning_before on.basis.setup on.sound.plan.sound t rows run.0 come run.1)

  -- a fault comes by which a worker may end
  pub ends_by : (fault : Fault) → ((basis : Basis) → given ≡ Some basis → MayEndBy basis fault) → KeepsTrace s held_old held_new failed_old failed_new (Err (fault_beside outcome fault))
  ends_by fault may = breaks_off s on.before tallied held_old held_new failed_old failed_new outcome fault (begun since on.before on.come) on.written on.failures (subst (λ t. (fault ≡ CounterOverflow → CounterOverflows t) × (fault ≢ Write)) (sym on.one) (may on.basis on.known))

  -- a failure more can still be counted
  pub countable : (n : ℕ) → failed_old < n → OnOk outcome (failed_new < n)
  countable n few = by_outcome outcome on.failures
    where
      by_outcome : (o : Result (Unit {0}) Fault) → failed_new ≡ failed_old + sink_failures o → OnOk o (failed_new < n)
      by_outcome (Ok x) all = omega (arith, all, few)
      by_outcome (Err fault) all = tt

  module _ (turn : MergedBatch) (next : (basis : Basis) → given ≡ Some basis → IsNextTurn basis since turn) where
    come_on : HasComeTo on.basis turn.until (on.before ++ turn.rows.items)
    come_on = (next on.basis on.known).next on.before on.come

    -- its rows name members
    pub names : (slice : List Row) → slice ≡ turn.rows.items → All (NamesMembers s) slice
    names slice same = subst (All (NamesMembers s)) (sym same) (names_next s is_sound on.before turn.rows.items (begun turn.until (on.before ++ turn.rows.items) come_on))

    module _ (held_on : Option (List ℕ)) (failed_on : ℕ) (tallied_on : List Row) (outcome_on : Result (Unit {0}) Fault) (slice : List Row) (same_rows : slice ≡ turn.rows.items)
        (takes_on : (before : List Row) (held : Option (List ℕ)) → HasWritten s before held held_new tallied outcome → HasWritten s (before ++ slice) held held_on tallied_on outcome_on)
        (failures : failed_on + sink_failures outcome ≡ failed_new + sink_failures outcome_on) where
      written : HasWritten s (on.before ++ turn.rows.items) held_old held_on tallied_on outcome_on
      written = subst (λ l. HasWritten s (on.before ++ l) held_old held_on tallied_on outcome_on) same_rows (takes_on on.before held_old on.written)

      all_failures : failed_on ≡ failed_old + sink_failures outcome_on
      all_failures = let so_far = on.failures in omega (arith, so_far, failures)

      -- they were taken
      pub goes_on : (more : ℕ) → more ≡ count → IsWriting given s more turn.until held_old held_on failed_old failed_on tallied_on outcome_on
      goes_on more same = record {
        basis = on.basis;
        known = on.known;
        sound = on.sound;
        one = on.one;
        workers = same ∙ on.workers;
        before = on.before ++ turn.rows.items;
        come = come_on;
        written = written;
        failures = all_failures;
      }

      -- they were the last
      pub ends : turn.last ≡ true → (result : Result (List Row) Fault) → IfOk result (λ all. (outcome_on ≡ Ok tt) × (all ≡ tallied_on)) → IfErr result (λ f. outcome_on ≡ Err f)
          → KeepsTrace s held_old held_on failed_old failed_on result
      ends last result ok err =
          let turn_is = next on.basis on.known in
          let whole = subst (λ b. OnTrue b ((before : List Row) → HasComeTo on.basis since before → IsRunOf on.basis.setup (before ++ turn.rows.items))) last turn_is.whole in
          let lasts = subst (λ b. OnTrue b (¬ (CounterOverflows on.basis.setup))) last turn_is.lasts in
          comes_to s (on.before ++ turn.rows.items) tallied_on held_old held_on failed_old failed_on outcome_on result is_sound
          (subst (λ t. IsRunOf t (on.before ++ turn.rows.items)) (sym on.one) (whole on.before on.come)) (subst (λ t. ¬ (CounterOverflows t)) (sym on.one) lasts) written all_failures ok err
