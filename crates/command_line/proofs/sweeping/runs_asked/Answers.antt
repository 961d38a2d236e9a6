use Rattle.std.proofs.Common.{rules, refl}
use Rattle.clap.specs.Words.{found_of, rows_of}
use Rattle.command_line.proofs.Sweeps.{no_plan, no_shard, no_tick, no_wants}
use Rattle.command_line.proofs.sweeping.runs_asked.Goals as goal

pub returns-in_default-clause-usage : goal.returns-in_default-clause-usage
returns-in_default-clause-usage c e wish h = no_tick (rows_of (found_of c.args.sweep.now)) wish h (c.in_default.ensures.none refl)

pub returns-in_err-plan-clause-usage : goal.returns-in_err-plan-clause-usage
returns-in_err-plan-clause-usage c e wish h = no_plan (rows_of (found_of c.args.sweep.now)) wish h (c.in_err-plan.ensures.usage (search rules))

pub returns-in_err-shard-clause-usage : goal.returns-in_err-shard-clause-usage
returns-in_err-shard-clause-usage c e wish h = no_shard (rows_of (found_of c.args.sweep.now)) wish h (c.in_err-shard.ensures.usage (search rules))

pub returns-in_err-wants-clause-usage : goal.returns-in_err-wants-clause-usage
returns-in_err-wants-clause-usage c e wish h = no_wants (rows_of (found_of c.args.sweep.now)) wish h (c.in_err-wants.ensures.usage (search rules))

pub returns-clause-sweep : goal.returns-clause-sweep
returns-clause-sweep c = record {
  rows = rows_of (found_of c.args.sweep.now);
  met_sweep = refl;
  file = c.requires.file;
  table = c.requires.table;
  plan = c.in_ok-plan.ensures.plan;
  shard = c.in_ok-shard.ensures.shard;
  wants = c.in_ok-wants.ensures.wants;
  workers = search rules;
  progress = search rules;
  resume = search rules;
  jsonl = search rules;
  page = search rules;
  tick = c.in-Some.ensures.some;
  sense = c.requires.sense;
  written = c.requires.written;
}
