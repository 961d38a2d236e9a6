use Rattle.script_reader.proofs.Within.{is_in}
use Rattle.script_reader.proofs.numbers.EntryNumbers.of.Goals as goal

pub returns-clause-numbers : goal.returns-clause-numbers
returns-clause-numbers c = record {
  at = c.ticks_at.ensures;
  each = c.ticks_at-2.ensures;
  back = c.ticks_at-3.ensures;
  from = c.ticks_at-4.ensures;
  until = c.ticks_at-5.ensures;
  every = c.ticks_at-6.ensures;
  lasts = c.ticks_at-7.ensures;
  lasts_most = c.ticks_at-8.ensures;
  extra = c.ticks_at-9.ensures;
}

pub returns-clause-within : goal.returns-clause-within
returns-clause-within c = record {
  at = is_in _ _ _ _ _ c.ticks_at.ensures;
  each = is_in _ _ _ _ _ c.ticks_at-2.ensures;
  back = is_in _ _ _ _ _ c.ticks_at-3.ensures;
  from = is_in _ _ _ _ _ c.ticks_at-4.ensures;
  until = is_in _ _ _ _ _ c.ticks_at-5.ensures;
  every = is_in _ _ _ _ _ c.ticks_at-6.ensures;
  lasts = is_in _ _ _ _ _ c.ticks_at-7.ensures;
  lasts_most = is_in _ _ _ _ _ c.ticks_at-8.ensures;
  extra = is_in _ _ _ _ _ c.ticks_at-9.ensures;
}
