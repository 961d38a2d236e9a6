use Rattle.std.proofs.Common.{◌+◌, List, ap, is_some, map, subst, sym, arith}
use Rattle.std.specs.Prelude.{All}
use Rattle.sweep_plan.specs.Sweep.{Sweep, seed_count, setting_count}
use Rattle.sweep.specs.Sums.{sweep_key}
use Rattle.figures.proofs.Handing.{handed}
use Rattle.table_merge.specs.Seeds.{AreInTurn, in_turn}
use Rattle.table_merge.specs.Lines.{IsFull}
use Rattle.table_merge.specs.Reasons.{RefusesOrder}
use Rattle.table_merge.specs.Tables.{AreRead, PutsAll, starts_in}
use Rattle.table_merge.specs.declared.finding.Found.{Found}
use Rattle.table_merge.specs.declared.lines.Table.{Table}
use Rattle.table_merge.proofs.FoundMore.{all_range, gap_reason, many_reason}
use Rattle.table_merge.proofs.Reading.{all_full}
use Rattle.table_merge.proofs.Whole.{joined_as}
use Rattle.table_merge.proofs.joining.join_seeds.Goals as goal

pub returns-in_err-seeds-clause-refused : goal.returns-in_err-seeds-clause-refused
returns-in_err-seeds-clause-refused g c =
    let first = c.args.first.now in
    handed c.from_residual-in_err-seeds.result _ _ c.from_residual-in_err-seeds.ensures.1
    (λ e same. gap_reason c.args.texts.now first.head.mark.now first.head.columns first.head.plan first.seeds c.requires.several c.in_ok-found.found.items e c.in_ok-found.ensures.found
    (subst (λ (l : List Found). RefusesOrder l e) c.deref.ensures.value (subst (RefusesOrder c.deref.result.now) (sym same) c.in_err-seeds.ensures.refused)))

pub head_with-requires-clause-ordered : goal.head_with-requires-clause-ordered
head_with-requires-clause-ordered g c =
    let first = c.args.first.now in
    let more = c.requires.several.more in
    let found = c.in_ok-found.ensures.found in
    (all_range c.args.texts.now first.head.mark.now first.head.columns first.head.plan first.seeds c.requires.several c.in_ok-found.found.items c.in_ok-seeds.seeds found (omega (arith, more, found.as_many))
    (subst (λ (l : List Found). AreInTurn c.in_ok-seeds.seeds.first (map (λ (f : Found). f.seeds) l) (c.in_ok-seeds.seeds.last + 1)) c.deref.ensures.value c.in_ok-seeds.ensures.follow)).0

pub head_with-requires-clause-low : goal.head_with-requires-clause-low
head_with-requires-clause-low g c =
    let first = c.args.first.now in
    let more = c.requires.several.more in
    let found = c.in_ok-found.ensures.found in
    (all_range c.args.texts.now first.head.mark.now first.head.columns first.head.plan first.seeds c.requires.several c.in_ok-found.found.items c.in_ok-seeds.seeds found (omega (arith, more, found.as_many))
    (subst (λ (l : List Found). AreInTurn c.in_ok-seeds.seeds.first (map (λ (f : Found). f.seeds) l) (c.in_ok-seeds.seeds.last + 1)) c.deref.ensures.value c.in_ok-seeds.ensures.follow)).1

pub returns-in_default-clause-refused : goal.returns-in_default-clause-refused
returns-in_default-clause-refused g c =
    let first = c.args.first.now in
    let more = c.requires.several.more in
    let found = c.in_ok-found.ensures.found in
    many_reason c.args.texts.now first.head.mark.now first.head.columns first.head.plan first.seeds c.requires.several c.in_ok-found.found.items c.in_ok-seeds.seeds found (omega (arith, more, found.as_many))
    (subst (λ (l : List Found). AreInTurn c.in_ok-seeds.seeds.first (map (λ (f : Found). f.seeds) l) (c.in_ok-seeds.seeds.last + 1)) c.deref.ensures.value c.in_ok-seeds.ensures.follow)
    (c.in_ok-head.ensures.many (ap is_some c.in_default.is))

pub put_tables-requires-clause-full : goal.put_tables-requires-clause-full
put_tables-requires-clause-full g c =
    let first = c.args.first.now.head in
    let some = rw c.in-Some.is at c.in_ok-head.ensures.some in
    let count = ap (λ (s : Sweep). setting_count s.swept_keys) (sym some.1) in
    subst (λ n. All (IsFull n) (map starts_in c.deref-3.result.now)) count
    (subst (λ (l : List Table). All (IsFull (setting_count first.plan.swept_keys)) (map starts_in l)) (sym c.deref-3.ensures.value)
    (all_full c.args.texts.now first.mark.now first.columns first.plan _ c.in_ok-tables.tables.items c.in_ok-tables.ensures.read))

pub returns-clause-joined : goal.returns-clause-joined
returns-clause-joined g c =
    let first = c.args.first.now.head in
    let head = c.in-Some.head in
    let some = rw c.in-Some.is at c.in_ok-head.ensures.some in
    let asked = rw c.in-Some.is at c.in_ok-head.ensures.asked in
    let tables = c.in_ok-tables.tables.items in
    let found = c.in_ok-found.found.items in
    let seeds = c.in_ok-seeds.seeds in
    let follow = subst (λ (l : List Found). AreInTurn seeds.first (map (λ (f : Found). f.seeds) l) (seeds.last + 1)) c.deref.ensures.value c.in_ok-seeds.ensures.follow in
    let read = subst (λ (l : List Found). AreRead c.args.texts.now first.mark.now first.columns first.plan l tables) c.deref-2.ensures.value c.in_ok-tables.ensures.read in
    let put = subst (λ (l : List Table). PutsAll (sweep_key head.mark.now head.plan) (in_turn (setting_count head.plan.swept_keys) (map starts_in l)) (seed_count head.plan.seeds) (g.S.Sink.held c.put_header.new.table) (g.S.Sink.held c.put_tables.new.sink) c.in_ok-settings.settings.items) c.deref-3.ensures.value c.in_ok-settings.ensures.put in
    joined_as c.args.texts.now first.mark.now head.mark.now first.columns head.columns first.plan head.plan found tables seeds some.0 some.2 some.1 c.in_ok-found.ensures.found c.requires.several.more follow read
    c.requires.several.first.begins.marked asked (g.S.Sink.held c.args.table.now) (g.S.Sink.held c.put_header.new.table) (g.S.Sink.held c.put_tables.new.sink) (g.S.Sink.held c.flush.new.table)
    c.in_ok-settings.settings.items c.in_ok-put_header.ensures.whole put c.flush.ensures.same
