use Rattle.std.proofs.Common.{◌≡◌, ◌++◌, All, sym, subst, rules}
use Rattle.std.specs.Result.{OnOk}
use Rattle.std.proofs.lemmas.List.Sorted.{All-permutation}
use Rattle.trace.specs.Text.{NamesMembers}
use Rattle.run_output.specs.Written.{HasWritten}
use Rattle.run_output.proofs.Streaming.{written_on}
use Rattle.drive_world.proofs.handing.hand_on.Goals as goal

pub take-requires-clause-named : goal.take-requires-clause-named
take-requires-clause-named g c =
    let s = c.args.scenario.now in
    let named : All (NamesMembers s) c.as_slice.result.now =
    subst (All (NamesMembers s)) (sym c.as_slice.ensures.value) (All-permutation (NamesMembers s) c.args.rows.items c.sort_unstable.new.self.items c.sort_unstable.ensures.permutation c.requires.named) in
    search (rules, named)

pub returns-clause-handed : goal.returns-clause-handed
returns-clause-handed g c =
    let s = c.args.scenario.now in
    let before = c.args.tallies.now in
    let sorted = c.sort_unstable.new.self.items in
    record {
      sorted = sorted;
      same = c.sort_unstable.ensures.permutation;
      up = c.sort_unstable.ensures.sorted;
      tallied = subst (λ l. OnOk c.take.result (c.take.new.tallies ≡ before ++ l)) c.as_slice.ensures.value c.take.ensures.tallied;
      written = λ first wrote.
          subst (λ l. HasWritten s (before ++ l) first (g.T.RowSink.held c.take.new.place) c.take.new.tallies c.take.result) c.as_slice.ensures.value
          (written_on s before c.as_slice.result.now first _ _ before c.take.new.tallies c.take.result wrote c.take.ensures.whole c.take.ensures.tallied c.take.ensures.part c.take.ensures.lasts
          c.take.ensures.overflow);
    }
