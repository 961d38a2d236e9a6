use Rattle.std.proofs.Common.{◌≡◌, ◌<◌, ℕ, false, nat_eq, sym, ap, ◌∙◌, ◌++◌, ◌∷◌, [], subst, All, List, arith}
use Rattle.std.proofs.lemmas.Bool.Decides.{nat_tests}
use Rattle.scenario.specs.Setup.{member_count, start_of}
use Rattle.drive_events.specs.Start.{is_founder}
use Rattle.drive_events.proofs.Lists.{kept_more, skipped_more, all_more}
use Rattle.drive_events.proofs.names.founders.Goals as goal
use Rattle.drive_events.proofs.names.founders.Goals.{then-ticks-eq0+in_ok-push, else-ticks-eq0}

pub loop-number-preserved : goal.loop-number-preserved
loop-number-preserved c =
    let m = c.loop-number.number in
    let s = c.args.scenario.now in
    let so_far = c.loop-number.invariant in
    elim c.if-ticks-eq0.branch [
      | then-ticks-eq0+in_ok-push w ↦
          let zero : start_of s m ≡ 0 = omega (arith, c.start.ensures.value, c.ticks.ensures, w.if-ticks-eq0.true) in
          let grown = ap (λ v. v.items) w.list-is ∙ w.in_ok-push.ensures.items in
          record {
            all = grown ∙ ap (λ xs. xs ++ m ∷ []) so_far.all ∙ kept_more (is_founder s) m (ap (λ n. nat_eq n 0) zero);
            within = all_more (λ n. n < member_count s) _ _ m grown so_far.within (omega (arith, c.loop-number-test.true, c.members-number-end.ensures.count));
          }
      | else-ticks-eq0 w ↦
          let isnt : is_founder s m ≡ false = grind (arith, nat_tests, c.start.ensures.value, c.ticks.ensures, w.if-ticks-eq0.false) in
          let same = ap (λ v. v.items) w.list-is in
          record {
            all = same ∙ so_far.all ∙ skipped_more (is_founder s) m isnt;
            within = let P : List ℕ → Type 0 = All (λ n. n < member_count s) in subst P (sym same) so_far.within;
          }
    ]
