-- How a drive comes on, turn by turn, and what it has come to at the end.
use Rattle.std.proofs.Common.{◌≡◌, ◌++◌, ℕ, List, [], length, map, Option, ap, ◌∙◌, sym, subst, append_assoc}
use Rattle.std.specs.List.Sorted.{IsPermutation}
use Rattle.std.proofs.lemmas.List.{map-append}
use Rattle.std.proofs.lemmas.List.Sorted.{IsPermutation-refl, IsPermutation-append_left}
use Rattle.scenario.specs.Setup.{Setup}
use Rattle.trace.specs.declared.row.Row.{Row}
use Rattle.drive_answers.specs.declared.action.Action.{Action}
use Rattle.drive_world.specs.declared.world.World.{World as Held}
use Rattle.drive_world.specs.Courses.{Move, Moves, at_first, begun_course, begins, goes_on, with_move}
use Rattle.drive_world.specs.DriveOf.{drive_of}
use Rattle.drive_world.specs.Turns.{counted, Turns, HasCome}

module _ (s : Setup) (least_delay : Option ℕ) where
  -- nothing was sent yet
  pub come_first : (w : Held) (told : List ℕ) (gave : List (List ℕ)) → drive_of w ≡ at_first s → w.rows.items ≡ [] → w.answers ≡ 0 → told ≡ [] → gave ≡ [] → HasCome s least_delay w told gave []
  come_first w told gave first rows none untold ungiven = record {
    course = begun_course s;
    is = begins;
    last = sym first;
    lines = sym untold;
    read = sym ungiven;
    rows = subst (λ l. IsPermutation [] ([] ++ l)) (sym rows) (IsPermutation-refl []);
    counts = none ∙ ap (λ (g : List (List ℕ)). counted (length g)) (sym ungiven);
  }

  -- one turn more
  pub come_on : (w v : Held) (told told_new : List ℕ) (gave gave_new : List (List ℕ)) (written : List Row) → HasCome s least_delay w told gave written
      → Turns s least_delay w v told told_new gave gave_new → HasCome s least_delay v told_new gave_new written
  come_on w v told told_new gave gave_new written come turn =
      let m : Move = turn.move in
      let allowed : Moves s least_delay come.course.last m = subst (λ d. Moves s least_delay d m) (sym come.last) turn.allowed in
      record {
        course = with_move come.course m;
        is = goes_on come.course m come.is allowed;
        last = sym turn.comes.drive;
        lines = ap (λ l. l ++ m.lines) come.lines ∙ sym turn.comes.lines;
        read = map-append (λ (t : List ℕ × List Action). t.0) come.course.taken m.taken ∙ ap (λ l. l ++ map (λ (t : List ℕ × List Action). t.0) m.taken) come.read ∙ sym turn.comes.read;
        rows = subst (IsPermutation (come.course.rows ++ m.rows)) (append_assoc written w.rows.items m.rows ∙ ap (λ l. written ++ l) (sym turn.comes.rows))
            (IsPermutation-append_left m.rows come.course.rows (written ++ w.rows.items) come.rows);
        counts = turn.comes.counts come.counts;
      }
