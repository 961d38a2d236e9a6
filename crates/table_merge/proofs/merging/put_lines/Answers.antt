use Rattle.std.proofs.Common.{◌≡◌, ◌∙◌, ◌+◌, ◌++◌, ◌∷◌, [], ℕ, List, ap, get_or, map, rules, sym, take, arith}
use Rattle.std.specs.Borrow.{Bor}
use Rattle.std.proofs.lemmas.List.{map-append, take_more}
use Rattle.table_rows.specs.Lines.{HasLine}
use Rattle.table_merge.proofs.Order.{all_mapped}
use Rattle.table_merge.proofs.Puts.{both_put, none_put, still_put}
use Rattle.table_merge.proofs.merging.put_lines.Goals as goal

pub loop-start-preserved : goal.loop-start-preserved
loop-start-preserved g c =
    let now : Bor (List ℕ) → List ℕ = λ start. start.now in
    let starts = c.args.starts.now in
    let i = c.loop-start.start-index in
    let empty : Bor (List ℕ) = record { ref_ptr = (0, 0); now = [] } in
    let more : map now (take i starts) ++ (get_or starts i empty).now ∷ [] ≡ map now (take (i + 1) starts) =
    sym (ap (map now) (take_more starts i empty (omega (arith, c.loop-start-test.true))) ∙ map-append now (take i starts) (get_or starts i empty ∷ [])) in
    record {
      so = still_put c.args.key.now _ _ _ _ _ _ more (both_put c.args.key.now _ _ _ _ _ _ _ _ c.loop-start.invariant.so c.in_ok-put_line.ensures.put);
      same = search rules;
    }

pub put_line-requires-clause-line : goal.put_line-requires-clause-line
put_line-requires-clause-line g c =
    let now : Bor (List ℕ) → List ℕ = λ start. start.now in
    all_mapped HasLine now c.args.starts.now c.requires.lines c.loop-start.start-index _ (omega (arith, c.loop-start-test.true))

pub loop-start-init : goal.loop-start-init
loop-start-init g c = record { so = none_put c.args.key.now _ _; same = search rules }
