use Rattle.std.proofs.Common.{◌∷◌, ◌++◌, [], subst, sym, take}
use Rattle.std.proofs.lemmas.List.{take_more}
use Rattle.sweep_until.specs.Kept.{AreKept}
use Rattle.sweep_until.proofs.until.kept_of.Goals as goal

pub loop-note-preserved : goal.loop-note-preserved
loop-note-preserved c =
    let index = c.loop-note.note-index in
    let kept = c.in_ok-add.ensures 0 _ c.loop-note.invariant in
    subst (λ notes. AreKept notes c.add.new.self) (sym (take_more c.args.before.now index c.note-item.result c.loop-note-test.true))
    (subst (λ n. AreKept (take index c.args.before.now ++ n ∷ []) c.add.new.self) (c.note-item.is) kept)
