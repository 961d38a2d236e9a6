use Rattle.std.proofs.Common.{◌++◌, ◌∷◌, [], ◌∙◌, ap, sym}
use Rattle.drive_answers.specs.Modes.{texts_of}
use Rattle.drive_answers.proofs.Cutting.{grown}
use Rattle.drive_answers.proofs.pieces.push_quoted.Goals as goal

pub returns : goal.returns
returns c =
    c.in_ok-push_piece.ensures
    ∙ ap (λ p. texts_of c.args.pieces.now.items ++ p ∷ []) (sym (grown c.args.text.now c.args.begun c.args.place c.requires.order c.requires.within))
