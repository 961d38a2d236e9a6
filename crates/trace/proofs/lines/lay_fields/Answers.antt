use Rattle.std.proofs.Common.{◌≡◌, ◌∙◌, ◌++◌, drop, refl, ap}
use Rattle.std.specs.Fmt.{decimal}
use Rattle.trace.specs.Text.{lost_text}
use Rattle.trace.proofs.ShortFields.{one_more}
use Rattle.trace.proofs.lines.lay_fields.Goals as goal

pub returns-clause-laid : goal.returns-clause-laid
returns-clause-laid c =
    let tail = drop c.args.end c.args.room.now in
    let last : drop c.lay_byte-end.result c.lay_byte-end.new.room ≡ lost_text c.args.row.now.lost ++ tail = c.lay_byte-end.ensures.laid ∙ ap (λ l. l ++ tail) c.lost_digit.ensures in
    one_more tail _ _ _ _ _ c.lay_number.ensures.laid (ap decimal c.ticks.ensures)
    (one_more tail _ _ _ _ _ c.lay_name-end-2.ensures.laid refl
    (one_more tail _ _ _ _ _ c.lay_name-end.ensures.laid refl
    (one_more tail _ _ _ _ _ c.lay_number-end-2.ensures.laid refl
    (one_more tail _ _ _ _ _ c.lay_word-end.ensures.laid refl
    (one_more tail _ _ _ _ _ c.lay_about-end.ensures.laid refl
    (one_more tail _ _ _ _ _ c.lay_number-end.ensures.laid refl last))))))
