use Rattle.std.proofs.Common.{◌≡◌, ◌<◌, length, Some, ◌∙◌, refl, sym, ap, arith}
use Rattle.std.specs.Option.{option_or}
use Rattle.trace_rows.specs.Rows.{tells_of}
use Rattle.trace.specs.declared.row.What.TheVariants as what
use Rattle.trace_rows.specs.Moments.{moment_if}
use Rattle.incidents.specs.Returns.{ends_life, joins}
use Rattle.incidents.proofs.Living.{made, own_member, line_over, line_ends, line_silent, line_greeted}
use Rattle.incidents.proofs.lines.Line.see.Goals as goal

pub returns-then-not-self : goal.returns-then-not-self
returns-then-not-self c count p few low is = line_over count c.args.self.now p c.args.row.now c.if-not-self.true is

pub returns-then-ends_life : goal.returns-then-ends_life
returns-then-ends_life c count p few low is =
    let own = own_member count c.args.self.now p is in
    line_ends count c.args.self.now _ p c.args.row.now c.if-not-self.false (ap (λ m. ends_life m c.args.row.now) (sym own) ∙ sym c.ends_life.ensures ∙ c.if-ends_life.true) is refl refl refl

pub returns-then-not-is_greeting : goal.returns-then-not-is_greeting
returns-then-not-is_greeting c count p few low is =
    let old = c.args.self.now in
    let row = c.args.row.now in
    let own = own_member count old p is in
    line_silent count old _ p row c.if-not-self.false (ap (λ m. ends_life m row) (sym own) ∙ sym c.ends_life.ensures ∙ c.if-ends_life.false)
    (ap (λ m. tells_of what.Alive m row) (sym own) ∙ sym c.is_greeting.ensures ∙ c.if-not-is_greeting.true) is
    (ap (λ j. made old.told.member old.told.at j old.told.back old.told.holders)
    (c.first_of-self.ensures ∙ ap (λ b. option_or old.told.joined (moment_if b row.at)) (c.joins.ensures ∙ ap (λ m. joins m row) own)))
    refl refl

pub returns : goal.returns
returns c count p few low is =
    let old = c.args.self.now in
    let row = c.args.row.now in
    let own = own_member count old p is in
    let there : row.member < length old.holders.items = omega (arith, low, is.room) in
    line_greeted count old c.greet.new.self p row few low c.if-not-self.false (ap (λ m. ends_life m row) (sym own) ∙ sym c.ends_life.ensures ∙ c.if-ends_life.false)
    (ap (λ m. tells_of what.Alive m row) (sym own) ∙ sym c.is_greeting.ensures ∙ c.if-not-is_greeting.false) is
    (c.greet.ensures.told ∙ ap (λ j. made old.told.member old.told.at j (Some row.at) c.greet.new.self.told.holders)
    (c.first_of-self.ensures ∙ ap (λ b. option_or old.told.joined (moment_if b row.at)) (c.joins.ensures ∙ ap (λ m. joins m row) own)))
    (c.greet.ensures.count there) c.greet.ensures.lives c.greet.ensures.room (c.greet.ensures.holders there)
