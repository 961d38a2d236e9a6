use Rattle.std.proofs.Common.{◌≡◌, ◌<◌, ◌+◌, List, length, sym, ap, ◌∙◌, subst, arith}
use Rattle.std.proofs.lemmas.List.{length_push}
use Rattle.streams.specs.Draw.{words_of}
use Rattle.scenario.specs.declared.spells.Spell.{Spell}
use Rattle.script_draws.proofs.AgainLemmas.{IsOnSpells, spells_begun, spell_made}
use Rattle.script_draws.proofs.again.spells.Goals as goal

pub loop-begins-init : goal.loop-begins-init
loop-begins-init c =
    let begun = spells_begun c.args.recurrence c.args.lasting (words_of c.args.stream.now) (words_of c.first-begins.new.stream) c.first-begins.result c.first-begins.ensures.drawn in (
      subst (λ (made : List Spell). IsOnSpells c.args.recurrence c.args.lasting (words_of c.args.stream.now) made c.first-begins.result (words_of c.first-begins.new.stream)) (sym c.new-spells.ensures.items) begun,
      omega arith,
      omega arith,
    )

pub loop-begins-preserved : goal.loop-begins-preserved
loop-begins-preserved c =
    let later : c.loop-begins.begins < c.next-begins.result = omega arith in
    let long : length c.add.new.spells.items ≡ length c.loop-begins.spells.items + 1 = ap length c.in_ok-add.ensures.made ∙ length_push c.loop-begins.spells.items _ in
    let made = spell_made c.args.recurrence c.args.lasting (words_of c.args.stream.now) c.loop-begins.spells.items c.loop-begins.begins c.lasts.result c.next-begins.result
    (words_of c.loop-begins.stream) (words_of c.lasts.new.stream) (words_of c.next-begins.new.stream) c.loop-begins.invariant.0 c.loop-begins-test.true c.lasts.ensures.drawn c.next-begins.ensures.drawn later in (
      subst (λ (made : List Spell). IsOnSpells c.args.recurrence c.args.lasting (words_of c.args.stream.now) made c.next-begins.result (words_of c.next-begins.new.stream)) (sym c.in_ok-add.ensures.made) made,
      omega arith,
      omega arith,
    )
