use Rattle.std.proofs.Common.{◌≡◌, ◌∙◌, true, false, refl, sym, arith, rules}
use Rattle.std.proofs.lemmas.Bool.{false≢true}
use Rattle.json.specs.Value.{value_view, items_view}
use Rattle.drive_answers.proofs.Judged.{no_list, not_all, whole_answer, whole_refused}
use Rattle.drive_answers.proofs.answer.answer_of.Goals as goal

pub returns-in_default-clause-refused : goal.returns-in_default-clause-refused
returns-in_default-clause-refused c = no_list _ _ _ c.requires.json c.in_default.ensures

pub returns-then-not-are_actions-clause-refused : goal.returns-then-not-are_actions-clause-refused
returns-then-not-are_actions-clause-refused c =
    let isnt : c.are_actions.result ≡ false = first_of (search rules, grind arith) in
    not_all c.args.exits c.args.line.now (value_view c.args.value.now) (items_view c.in-Some.items.now) c.requires.json c.in-Some.ensures
    (λ all. false≢true (sym isnt ∙ c.are_actions.ensures.1 all.0))

pub returns-then-not-exits_last-clause-refused : goal.returns-then-not-exits_last-clause-refused
returns-then-not-exits_last-clause-refused c =
    let isnt : c.exits_last.result ≡ false = first_of (search rules, grind arith) in
    not_all c.args.exits c.args.line.now (value_view c.args.value.now) (items_view c.in-Some.items.now) c.requires.json c.in-Some.ensures
    (λ all. false≢true (sym isnt ∙ c.exits_last.ensures.1 all.1))

pub returns-in-Ok-clause-said : goal.returns-in-Ok-clause-said
returns-in-Ok-clause-said c =
    let last : c.exits_last.result ≡ true = first_of (search rules, grind arith) in
    whole_answer c.args.scenario.now c.args.member c.args.exits c.args.line.now (value_view c.args.value.now) (items_view c.in-Some.items.now) _ _ c.requires.json c.in-Some.ensures
    (c.exits_last.ensures.0 last) refl c.in-Ok.ensures.said

pub returns-in-Err-clause-refused : goal.returns-in-Err-clause-refused
returns-in-Err-clause-refused c =
    let is : c.are_actions.result ≡ true = first_of (search rules, grind arith) in
    let last : c.exits_last.result ≡ true = first_of (search rules, grind arith) in
    whole_refused c.args.scenario.now c.args.member c.args.exits c.args.line.now (value_view c.args.value.now) (items_view c.in-Some.items.now) c.in-Err.error c.requires.json
    c.in-Some.ensures (c.are_actions.ensures.0 is) (c.exits_last.ensures.0 last) c.in-Err.ensures.refused
