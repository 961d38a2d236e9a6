use Rattle.std.proofs.Common.{map, refl, subst}
use Rattle.std.specs.List.{flat_map}
use Rattle.std.specs.Option.{IfSome}
use Rattle.sweep_plan.specs.Keys.{keys_of_items, of_entry}
use Rattle.sweep_plan.specs.Listed.{IsNamedIn, NamesNone}
use Rattle.sweep_plan.proofs.Parted.{listed_entry, listed_none, listed_plain}
use Rattle.sweep_plan.proofs.listed.listed_key.Goals as goal

pub returns-in-Some-clause-some : goal.returns-in-Some-clause-some
returns-in-Some-clause-some c =
    listed_plain c.args.word.now c.in-Some.key (subst (λ rows. IsNamedIn (flat_map keys_of_items rows) c.args.word.now c.in-Some.key) c.rows.ensures c.in-Some.ensures.some)

pub returns-in-None-clause-some : goal.returns-in-None-clause-some
returns-in-None-clause-some c =
    listed_entry c.args.word.now c.key_of_entries.result
    (subst (λ entries. IfSome c.key_of_entries.result (IsNamedIn (map of_entry entries) c.args.word.now)) c.entry_keys.ensures c.key_of_entries.ensures.some)

pub returns-in-None-clause-none : goal.returns-in-None-clause-none
returns-in-None-clause-none c none =
    listed_none c.args.word.now (subst (λ rows. NamesNone (flat_map keys_of_items rows) c.args.word.now) c.rows.ensures (c.in-None.ensures.none refl))
    (subst (λ entries. NamesNone (map of_entry entries) c.args.word.now) c.entry_keys.ensures (c.key_of_entries.ensures.none none))
