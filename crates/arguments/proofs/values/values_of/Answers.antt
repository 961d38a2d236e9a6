-- the values that were given, if any
use Rattle.std.proofs.Common.{rules, ◌≡◌, ◌∙◌, Bor, List, [], Option, ap, map, option_map, sym, unwrap_or}
use Rattle.clap.specs.Words.{Text, all_of, found_of, rows_of}
use Rattle.clap.proofs.WalkLemmas.{raw_values-rows}
use Rattle.arguments.proofs.values.values_of.Goals as goal
use Rattle.arguments.proofs.values.values_of.Goals.{in-Some+in_ok-extend_from_slice, in_default}

abbrev texts_of : Option (Bor (List (Bor Text))) → List Text
texts_of given = unwrap_or (option_map (λ (words : Bor (List (Bor Text))). map (λ (word : Bor Text). word.now) words.now) given) []

abbrev or_none : Option (List Text) → List Text
or_none texts = unwrap_or texts []

pub returns : goal.returns
returns c =
    let found = found_of c.args.matches.now in
    let all : texts_of c.get_strs.result ≡ or_none (all_of c.args.id.now (rows_of found)) = ap or_none (c.get_strs.ensures ∙ raw_values-rows found c.args.id.now) in
    elim c.match-get_strs.branch [
      | in-Some+in_ok-extend_from_slice w ↦
          let items : c.match-get_strs.words.items ≡ w.in-Some.given.now = search rules in
          ap (map (λ (word : Bor Text). word.now)) items ∙ (ap texts_of (sym w.in-Some.is) ∙ all)
      | in_default w ↦
          let items : c.match-get_strs.words.items ≡ [] = search rules in
          ap (map (λ (word : Bor Text). word.now)) items ∙ (ap texts_of (sym w.in_default.is) ∙ all)
    ]
