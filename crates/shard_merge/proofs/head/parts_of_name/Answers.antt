use Rattle.std.proofs.Common.{lit<}
use Rattle.std.proofs.lemmas.Str.Pattern.{split_parts, strip_prefix_char}
use Rattle.sweep_plan.proofs.Words.{lacks_each}
use Rattle.shard_merge.proofs.Names.{if_some, laid, none_there, quoted, rest_lacks, spaced}
use Rattle.shard_merge.proofs.head.parts_of_name.Goals as goal

pub returns-in_default-clause-none : goal.returns-in_default-clause-none
returns-in_default-clause-none c _ mark columns sweep p b =
    let none = rw c.in_default.is at (strip_prefix_char 34 c.args.text.now c.strip_prefix.result c.strip_prefix.ensures.cases (lit< tt)) in
    none _ (laid c.args.text.now mark columns sweep p b)

pub returns-in_default-split_once-clause-none : goal.returns-in_default-split_once-clause-none
returns-in_default-split_once-clause-none c _ mark columns sweep p b =
    let inside = rw c.in-Some.is at (strip_prefix_char 34 c.args.text.now c.strip_prefix.result c.strip_prefix.ensures.cases (lit< tt)) in
    rw c.in_default-split_once.is at (quoted c.args.text.now mark columns sweep p b c.in-Some.inside.now c.split_once.result inside c.split_once.ensures.cases)

pub returns-clause-quoteless : goal.returns-clause-quoteless
returns-clause-quoteless c =
    if_some c.split_once-2.result _ (λ x is.
    rest_lacks c.in-Some-split_once.name.now c.split_once-2.result x is c.split_once-2.ensures.cases
    (lacks_each 34 c.in-Some-split_once.name.now (rw c.in-Some-split_once.is at (split_parts 34 c.in-Some.inside.now c.split_once.result c.split_once.ensures.cases (lit< tt))).1))

pub returns-clause-some : goal.returns-clause-some
returns-clause-some c =
    if_some c.split_once-2.result _ (λ x is mark columns sweep p b.
    let inside = rw c.in-Some.is at (strip_prefix_char 34 c.args.text.now c.strip_prefix.result c.strip_prefix.ensures.cases (lit< tt)) in
    let name = rw c.in-Some-split_once.is at (quoted c.args.text.now mark columns sweep p b c.in-Some.inside.now c.split_once.result inside c.split_once.ensures.cases) in
    rw is at (spaced c.args.text.now mark columns sweep p b c.in-Some-split_once.name.now c.split_once-2.result name.0 c.split_once-2.ensures.cases))

pub returns-clause-none : goal.returns-clause-none
returns-clause-none c none mark columns sweep p b =
    let inside = rw c.in-Some.is at (strip_prefix_char 34 c.args.text.now c.strip_prefix.result c.strip_prefix.ensures.cases (lit< tt)) in
    let name = rw c.in-Some-split_once.is at (quoted c.args.text.now mark columns sweep p b c.in-Some.inside.now c.split_once.result inside c.split_once.ensures.cases) in
    none_there c.split_once-2.result _ none (spaced c.args.text.now mark columns sweep p b c.in-Some-split_once.name.now c.split_once-2.result name.0 c.split_once-2.ensures.cases)
