use Rattle.std.proofs.Common.{◌∙◌, ◌++◌, ap, refl, rules, sym}
use Rattle.std.specs.Str.{IsUtf8}
use Rattle.std.proofs.lemmas.Bool.Decides.{Decides-eqb}
use Rattle.std.proofs.lemmas.Slice.Eq.{strip_prefix_is}
use Rattle.sweep.specs.Shards.{shard_header}
use Rattle.figures.proofs.Handing.{handed}
use Rattle.shard_merge.proofs.PlacesMore.{memory_lines}
use Rattle.shard_merge.proofs.behind.lines_at.Goals as goal

pub returns-in_err-header-clause-refused : goal.returns-in_err-header-clause-refused
returns-in_err-header-clause-refused c =
    let head = c.args.head.now in
    handed c.from_residual.result _ _ c.from_residual.ensures.1
    (λ e same. memory_lines c.args.text.now (shard_header head.columns head.mark.now head.plan c.args.shard) c.args.place e (same ∙ c.in_err-header.ensures.memory))

-- the text begins with its first line
pub unreachable-requires : goal.unreachable-requires
unreachable-requires c =
    let begins = c.requires.begins in
    let cut = rw c.in_default.is at (strip_prefix_is Decides-eqb c.args.text.now _ c.strip_prefix.result c.strip_prefix.ensures.cases) in
    absurd (cut begins.rest (begins.written ∙ ap (λ l. l ++ begins.rest) (sym (c.as_slice.ensures.value ∙ c.in_ok-header.ensures.header))))

-- lines without checksums
pub returns-then-older-clause-refused : goal.returns-then-older-clause-refused
returns-then-older-clause-refused c =
    let rest = c.in-Some.rest.now in
    let front = rw c.in-Some.is at (strip_prefix_is Decides-eqb c.args.text.now _ c.strip_prefix.result c.strip_prefix.ensures.cases) in
    (refl, (rest, front ∙ ap (λ l. l ++ rest) (c.as_slice.ensures.value ∙ c.in_ok-header.ensures.header), c.in_ok-older.ensures.older c.if-older.true))

-- what isn't UTF-8 is no lines
pub returns-clause-refused : goal.returns-clause-refused
returns-clause-refused c =
    let rest = c.in-Some.rest.now in
    let front = rw c.in-Some.is at (strip_prefix_is Decides-eqb c.args.text.now _ c.strip_prefix.result c.strip_prefix.ensures.cases) in
    let not_encoded : ¬ (IsUtf8 rest) = search rules in
    (refl, (rest, front ∙ ap (λ l. l ++ rest) (c.as_slice.ensures.value ∙ c.in_ok-header.ensures.header), not_encoded))

pub returns-in-Ok-clause-there : goal.returns-in-Ok-clause-there
returns-in-Ok-clause-there c =
    let front = rw c.in-Some.is at (strip_prefix_is Decides-eqb c.args.text.now _ c.strip_prefix.result c.strip_prefix.ensures.cases) in
    let same = (rw c.in-Ok.is at c.from_utf8.ensures.cases).0 in
    front ∙ (λ i. (c.as_slice.ensures.value ∙ c.in_ok-header.ensures.header) i ++ sym same i)
