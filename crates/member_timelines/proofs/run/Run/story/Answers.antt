use Rattle.std.proofs.Common.{◌≡◌, ◌<◌, length, get_or, refl, ap, ◌∙◌, arith}
use Rattle.std.proofs.lemmas.Option.{slice_get_read}
use Rattle.member_timelines.proofs.run.Run.story.Goals as goal

pub returns : goal.returns
returns c =
    let items = c.args.self.now.series.now.stories.items in
    let story = c.index-stories-place.result in
    let at : story ≡ get_or items c.args.member story =
    c.index-stories-place.is ∙ ap (λ xs. get_or xs c.index-place.result story) c.stories-stories.ensures ∙ ap (λ n. get_or items n story) c.index-place.ensures in
    let within : c.args.member < length items = omega (arith, c.requires.within, c.requires.told.gathered.told) in
    c.requires.told.gathered.stories c.args.member story (slice_get_read items (length items) c.args.member story refl within at)
