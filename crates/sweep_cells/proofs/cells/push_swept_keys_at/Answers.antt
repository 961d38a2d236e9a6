use Rattle.std.proofs.Common.{◌≤◌, [], ◌++◌, ◌∙◌, ap, sym, length, subst}
use Rattle.std.specs.Option.{option_map_or}
use Rattle.std.proofs.lemmas.List.{append-nil}
use Rattle.std.proofs.lemmas.Option.{slice_get_past}
use Rattle.std.specs.String.{string_bytes}
use Rattle.sweep_plan.specs.Settings.{settings_of}
use Rattle.sweep_plan.proofs.Choices.{length-settings_of}
use Rattle.sweep_cells.specs.Words.{swept_keys_words, swept_keys_at}
use Rattle.sweep_cells.proofs.cells.push_swept_keys_at.Goals as goal

pub returns-then-place-settings : goal.returns-then-place-settings
unfolding swept_keys_at
returns-then-place-settings c =
    let swept_keys = c.args.plan.now.swept_keys in
    let past : length (settings_of swept_keys) ≤ c.args.place = subst (λ n. n ≤ c.args.place) (c.settings.ensures ∙ sym (length-settings_of swept_keys)) c.if-place-settings.true in
    sym (ap (λ chosen. string_bytes c.args.text.now ++ option_map_or swept_keys_words chosen []) (slice_get_past (settings_of swept_keys) c.args.place past) ∙ append-nil _)

pub returns : goal.returns
unfolding swept_keys_at
returns c =
    c.in_ok-push_swept_keys.ensures ∙ ap (λ w. string_bytes c.args.text.now ++ w)
    (ap swept_keys_words c.deref.ensures.value ∙ sym (ap (λ chosen. option_map_or swept_keys_words chosen []) c.in_ok-chosen.ensures.setting))
