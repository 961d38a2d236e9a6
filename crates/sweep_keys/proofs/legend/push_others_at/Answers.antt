use Rattle.std.proofs.Common.{◌≤◌, [], ◌++◌, ◌∙◌, ap, sym, length, subst}
use Rattle.std.specs.Option.{option_map_or}
use Rattle.std.proofs.lemmas.List.{append-nil}
use Rattle.std.proofs.lemmas.Option.{slice_get_past}
use Rattle.std.specs.String.{string_bytes}
use Rattle.sweep_plan.specs.Settings.{settings_of}
use Rattle.sweep_plan.proofs.Choices.{length-settings_of}
use Rattle.sweep_keys.specs.Keys.{others_words, others_at, without}
use Rattle.sweep_keys.proofs.legend.push_others_at.Goals as goal

pub returns-then-place-settings : goal.returns-then-place-settings
unfolding others_at
returns-then-place-settings c =
    let swept_keys = c.args.plan.now.swept_keys in
    let past : length (settings_of swept_keys) ≤ c.args.place = subst (λ n. n ≤ c.args.place) (c.settings.ensures ∙ sym (length-settings_of swept_keys)) c.if-place-settings.true in
    sym (ap (λ chosen. string_bytes c.args.text.now ++ option_map_or (λ chosen. others_words (without c.args.key c.args.keys chosen)) chosen []) (slice_get_past (settings_of swept_keys) c.args.place past) ∙ append-nil _)

pub returns : goal.returns
unfolding others_at
returns c =
    c.in_ok-push_others.ensures ∙ ap (λ w. string_bytes c.args.text.now ++ w)
    (ap others_words (c.deref-2.ensures.value ∙ c.in_ok-others.ensures ∙ ap (without c.args.key c.args.keys) c.deref.ensures.value)
    ∙ sym (ap (λ chosen. option_map_or (λ chosen. others_words (without c.args.key c.args.keys chosen)) chosen []) c.in_ok-chosen.ensures.setting))
