-- The swept keys of a setting as they are printed, one choice more at a time.
use Rattle.std.proofs.Common.{◌≡◌, ◌<◌, ◌+◌, ℕ, zero, suc, List, [], ◌∷◌, ◌++◌, map, length, get_or, take, min, sym, ap, ◌∙◌, arith}
use Rattle.std.specs.List.{join_with_byte}
use Rattle.std.proofs.lemmas.List.{length-map, length-take}
use Rattle.sweep_plan.specs.Settings.{choice_text, choices_text}
use Rattle.sweep_plan.specs.declared.choice.Choice.{Choice}
use Rattle.sweep_plan.proofs.Joined.{join_with_byte-push, texts_more}

-- the first choice
pub first_told : (setting : List Choice) (d : Choice) → 0 < length setting → choice_text (get_or setting 0 d) ≡ choices_text (take (0 + 1) setting)
first_told [] d some = absurd (omega arith)
first_told (c ∷ setting) d some = sym (ap (join_with_byte 32) (texts_more choice_text (c ∷ setting) 0 d some))

-- a choice after others
pub told_more : (setting : List Choice) (i : ℕ) (d : Choice) → i < length setting → 0 < i → (choices_text (take i setting) ++ 32 ∷ []) ++ choice_text (get_or setting i d) ≡ choices_text (take (i + 1) setting)
told_more setting i d inside later =
    let size : length (map choice_text (take i setting)) ≡ min i (length setting) = length-map (take i setting) choice_text ∙ length-take i setting in
    sym (ap (join_with_byte 32) (texts_more choice_text setting i d inside) ∙ join_with_byte-push 32 (map choice_text (take i setting)) (choice_text (get_or setting i d)) (omega arith))

-- the text after one choice more: with a space before it, or with none where it is the first
pub pushed_after : (setting : List Choice) (i : ℕ) (d : Choice) (new old before : List ℕ) → i < length setting → 0 < i → new ≡ old ++ choice_text (get_or setting i d) → old ≡ before ++ 32 ∷ []
    → before ≡ choices_text (take i setting) → new ≡ choices_text (take (i + 1) setting)
pushed_after setting i d new old before inside later pushed spaced so_far =
    pushed ∙ ap (λ (front : List ℕ). front ++ choice_text (get_or setting i d)) (spaced ∙ ap (λ (text : List ℕ). text ++ 32 ∷ []) so_far) ∙ told_more setting i d inside later

pub pushed_first : (setting : List Choice) (i : ℕ) (d : Choice) (new old before : List ℕ) → i < length setting → i ≡ 0 → new ≡ old ++ choice_text (get_or setting i d) → old ≡ before
    → before ≡ choices_text (take i setting) → new ≡ choices_text (take (i + 1) setting)
pushed_first setting zero d new old before inside none pushed same so_far =
    pushed ∙ ap (λ (front : List ℕ). front ++ choice_text (get_or setting 0 d)) (same ∙ so_far) ∙ first_told setting d inside
pushed_first setting (suc i) d new old before inside none pushed same so_far = absurd (omega arith)
