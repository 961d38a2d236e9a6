-- The events of the script, member by member.
use Rattle.std.proofs.Common.{◌≡◌, ℕ, zero, suc, ◌+◌, List, [], ◌∷◌, ◌++◌, flat_map, ap, ◌∙◌, sym, append-nil, append_assoc, refl, ◌<◌, length, get_or, drop, arith}
use Rattle.std.proofs.lemmas.List.{drop_more}
use Rattle.std.specs.List.{range_with_len}
use Rattle.std.specs.FinMap.{FinMap, empty, insert}
use Rattle.base.specs.declared.key.Key.{Key}
use Rattle.base.specs.Order.{key_cmp}
use Rattle.base.specs.World.{with_events}
use Rattle.scenario.specs.Setup.{Setup}
use Rattle.scenario.specs.Profile.{profile_of}
use Rattle.scenario.specs.declared.script.ScriptEvent.{ScriptEvent}
use Rattle.member.specs.Opening.{script_key}
use Rattle.drive_events.specs.declared.content.Content.{Content}
use Rattle.drive_process.specs.Driven.{script_by, numbered_from, content_of}

with_more : (es fs : List (Key × Content)) (pending : FinMap key_cmp Content) → with_events pending (es ++ fs) ≡ with_events (with_events pending es) fs
with_more [] fs pending = refl
with_more (e ∷ es) fs pending = with_more es fs (insert pending e.0 e.1)

flat_more : (f : ℕ → List (Key × Content)) (a n : ℕ) → flat_map f (range_with_len a (n + 1)) ≡ flat_map f (range_with_len a n) ++ f (a + n)
flat_more f a zero = append-nil (f a) ∙ ap f (let e : a ≡ a + 0 = omega arith in e)
flat_more f a (suc n) =
    ap (λ k. flat_map f (range_with_len a k)) (let e : suc n + 1 ≡ suc (n + 1) = omega arith in e) ∙ ap (λ l. f a ++ l) (flat_more f (a + 1) n) ∙ sym (append_assoc (f a) (flat_map f (range_with_len (a + 1) n)) (f (a + 1 + n)))
    ∙ ap (λ k. (f a ++ flat_map f (range_with_len (a + 1) n)) ++ f k) (let e : a + 1 + n ≡ a + suc n = omega arith in e)

-- one member more
pub one_scripted : (s : Setup) (n : ℕ) (now next : FinMap key_cmp Content) → now ≡ with_events empty (flat_map (script_by (profile_of s) s) (range_with_len 0 n)) → next ≡ with_events now (script_by (profile_of s) s n)
    → next ≡ with_events empty (flat_map (script_by (profile_of s) s) (range_with_len 0 (n + 1)))
one_scripted s n now next so_far made =
    made ∙ ap (λ p. with_events p (script_by (profile_of s) s n)) so_far ∙ sym (with_more (flat_map (script_by (profile_of s) s) (range_with_len 0 n)) (script_by (profile_of s) s n) empty)
    ∙ ap (with_events empty) (ap (λ k. flat_map (script_by (profile_of s) s) (range_with_len 0 n) ++ script_by (profile_of s) s k) (let e : n ≡ 0 + n = omega arith in e) ∙ sym (flat_more (script_by (profile_of s) s) 0 n))

-- ---- entries one by one

-- one entry more pends, so the rest leads where all lead
pub one_entry : (m place : ℕ) (script : List ScriptEvent) (e : ScriptEvent) (before now next : FinMap key_cmp Content) (key : Key) (content : Content)
    → place < length script → e ≡ get_or script place e → key ≡ script_key m e.at (place + 1) → content ≡ content_of e.kind → next ≡ insert now key content
    → with_events now (numbered_from m (place + 1) (drop place script)) ≡ with_events before (numbered_from m 1 script)
    → with_events next (numbered_from m (place + 1 + 1) (drop (place + 1) script)) ≡ with_events before (numbered_from m 1 script)
one_entry m place script e before now next key content within is there asks made so_far =
    ap (λ p. with_events p (numbered_from m (place + 1 + 1) (drop (place + 1) script)))
    (made ∙ ap (λ q. insert now q content) there ∙ ap (insert now (script_key m e.at (place + 1))) asks)
    ∙ ap (λ l. with_events now (numbered_from m (place + 1) l)) (sym (drop_more script place e within ∙ ap (λ x. x ∷ drop (place + 1) script) (sym is)))
    ∙ so_far
