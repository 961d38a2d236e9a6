-- A shard goes on within a setting: its other runs come first, and then the settings behind it.
use Rattle.std.proofs.Common.{◌≡◌, ◌∙◌, ◌<◌, ◌≤◌, ◌⊎◌, ◌+◌, ◌-◌, ◌*◌, ℕ, List, [], ◌∷◌, ◌++◌, Option, Some, refl, sym, ap, subst, arith, inl, inr, length, drop, append_assoc}
use Rattle.std.specs.Prelude.{flat_map}
use Rattle.std.specs.Io.KnownBytes.{Appends}
use Rattle.std.proofs.lemmas.List.{length-drop}
use Rattle.std.proofs.lemmas.List.Concat.{flat_map-append}
use Rattle.toml.specs.Data.{Data}
use Rattle.scenario.specs.Setup.{Setup, IsSound}
use Rattle.trace.specs.declared.row.Row.{Row}
use Rattle.trace.proofs.Beginnings.{Appends-then, beginning-first, beginning-of, beginning-then}
use Rattle.member_laws.specs.Runs.{IsRunOf}
use Rattle.sweep_plan.specs.Sweep.{Sweep, setting_count, seed_count}
use Rattle.figures.specs.Notes.{Note}
use Rattle.figures.specs.declared.summary.SettingSummary.{SettingSummary}
use Rattle.shards.specs.declared.shard.Shard.{Shard}
use Rattle.sweep.specs.Runs.{AreMadeBetween, Made}
use Rattle.sweep.specs.Judged.{AreAccepted}
use Rattle.sweep.specs.Sums.{sweep_key}
use Rattle.sweep.specs.Table.{noted_line, columns_of}
use Rattle.sweep.specs.Shards.{rest_text, shard_header}
use Rattle.sweep_until.specs.Until.{AreMadeBehind, AreMadeFrom, AreMadeWithFirst, BeginsSettings, BeginsWide, FinishesSetting, HasSettings, IsMadeBehind, all_of, setting_course}
use Rattle.sweep_until.specs.Shards.{AreSettingsBehind, BeginsRestUntil, CanGoOn, WritesRestUntil, first_setting, rest_settings, settings_in}
use Rattle.sweep_until.proofs.Same.{OneRun, made_long}
use Rattle.sweep_until.proofs.Left.{filled, setting_within, settings_left}

pub nothing_left : {X : Type 0} (l : List X) → length l ≡ 0 → l ≡ []
nothing_left [] none = refl
nothing_left (x ∷ l) none = absurd (omega (arith, none))

-- where some runs stay, their setting is there, and the whole first line
pub is_there : {sweep : Sweep} {p : Shard} {header : List ℕ} {kept settings : ℕ} {before : List Note} → CanGoOn sweep p header kept settings before → ¬ (before ≡ [])
    → (settings < settings_in sweep p) × (length header ≤ kept)
is_there {sweep} {p} {header} {kept} {settings} {before} so some = by so.there
  where
    by : (before ≡ []) ⊎ ((settings < settings_in sweep p) × (length header ≤ kept)) → (settings < settings_in sweep p) × (length header ≤ kept)
    by (inl none) = absurd (some none)
    by (inr it) = it

-- where some runs were made before, the first setting is one that goes on
pub with_first : (tree : Data) (sweep : Sweep) (width first settings : ℕ) (before : List Note) (made : List (List Made)) → ¬ (before ≡ [])
    → AreMadeWithFirst tree sweep width first settings before made → AreMadeBehind tree sweep width first settings before made
with_first tree sweep width first settings [] made some are = absurd (some refl)
with_first tree sweep width first settings (note ∷ notes) made some are = are

module _ (tree : Data) (sweep : Sweep) (mark : List ℕ) (p : Shard) (kept begun : ℕ) (before : List Note) (width : ℕ) (wanted : sweep.until ≡ Some width) (some : ¬ (before ≡ []))
    (there : begun < settings_in sweep p) (headed : length (shard_header (columns_of tree) mark sweep p) ≤ kept) where
  abbrev first : ℕ
  first = first_setting sweep p + begun

  abbrev line : Made → List ℕ
  line m = noted_line (columns_of tree) (sweep_key mark sweep) m

  abbrev front : List ℕ
  front = drop kept (shard_header (columns_of tree) mark sweep p)

  -- the settings behind it
  abbrev AreOthers : List (List Made) → Type 0
  AreOthers others = AreMadeFrom tree sweep width (first_setting sweep p + (begun + 1)) (settings_in sweep p - (begun + 1)) others

  all_behind : (one : List Made) (others : List (List Made)) → IsMadeBehind tree sweep width first before one → AreOthers others → AreSettingsBehind tree sweep width p begun before (one ∷ others)
  all_behind one others open_one are =
      let next : first_setting sweep p + (begun + 1) ≡ first + 1 = omega arith in
      let count : settings_in sweep p - (begun + 1) ≡ settings_in sweep p - begun - 1 = omega arith in
      with_first tree sweep width first (settings_in sweep p - begun) before (one ∷ others) some
      (record {
        one = one;
        others = others;
        all = refl;
        some = omega (arith, there);
        open_one = open_one;
        are = subst (λ n. AreMadeFrom tree sweep width n (settings_in sweep p - begun - 1) others) next
            (subst (λ n. AreMadeFrom tree sweep width (first_setting sweep p + (begun + 1)) n others) count are);
      })

  -- their lines come behind its own, since the first line stands there whole
  text_is : (one : List Made) (others : List (List Made)) → flat_map line one ++ (front ++ flat_map line (all_of others)) ≡ rest_text (columns_of tree) mark sweep p kept (all_of (one ∷ others))
  text_is one others =
      let none : front ≡ [] = nothing_left front (omega (arith, length-drop kept (shard_header (columns_of tree) mark sweep p), headed)) in
      ap (λ l. flat_map line one ++ (l ++ flat_map line (all_of others))) none ∙ sym (flat_map-append line one (all_of others)) ∙ ap (λ l. l ++ flat_map line (one ++ all_of others)) (sym none)

  module _ (old mid new : Option (List ℕ)) (finishes : FinishesSetting tree sweep (sweep_key mark sweep) width first before old mid) where
    pub rest_made : (settings : List SettingSummary) → HasSettings tree sweep width (rest_settings tree mark sweep p kept (begun + 1)) mid new (settings_in sweep p - (begun + 1)) settings
        → WritesRestUntil tree mark sweep p kept begun before old new
    rest_made settings has =
        let one = finishes.1 in
        record {
          width = width;
          wanted = wanted;
          made = one.made ∷ has.made;
          are = all_behind one.made has.made one.are has.are;
          written = subst (Appends old new) (text_is one.made has.made) (Appends-then old mid new (flat_map line one.made) (front ++ flat_map line (all_of has.made)) one.written has.written);
        }

    pub rest_begins : BeginsSettings tree sweep width (rest_settings tree mark sweep p kept (begun + 1)) mid new → BeginsRestUntil tree mark sweep p kept begun before old new
    rest_begins begins =
        let one = finishes.1 in
        record {
          width = width;
          wanted = wanted;
          made = one.made ∷ begins.made;
          are = all_behind one.made begins.made one.are begins.are;
          written = beginning-of old new _ _ (text_is one.made begins.made) (beginning-then old mid new (flat_map line one.made) (front ++ flat_map line (all_of begins.made)) one.written begins.written);
        }

  module _ (one : OneRun) (exists : (s : Setup) → IsSound s → (rows : List Row) × IsRunOf s rows) (ok : AreAccepted tree sweep)
      (within : first_setting sweep p + settings_in sweep p ≤ setting_count sweep.swept_keys) where
    -- where the setting is only begun
    pub rest_waits : (old new : Option (List ℕ)) → BeginsWide tree sweep width before (setting_course sweep (sweep_key mark sweep) first before old) new → BeginsRestUntil tree mark sweep p kept begun before old new
    rest_waits old new begins =
        let lines = begins.begun in
        let low_all : first < setting_count sweep.swept_keys = omega (arith, there, within) in
        let inside = setting_within (setting_count sweep.swept_keys) (seed_count sweep.seeds) first low_all in
        let start = first * seed_count sweep.seeds + length before in
        let high = lines.high in
        let long = made_long tree one sweep start lines.number lines.made lines.low (omega (arith, high, inside)) lines.are in
        let rest = filled tree sweep one exists ok width first low_all before lines.made (omega (arith, long, high)) (subst (λ n. AreMadeBetween tree sweep start n lines.made) (sym long) lines.are) begins.wide in
        let count = settings_in sweep p - (begun + 1) in
        let others = settings_left tree sweep one exists ok width count (first_setting sweep p + (begun + 1)) 0 count [] (omega arith) (omega (arith, there, within)) tt in
        let made = lines.made ++ rest.0 in
        let text : flat_map line lines.made ++ (flat_map line rest.0 ++ (front ++ flat_map line (all_of others.0))) ≡ rest_text (columns_of tree) mark sweep p kept (all_of (made ∷ others.0)) =
        sym (append_assoc (flat_map line lines.made) (flat_map line rest.0) (front ++ flat_map line (all_of others.0)))
        ∙ ap (λ l. l ++ (front ++ flat_map line (all_of others.0))) (sym (flat_map-append line lines.made rest.0)) ∙ text_is made others.0 in
        record {
          width = width;
          wanted = wanted;
          made = made ∷ others.0;
          are = all_behind made others.0 rest.1 others.1;
          written = beginning-of old new _ _ text (beginning-first old new (flat_map line lines.made) (flat_map line rest.0 ++ (front ++ flat_map line (all_of others.0))) lines.written);
        }
