-- The settings on the front.
use Rattle.std.specs.Prelude.{ℕ, Bool, false, ◌-◌, ◌^◌, ◌==◌, min, ◌&&◌, ◌||◌, nat_lt, List, [], ◌∷◌, Option, None, if◌then◌else◌, length, map, option_map, option_to_list, slice_get, unwrap_or}
use Rattle.std.specs.List.{flat_map, range_with_len}
use Rattle.std.specs.Option.{option_map_or}
use Rattle.figures.specs.declared.summary.SettingSummary.{SettingSummary}
use Rattle.sweep_cells.specs.Words.{thousandths, share_of}
use Rattle.sweep_page.specs.declared.front_points.FrontPoint.{FrontPoint}

-- the setting at a place is on the front
abbrev pub is_marked : List Bool → ℕ → Bool
is_marked front place = unwrap_or (slice_get front place) false

-- where a setting stands across the front: by its median time, or by its messages in hundredths where no run of the sweep has a crash; as far as 64 bits hold it
unfoldable pub across_of : Bool → SettingSummary → Option ℕ
across_of crashed setting = if crashed then setting.confirm_p50 else option_map (λ n. min n (2 ^ 64 - 1)) setting.messages

-- a setting as it stands on the front, across there
abbrev pub point_of : ℕ → SettingSummary → ℕ → FrontPoint
point_of place setting across =
    record { across = across; place = place; share = share_of setting; low = thousandths setting.share_low; high = thousandths setting.share_high; runs_with = setting.runs_with; runs = setting.runs }

-- nothing where it has none
unfoldable pub front_point : Bool → ℕ → SettingSummary → Option FrontPoint
front_point crashed place setting = option_map (point_of place setting) (across_of crashed setting)

-- the setting at a place, where it is on the front
abbrev pub point_at : Bool → List SettingSummary → List Bool → ℕ → Option FrontPoint
point_at crashed settings front place = if is_marked front place then option_map_or (front_point crashed place) (slice_get settings place) None else None

-- the same as a list of one or none
abbrev pub points_at : Bool → List SettingSummary → List Bool → ℕ → List FrontPoint
points_at crashed settings front place = option_to_list (point_at crashed settings front place)

-- those on the front that stand somewhere across
abbrev pub front_settings : Bool → List SettingSummary → List Bool → List FrontPoint
front_settings crashed settings front = flat_map (points_at crashed settings front) (range_with_len 0 (length settings))

-- a setting comes before another: it is less far across, or as far and earlier among all
abbrev pub comes_before : FrontPoint → FrontPoint → Bool
comes_before p q = nat_lt p.across q.across || (p.across == q.across && nat_lt p.place q.place)

-- a setting takes its place among others that stand in their order
abbrev pub placed : FrontPoint → List FrontPoint → List FrontPoint
placed p [] = p ∷ []
placed p (q ∷ more) = if comes_before p q then p ∷ q ∷ more else q ∷ placed p more

-- these in their order
abbrev pub by_speed : List FrontPoint → List FrontPoint
by_speed [] = []
by_speed (p ∷ more) = placed p (by_speed more)

-- where these stand among all settings
abbrev pub places_of : List FrontPoint → List ℕ
places_of points = map (λ (p : FrontPoint). p.place) points

-- the settings on the front in their order
unfoldable pub front_points : Bool → List SettingSummary → List Bool → List FrontPoint
front_points crashed settings front = by_speed (front_settings crashed settings front)
