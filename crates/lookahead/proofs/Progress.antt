-- Which walks there are.
use Rattle.std.proofs.Common.{◌≢◌, ℕ, [], ◌∷◌, refl, sym}
use Rattle.scenario.specs.Setup.{Setup}
use Rattle.windows.specs.Cluster.{IsPeopled}
use Rattle.windows.specs.Horizon.{Walk}

pub straight : (s : Setup) (division : ℕ → ℕ) (from to : ℕ) → from ≢ to → IsPeopled s division from → IsPeopled s division to → Walk (IsPeopled s division) from to
straight s division from to apart begins ends = record { next = to; rest = []; begins = begins; apart = (apart, ends, tt); ends = refl }

pub there_and_back : (s : Setup) (division : ℕ → ℕ) (part other : ℕ) → part ≢ other → IsPeopled s division part → IsPeopled s division other → Walk (IsPeopled s division) part part
there_and_back s division part other apart begins ends = record { next = other; rest = part ∷ []; begins = begins; apart = (apart, ends, (λ same. apart (sym same), begins, tt)); ends = refl }

pub another : (s : Setup) (division : ℕ → ℕ) (part : ℕ) → Walk (IsPeopled s division) part part → (other : ℕ) × (part ≢ other) × IsPeopled s division other
another s division part walk = (walk.next, walk.apart.0, walk.apart.1)
