-- The six lists, one after the other, are the plain text's; and what each adds to what `every` makes.
use Rattle.std.proofs.Common.{◌≡◌, ◌<◌, ℕ, suc, ◌+◌, false, List, [], ◌∷◌, ◌++◌, refl, ap, ◌∙◌, arith}
use Rattle.streams.specs.Draw.{Words}
use Rattle.scenario.specs.declared.spells.Spell.{Spell}
use Rattle.script_draws.specs.Turns.{in_turn}
use Rattle.plain_entries.specs.declared.departures.Departure.{Departure}
use Rattle.plain_entries.specs.declared.restarts.Restart.{Restart}
use Rattle.plain_entries.specs.declared.restarts.RestartTime.{RestartTime}
use Rattle.plain_entries.specs.declared.entry.Entry.{Entry}
use Rattle.plain_entries.specs.declared.plain.Plain.{Plain}
use Rattle.plain_entries.specs.declared.script.Script.{Script}
use Rattle.plain_entries.specs.declared.turn.Turn.{Turn}
use Rattle.plain_entries.specs.Who.{who_of}
use Rattle.plain_entries.specs.Entries.{list_of, entry_of, turn_of, made_again}
use Rattle.plain_entries.specs.Departures.{departure_timing, returns_of}
use Rattle.plain_entries.specs.Restarts.{restart_timing, restart_times}
use Rattle.plain_entries.specs.Spells.{spell_timing}
use Rattle.plain_entries.specs.Script.{PlainLists, plain_of, entries_made}
use Rattle.plain_entries.proofs.Turns.{made_again-append, made_again-times}

-- ---- restarts of the text's own are never made by `every`

none_in_turn : {A T : Type 0} (make : ℕ → A → Words → List (Plain T) × Words) → ((k : ℕ) (item : A) (words : Words) → made_again (make k item words).0 ≡ 0)
    → (k : ℕ) (items : List A) (words : Words) → made_again (in_turn make k items words).0 ≡ 0
none_in_turn make none k [] words = refl
none_in_turn make none k (item ∷ items) words =
    let first = make k item words in
    let others = in_turn make (suc k) items first.1 in
    let joined = made_again-append first.0 others.0 in
    let here = none k item words in
    let rest = none_in_turn make none (suc k) items first.1 in
    omega (arith, joined, here, rest)

no_restart : (when : RestartTime) (turn : Turn) (words : Words) → made_again (turn_of restart_timing when turn words).0 ≡ 0
no_restart when turn words = made_again-times turn.entry turn.member false (restart_times when turn.k turn.start words).0

pub no_restarts : (start : ℕ → ℕ) (entries : List (Entry RestartTime)) (words : Words) → made_again (list_of restart_timing start entries words).0 ≡ 0
no_restarts start entries words =
    none_in_turn (entry_of restart_timing start)
    (λ place entry words.
    let who = who_of entry.who words in
    none_in_turn (λ k member. turn_of restart_timing entry.when (record { entry = place; k = k; member = member; start = start member })) (λ k member words. no_restart entry.when (record { entry = place; k = k; member = member; start = start member }) words) 0 who.0 who.1)
    0 entries words

-- ---- list after list

module _ (start : ℕ → ℕ) (script : Script) (words : Words) where
  abbrev pub Crashes : List (Plain Departure) × Words
  Crashes = list_of departure_timing start script.crashes.items words

  abbrev pub LeavesOf : List (Plain Departure) × Words → List (Plain Departure) × Words
  LeavesOf crashes = list_of departure_timing start script.leaves.items crashes.1

  abbrev pub RestartsOf : List (Plain Departure) × Words → List (Plain Restart) × Words
  RestartsOf leaves = list_of restart_timing start script.restarts.items leaves.1

  abbrev pub SlowsOf : List (Plain Restart) × Words → List (Plain Spell) × Words
  SlowsOf restarts = list_of spell_timing start script.slows.items restarts.1

  abbrev pub PausesOf : List (Plain Spell) × Words → List (Plain Spell) × Words
  PausesOf slows = list_of spell_timing start script.pauses.items slows.1

  abbrev pub BlocksOf : List (Plain Spell) × Words → List (Plain Spell) × Words
  BlocksOf pauses = list_of spell_timing start script.blocks.items pauses.1

  abbrev pub joined : List (Plain Departure) × Words → List (Plain Departure) × Words → List (Plain Restart) × Words → List (Plain Spell) × Words → List (Plain Spell) × Words → List (Plain Spell) × Words → PlainLists
  joined crashes leaves restarts slows pauses blocks =
      record {
        crashes = crashes.0;
        leaves = leaves.0;
        restarts = restarts.0 ++ returns_of crashes.0 ++ returns_of leaves.0;
        slows = slows.0;
        pauses = pauses.0;
        blocks = blocks.0;
      }

  -- what is made of these words list after list
  pub record AreMade (crashes leaves : List (Plain Departure) × Words) (restarts : List (Plain Restart) × Words) (slows pauses blocks : List (Plain Spell) × Words) : Type 0 where
    pub crashes_is : crashes ≡ Crashes
    pub leaves_is : leaves ≡ LeavesOf crashes
    pub restarts_is : restarts ≡ RestartsOf leaves
    pub slows_is : slows ≡ SlowsOf restarts
    pub pauses_is : pauses ≡ PausesOf slows
    pub blocks_is : blocks ≡ BlocksOf pauses

  pub all_made : (crashes leaves : List (Plain Departure) × Words) (restarts : List (Plain Restart) × Words) (slows pauses blocks : List (Plain Spell) × Words)
      → AreMade crashes leaves restarts slows pauses blocks → joined crashes leaves restarts slows pauses blocks ≡ plain_of start script words
  unfolding plain_of
  all_made crashes leaves restarts slows pauses blocks made =
      ap (λ b. joined crashes leaves restarts slows pauses b) made.blocks_is
      ∙ ap (λ p. joined crashes leaves restarts slows p (BlocksOf p)) made.pauses_is
      ∙ ap (λ s. let p = PausesOf s in joined crashes leaves restarts s p (BlocksOf p)) made.slows_is
      ∙ ap (λ r. let s = SlowsOf r in let p = PausesOf s in joined crashes leaves r s p (BlocksOf p)) made.restarts_is
      ∙ ap (λ l. let r = RestartsOf l in let s = SlowsOf r in let p = PausesOf s in joined crashes l r s p (BlocksOf p)) made.leaves_is
      ∙ ap (λ c. let l = LeavesOf c in let r = RestartsOf l in let s = SlowsOf r in let p = PausesOf s in joined c l r s p (BlocksOf p)) made.crashes_is

  counted : (crashes leaves : List (Plain Departure) × Words) (restarts : List (Plain Restart) × Words) (slows pauses blocks : List (Plain Spell) × Words)
      → AreMade crashes leaves restarts slows pauses blocks
      → made_again crashes.0 + made_again leaves.0 + made_again slows.0 + made_again pauses.0 + made_again blocks.0 ≡ entries_made (plain_of start script words)
  counted crashes leaves restarts slows pauses blocks made = ap entries_made (all_made crashes leaves restarts slows pauses blocks made)

  -- where a list makes more than the lists before it left room for, the text makes too many
  pub over_blocks : (most room : ℕ) (crashes leaves : List (Plain Departure) × Words) (restarts : List (Plain Restart) × Words) (slows pauses : List (Plain Spell) × Words)
      → crashes ≡ Crashes → leaves ≡ LeavesOf crashes → restarts ≡ RestartsOf leaves → slows ≡ SlowsOf restarts → pauses ≡ PausesOf slows
      → room + (made_again crashes.0 + made_again leaves.0 + made_again slows.0 + made_again pauses.0) ≡ most → room < made_again (BlocksOf pauses).0 → most < entries_made (plain_of start script words)
  over_blocks most room crashes leaves restarts slows pauses crashes_is leaves_is restarts_is slows_is pauses_is spent more =
      let all = counted crashes leaves restarts slows pauses (BlocksOf pauses)
      (record { crashes_is = crashes_is; leaves_is = leaves_is; restarts_is = restarts_is; slows_is = slows_is; pauses_is = pauses_is; blocks_is = refl }) in
      omega (arith, all, spent, more)

  pub over_pauses : (most room : ℕ) (crashes leaves : List (Plain Departure) × Words) (restarts : List (Plain Restart) × Words) (slows : List (Plain Spell) × Words)
      → crashes ≡ Crashes → leaves ≡ LeavesOf crashes → restarts ≡ RestartsOf leaves → slows ≡ SlowsOf restarts
      → room + (made_again crashes.0 + made_again leaves.0 + made_again slows.0) ≡ most → room < made_again (PausesOf slows).0 → most < entries_made (plain_of start script words)
  over_pauses most room crashes leaves restarts slows crashes_is leaves_is restarts_is slows_is spent more =
      let pauses = PausesOf slows in
      let all = counted crashes leaves restarts slows pauses (BlocksOf pauses)
      (record { crashes_is = crashes_is; leaves_is = leaves_is; restarts_is = restarts_is; slows_is = slows_is; pauses_is = refl; blocks_is = refl }) in
      omega (arith, all, spent, more)

  pub over_slows : (most room : ℕ) (crashes leaves : List (Plain Departure) × Words) (restarts : List (Plain Restart) × Words)
      → crashes ≡ Crashes → leaves ≡ LeavesOf crashes → restarts ≡ RestartsOf leaves
      → room + (made_again crashes.0 + made_again leaves.0) ≡ most → room < made_again (SlowsOf restarts).0 → most < entries_made (plain_of start script words)
  over_slows most room crashes leaves restarts crashes_is leaves_is restarts_is spent more =
      let slows = SlowsOf restarts in
      let pauses = PausesOf slows in
      let all = counted crashes leaves restarts slows pauses (BlocksOf pauses)
      (record { crashes_is = crashes_is; leaves_is = leaves_is; restarts_is = restarts_is; slows_is = refl; pauses_is = refl; blocks_is = refl }) in
      omega (arith, all, spent, more)

  pub over_leaves : (most room : ℕ) (crashes : List (Plain Departure) × Words) → crashes ≡ Crashes
      → room + made_again crashes.0 ≡ most → room < made_again (LeavesOf crashes).0 → most < entries_made (plain_of start script words)
  over_leaves most room crashes crashes_is spent more =
      let leaves = LeavesOf crashes in
      let restarts = RestartsOf leaves in
      let slows = SlowsOf restarts in
      let pauses = PausesOf slows in
      let all = counted crashes leaves restarts slows pauses (BlocksOf pauses)
      (record { crashes_is = crashes_is; leaves_is = refl; restarts_is = refl; slows_is = refl; pauses_is = refl; blocks_is = refl }) in
      omega (arith, all, spent, more)

  pub over_crashes : (most : ℕ) → most < made_again Crashes.0 → most < entries_made (plain_of start script words)
  over_crashes most more =
      let leaves = LeavesOf Crashes in
      let restarts = RestartsOf leaves in
      let slows = SlowsOf restarts in
      let pauses = PausesOf slows in
      let all = counted Crashes leaves restarts slows pauses (BlocksOf pauses)
      (record { crashes_is = refl; leaves_is = refl; restarts_is = refl; slows_is = refl; pauses_is = refl; blocks_is = refl }) in
      omega (arith, all, more)
