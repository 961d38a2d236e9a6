-- What the text of a preset sets: memberlist 0.2.2's defaults (its config.go), Serf's and Consul's over these, or the format's own.
use Rattle.std.specs.Prelude.{◌≡◌, ℕ, ◌-◌, ◌==◌, Bool, true, false, not, List, [], ◌∷◌, ◌++◌, codes, decimal, filter, flat_map, length, map, max, replicate, if◌then◌else◌}
use Rattle.std.specs.List.{list_all}
use Rattle.presets.specs.declared.preset.Preset.{Preset}
use Rattle.presets.specs.declared.preset.Preset.TheVariants.{Local, Lan, Wan, Serf, SerfWan, Consul, ConsulWan, Swim}

-- ---- the settings

-- a key that is set to a number
abbrev says : List ℕ → ℕ → List ℕ
says key n = key ++ (codes " = " ++ decimal n)

-- how long the run is, and how members probe; `fallback` is what memberlist's rules add
abbrev top_and_swim : ℕ → ℕ → ℕ → ℕ → ℕ → List (List ℕ) → ℕ → ℕ → ℕ → List (List ℕ)
top_and_swim version end period timeout helpers fallback carry lambda spread =
    says (codes "version") version ∷ says (codes "seed") 1 ∷ says (codes "end") end
    ∷ codes "[swim]" ∷ says (codes "period") period ∷ says (codes "timeout") timeout ∷ says (codes "helpers") helpers
    ∷ fallback ++ (says (codes "carry") carry ∷ says (codes "lambda") lambda ∷ says (codes "spread") spread ∷ [])

abbrev suspicion_and_lifeguard : ℕ → ℕ → ℕ → ℕ → List (List ℕ)
suspicion_and_lifeguard alpha ceiling confirmations nack_percent =
    codes "[suspicion]" ∷ says (codes "alpha") alpha ∷ says (codes "beta") 6
    ∷ codes "[lifeguard]" ∷ codes "probe = true" ∷ codes "suspicion = true" ∷ codes "buddy = true"
    ∷ says (codes "ceiling") ceiling ∷ says (codes "confirmations") confirmations ∷ says (codes "nack_percent") nack_percent ∷ []

abbrev gossip_and_stream : ℕ → ℕ → ℕ → ℕ → ℕ → ℕ → List (List ℕ)
gossip_and_stream interval nodes dead push meta limit =
    codes "[gossip]" ∷ says (codes "interval") interval ∷ says (codes "nodes") nodes ∷ says (codes "dead") dead ∷ says (codes "push") push
    ∷ codes "queue = true" ∷ says (codes "packet") 1400 ∷ says (codes "meta") meta
    ∷ codes "[stream]" ∷ says (codes "connect") 1000 ∷ says (codes "again") 200 ∷ says (codes "limit") limit ∷ says (codes "retry") 30000 ∷ []

-- Serf's: how failed members are tried again, and how one leaves
abbrev serf : ℕ → ℕ → List (List ℕ)
serf reap linger = codes "[serf]" ∷ says (codes "reconnect") 30000 ∷ says (codes "reap") reap ∷ says (codes "linger") linger ∷ []

-- the links, 32 members that start together, and a crash
abbrev cluster : ℕ → ℕ → List (List ℕ)
cluster delay jitter =
    codes "[link]" ∷ says (codes "delay") delay ∷ says (codes "jitter") jitter ∷ says (codes "loss") 0
    ∷ codes "[[group]]" ∷ codes "name = \"node\"" ∷ says (codes "count") 32 ∷ says (codes "start") 0
    ∷ codes "[[crash]]" ∷ codes "member = \"node-7\"" ∷ says (codes "at") 30000 ∷ []

-- how long a preset's run is, and how its members probe
abbrev pub probing_of : Preset → List (List ℕ)
probing_of Local = top_and_swim 4 120000 1000 200 1 (codes "fallback = true" ∷ []) 20 2 1000
probing_of Lan = top_and_swim 4 120000 1000 500 3 (codes "fallback = true" ∷ []) 20 4 1000
probing_of Wan = top_and_swim 4 300000 5000 3000 3 (codes "fallback = true" ∷ []) 20 4 5000
probing_of Serf = top_and_swim 4 120000 1000 500 3 (codes "fallback = true" ∷ []) 20 4 1000
probing_of SerfWan = top_and_swim 4 300000 5000 3000 3 (codes "fallback = true" ∷ []) 20 4 5000
probing_of Consul = top_and_swim 4 120000 1000 500 3 (codes "fallback = true" ∷ []) 20 4 1000
probing_of ConsulWan = top_and_swim 4 300000 5000 3000 3 (codes "fallback = true" ∷ []) 20 4 5000
probing_of Swim = top_and_swim 2 120000 1000 300 3 [] 6 3 1

-- how they suspect, and judge themselves
abbrev pub suspicion_of : Preset → List (List ℕ)
suspicion_of Local = suspicion_and_lifeguard 3 7 1 100
suspicion_of Lan = suspicion_and_lifeguard 4 7 2 100
suspicion_of Wan = suspicion_and_lifeguard 6 7 4 100
suspicion_of Serf = suspicion_and_lifeguard 4 7 2 100
suspicion_of SerfWan = suspicion_and_lifeguard 6 7 4 100
suspicion_of Consul = suspicion_and_lifeguard 4 7 2 100
suspicion_of ConsulWan = suspicion_and_lifeguard 6 7 4 100
suspicion_of Swim = suspicion_and_lifeguard 5 8 3 80

-- how they gossip, and wait for a stream, and Serf's, in version 4
abbrev pub gossip_of : Preset → List (List ℕ)
gossip_of Local = gossip_and_stream 100 3 15000 15000 0 1000
gossip_of Lan = gossip_and_stream 200 3 30000 30000 0 10000
gossip_of Wan = gossip_and_stream 500 4 60000 60000 0 30000
gossip_of Serf = gossip_and_stream 200 3 30000 30000 2 10000 ++ serf 86400000 1000
gossip_of SerfWan = gossip_and_stream 500 4 60000 60000 2 30000 ++ serf 86400000 1000
gossip_of Consul = gossip_and_stream 200 3 30000 30000 125 10000 ++ serf 259200000 3000
gossip_of ConsulWan = gossip_and_stream 500 4 60000 60000 241 30000 ++ serf 259200000 3000
gossip_of Swim = []

abbrev pub cluster_of : Preset → List (List ℕ)
cluster_of Local = cluster 1 0
cluster_of Lan = cluster 1 1
cluster_of Wan = cluster 40 5
cluster_of Serf = cluster 1 1
cluster_of SerfWan = cluster 40 5
cluster_of Consul = cluster 1 1
cluster_of ConsulWan = cluster 40 5
cluster_of Swim = cluster 1 0

-- comments set nothing
abbrev pub no_settings : Preset → List (List ℕ)
no_settings preset = []

-- the lines of a preset's text, without comments
unfoldable pub settings_of : Preset → List (List ℕ)
settings_of preset = probing_of preset ++ suspicion_of preset ++ gossip_of preset ++ cluster_of preset

-- ---- the text

-- a line: what it sets, and a comment, which stands in a column of its own
pub record Line : Type 0 where
  pub setting : List ℕ
  pub words : List ℕ

-- how many spaces stand before a comment behind so many bytes of its line: none where it sets nothing, else up to column 24, but one at least
abbrev pub gap_behind : ℕ → ℕ
gap_behind behind = if behind == 0 then 0 else max 1 (24 - behind)

-- the comment of a line; none where there are no words
abbrev pub comment_behind : ℕ → List ℕ → List ℕ
comment_behind behind words = if length words == 0 then [] else replicate (gap_behind behind) 32 ++ (codes "# " ++ words)

abbrev pub line_text : List ℕ → List ℕ → List ℕ
line_text setting words = setting ++ (comment_behind (length setting) words ++ codes "\n")

-- words without a line feed
abbrev pub is_on_line : List ℕ → Bool
is_on_line words = list_all (λ byte. not (byte == 10)) words

-- not the empty text
abbrev pub is_there : List ℕ → Bool
is_there [] = false
is_there (byte ∷ text) = true

-- the text has lines that set just this, in this order, and comments
pub record TellsSettings (settings : List (List ℕ)) (text : List ℕ) : Type 0 where
  pub lines : List Line
  pub on_line : list_all (λ l. is_on_line l.words) lines ≡ true
  pub same : filter is_there (map (λ l. l.setting) lines) ≡ settings
  pub written : text ≡ flat_map (λ l. line_text l.setting l.words) lines
