-- How the presets are named.
use Rattle.std.specs.Prelude.{ℕ, List, codes}
use Rattle.presets.specs.declared.preset.Preset.{Preset}
use Rattle.presets.specs.declared.preset.Preset.TheVariants.{Local, Lan, Wan, Serf, SerfWan, Consul, ConsulWan, Swim}

abbrev pub word_of : Preset → List ℕ
word_of Local = codes "local"
word_of Lan = codes "lan"
word_of Wan = codes "wan"
word_of Serf = codes "serf"
word_of SerfWan = codes "serf-wan"
word_of Consul = codes "consul"
word_of ConsulWan = codes "consul-wan"
word_of Swim = codes "swim"
