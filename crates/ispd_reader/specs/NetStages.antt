-- What is next where nets are read.
use Rattle.std.specs.Prelude.{Bool, true, false}
use Rattle.ispd_reader.specs.declared.net_stage.NetStage.{NetStage}
use Rattle.ispd_reader.specs.declared.net_stage.NetStage.TheVariants as stages
use Rattle.design_tokens.specs.declared.wanted.Wanted.{Wanted}
use Rattle.design_tokens.specs.declared.wanted.Wanted.TheVariants as wanted

-- nothing
abbrev pub is_last_stage : NetStage → Bool
is_last_stage stages.Done = true
is_last_stage _ = false

-- a name
abbrev pub is_net_name : NetStage → Bool
is_net_name stages.Name = true
is_net_name _ = false

-- the word that is missing where the text ends
abbrev pub wanted_at_stage : NetStage → Wanted
wanted_at_stage stages.Num = wanted.Num
wanted_at_stage stages.Net = wanted.Net
wanted_at_stage stages.Name = wanted.Name
wanted_at_stage _ = wanted.Number
