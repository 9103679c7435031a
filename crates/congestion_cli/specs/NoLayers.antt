-- The line of a layer that the design doesn't have.
use Rattle.std.specs.Prelude.{ℕ, List, [], ◌∷◌, codes}
use Rattle.command_runs.specs.Lines.{line}
use Rattle.congestion_cli.specs.declared.no_layer.LayerMissing.{LayerMissing}

-- the number of this objection, the layer that is asked for, and how many there are
abbrev pub no_layer_text : LayerMissing → List ℕ
no_layer_text missing = line (codes "no") (53 ∷ missing.asked ∷ missing.there ∷ [])
