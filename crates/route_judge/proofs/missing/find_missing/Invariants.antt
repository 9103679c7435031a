use Rattle.std.proofs.Common.{List, [], ◌∷◌, take, None}
use Rattle.std.specs.Prelude.{flat_map}
use Rattle.route_text.specs.declared.block.Block.{Block}
use Rattle.route_judge.specs.Objections.{Finds}
use Rattle.route_judge.specs.Objections as objections
use Rattle.route_judge.specs.TestedBlocks.{AreTaken}
use Rattle.route_judge.proofs.missing.find_missing.Given as goal

-- none of the nets so far lacks a block
abbrev pub invariant-loop-place : goal.invariant-loop-place
invariant-loop-place l = (blocks : List Block) → AreTaken l.design blocks l.taken → Finds l.design (flat_map (λ n. objections.missing_net blocks n ∷ []) (take l.place l.design.nets)) None
