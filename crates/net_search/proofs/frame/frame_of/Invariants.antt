use Rattle.std.proofs.Common.{take}
use Rattle.std.specs.List.{All}
use Rattle.net_search.specs.Boxes.{IsIn}
use Rattle.net_search.specs.Sites.{site_at}
use Rattle.net_search.proofs.frame.frame_of.Given as goal

abbrev pub invariant-loop-terminal : goal.invariant-loop-terminal
invariant-loop-terminal l = All (λ t. IsIn l.frame (site_at l.size t.0)) (take l.terminal-index l.terminals)
