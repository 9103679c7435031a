use Rattle.std.proofs.Common.{take}
use Rattle.std.specs.List.{AllZip}
use Rattle.net_extents.specs.Extents.{IsExtentOf}
use Rattle.net_extents.proofs.extents.extents_of.Given as goal

-- one for each net so far, that of the net's own terminals
abbrev pub invariant-loop-net : goal.invariant-loop-net
invariant-loop-net l = AllZip (λ n e. IsExtentOf l.design.grid n.terminals e) (take l.net-index l.nets) l.extents.items
