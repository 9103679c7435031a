use Rattle.edge_prices.specs.TopIndices.{IsTopIndex}
use Rattle.edge_prices.specs.Vectors.{index_of}
use Rattle.edge_prices.proofs.resources.Resources.top.Given as goal

-- the greatest index so far, and how many have it
abbrev pub invariant-loop-entry : goal.invariant-loop-entry
invariant-loop-entry l = IsTopIndex (index_of l.self.grid.now l.loads l.self.scale l.self.budget) l.entry l.top
