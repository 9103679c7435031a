use Rattle.std.proofs.Common.{arith}
use Rattle.edge_prices.specs.Vectors.{index_of}
use Rattle.edge_prices.proofs.TopIndices.{IsTopIndex-more, IsTopIndex-none, tied-limit}
use Rattle.edge_prices.proofs.resources.Resources.top.Goals as goal

pub loop-entry-init : goal.loop-entry-init
loop-entry-init c = let s = c.args.self.now in IsTopIndex-none (index_of s.grid.now c.args.loads.now s.scale s.budget)

pub with-top-requires : goal.with-top-requires
with-top-requires c =
    let s = c.args.self.now in
    omega (arith, tied-limit (index_of s.grid.now c.args.loads.now s.scale s.budget) _ _ c.loop-entry.invariant)

pub loop-entry-preserved : goal.loop-entry-preserved
loop-entry-preserved c =
    let s = c.args.self.now in
    IsTopIndex-more (index_of s.grid.now c.args.loads.now s.scale s.budget) _ _ _ _ c.loop-entry.invariant c.index.ensures c.with-top.ensures.index c.with-top.ensures.tied
