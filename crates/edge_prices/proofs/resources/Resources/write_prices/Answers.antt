use Rattle.std.proofs.Common.{◌≡◌, ◌<◌, length, arith}
use Rattle.std.proofs.lemmas.List.FromFn.{fill_by_all}
use Rattle.std.proofs.lemmas.List.Edits.{fill_by_more}
use Rattle.grid_graph.specs.Grids.{entries}
use Rattle.edge_prices.specs.Vectors.{price_of, index_of}
use Rattle.edge_prices.proofs.Greatest.{le-greatest}
use Rattle.edge_prices.proofs.resources.Resources.write_prices.Goals as goal

pub price-requires-clause-top : goal.price-requires-clause-top
price-requires-clause-top c =
    let s = c.args.self.now in
    rw c.index-index.ensures (rw c.requires.top (le-greatest (index_of s.grid.now c.args.loads.now s.scale s.budget) (entries s.grid.now) c.loop-entry.entry (omega arith)))

pub loop-entry-preserved : goal.loop-entry-preserved
loop-entry-preserved c =
    let s = c.args.self.now in
    let below : c.loop-entry.entry < length c.loop-entry.out = omega arith in
    rw c.price.ensures (rw c.index-index.ensures (rw c.requires.top (fill_by_more (price_of s.grid.now c.args.loads.now s.scale s.budget) c.loop-entry.out c.loop-entry.entry 0 below c.loop-entry.invariant)))

pub returns : goal.returns
returns c =
    let s = c.args.self.now in
    let long : length c.loop-entry.out ≡ entries s.grid.now = omega arith in
    fill_by_all (price_of s.grid.now c.args.loads.now s.scale s.budget) c.loop-entry.out (entries s.grid.now) 0 long (λ k below. c.loop-entry.invariant k (omega arith))
