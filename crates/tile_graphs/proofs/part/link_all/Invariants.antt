use Rattle.std.proofs.Common.{◌≡◌, ◌++◌, drop, fold, take}
use Rattle.tile_graphs.specs.Links.{with_hot_edge, with_numbers}
use Rattle.tile_graphs.proofs.part.link_all.Given as goal

-- the tile edges left are as they were, and still to be added
abbrev pub invariant-loop-edge : goal.invariant-loop-edge
invariant-loop-edge l = record {
  left : drop l.edge-index l.edges ≡ drop l.edge-index l.initial.edges;
  links : fold (with_hot_edge l.totals) l.links.items (drop l.edge-index l.initial.edges) ≡ fold (with_hot_edge l.totals) l.initial.links.items l.initial.edges;
  numbers : take l.edge-index l.edges ++ with_numbers l.totals l.links.items (drop l.edge-index l.initial.edges)
      ≡ with_numbers l.totals l.initial.links.items l.initial.edges;
}
