use Rattle.std.proofs.Common.{◌∙◌, ap, refl, subst}
use Rattle.std.proofs.lemmas.Iterator.{YieldsList-from_range, YieldsList-from_slice, YieldsList-from_zip}
use Rattle.std.proofs.lemmas.Iterator.Consumers.{YieldsList-end}
use Rattle.std.specs.Prelude.{IsPermutation}
use Rattle.std.specs.List.{flat_map}
use Rattle.tile_graphs.specs.Uses.{most_tile_edges, use_of}
use Rattle.tile_graphs.proofs.Numbered.{zip_numbers}
use Rattle.tile_graphs.proofs.tile_use.fullest_first.Goals as goal

pub returns-clause-all : goal.returns-clause-all
returns-clause-all c =
    let end = YieldsList-end (YieldsList-from_zip (YieldsList-from_range 0 most_tile_edges most_tile_edges (cc) refl) (YieldsList-from_slice c.args.totals.now cc))
    c.loop-tile_edge.yielded _ c.loop-tile_edge.yielded_by _ c.next.new.self c.in-None.is c.next.ensures.steps in
    subst (λ uses. IsPermutation uses c.sort_unstable.new.self.items)
    (c.loop-tile_edge.invariant ∙ ap (flat_map use_of) (end.0 ∙ zip_numbers 0 most_tile_edges c.args.totals.now))
    c.sort_unstable.ensures.permutation
