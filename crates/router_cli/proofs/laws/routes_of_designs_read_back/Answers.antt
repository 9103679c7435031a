use Rattle.std.proofs.lemmas.List.Elements.{All-weaker}
use Rattle.tree_set.specs.Routings.{ArePieces}
use Rattle.route_text.specs.ReadBack.{IsSet}
use Rattle.route_text.specs.Written.{written_blocks}
use Rattle.route_text.proofs.ReadBack.{are_blocks}
use Rattle.route_text.proofs.ReadBackBlocks.{text_reads_back}
use Rattle.router_cli.proofs.ReadBack.{nets_named}
use Rattle.router_cli.proofs.laws.routes_of_designs_read_back.Goals as goal
use Rattle.grid_graph.specs.Grids.{size_of}

pub returns : goal.returns
returns c = λ text d trees named near one_each sets. (
  written_blocks d.grid d.nets trees,
  text_reads_back d.grid d.nets trees near (nets_named text d named) (All-weaker (IsSet d.grid) (ArePieces (size_of d.grid)) (λ tree set. set.pieces) trees sets),
  are_blocks d.grid d.nets trees one_each sets,
)
