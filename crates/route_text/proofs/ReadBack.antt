-- The written blocks are those of the nets, with their sets.
use Rattle.std.proofs.Common.{◌≡◌, ◌<◌, List, length, get_or, All, refl, arith}
use Rattle.std.specs.List.{zip}
use Rattle.std.proofs.lemmas.List.{length-map}
use Rattle.std.proofs.lemmas.Slice.Zip.{length-zip, get_or-zip}
use Rattle.grid_base.specs.declared.piece.Piece.{Piece}
use Rattle.grid_base.proofs.Chosen.{AllZip-made}
use Rattle.grid_graph.specs.declared.grid.Grid.{Grid}
use Rattle.grid_graph.specs.declared.net_spec.NetSpec.{NetSpec}
use Rattle.route_text.specs.ReadBack.{IsSet, IsBlockOf, AreBlocksOf}
use Rattle.route_text.specs.Written.{written_block, written_blocks}
use Rattle.route_text.proofs.NamedPieces.{names_its_pieces}

-- each written block is that of its net with its set
each_is_of : (g : Grid) (nets : List NetSpec) (trees : List (List Piece)) → All (IsSet g) trees → All (λ (x : NetSpec × List Piece). IsBlockOf g x.0 x.1 (written_block g x.0 x.1)) (zip nets trees)
each_is_of g nets trees sets k d below =
    let in_nets : k < length nets = omega (arith, length-zip nets trees) in
    let in_trees : k < length trees = omega (arith, length-zip nets trees) in
    let set = sets k d.1 in_trees in
    rw (get_or-zip nets trees k d in_nets in_trees) (record { name = refl; id = refl; pieces = names_its_pieces g (get_or nets k d.0) (get_or trees k d.1) set.rising set.pieces })

-- one block per net is written, that of the net
pub are_blocks : (g : Grid) (nets : List NetSpec) (trees : List (List Piece)) → length trees ≡ length nets → All (IsSet g) trees → AreBlocksOf g nets trees (written_blocks g nets trees)
are_blocks g nets trees same sets = record {
  long = omega (arith, same, length-zip nets trees, length-map (zip nets trees) (λ (x : NetSpec × List Piece). written_block g x.0 x.1));
  each = AllZip-made (λ (x : NetSpec × List Piece) block. IsBlockOf g x.0 x.1 block) (λ x. written_block g x.0 x.1) (zip nets trees) (each_is_of g nets trees sets);
}
