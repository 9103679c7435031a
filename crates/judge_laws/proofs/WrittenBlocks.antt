-- The blocks that are written for the nets of a design with their sets: none of them can be objected to.
use Rattle.std.proofs.Common.{◌≡◌, ℕ, zero, suc, ◌<◌, List, [], ◌∷◌, length, get_or, take, All, Contains, Some, None, refl, sym, ◌∙◌, ap, subst, inr, arith}
use Rattle.std.specs.Prelude.{map}
use Rattle.std.specs.List.{zip}
use Rattle.std.proofs.lemmas.List.{length-map}
use Rattle.std.proofs.lemmas.Option.{same_Some, slice_get_within, get_or_from_slice_get}
use Rattle.std.proofs.lemmas.Slice.Zip.{length-zip, AllZip-long}
use Rattle.grid_base.specs.declared.piece.Piece.{Piece}
use Rattle.grid_base.specs.Lists.{At}
use Rattle.grid_base.specs.Walks.{Joins, InPieces, InVertices}
use Rattle.grid_base.proofs.Joined.{Joins-superset}
use Rattle.grid_base.proofs.Lists.{AllZip-at, AllZip-from_places, At-from_member, member_from_place}
use Rattle.grid_graph.specs.declared.design.Design.{Design}
use Rattle.grid_graph.specs.declared.grid.Grid.{Grid}
use Rattle.grid_graph.specs.declared.ground.Ground.TheVariants.{WithChoked}
use Rattle.grid_graph.specs.declared.net_spec.NetSpec.{NetSpec}
use Rattle.grid_graph.specs.Grids.{size_of}
use Rattle.grid_graph.proofs.Allowed.{Allows-IsPiece}
use Rattle.grid_graph.proofs.Grounds.{at_place}
use Rattle.tree_set.specs.Order.{IsRising}
use Rattle.tree_set.specs.Routings.{ArePieces}
use Rattle.route_text.specs.declared.block.Block.{Block}
use Rattle.route_text.specs.BlockPieces.{IsPieceOf}
use Rattle.route_text.specs.Segments.{segments}
use Rattle.route_text.specs.Written.{written_segment, written_block, written_blocks}
use Rattle.route_text.proofs.NamedPieces.{names_its_pieces}
use Rattle.route_judge.specs.NetSets.{HasNet, HasBlock, IsSetOfNet, AreSetsOf, IsJoining, AreJoining}
use Rattle.route_judge.specs.Objections.{Applies, Finds, missing_net, not_joined, LeavesApart}
use Rattle.route_judge.specs.Orders.{segment_objections, all_segment_objections, block_objections, all_block_objections, AreRoutes}
use Rattle.route_judge.proofs.Found.{found_behind}
use Rattle.judge_laws.proofs.NoObjections.{none_against_numbered, none_of_map}
use Rattle.judge_laws.proofs.WrittenSegments.{written_is_right}

-- sets that join the nets' terminals without walls, as rising lists
pub record AreRoutedSets (d : Design) (trees : List (List Piece)) : Type 0 where
  pub rising : All IsRising trees
  pub joining : AreJoining d trees

-- ---- places

pub sets_long : (d : Design) (trees : List (List Piece)) → AreRoutedSets d trees → length trees ≡ length d.nets
sets_long d trees sets = AllZip-long (IsJoining d.grid) d.nets trees sets.joining

pub blocks_long : (d : Design) (trees : List (List Piece)) → AreRoutedSets d trees → length (written_blocks d.grid d.nets trees) ≡ length d.nets
blocks_long d trees sets =
    omega (arith, sets_long d trees sets, length-zip d.nets trees, length-map (zip d.nets trees) (λ (x : NetSpec × List Piece). written_block d.grid x.0 x.1))

-- at the place of a net stands the block that is written for it
block_of_net : (g : Grid) (nets : List NetSpec) (trees : List (List Piece)) (k : ℕ) (n : NetSpec) (tree : List Piece) → At nets k n → At trees k tree
    → At (written_blocks g nets trees) k (written_block g n tree)
block_of_net g [] trees k n tree at_net at_tree = absurd (omega (arith, slice_get_within {A = NetSpec} [] k n at_net))
block_of_net g (m ∷ nets) [] k n tree at_net at_tree = absurd (omega (arith, slice_get_within {A = List Piece} [] k tree at_tree))
block_of_net g (m ∷ nets) (t ∷ trees) zero n tree at_net at_tree =
    ap (λ x. Some x) (ap (λ x. written_block g x t) (same_Some _ _ at_net) ∙ ap (written_block g n) (same_Some _ _ at_tree))
block_of_net g (m ∷ nets) (t ∷ trees) (suc k) n tree at_net at_tree = block_of_net g nets trees k n tree at_net at_tree

-- so a block is that of the net at its place
pub record IsWritten (d : Design) (trees : List (List Piece)) (k : ℕ) (block : Block) : Type 0 where
  pub net : NetSpec
  pub tree : List Piece
  pub stands : At d.nets k net
  pub set_stands : At trees k tree
  pub is : block ≡ written_block d.grid net tree
  pub rising : IsRising tree
  pub pieces : ArePieces (size_of d.grid) tree
  pub joining : IsJoining d.grid net tree

abbrev pub set_at : (d : Design) (trees : List (List Piece)) (k : ℕ) (n : NetSpec) (tree : List Piece) → AreRoutedSets d trees → At d.nets k n → At trees k tree
    → IsWritten d trees k (written_block d.grid n tree)
set_at d trees k n tree sets at_net at_tree =
    let within = slice_get_within trees k tree at_tree in
    let joining = AllZip-at (IsJoining d.grid) d.nets trees k n tree sets.joining at_net at_tree in
    record {
      net = n;
      tree = tree;
      stands = at_net;
      set_stands = at_tree;
      is = refl;
      rising = subst IsRising (get_or_from_slice_get trees k tree tree at_tree) (sets.rising k tree within);
      pieces = λ i p below. Allows-IsPiece d.grid WithChoked (get_or tree i p) (joining.no_wall i p below);
      joining = joining;
    }

pub written_at : (d : Design) (trees : List (List Piece)) (k : ℕ) (block : Block) → AreRoutedSets d trees → At (written_blocks d.grid d.nets trees) k block
    → IsWritten d trees k block
written_at d trees k block sets at =
    let blocks = written_blocks d.grid d.nets trees in
    let within = slice_get_within blocks k block at in
    let net = at_place d.nets k (omega (arith, within, blocks_long d trees sets)) in
    let set = at_place trees k (omega (arith, within, blocks_long d trees sets, sets_long d trees sets)) in
    let is : written_block d.grid net.0 set.0 ≡ block = same_Some _ _ (sym (block_of_net d.grid d.nets trees k net.0 set.0 net.1 set.1) ∙ at) in
    subst (IsWritten d trees k) is (set_at d trees k net.0 set.0 sets net.1 set.1)

-- ---- what is objected to a block

-- two blocks of one id stand at one place
one_place : (d : Design) (trees : List (List Piece)) (j k : ℕ) (one other : Block) → AreRoutedSets d trees
    → At (written_blocks d.grid d.nets trees) j one → At (written_blocks d.grid d.nets trees) k other → one.id ≡ other.id → j ≡ k
one_place d trees j k one other sets at_one at_other same =
    let first = written_at d trees j one sets at_one in
    let second = written_at d trees k other sets at_other in
    d.limits.ids j k first.net second.net first.stands second.stands
    (sym (ap (λ (b : Block). b.id) first.is) ∙ same ∙ ap (λ (b : Block). b.id) second.is)

-- what stands before a place stands in the list
before_place : {X : Type 0} (xs : List X) (k : ℕ) (x : X) → Contains (take k xs) x → (j : ℕ) × (j < k) × At xs j x
before_place [] zero x held = absurd (omega (arith, held.1))
before_place [] (suc k) x held = absurd (omega (arith, held.1))
before_place (y ∷ xs) zero x held = absurd (omega (arith, held.1))
before_place (y ∷ xs) (suc k) x (zero, within, is) = (0, omega arith, ap (λ z. Some z) is)
before_place (y ∷ xs) (suc k) x (suc i, within, is) =
    let rest = before_place xs k x (i, omega (arith, within), is) in (suc rest.0, omega (arith, rest.1), rest.2)

known : (d : Design) (trees : List (List Piece)) (k : ℕ) (block : Block) → IsWritten d trees k block → HasNet d.nets block.id
known d trees k block w = (w.net, member_from_place d.nets k w.net w.stands, sym (ap (λ (b : Block). b.id) w.is))

not_repeated : (d : Design) (trees : List (List Piece)) (k : ℕ) (block : Block) → AreRoutedSets d trees → At (written_blocks d.grid d.nets trees) k block
    → ¬ HasBlock (take k (written_blocks d.grid d.nets trees)) block.id
not_repeated d trees k block sets at = λ earlier.
    let before = before_place (written_blocks d.grid d.nets trees) k earlier.0 earlier.1 in
    let same = one_place d trees before.0 k earlier.0 block sets before.2 at earlier.2 in
    omega (arith, before.1, same)

joined : (d : Design) (trees : List (List Piece)) (k : ℕ) (block : Block) → IsWritten d trees k block → ¬ LeavesApart d block
joined d trees k block w = λ apart.
    let s = size_of d.grid in
    let at = At-from_member d.nets apart.0 apart.1 in
    let id : w.net.id ≡ apart.0.id = sym (ap (λ (b : Block). b.id) w.is) ∙ sym apart.2 in
    let place : k ≡ at.0 = d.limits.ids k at.0 w.net apart.0 w.stands at.2 id in
    let is : w.net ≡ apart.0 = same_Some _ _ (sym w.stands ∙ subst (λ j. At d.nets j apart.0) (sym place) at.2) in
    let names : (p : Piece) → Contains w.tree p → IsPieceOf d.grid block p =
    λ p held. subst (λ b. IsPieceOf d.grid b p) (sym w.is) ((names_its_pieces d.grid w.net w.tree w.rising w.pieces p).1 held) in
    apart.3 (subst (λ (m : NetSpec). Joins s (IsPieceOf d.grid block) (InVertices m.terminals)) is
    (Joins-superset s (InPieces w.tree) (IsPieceOf d.grid block) (InVertices w.net.terminals) names w.joining.joined))

segments_right : (d : Design) (trees : List (List Piece)) (k : ℕ) (block : Block) → IsWritten d trees k block → Finds d (all_segment_objections k block.segments) None
segments_right d trees k block w =
    none_against_numbered d (segment_objections k) block.segments (λ i segment at.
    let held : Contains (map (written_segment d.grid) (segments (size_of d.grid) w.tree)) segment =
    subst (λ (b : Block). Contains b.segments segment) w.is (member_from_place block.segments i segment at) in
    let right = written_is_right d.grid w.net w.tree segment w.rising w.pieces w.joining.no_wall held in
    inr (right.inside, inr (right.straight, inr (right.no_wall, refl))))

block_right : (d : Design) (trees : List (List Piece)) (k : ℕ) (block : Block) → AreRoutedSets d trees → At (written_blocks d.grid d.nets trees) k block
    → Finds d (block_objections (written_blocks d.grid d.nets trees) (k, block)) None
block_right d trees k block sets at =
    let w = written_at d trees k block sets at in
    inr (
      λ unknown. unknown (known d trees k block w),
      inr (
        not_repeated d trees k block sets at,
        found_behind d (all_segment_objections k block.segments) (not_joined block ∷ []) None (segments_right d trees k block w) (inr (joined d trees k block w, refl)),
      ),
    )

-- ---- and to all of them

none_missing : (d : Design) (trees : List (List Piece)) (k : ℕ) (n : NetSpec) → AreRoutedSets d trees → At d.nets k n
    → ¬ Applies d (missing_net (written_blocks d.grid d.nets trees) n)
none_missing d trees k n sets at = λ missing.
    let set = at_place trees k (omega (arith, slice_get_within d.nets k n at, sets_long d trees sets)) in
    let stands = block_of_net d.grid d.nets trees k n set.0 at set.1 in
    missing.1 (written_block d.grid n set.0, member_from_place (written_blocks d.grid d.nets trees) k (written_block d.grid n set.0) stands, refl)

-- the written blocks are routes of the design
pub written_are_routes : (d : Design) (trees : List (List Piece)) → AreRoutedSets d trees → AreRoutes d (written_blocks d.grid d.nets trees)
written_are_routes d trees sets =
    let blocks = written_blocks d.grid d.nets trees in
    found_behind d (all_block_objections blocks) (map (missing_net blocks) d.nets) None
    (none_against_numbered d (block_objections blocks) blocks (λ k block at. block_right d trees k block sets at))
    (none_of_map d (missing_net blocks) d.nets (λ k n at. none_missing d trees k n sets at))

-- ---- their sets

set_of_net : (d : Design) (trees : List (List Piece)) (k : ℕ) (n : NetSpec) (tree : List Piece) → AreRoutedSets d trees → At d.nets k n → At trees k tree
    → IsSetOfNet d.grid (written_blocks d.grid d.nets trees) n tree
set_of_net d trees k n tree sets at_net at_tree =
    let blocks = written_blocks d.grid d.nets trees in
    let own = set_at d trees k n tree sets at_net at_tree in
    let stands = block_of_net d.grid d.nets trees k n tree at_net at_tree in
    record {
      rising = own.rising;
      pieces = λ p. (
        λ held. (written_block d.grid n tree, member_from_place blocks k (written_block d.grid n tree) stands, refl, (names_its_pieces d.grid n tree own.rising own.pieces p).1 held),
        λ of.
            let at = At-from_member blocks of.0 of.1 in
            let place : at.0 ≡ k = one_place d trees at.0 k of.0 (written_block d.grid n tree) sets at.2 stands of.2 in
            let is : of.0 ≡ written_block d.grid n tree = same_Some _ _ (sym at.2 ∙ subst (λ j. At blocks j (written_block d.grid n tree)) (sym place) stands) in
            (names_its_pieces d.grid n tree own.rising own.pieces p).0 (subst (λ b. IsPieceOf d.grid b p) is of.3),
      );
    }

-- the sets that they give the nets are those that they were written for
pub written_sets : (d : Design) (trees : List (List Piece)) → AreRoutedSets d trees → AreSetsOf d (written_blocks d.grid d.nets trees) trees
written_sets d trees sets =
    AllZip-from_places (IsSetOfNet d.grid (written_blocks d.grid d.nets trees)) d.nets trees (sets_long d trees sets)
    (λ k n tree at_net at_tree. set_of_net d trees k n tree sets at_net at_tree)
