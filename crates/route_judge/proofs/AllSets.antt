-- The sets of all nets, after all blocks.
use Rattle.std.proofs.Common.{◌≡◌, ℕ, ◌<◌, ◌≤◌, ◌⊎◌, Bool, List, [], ◌∷◌, length, map, get_or, Contains, None, refl, sym, ◌∙◌, ap, subst, inl, inr, ⊎_elim, arith, All}
use Rattle.std.proofs.lemmas.Bool.{cases_eq, cases_lt}
use Rattle.std.proofs.lemmas.List.Elements.{All-contains}
use Rattle.std.proofs.lemmas.Option.{slice_get-get_or}
use Rattle.grid_base.specs.declared.piece.Piece.{Piece}
use Rattle.grid_base.specs.declared.vertex.Vertex.{Vertex}
use Rattle.grid_base.specs.Lists.{At}
use Rattle.grid_base.specs.Numbers.{IsVertex}
use Rattle.grid_base.proofs.Joined.{JoinsList-few}
use Rattle.grid_base.proofs.Lists.{AllZip-from_places, Contains-rest, member_from_place, head_or_rest}
use Rattle.grid_graph.specs.declared.design.Design.{Design}
use Rattle.grid_graph.specs.declared.grid.Grid.{Grid}
use Rattle.grid_graph.specs.declared.ground.Ground.TheVariants.{WithChoked}
use Rattle.grid_graph.specs.declared.net_spec.NetSpec.{NetSpec}
use Rattle.grid_graph.specs.Grids.{size_of}
use Rattle.grid_graph.proofs.Grounds.{at_place}
use Rattle.route_text.specs.declared.block.Block.{Block}
use Rattle.tree_set.specs.Routings.{KeepsTo}
use Rattle.tree_set.proofs.Order.{empty-IsRising}
use Rattle.route_judge.specs.BlockSets.{AreBlockSets, AreMissing}
use Rattle.route_judge.specs.NetSets.{HasBlock, IsSetOfNet, IsJoining, AreSetsOf, AreJoining}
use Rattle.route_judge.specs.Objections.{Objection, missing_net, Applies, Finds}
use Rattle.route_judge.specs.TestedBlocks.{AreSetsAfter, AreTaken}

-- where nothing is objected, no objection applies
pub none_of_each : {X : Type 0} (d : Design) (f : X → Objection) (xs : List X) (x : X) → Finds d (map f xs) None → Contains xs x → ¬ Applies d (f x)
none_of_each d f [] x none held = absurd (omega (arith, held.1))
none_of_each d f (y ∷ xs) x none held =
    ⊎_elim
    (λ applies. absurd (cc (applies.1)))
    (λ not. ⊎_elim (λ (is : x ≡ y). subst (λ z. ¬ Applies d (f z)) (sym is) not.0) (λ later. none_of_each d f xs x not.1 later) (head_or_rest y xs x held))
    none

pub terminals_are_vertices : (d : Design) (place : ℕ) (n : NetSpec) → At d.nets place n → All (λ (t : Vertex). IsVertex (size_of d.grid) t.0) n.terminals
terminals_are_vertices d place n at = λ k other below. (d.limits.net place n at).vertices k (get_or n.terminals k other) (slice_get-get_or n.terminals k other below)

-- before the first block each net has the empty set
pub no_sets : (d : Design) (trees : List (List Piece)) → length trees ≡ length d.nets → ((i : ℕ) (tree : List Piece) → At trees i tree → tree ≡ []) → AreSetsAfter d [] trees
no_sets d trees long empty = record {
  long = long;
  each = λ i n tree at_n at_tree. subst (IsSetOfNet d.grid [] n) (sym (empty i tree at_tree)) (record {
    rising = empty-IsRising;
    pieces = λ p. (λ held. absurd (omega (arith, held.1)), λ of. absurd (omega (arith, of.1.1)));
  });
  joining = λ i n tree at_n at_tree has. absurd (omega (arith, has.1.1));
}

-- a list without elements
pub none_held : {X : Type 0} (xs : List X) → ((x : X) → ¬ Contains xs x) → xs ≡ []
none_held [] none = refl
none_held (x ∷ xs) none = absurd (none x (0, omega arith, refl))

-- the set of a net without a block is empty
pub set_of_none : (g : Grid) (blocks : List Block) (n : NetSpec) (tree : List Piece) → ¬ HasBlock blocks n.id → IsSetOfNet g blocks n tree → tree ≡ []
set_of_none g blocks n tree none set = none_held tree (λ p held. let of = (set.pieces p).0 held in none (of.0, of.1, of.2))

-- a net has a block or has none
known_block : (blocks : List Block) (id : ℕ) → HasBlock blocks id ⊎ (¬ HasBlock blocks id)
known_block [] id = inr (λ has. omega (arith, has.1.1))
known_block (block ∷ blocks) id = ⊎_elim
    (λ (is : block.id ≡ id). inl (block, (0, omega arith, refl), is))
    (λ (other : block.id ≡ id → ⊥). ⊎_elim
    (λ has. inl (has.0, Contains-rest block blocks has.0 has.1, has.2))
    (λ none. inr (λ has. ⊎_elim (λ is. other (sym (ap (λ (b : Block). b.id) is) ∙ has.2)) (λ later. none (has.0, later, has.2)) (head_or_rest block blocks has.0 has.1)))
    (known_block blocks id))
    (cases_eq block.id id)

-- the sets after all blocks are those of the nets
pub all_sets : (d : Design) (blocks : List Block) (trees : List (List Piece)) → AreSetsAfter d blocks trees → AreSetsOf d blocks trees
all_sets d blocks trees after = AllZip-from_places (IsSetOfNet d.grid blocks) d.nets trees after.long (λ k n tree at_n at_tree. after.each k n tree at_n at_tree)

joining_at : (d : Design) (blocks : List Block) (place : ℕ) (n : NetSpec) (tree : List Piece) → At d.nets place n → ¬ Applies d (missing_net blocks n) → IsSetOfNet d.grid blocks n tree → (HasBlock blocks n.id → IsJoining d.grid n tree) → IsJoining d.grid n tree
joining_at d blocks place n tree at present set joining =
    ⊎_elim joining
    (λ (none : ¬ HasBlock blocks n.id).
    let empty = set_of_none d.grid blocks n tree none set in
    ⊎_elim
    (λ (few : length n.terminals < 2). subst (IsJoining d.grid n) (sym empty)
    (record { joined = JoinsList-few (size_of d.grid) [] n.terminals few (terminals_are_vertices d place n at); no_wall = λ k other below. absurd (omega (arith, below)) }))
    (λ (many : 2 ≤ length n.terminals). absurd (present (many, none)))
    (cases_lt (length n.terminals) 2))
    (known_block blocks n.id)

-- and where no net lacks a block, they join the nets' terminals
pub all_joining : (d : Design) (blocks : List Block) (trees : List (List Piece)) → AreSetsAfter d blocks trees → Finds d (map (missing_net blocks) d.nets) None → AreJoining d trees
all_joining d blocks trees after none =
    AllZip-from_places (IsJoining d.grid) d.nets trees after.long
    (λ k n tree at_n at_tree. joining_at d blocks k n tree at_n (none_of_each d (missing_net blocks) d.nets n none (member_from_place d.nets k n at_n)) (after.each k n tree at_n at_tree) (after.joining k n tree at_n at_tree))

-- and where some do, the others' sets join theirs, and none has a wall
unwalled_at : (d : Design) (blocks : List Block) (n : NetSpec) (tree : List Piece) → IsSetOfNet d.grid blocks n tree → (HasBlock blocks n.id → IsJoining d.grid n tree) → KeepsTo d.grid WithChoked tree
unwalled_at d blocks n tree set joining =
    ⊎_elim
    (λ has. (joining has).no_wall)
    (λ none. subst (KeepsTo d.grid WithChoked) (sym (set_of_none d.grid blocks n tree none set)) (λ k other below. absurd (omega (arith, below))))
    (known_block blocks n.id)

pub all_block_sets : (d : Design) (blocks : List Block) (trees : List (List Piece)) (has : List Bool) (missing : List ℕ) → AreSetsAfter d blocks trees → AreTaken d blocks has → AreMissing d blocks missing
    → AreBlockSets d blocks trees has missing
all_block_sets d blocks trees has missing after have lacking = record {
  sets = all_sets d blocks trees after;
  no_wall = λ k other below.
      let net = at_place d.nets k (omega (arith, below, after.long)) in
      let stands : At trees k (get_or trees k other) = slice_get-get_or trees k other below in
      unwalled_at d blocks net.0 (get_or trees k other) (after.each k net.0 (get_or trees k other) net.1 stands) (after.joining k net.0 (get_or trees k other) net.1 stands);
  have = have;
  lacking = lacking;
  joining = λ k n tree at_n at_tree present. joining_at d blocks k n tree at_n present (after.each k n tree at_n at_tree) (after.joining k n tree at_n at_tree);
}

-- blocks that are routes lack no net
pub none_missing : (d : Design) (blocks : List Block) (missing : List ℕ) → AreMissing d blocks missing → Finds d (map (missing_net blocks) d.nets) None → missing ≡ []
none_missing d blocks missing are none = none_held missing (λ k held.
    let net = at_place d.nets k (All-contains (λ j. j < length d.nets) missing k are.places held) in
    none_of_each d (missing_net blocks) d.nets net.0 none (member_from_place d.nets k net.0 net.1) ((are.each k net.0 net.1).0 held))
