-- What is objected to a block, and which nets have a block and which sets after it.
use Rattle.std.proofs.Common.{◌≡◌, ◌≢◌, ℕ, ◌+◌, ◌<◌, ◌⊎◌, List, [], ◌∷◌, ◌++◌, length, get_or, take, slice_set, true, false, Bool, Contains, Option, Some, refl, sym, ◌∙◌, ap, subst, inl, inr, ⊎_elim, arith}
use Rattle.std.specs.Prelude.{◌↔◌}
use Rattle.std.proofs.lemmas.List.Elements.{All-contains, All-contains_itself, All-weaker, Contains-append_left, Contains-append_right, Contains-append_cases}
use Rattle.std.proofs.lemmas.Bool.{cases_eq}
use Rattle.std.proofs.lemmas.List.{take_more, get_or-set_same, get_or-set_other, length-set}
use Rattle.std.proofs.lemmas.Option.{same_Some, slice_get_within, slice_get_read, get_or_from_slice_get}
use Rattle.grid_base.specs.declared.piece.Piece.{Piece}
use Rattle.grid_base.specs.Lists.{At, HasNoRepeats}
use Rattle.grid_base.specs.Walks.{InPieces, InVertices, Joins, JoinsList}
use Rattle.grid_base.proofs.Joined.{Joins-superset}
use Rattle.grid_base.proofs.Lists.{At-from_member, member_from_place, head_or_rest}
use Rattle.grid_graph.specs.declared.design.Design.{Design}
use Rattle.grid_graph.specs.declared.grid.Grid.{Grid}
use Rattle.grid_graph.specs.declared.net_spec.NetSpec.{NetSpec}
use Rattle.grid_graph.specs.declared.ground.Ground.TheVariants.{WithChoked}
use Rattle.grid_graph.specs.Grids.{Allows, size_of}
use Rattle.route_text.specs.declared.block.Block.{Block}
use Rattle.route_text.specs.BlockPieces.{IsPieceOf}
use Rattle.tree_set.specs.Order.{IsRising}
use Rattle.route_judge.specs.declared.reason.Reason.{Reason}
use Rattle.route_judge.specs.declared.reason.Reason.TheVariants.{RepeatedNet}
use Rattle.route_judge.specs.declared.stop.Stop.{Stop}
use Rattle.route_judge.specs.declared.stop.Stop.TheVariants.{Refused, NoMemory}
use Rattle.route_judge.specs.NetPlaces.{ArePlacesOf}
use Rattle.route_judge.specs.NetSets.{HasBlock, IsSetOfNet, IsJoining}
use Rattle.route_judge.specs.Objections.{not_joined, Finds, LeavesApart}
use Rattle.route_judge.specs.Orders.{all_segment_objections, block_objections}
use Rattle.route_judge.specs.Stops.{StopsFor}
use Rattle.route_judge.specs.TestedBlocks.{IsTested, AreTaken, AreSetsAfter}

-- a set of the block's pieces joins the net's terminals where these pieces do
pub not_apart : (d : Design) (block : Block) (place : ℕ) (n : NetSpec) (tree : List Piece) → At d.nets place n → n.id ≡ block.id → ((p : Piece) → Contains tree p ↔ IsPieceOf d.grid block p) → JoinsList (size_of d.grid) tree n.terminals → ¬ LeavesApart d block
not_apart d block place n tree at id pieces joined = λ apart.
    let where_it_is = At-from_member d.nets apart.0 apart.1 in
    let same : place ≡ where_it_is.0 = d.limits.ids place where_it_is.0 n apart.0 at where_it_is.2 (id ∙ sym apart.2) in
    let is : n ≡ apart.0 = same_Some _ _ (sym at ∙ subst (λ j. At d.nets j apart.0) (sym same) where_it_is.2) in
    apart.3 (subst (λ (m : NetSpec). Joins (size_of d.grid) (IsPieceOf d.grid block) (InVertices m.terminals)) is
    (Joins-superset (size_of d.grid) (InPieces tree) (IsPieceOf d.grid block) (InVertices n.terminals) (λ p. (pieces p).0) joined))

pub is_apart : (d : Design) (block : Block) (place : ℕ) (n : NetSpec) (tree : List Piece) → At d.nets place n → n.id ≡ block.id → ((p : Piece) → Contains tree p ↔ IsPieceOf d.grid block p) → ¬ JoinsList (size_of d.grid) tree n.terminals → LeavesApart d block
is_apart d block place n tree at id pieces unjoined = (
  n,
  member_from_place d.nets place n at,
  id,
  λ joins. unjoined (Joins-superset (size_of d.grid) (IsPieceOf d.grid block) (InPieces tree) (InVertices n.terminals) (λ p. (pieces p).1) joins),
)

-- the net at the place of an id
pub known_net : (nets : List NetSpec) (place_of : ℕ → Option ℕ) (id place : ℕ) → ArePlacesOf nets place_of → Some place ≡ place_of id → (n : NetSpec) × At nets place n × (n.id ≡ id)
known_net nets place_of id place places found = (places.stands id place (sym found)).1

-- which blocks there are after one more
has_block_more : (earlier : List Block) (block : Block) (id : ℕ) → HasBlock earlier id → HasBlock (earlier ++ block ∷ []) id
has_block_more earlier block id has = (has.0, Contains-append_left earlier (block ∷ []) has.0 has.1, has.2)

earlier_or_this : (earlier : List Block) (block b : Block) → Contains (earlier ++ block ∷ []) b → Contains earlier b ⊎ (b ≡ block)
earlier_or_this earlier block b held =
    ⊎_elim (λ old. inl old) (λ last. ⊎_elim (λ is. inr is) (λ none. absurd (omega (arith, none.1))) (head_or_rest block [] b last)) (Contains-append_cases earlier (block ∷ []) b held)

other_or_none : (earlier : List Block) (block : Block) (id : ℕ) → block.id ≢ id → HasBlock (earlier ++ block ∷ []) id → HasBlock earlier id
other_or_none earlier block id other has = ⊎_elim
    (λ old. (has.0, old, has.2))
    (λ is. absurd (other (sym (ap (λ (b : Block). b.id) is) ∙ has.2)))
    (earlier_or_this earlier block has.0 has.1)

last_block : (earlier : List Block) (block : Block) → Contains (earlier ++ block ∷ []) block
last_block earlier block = Contains-append_right earlier (block ∷ []) block (0, omega arith, refl)

-- what stands in a list after one place was written
set_here : {X : Type 0} (xs : List X) (place : ℕ) (y x : X) → place < length xs → At (slice_set xs place y) place x → x ≡ y
set_here xs place y x below at = sym (get_or_from_slice_get (slice_set xs place y) place x x at) ∙ get_or-set_same xs place y x below

set_other : {X : Type 0} (xs : List X) (place i : ℕ) (y x : X) → i ≢ place → At (slice_set xs place y) i x → At xs i x
set_other {X = X} xs place i y x other at =
    let below : i < length xs = omega (arith, slice_get_within (slice_set xs place y) i x at, length-set {A = X} xs place y) in
    slice_get_read xs _ i x refl below (sym (get_or_from_slice_get (slice_set xs place y) i x x at) ∙ get_or-set_other xs place i y x other)

-- so far the nets before, and the block's own
pub taken_more : (d : Design) (earlier : List Block) (block : Block) (place : ℕ) (n : NetSpec) (taken : List Bool) → At d.nets place n → n.id ≡ block.id → AreTaken d earlier taken → AreTaken d (earlier ++ block ∷ []) (slice_set taken place true)
taken_more d earlier block place n taken at id before =
    let below : place < length taken = omega (arith, before.long, slice_get_within d.nets place n at) in
    record {
      long = length-set taken place true ∙ before.long;
      each = λ i m has at_m at_has. ⊎_elim
          (λ (here : i ≡ place).
          let is : n ≡ m = same_Some _ _ (sym at ∙ subst (λ j. At d.nets j m) here at_m) in
          let new : has ≡ true = set_here taken place true has below (subst (λ j. At (slice_set taken place true) j has) here at_has) in
          (λ told. (block, last_block earlier block, sym id ∙ ap (λ (x : NetSpec). x.id) is), λ some. new))
          (λ (other : i ≡ place → ⊥).
          let apart : block.id ≢ m.id = λ same. other (sym (d.limits.ids place i n m at at_m (id ∙ same))) in
          let was = before.each i m has at_m (set_other taken place i true has other at_has) in
          (λ told. has_block_more earlier block m.id (was.0 told), λ some. was.1 (other_or_none earlier block m.id apart some)))
          (cases_eq i place);
    }

-- the set of another net stays the same, and so do its blocks
set_kept : (g : Grid) (earlier : List Block) (block : Block) (n : NetSpec) (tree : List Piece) → block.id ≢ n.id → IsSetOfNet g earlier n tree → IsSetOfNet g (earlier ++ block ∷ []) n tree
set_kept g earlier block n tree other set = record {
  rising = set.rising;
  pieces = λ p. (
    λ held. let of = (set.pieces p).0 held in (of.0, Contains-append_left earlier (block ∷ []) of.0 of.1, of.2, of.3),
    λ of. ⊎_elim
        (λ old. (set.pieces p).1 (of.0, old, of.2, of.3))
        (λ is. absurd (other (sym (ap (λ (b : Block). b.id) is) ∙ of.2)))
        (earlier_or_this earlier block of.0 of.1),
  );
}

-- the block's own net gets the block's pieces
set_filled : (g : Grid) (earlier : List Block) (block : Block) (n : NetSpec) (tree : List Piece) → n.id ≡ block.id → ¬ HasBlock earlier n.id → IsRising tree → ((p : Piece) → Contains tree p ↔ IsPieceOf g block p) → IsSetOfNet g (earlier ++ block ∷ []) n tree
set_filled g earlier block n tree id none rising pieces = record {
  rising = rising;
  pieces = λ p. (
    λ held. (block, last_block earlier block, sym id, (pieces p).0 held),
    λ of. ⊎_elim
        (λ old. absurd (none (of.0, old, of.2)))
        (λ is. (pieces p).1 (subst (λ b. IsPieceOf g b p) is of.3))
        (earlier_or_this earlier block of.0 of.1),
  );
}

-- the same pieces in another order join the same terminals
pub joining_again : (g : Grid) (n : NetSpec) (pieces tree : List Piece) → ((p : Piece) → Contains tree p ↔ Contains pieces p) → IsJoining g n pieces → IsJoining g n tree
joining_again g n pieces tree same joining = record {
  joined = Joins-superset (size_of g) (InPieces pieces) (InPieces tree) (InVertices n.terminals) (λ p. (same p).1) joining.joined;
  no_wall = All-weaker (Contains tree) (Allows g WithChoked) (λ p held. All-contains (Allows g WithChoked) pieces p joining.no_wall ((same p).0 held)) tree (All-contains_itself tree);
}

-- the sets after one more block
pub sets_more : (d : Design) (earlier : List Block) (block : Block) (place : ℕ) (pieces tree : List Piece) (trees : List (List Piece)) → IsTested d earlier block place pieces → IsRising tree → ((p : Piece) → Contains tree p ↔ Contains pieces p) → AreSetsAfter d earlier trees → AreSetsAfter d (earlier ++ block ∷ []) (slice_set trees place tree)
sets_more d earlier block place pieces tree trees tested rising same before =
    let n = tested.net in
    let below : place < length trees = omega (arith, before.long, slice_get_within d.nets place n tested.at) in
    let own : IsSetOfNet d.grid (earlier ++ block ∷ []) n tree = set_filled d.grid earlier block n tree tested.id tested.first rising
    (λ p. (λ held. (tested.named p).0 ((same p).0 held), λ of. (same p).1 ((tested.named p).1 of))) in
    let joins : IsJoining d.grid n tree = joining_again d.grid n pieces tree same tested.joining in
    let here : (i : ℕ) (m : NetSpec) → i ≡ place → At d.nets i m → n ≡ m = λ i m is at_m. same_Some _ _ (sym tested.at ∙ subst (λ j. At d.nets j m) is at_m) in
    let new : (i : ℕ) (t : List Piece) → i ≡ place → At (slice_set trees place tree) i t → t ≡ tree = λ i t is at_t. set_here trees place tree t below (subst (λ j. At (slice_set trees place tree) j t) is at_t) in
    let apart : (i : ℕ) (m : NetSpec) → i ≢ place → At d.nets i m → block.id ≢ m.id = λ i m other at_m is. other (sym (d.limits.ids place i n m tested.at at_m (tested.id ∙ is))) in
    record {
      long = length-set trees place tree ∙ before.long;
      each = λ i m t at_m at_t. ⊎_elim
          (λ (is : i ≡ place). subst (λ x. IsSetOfNet d.grid (earlier ++ block ∷ []) x t) (here i m is at_m) (subst (IsSetOfNet d.grid (earlier ++ block ∷ []) n) (sym (new i t is at_t)) own))
          (λ (other : i ≡ place → ⊥). set_kept d.grid earlier block m t (apart i m other at_m) (before.each i m t at_m (set_other trees place i tree t other at_t)))
          (cases_eq i place);
      joining = λ i m t at_m at_t has. ⊎_elim
          (λ (is : i ≡ place). subst (λ x. IsJoining d.grid x t) (here i m is at_m) (subst (IsJoining d.grid n) (sym (new i t is at_t)) joins))
          (λ (other : i ≡ place → ⊥). before.joining i m t at_m (set_other trees place i tree t other at_t) (other_or_none earlier block m.id (apart i m other at_m) has))
          (cases_eq i place);
    }

-- the first blocks with one more
pub one_block_more : (blocks : List Block) (k : ℕ) (block : Block) → k < length blocks → block ≡ get_or blocks k block → take k blocks ++ block ∷ [] ≡ take (k + 1) blocks
one_block_more blocks k block below is = ap (λ b. take k blocks ++ b ∷ []) is ∙ sym (take_more blocks k block below)

-- whether the net at a place has a block, as it was read
pub taken_at : (d : Design) (earlier : List Block) (taken : List Bool) (place : ℕ) (n : NetSpec) (has : Bool) → AreTaken d earlier taken → At d.nets place n → has ≡ get_or taken place has → (has ≡ true) ↔ HasBlock earlier n.id
taken_at d earlier taken place n has are at is =
    are.each place n has at (slice_get_read taken _ place has refl (omega (arith, are.long, slice_get_within d.nets place n at)) is)

-- a block whose net has one is refused for that
pub repeated_block : (d : Design) (blocks : List Block) (k : ℕ) (block : Block) (place_of : ℕ → Option ℕ) (place : ℕ) (taken : List Bool) (has : Bool) → ArePlacesOf d.nets place_of → Some place ≡ place_of block.id → AreTaken d (take k blocks) taken → has ≡ get_or taken place has → has ≡ true → Finds d (block_objections blocks (k, block)) (Some (RepeatedNet block.id))
repeated_block d blocks k block place_of place taken has places found are is told =
    let net = known_net d.nets place_of block.id place places found in
    inr (
      λ none. none (net.0, member_from_place d.nets place net.0 net.1, net.2),
      inl (subst (HasBlock (take k blocks)) net.2 ((taken_at d (take k blocks) taken place net.0 has are net.1 is).0 told), refl),
    )

-- where it has none, what is objected to the block's segments and its pieces is objected to the block
pub first_of_block : (d : Design) (blocks : List Block) (k : ℕ) (block : Block) (place_of : ℕ → Option ℕ) (place : ℕ) (taken : List Bool) (has : Bool) (found : Option Reason) → ArePlacesOf d.nets place_of → Some place ≡ place_of block.id → AreTaken d (take k blocks) taken → has ≡ get_or taken place has → has ≡ false → Finds d (all_segment_objections k block.segments ++ not_joined block ∷ []) found → Finds d (block_objections blocks (k, block)) found
first_of_block d blocks k block place_of place taken has found places known are is no_block rest =
    let net = known_net d.nets place_of block.id place places known in
    inr (
      λ none. none (net.0, member_from_place d.nets place net.0 net.1, net.2),
      inr (λ earlier. let told = (taken_at d (take k blocks) taken place net.0 has are net.1 is).1 (subst (HasBlock (take k blocks)) (sym net.2) earlier) in cc (told, no_block), rest),
    )

pub stop_of_block : (d : Design) (blocks : List Block) (k : ℕ) (block : Block) (place_of : ℕ → Option ℕ) (place : ℕ) (taken : List Bool) (has : Bool) (stop : Stop) → ArePlacesOf d.nets place_of → Some place ≡ place_of block.id → AreTaken d (take k blocks) taken → has ≡ get_or taken place has → has ≡ false → StopsFor d (all_segment_objections k block.segments ++ not_joined block ∷ []) stop → StopsFor d (block_objections blocks (k, block)) stop
stop_of_block d blocks k block place_of place taken has (Refused reason) places known are is no_block rest =
    first_of_block d blocks k block place_of place taken has (Some reason) places known are is no_block rest
stop_of_block d blocks k block place_of place taken has NoMemory places known are is no_block rest = tt

-- and it is tested
pub tested_block : (d : Design) (blocks : List Block) (k : ℕ) (block : Block) (place_of : ℕ → Option ℕ) (place : ℕ) (taken : List Bool) (has : Bool) (pieces : List Piece) → ArePlacesOf d.nets place_of → Some place ≡ place_of block.id → AreTaken d (take k blocks) taken → has ≡ get_or taken place has → has ≡ false → HasNoRepeats pieces → ((p : Piece) → Contains pieces p ↔ IsPieceOf d.grid block p) → ((n : NetSpec) → At d.nets place n → IsJoining d.grid n pieces) → IsTested d (take k blocks) block place pieces
tested_block d blocks k block place_of place taken has pieces places known are is no_block once named joining =
    let net = known_net d.nets place_of block.id place places known in
    record {
      net = net.0;
      at = net.1;
      id = net.2;
      first = λ earlier. let told = (taken_at d (take k blocks) taken place net.0 has are net.1 is).1 earlier in cc (told, no_block);
      once = once;
      named = named;
      joining = joining net.0 net.1;
    }

pub taken_after : (d : Design) (blocks : List Block) (k : ℕ) (block : Block) (place_of : ℕ → Option ℕ) (place : ℕ) (taken : List Bool) → k < length blocks → block ≡ get_or blocks k block → ArePlacesOf d.nets place_of → Some place ≡ place_of block.id → AreTaken d (take k blocks) taken → AreTaken d (take (k + 1) blocks) (slice_set taken place true)
taken_after d blocks k block place_of place taken below is places known are =
    let net = known_net d.nets place_of block.id place places known in
    subst (λ earlier. AreTaken d earlier (slice_set taken place true)) (one_block_more blocks k block below is) (taken_more d (take k blocks) block place net.0 taken net.1 net.2 are)
