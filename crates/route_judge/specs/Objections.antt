-- What can be objected to routes and to a certificate, when each objection applies, and the reason that it gives.
use Rattle.std.specs.Prelude.{ℕ, ◌≡◌, ◌≢◌, ◌*◌, ◌≤◌, ◌⊎◌, List, [], ◌∷◌, Contains, length, Option, Some, None}
use Rattle.grid_base.specs.declared.edge.Edge.{Edge as EdgeNumber}
use Rattle.grid_base.specs.declared.piece.Piece.TheVariants.{Edge}
use Rattle.grid_base.specs.declared.place.Place.{Place}
use Rattle.grid_base.specs.Lines.{AreInLine}
use Rattle.grid_base.specs.Walks.{Joins, InVertices}
use Rattle.grid_graph.specs.declared.design.Design.{Design}
use Rattle.grid_graph.specs.declared.grid.Grid.{Grid}
use Rattle.grid_graph.specs.declared.kind.Kind.TheVariants.{Wall}
use Rattle.grid_graph.specs.declared.net_spec.NetSpec.{NetSpec}
use Rattle.grid_graph.specs.Grids.{kind, size_of}
use Rattle.route_text.specs.declared.block.Block.{Block}
use Rattle.route_text.specs.declared.segment.Segment.{Segment}
use Rattle.route_text.specs.BlockPieces.{point_place, LiesOn, IsPieceOf}
use Rattle.fractions.specs.declared.fraction.Fraction.{Fraction}
use Rattle.route_judge.specs.declared.counted.Counted.{Counted}
use Rattle.route_judge.specs.declared.reason.Reason.{Reason}
use Rattle.route_judge.specs.declared.reason.Reason.TheVariants as reasons
use Rattle.route_judge.specs.Bounds.{IsTooHigh}
use Rattle.route_judge.specs.NetSets.{HasNet, HasBlock}

-- an objection. Blocks come with their numbers in the text, and segments with theirs in their block; what was stated comes with
-- what was found.
pub data Objection : Type 0 where
  unknown_net : ℕ → Block → Objection
  repeated_net : List Block → Block → Objection
  point_outside : ℕ → ℕ → Segment → Objection
  slanted : ℕ → ℕ → Segment → Objection
  on_wall : ℕ → ℕ → Segment → Objection
  not_joined : Block → Objection
  missing_net : List Block → NetSpec → Objection
  wrong_overflow : ℕ → ℕ → Objection
  wrong_wirelength : ℕ → ℕ → Objection
  wrong_peak : Option Fraction → Option Fraction → Objection
  wrong_count : Counted → ℕ → ℕ → Objection
  bound_too_high : Option ℕ → Option Fraction → Option Fraction → Objection

-- the reason that an objection gives
abbrev pub reason_of : Objection → Reason
reason_of (unknown_net k block) = reasons.UnknownNet k
reason_of (repeated_net earlier block) = reasons.RepeatedNet block.id
reason_of (point_outside k i segment) = reasons.PointOutside k i
reason_of (slanted k i segment) = reasons.Slanted k i
reason_of (on_wall k i segment) = reasons.OnWall k i
reason_of (not_joined block) = reasons.NotJoined block.id
reason_of (missing_net blocks n) = reasons.MissingNet n.id
reason_of (wrong_overflow stated found) = reasons.WrongOverflow stated found
reason_of (wrong_wirelength stated found) = reasons.WrongWirelength stated found
reason_of (wrong_peak stated found) = reasons.WrongPeak stated found
reason_of (wrong_count what stated found) = reasons.WrongCount what stated found
reason_of (bound_too_high budget stated found) = reasons.BoundTooHigh stated found

-- an end of the segment is outside the grid's rectangle or its layers
abbrev pub IsOutside : Grid → Segment → Type 0
IsOutside g segment = (point_place g segment.from ≡ None) ⊎ (point_place g segment.to ≡ None)

-- both ends are inside, and differ in more than one of column, row and layer
pub record IsSlanted (g : Grid) (segment : Segment) : Type 0 where
  pub from : Place
  pub to : Place
  pub starts : point_place g segment.from ≡ Some from
  pub ends : point_place g segment.to ≡ Some to
  pub slanted : ¬ AreInLine from to

-- a wall lies on the segment
abbrev pub CrossesWall : Grid → Segment → Type 0
CrossesWall g segment = (e : EdgeNumber) × LiesOn g segment (Edge e) × (kind g e.0 ≡ Wall)

-- the block's pieces don't join the terminals of the net with its id
abbrev pub LeavesApart : Design → Block → Type 0
LeavesApart d block =
    (n : NetSpec) × Contains d.nets n × (n.id ≡ block.id) × (¬ Joins (size_of d.grid) (IsPieceOf d.grid block) (InVertices n.terminals))

-- the two have not the same value, or one is none and the other not
abbrev pub Differ : Option Fraction → Option Fraction → Type 0
Differ None None = ⊥
Differ None (Some g) = Unit {0}
Differ (Some f) None = Unit {0}
Differ (Some f) (Some g) = f.num * g.den ≢ g.num * f.den

-- when it applies
abbrev pub Applies : Design → Objection → Type 0
Applies d (unknown_net k block) = ¬ HasNet d.nets block.id
Applies d (repeated_net earlier block) = HasBlock earlier block.id
Applies d (point_outside k i segment) = IsOutside d.grid segment
Applies d (slanted k i segment) = IsSlanted d.grid segment
Applies d (on_wall k i segment) = CrossesWall d.grid segment
Applies d (not_joined block) = LeavesApart d block
Applies d (missing_net blocks n) = (2 ≤ length n.terminals) × (¬ HasBlock blocks n.id)
Applies d (wrong_overflow stated found) = stated ≢ found
Applies d (wrong_wirelength stated found) = stated ≢ found
Applies d (wrong_peak stated found) = Differ stated found
Applies d (wrong_count what stated found) = stated ≢ found
Applies d (bound_too_high budget stated found) = IsTooHigh d.grid budget stated found

-- the reason of the first of the objections that applies, and none where none does
abbrev pub Finds : Design → List Objection → Option Reason → Type 0
Finds d [] found = found ≡ None
Finds d (objection ∷ rest) found =
    (Applies d objection × (found ≡ Some (reason_of objection))) ⊎ ((¬ Applies d objection) × Finds d rest found)
