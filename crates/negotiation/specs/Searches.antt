-- What the searches of a batch see, and what they find.
use Rattle.std.specs.Prelude.{ℕ, ◌≡◌, ◌<◌, List, Option, All, IfSome, length}
use Rattle.std.specs.List.{AllZip}
use Rattle.grid_base.specs.declared.piece.Piece.{Piece}
use Rattle.grid_base.specs.Lists.{At}
use Rattle.grid_graph.specs.declared.design.Design.{Design}
use Rattle.grid_graph.specs.declared.net_spec.NetSpec.{NetSpec}
use Rattle.grid_graph.specs.Grids.{edge_numbers}
use Rattle.grid_graph.specs.Grounds.{AreGrounds}
use Rattle.tree_set.specs.Routings.{IsRoute}
use Rattle.negotiation.specs.declared.finding.Finding.{Finding}
use Rattle.negotiation.specs.declared.sight.Sight.{Sight}

-- a ground, a set and a margin for each net, and a room and a price for each edge number
pub record IsSight (s : Sight) : Type 0 where
  pub grounds : AreGrounds s.design.now.grid s.design.now.nets s.grounds.now
  pub sets : length s.trees.now ≡ length s.design.now.nets
  pub margins : length s.margins.now ≡ length s.design.now.nets
  pub rooms : length s.field.rooms.now ≡ edge_numbers s.design.now.grid
  pub prices : length s.field.prices.now ≡ edge_numbers s.design.now.grid

-- all are places of nets
abbrev pub ArePlaces : Design → List ℕ → Type 0
ArePlaces d nets = All (λ k. k < length d.nets) nets

-- what is found for the net at this place, if anything is, is a route of it
abbrev pub IsFoundFor : Design → ℕ → Option (List Piece) → Type 0
IsFoundFor d k found = (n : NetSpec) → At d.nets k n → IfSome found (IsRoute d.grid n)

-- one finding for each of these nets, in their order
abbrev pub AreFound : Design → List ℕ → List (Option (List Piece)) → Type 0
AreFound d nets found = AllZip (IsFoundFor d) nets found

-- it names a place of one of these nets, and what is found for that net
pub record IsFinding (d : Design) (nets : List ℕ) (f : Finding) : Type 0 where
  pub place : f.place < length nets
  pub found : (k : ℕ) → At nets f.place k → IsFoundFor d k f.found

abbrev pub AreFindings : Design → List ℕ → List Finding → Type 0
AreFindings d nets findings = All (IsFinding d nets) findings
