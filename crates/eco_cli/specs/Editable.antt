-- What is asked of a routed design that is to be edited, and why its edits stop.
use Rattle.std.specs.Prelude.{ℕ, All, List}
use Rattle.edit_text.specs.declared.edit.Edit.{Edit}
use Rattle.eco_cli.specs.declared.edit_stop.EditStop.{EditStop}
use Rattle.eco_cli.specs.declared.edit_stop.EditStop.TheVariants.{Refused, NoMemory}
use Rattle.eco_laws.specs.EditChains.{IsFirstRefused}
use Rattle.eco_route.specs.EcoStates.{AreSetsOf}
use Rattle.grid_base.specs.declared.piece.Piece.{Piece}
use Rattle.grid_graph.specs.declared.design.Design.{Design}
use Rattle.grid_graph.specs.declared.grid.Grid.{Grid}
use Rattle.grid_graph.specs.declared.ground.Ground.TheVariants.{WithChoked}
use Rattle.grid_graph.specs.declared.net_spec.NetSpec.{NetSpec}
use Rattle.grid_graph.specs.Grounds.{JoinsTerminals}

-- open and choked edges with vias join each net's terminals
abbrev pub AreReachable : Grid → List NetSpec → Type 0
AreReachable g nets = All (λ n. JoinsTerminals g WithChoked n.terminals) nets

-- one set a net, and each net can be joined
pub record IsEditable (d : Design) (trees : List (List Piece)) : Type 0 where
  pub sets : AreSetsOf d.grid d.nets trees
  pub reachable : AreReachable d.grid d.nets

-- why edits of a design were not all made: the first of them that is refused; want of memory has no cause
abbrev pub IsStopFor : List Edit → Design → EditStop → Type 0
IsStopFor edits d (Refused refused) = IsFirstRefused edits d refused.index refused.fault
IsStopFor edits d NoMemory = Unit {0}
