-- Each net of an edited design can be joined: a net that comes or changes has a route, and all others stay.
use Rattle.std.proofs.Common.{◌≡◌, ◌++◌, ℕ, All, List, [], ◌∷◌, subst, sym}
use Rattle.std.specs.Prelude.{slice_set}
use Rattle.std.specs.List.{remove}
use Rattle.std.proofs.lemmas.List.Elements.{All-push, All-set}
use Rattle.edit_text.specs.declared.edit.Edit.{Edit}
use Rattle.edit_text.specs.declared.edit.Edit.TheVariants.{Drop, Add, Change}
use Rattle.grid_base.specs.declared.piece.Piece.{Piece}
use Rattle.grid_graph.specs.declared.grid.Grid.{Grid}
use Rattle.grid_graph.specs.declared.ground.Ground.TheVariants.{WithChoked}
use Rattle.grid_graph.specs.declared.net_spec.NetSpec.{NetSpec}
use Rattle.grid_graph.specs.Grounds.{JoinsTerminals}
use Rattle.grid_graph.proofs.Grounds.{joins_with_choked}
use Rattle.tree_set.specs.Routings.{IsRoute}
use Rattle.eco_laws.specs.EcoChains.{AreEcoSteps}
use Rattle.eco_route.specs.EcoSteps.{IsEcoStep}
use Rattle.eco_route.specs.RoutedDesigns.{RoutedDesign}
use Rattle.eco_route.proofs.EcoFacts.{all_from, each_at}
use Rattle.eco_route.proofs.Removed.{At-removed, place_before}
use Rattle.eco_cli.specs.Editable.{AreReachable}

abbrev pub IsReachable : Grid → NetSpec → Type 0
IsReachable g n = JoinsTerminals g WithChoked n.terminals

-- a net with a route can be joined
routed-reachable : (g : Grid) (n : NetSpec) (tree : List Piece) → IsRoute g n tree → IsReachable g n
routed-reachable g n tree route = joins_with_choked g n.terminals route.over route.is_ground

removed-reachable : (g : Grid) (nets : List NetSpec) (p : ℕ) → AreReachable g nets → AreReachable g (remove nets p)
removed-reachable g nets p all = all_from (IsReachable g) (remove nets p) (λ k n at. each_at (IsReachable g) nets all (place_before p k) n (At-removed nets p k n at))

step-reachable : (e : Edit) (old new : RoutedDesign) → IsEcoStep e old.design old.sets new.design new.sets → AreReachable old.design.grid old.design.nets
    → AreReachable new.design.grid new.design.nets
step-reachable (Drop id) old new step all =
    rw (step.edited.grid, step.edited.nets) (removed-reachable old.design.grid old.design.nets step.edited.place all)
step-reachable (Add name id width pins) old new step all =
    let g = old.design.grid in
    rw (step.edited.grid, step.edited.nets) (All-push (IsReachable g) old.design.nets step.edited.net all (routed-reachable g step.edited.net step.tree step.step.route))
step-reachable (Change id width pins) old new step all =
    let g = old.design.grid in
    rw (step.edited.grid, step.edited.nets)
    (All-set (IsReachable g) old.design.nets step.edited.place step.edited.net (routed-reachable g step.edited.net step.tree step.step.route) all)

pub steps-reachable : (edits : List Edit) (old new : RoutedDesign) → AreEcoSteps edits old new → AreReachable old.design.grid old.design.nets
    → AreReachable new.design.grid new.design.nets
steps-reachable [] old new same all = subst (λ (x : RoutedDesign). AreReachable x.design.grid x.design.nets) (sym same) all
steps-reachable (e ∷ later) old new steps all = steps-reachable later steps.0 new steps.2 (step-reachable e old steps.0 steps.1.step all)
