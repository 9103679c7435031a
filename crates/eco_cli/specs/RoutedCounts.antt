-- How many nets edits route.
use Rattle.std.specs.Prelude.{ℕ, ◌==◌, Bool, false, List}
use Rattle.std.specs.List.{count_by, list_any}
use Rattle.edit_text.specs.declared.edit.Edit.{Edit}
use Rattle.edit_text.specs.declared.edit.Edit.TheVariants.{Drop, Add, Change}
use Rattle.grid_graph.specs.declared.net_spec.NetSpec.{NetSpec}

-- the edit is an add or a change of the net with this id
abbrev pub routes_net : ℕ → Edit → Bool
routes_net id (Drop other) = false
routes_net id (Add name other width pins) = other == id
routes_net id (Change other width pins) = other == id

-- how many of the nets some edit adds or changes
abbrev pub routed_count : List Edit → List NetSpec → ℕ
routed_count edits nets = count_by (λ n. list_any (routes_net n.id) edits) nets
