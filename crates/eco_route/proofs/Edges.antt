-- The loads that are kept, by edges.
use Rattle.std.proofs.Common.{◌≡◌, ℕ, ◌≤◌, ◌<◌, Bool, cond, List, [], ◌∷◌, All, take, slice_index, refl, sym, ◌∙◌, ap, arith, eq-eqb, ⊎_elim}
use Rattle.std.specs.List.{zip}
use Rattle.std.proofs.lemmas.Bool.{cases_lt, ne_eqb}
use Rattle.std.proofs.lemmas.List.{get_or-take, get_or_past, length-take}
use Rattle.std.proofs.lemmas.List.Elements.{All-head, All-tail}
use Rattle.std.proofs.lemmas.List.Sums.{sum_by-cons}
use Rattle.grid_base.specs.declared.piece.Piece.{Piece}
use Rattle.grid_graph.specs.declared.grid.Grid.{Grid}
use Rattle.grid_graph.specs.declared.net_spec.NetSpec.{NetSpec}
use Rattle.grid_graph.specs.Grids.{edge_numbers, size_of}
use Rattle.sharing_runs.proofs.Kept.{net_load-beyond}
use Rattle.tree_set.specs.Loads.{load, load_on, net_load}
use Rattle.tree_set.specs.Measures.{wirelength}
use Rattle.tree_set.specs.Routings.{ArePieces}

-- no sets have a load behind the edges
load-beyond : (g : Grid) (nets : List NetSpec) (trees : List (List Piece)) (e : ℕ) → All (ArePieces (size_of g)) trees → edge_numbers g ≤ e → load g nets trees e ≡ 0
load-beyond g [] trees e pieces beyond = refl
load-beyond g (n ∷ nets) [] e pieces beyond = refl
load-beyond g (n ∷ nets) (t ∷ trees) e pieces beyond =
    omega (
      arith,
      sum_by-cons (λ (x : NetSpec × List Piece). net_load g x.0.width x.1 e) (n, t) (zip nets trees),
      net_load-beyond g n.width t e (All-head (ArePieces (size_of g)) t trees pieces) beyond,
      load-beyond g nets trees e (All-tail (ArePieces (size_of g)) t trees pieces) beyond,
    )

-- the load on an edge
load_on-edge : (g : Grid) (nets : List NetSpec) (trees : List (List Piece)) (e : ℕ) → e < edge_numbers g → load_on g nets trees e ≡ load g nets trees e
load_on-edge g nets trees e within = ap (λ (b : Bool). cond b (wirelength trees) (load g nets trees e)) (ne_eqb e (edge_numbers g) (λ same. omega (arith, same, within)))

-- the loads in front of the wirelength's are those of the edges, and 0 behind them
pub loads_of_edges : (g : Grid) (nets : List NetSpec) (trees : List (List Piece)) (loads : List ℕ) → All (ArePieces (size_of g)) trees
    → ((r : ℕ) → slice_index loads r ≡ load_on g nets trees r) → (e : ℕ) → slice_index (take (edge_numbers g) loads) e ≡ load g nets trees e
loads_of_edges g nets trees loads pieces loaded e =
    let n : ℕ = edge_numbers g in
    ⊎_elim
    (λ (within : e < n). get_or-take n loads e 0 within ∙ loaded e ∙ load_on-edge g nets trees e within)
    (λ (beyond : n ≤ e). get_or_past (take n loads) e 0 (omega (arith, beyond, length-take n loads)) ∙ sym (load-beyond g nets trees e pieces beyond))
    (cases_lt e n)

-- and the one behind them is the wirelength
pub load_of_wire : (g : Grid) (nets : List NetSpec) (trees : List (List Piece)) → load_on g nets trees (edge_numbers g) ≡ wirelength trees
load_of_wire g nets trees = ap (λ (b : Bool). cond b (wirelength trees) (load g nets trees (edge_numbers g))) (eq-eqb (edge_numbers g) (edge_numbers g) refl)
