-- The overflow of a routing by its loads.
use Rattle.std.proofs.Common.{◌≡◌, ℕ, ◌≤◌, ◌<◌, List, length, map, get_or, sym, ◌∙◌, ap, subst, arith, All}
use Rattle.ripup_repair.proofs.Common.{fill_by_all, get_or-map-range_with_len, length-map-range_with_len, sum_by-le, sum}
use Rattle.ripup_repair.proofs.Common.{range_with_len, zip, cond_both, slice_get-get_or, get_or-zip, length-zip, Piece, Design}
use Rattle.ripup_repair.proofs.Common.{Grid, NetSpec, capacity, demand_on, edge_numbers, kind, holds, load, net_load, excess}
use Rattle.ripup_repair.proofs.Common.{overflow}
use Rattle.grid_graph.specs.Limits.{max_demand}
use Rattle.edge_prices.proofs.Layers.{layer-below}
use Rattle.tree_set.specs.Limits.{max_routing_load}

-- the same loads of the edges have the same overflow
pub overflow-same : (g : Grid) (f h : ℕ → ℕ) → ((e : ℕ) → e < edge_numbers g → f e ≡ h e) → overflow g f ≡ overflow g h
overflow-same g f h same =
    let n : ℕ = edge_numbers g in
    let over : (ℕ → ℕ) → ℕ → ℕ = λ l e. excess (kind g e) (l e) (capacity g e) in
    ap sum (fill_by_all (over h) (map (over f) (range_with_len 0 n)) n 0 (length-map-range_with_len (over f) 0 n)
    (λ e within. get_or-map-range_with_len (over f) 0 n e e 0 within (omega arith)
    ∙ ap (λ l. excess (kind g e) l (capacity g e)) (same e within)))

-- no sets have a greater load on an edge than this
pub load-limit : (d : Design) (trees : List (List Piece)) (e : ℕ) → e < edge_numbers d.grid
    → load d.grid d.nets trees e ≤ max_routing_load
load-limit d trees e number =
    let f : NetSpec × List Piece → ℕ = λ x. net_load d.grid x.0.width x.1 e in
    let each : All (λ x. f x ≤ max_demand) (zip d.nets trees) = λ k x below.
    let in_nets : k < length d.nets = omega (arith, below, length-zip d.nets trees) in
    let n : NetSpec = get_or d.nets k x.0 in
    subst (λ y. f y ≤ max_demand) (sym (get_or-zip d.nets trees k x in_nets (omega (arith, below, length-zip d.nets trees))))
    (cond_both (holds (get_or trees k x.1) e) (demand_on d.grid n.width e) 0 (λ y. y ≤ max_demand)
    (λ held. omega (
      arith,
      (d.limits.net k n (slice_get-get_or d.nets k x.0 in_nets)).width _ (layer-below d.grid e number),
      d.grid.limits.greatest_demand _ (layer-below d.grid e number),
    )) (λ off. omega arith)) in
    omega (arith, sum_by-le f max_demand (zip d.nets trees) each, length-zip d.nets trees, d.limits.count)
