use Rattle.std.proofs.Common.{◌≡◌, ℕ, List, [], ◌∷◌, map, slice_index, refl, ◌∙◌, ap, ◌*◌}
use Rattle.std.specs.List.{sum, range_with_len}
use Rattle.grid_base.specs.Numbers.{vertices}
use Rattle.grid_graph.specs.Grids.{kind, capacity, size_of}
use Rattle.tree_set.specs.Measures.{excess}
use Rattle.tree_set.proofs.Peaks.{IsPeak-same}
use Rattle.tree_set.proofs.load_measure.measure_of_loads.Goals as goal

same_map : (f h : ℕ → ℕ) (xs : List ℕ) → ((e : ℕ) → f e ≡ h e) → map f xs ≡ map h xs
same_map f h [] same = refl
same_map f h (x ∷ xs) same = ap (λ y. y ∷ map f xs) (same x) ∙ ap (λ ys. h x ∷ ys) (same_map f h xs same)

pub returns-clause-overflow : goal.returns-clause-overflow
returns-clause-overflow c load same =
    let g = c.args.grid.now in
    c.overflow_of.ensures
    ∙ ap sum (same_map (λ e. excess (kind g e) (slice_index c.args.loads.now e) (capacity g e)) (λ e. excess (kind g e) (load e) (capacity g e)) (range_with_len 0 (2 * vertices (size_of g)))
    (λ e. ap (λ n. excess (kind g e) n (capacity g e)) (same e)))

pub returns-clause-peak : goal.returns-clause-peak
returns-clause-peak c load same = IsPeak-same c.args.grid.now (slice_index c.args.loads.now) load c.peak_of.result same c.peak_of.ensures
