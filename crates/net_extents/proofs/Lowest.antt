-- The lowest layer with an open edge, edge number after edge number.
use Rattle.std.proofs.Common.{◌≡◌, ℕ, ◌+◌, ◌<◌, ◌≤◌, refl, inl, inr, sym, ◌∙◌, ap, arith, below_more}
use Rattle.std.specs.Prelude.{min}
use Rattle.std.proofs.lemmas.Bool.{cases_lt}
use Rattle.grid_base.specs.declared.axis.Axis.{Axis}
use Rattle.grid_base.specs.declared.axis.Axis.TheVariants.{X, Y}
use Rattle.grid_base.specs.Numbers.{edge_axis, edge_start, layer_of, layers}
use Rattle.grid_graph.specs.declared.grid.Grid.{Grid}
use Rattle.grid_graph.specs.Grids.{capacity, size_of}
use Rattle.net_extents.specs.declared.lowest_layers.LowestLayers.{LowestLayers}
use Rattle.net_extents.specs.LowestLayers.{IsLowestOf, IsOpenAlong}

module _ (g : Grid) (axis : Axis) where
  -- of no edge number
  pub lowest-none : IsLowestOf g axis 0 (layers (size_of g))
  lowest-none = record { lowest = λ e below is. absurd (omega (arith, below)); stands = inl refl }

  -- with one more, which is of no open edge along the axis
  pub lowest-skip : (n layer : ℕ) → ¬ IsOpenAlong g axis n → IsLowestOf g axis n layer → IsLowestOf g axis (n + 1) layer
  lowest-skip n layer none is = record {
    lowest = below_more (λ e. IsOpenAlong g axis e → layer ≤ layer_of (size_of g) (edge_start e)) n is.lowest (λ along. absurd (none along));
    stands = elim is.stands [ inl top ↦ inl top | inr some ↦ inr (some.0, omega (arith, some.1), some.2, some.3) ];
  }

  -- with one more, which is of one
  pub lowest-take : (n layer least : ℕ) → least ≡ min layer (layer_of (size_of g) (edge_start n)) → IsOpenAlong g axis n → IsLowestOf g axis n layer → IsLowestOf g axis (n + 1) least
  lowest-take n layer least fewest along is =
      let here = layer_of (size_of g) (edge_start n) in
      record {
        lowest = below_more (λ e. IsOpenAlong g axis e → least ≤ layer_of (size_of g) (edge_start e)) n
            (λ e below other. omega (arith, fewest, is.lowest e below other)) (λ one. omega (arith, fewest));
        stands = elim (cases_lt layer here) [
          | inl less ↦ elim is.stands [
            | inl top ↦ inl (omega (arith, fewest, top, less))
            | inr some ↦ inr (some.0, omega (arith, some.1), some.2, omega (arith, some.3, fewest, less))
          ]
          | inr not_less ↦ inr (n, omega arith, along, omega (arith, fewest, not_less))
        ];
      }

-- those along both axes
abbrev pub AreLowest : Grid → ℕ → LowestLayers → Type 0
AreLowest g n lowest = IsLowestOf g X n lowest.along_x × IsLowestOf g Y n lowest.along_y

-- with an open edge along an axis
pub lowest-with : (g : Grid) (n layer : ℕ) (axis : Axis) (old new : LowestLayers) → 0 < capacity g n → axis ≡ edge_axis n → layer ≡ layer_of (size_of g) (edge_start n)
    → (axis ≡ X → new ≡ record old { along_x = min old.along_x layer })
    → (axis ≡ Y → new ≡ record old { along_y = min old.along_y layer })
    → AreLowest g n old → AreLowest g (n + 1) new
lowest-with g n layer X old new some axis here along_x along_y are =
    rw (along_x refl) (
      lowest-take g X n old.along_x _ (ap (min old.along_x) here) (some, sym axis) are.0,
      lowest-skip g Y n old.along_y (λ other. let same : X ≡ Y = axis ∙ other.1 in cc) are.1,
    )
lowest-with g n layer Y old new some axis here along_x along_y are =
    rw (along_y refl) (
      lowest-skip g X n old.along_x (λ other. let same : Y ≡ X = axis ∙ other.1 in cc) are.0,
      lowest-take g Y n old.along_y _ (ap (min old.along_y) here) (some, sym axis) are.1,
    )
