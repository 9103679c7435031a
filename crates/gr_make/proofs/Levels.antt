-- A number for each layer.
use Rattle.std.proofs.Common.{◌≡◌, ℕ, ◌≤◌, take, map, ◌∙◌, ap}
use Rattle.std.specs.Prelude.{decimal}
use Rattle.std.specs.List.{range_with_len}
use Rattle.std.proofs.lemmas.List.FromFn.{take-map-range_with_len}
use Rattle.std.proofs.lemmas.Simd.{map-map}
use Rattle.gr_make.specs.declared.shape.Shape.{Shape}
use Rattle.gr_make.specs.MadeText.{per_layer}
use Rattle.gr_make.specs.Shapes.{max_made_layers}

-- the first numbers of those of the most layers
pub first_levels : (shape : Shape) (level : ℕ → ℕ) → shape.layers ≤ max_made_layers →
    map decimal (take shape.layers (map level (range_with_len 1 max_made_layers))) ≡ per_layer shape level
first_levels shape level few =
    ap (map decimal) (take-map-range_with_len level 1 max_made_layers shape.layers few)
    ∙ map-map decimal level (range_with_len 1 shape.layers)
