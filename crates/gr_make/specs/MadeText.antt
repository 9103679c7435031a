-- The text of a generated design, in the format of the ISPD 2008 global routing contest.
use Rattle.std.specs.Prelude.{ℕ, ◌+◌, ◌%◌, ◌==◌, if◌then◌else◌, List, [], ◌∷◌, ◌++◌, length, map, flat_map, codes, decimal}
use Rattle.std.specs.List.{range_with_len}
use Rattle.gr_make.specs.declared.shape.Shape.{Shape}
use Rattle.gr_make.specs.MadeNets.{MadeNet, tile_side, made_nets}
use Rattle.gr_make.specs.MadeAdjustments.{MadeAdjustment, adjustment_count, made_adjustments}

-- a line: words with one space between, and a line feed
abbrev pub line_text : List (List ℕ) → List ℕ
line_text [] = codes "\n"
line_text (first ∷ others) = first ++ flat_map (λ other. codes " " ++ other) others ++ codes "\n"

-- the capacity along y of a layer, counted from 1: even layers alone have one
abbrev pub vertical_level : ℕ → ℕ
vertical_level layer = if layer % 2 == 0 then 8 else 0

-- the capacity along x: odd layers alone have one
abbrev pub horizontal_level : ℕ → ℕ
horizontal_level layer = if layer % 2 == 0 then 0 else 8

-- a number for each layer, which count from 1
abbrev pub per_layer : Shape → (ℕ → ℕ) → List (List ℕ)
per_layer shape number = map (λ layer. decimal (number layer)) (range_with_len 1 shape.layers)

-- the lines before the nets: the grid, its layers, where the tiles begin and their sides, and how many nets there are
abbrev pub heading_lines : Shape → List (List (List ℕ))
heading_lines shape =
    (codes "grid" ∷ decimal shape.cols ∷ decimal shape.rows ∷ decimal shape.layers ∷ [])
    ∷ (codes "vertical" ∷ codes "capacity" ∷ per_layer shape vertical_level)
    ∷ (codes "horizontal" ∷ codes "capacity" ∷ per_layer shape horizontal_level)
    ∷ (codes "minimum" ∷ codes "width" ∷ per_layer shape (λ layer. 1))
    ∷ (codes "minimum" ∷ codes "spacing" ∷ per_layer shape (λ layer. 1))
    ∷ (codes "via" ∷ codes "spacing" ∷ per_layer shape (λ layer. 1))
    ∷ (decimal 0 ∷ decimal 0 ∷ decimal tile_side ∷ decimal tile_side ∷ [])
    ∷ (codes "num" ∷ codes "net" ∷ decimal shape.nets ∷ []) ∷ []

-- the line of a pin: x, y and the first layer
abbrev pub pin_line : ℕ × ℕ → List (List ℕ)
pin_line pin = decimal pin.0 ∷ decimal pin.1 ∷ decimal 1 ∷ []

-- the lines of a net: its name, its id, how many pins it has, and its wire width; and then its pins
abbrev pub net_lines : MadeNet → List (List (List ℕ))
net_lines net =
    ((codes "n" ++ decimal net.number) ∷ decimal net.number ∷ decimal (length net.pins) ∷ decimal 1 ∷ [])
    ∷ map pin_line net.pins

-- the line of an adjustment: a tile of the first layer, the tile of the next column, and the new capacity
abbrev pub adjustment_line : MadeAdjustment → List (List ℕ)
adjustment_line a =
    decimal a.col ∷ decimal a.row ∷ decimal 1 ∷ decimal (a.col + 1) ∷ decimal a.row ∷ decimal 1 ∷ decimal a.level ∷ []

-- all lines, each with its words
abbrev pub made_lines : ℕ → Shape → List (List (List ℕ))
made_lines seed shape =
    heading_lines shape
    ++ flat_map net_lines (made_nets seed shape)
    ++ ((decimal (adjustment_count shape) ∷ []) ∷ map adjustment_line (made_adjustments seed shape))

-- the text of the design that is made from a seed
abbrev pub made_text : ℕ → Shape → List ℕ
made_text seed shape = flat_map line_text (made_lines seed shape)
