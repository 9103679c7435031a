-- The parts of a text together, and the design that they make.
use Rattle.std.proofs.Common.{◌≡◌, ℕ, ◌≤◌, List, length, false, nat_lt, arith, refl, sym, ap, ◌∙◌}
use Rattle.std.specs.Option.{unwrap_or}
use Rattle.std.proofs.lemmas.Bool.Decides.{nat_tests}
use Rattle.grid_graph.specs.declared.grid.Grid.{Grid}
use Rattle.text_scan.specs.Reading.{whole}
use Rattle.grid_graph.specs.Capacities.{layer_capacity}
use Rattle.grid_graph.specs.Grids.{capacity, first_capacity}
use Rattle.grid_graph.specs.Layouts.{Layout}
use Rattle.ispd_reader.specs.Adjustments.{Adjustment, last_level}
use Rattle.ispd_reader.specs.Limits.{max_bytes}
use Rattle.ispd_reader.specs.Adjusted.{IsAdjusted}
use Rattle.ispd_reader.specs.Designs.{contents_at, contents_of}

-- the capacities are what the text says
capacities_read : (g h : Grid) (adjustments : List Adjustment) → ((e : ℕ) → capacity g e ≡ first_capacity g e) → IsAdjusted g h adjustments → (e : ℕ) → capacity h e ≡ unwrap_or (last_level e adjustments) (first_capacity h e)
capacities_read g h adjustments made adjusted e =
    adjusted.levels e ∙ ap (λ d. unwrap_or (last_level e adjustments) d) (made e ∙ sym (ap (λ (y : Layout). layer_capacity y e) adjusted.kept))

-- a text that is not too long
pub short_text : (text : List ℕ) → length text ≤ max_bytes → contents_of text ≡ contents_at (whole text)
short_text text short = let t : nat_lt max_bytes (length text) ≡ false = grind (arith, nat_tests) in rw t refl
