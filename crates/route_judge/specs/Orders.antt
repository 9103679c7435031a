-- The order of the objections, and what the judge finds by it.
use Rattle.std.specs.Prelude.{ℕ, List, [], ◌∷◌, ◌++◌, length, take, map, flat_map, Option, None}
use Rattle.std.specs.List.{enumerate_from}
use Rattle.grid_graph.specs.declared.design.Design.{Design}
use Rattle.grid_graph.specs.declared.ground.Ground.{Ground}
use Rattle.cert_text.specs.declared.cert.Cert.{Cert}
use Rattle.route_text.specs.declared.block.Block.{Block}
use Rattle.route_text.specs.declared.segment.Segment.{Segment}
use Rattle.fractions.specs.declared.fraction.Fraction.{Fraction}
use Rattle.tree_set.specs.declared.measure.Measure.{Measure}
use Rattle.edge_prices.specs.Budgets.{most_of}
use Rattle.route_judge.specs.declared.counted.Counted.TheVariants.{Nets, Forced, Prices}
use Rattle.route_judge.specs.Counts.{forced_count, open_count}
use Rattle.route_judge.specs.Objections.{Objection, Finds}
use Rattle.route_judge.specs.Objections as objections

-- against a segment, with its number in the block and the block's in the text
abbrev pub segment_objections : ℕ → ℕ × Segment → List Objection
segment_objections k numbered =
    objections.point_outside k numbered.0 numbered.1 ∷ objections.slanted k numbered.0 numbered.1 ∷ objections.on_wall k numbered.0 numbered.1 ∷ []

-- against the segments of a block
abbrev pub all_segment_objections : ℕ → List Segment → List Objection
all_segment_objections k segments = flat_map (segment_objections k) (enumerate_from 0 segments)

-- against a block of the text, with its number
abbrev pub block_objections : List Block → ℕ × Block → List Objection
block_objections blocks numbered =
    objections.unknown_net numbered.0 numbered.1
    ∷ objections.repeated_net (take numbered.0 blocks) numbered.1
    ∷ (all_segment_objections numbered.0 numbered.1.segments
    ++ objections.not_joined numbered.1 ∷ [])

-- against the blocks of a text
abbrev pub all_block_objections : List Block → List Objection
all_block_objections blocks = flat_map (block_objections blocks) (enumerate_from 0 blocks)

-- against routes: against their blocks, and then for want of a block
abbrev pub route_objections : Design → List Block → List Objection
route_objections d blocks = all_block_objections blocks ++ map (objections.missing_net blocks) d.nets

-- the blocks are routes of the design: nothing can be objected to them
abbrev pub AreRoutes : Design → List Block → Type 0
AreRoutes d blocks = Finds d (route_objections d blocks) None

-- against what a certificate states of routes with this measure
abbrev pub measure_objections : Cert → Measure → List Objection
measure_objections cert m =
    objections.wrong_overflow cert.overflow m.overflow ∷ objections.wrong_wirelength cert.wirelength m.wirelength ∷ objections.wrong_peak cert.peak m.peak ∷ []

-- against what it counts
abbrev pub count_objections : Design → List Ground → Cert → List Objection
count_objections d over cert =
    objections.wrong_count Nets cert.nets (length d.nets)
    ∷ objections.wrong_count Forced cert.forced (forced_count over)
    ∷ objections.wrong_count Prices (length cert.prices) (open_count d.grid)
    ∷ []

-- against its bound, where this was found at its prices
abbrev pub bound_objections : Cert → Option Fraction → List Objection
bound_objections cert found = objections.bound_too_high (most_of cert.budget) cert.bound found ∷ []

-- against routes and a certificate, but for its bound
abbrev pub objections_but_bound : Design → List Ground → List Block → Cert → Measure → List Objection
objections_but_bound d over blocks cert m = route_objections d blocks ++ (measure_objections cert m ++ count_objections d over cert)

-- all of them
abbrev pub all_objections : Design → List Ground → List Block → Cert → Measure → Option Fraction → List Objection
all_objections d over blocks cert m found = objections_but_bound d over blocks cert m ++ bound_objections cert found
