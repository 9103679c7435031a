-- The certificate of routes alone, of whatever router they are.
use Rattle.std.specs.Prelude.{ℕ, ◌≡◌, List, length, replicate, Option, Some, None}
use Rattle.cert_text.specs.declared.cert.Cert.{Cert}
use Rattle.fractions.specs.declared.fraction.Fraction.{Fraction}
use Rattle.grid_graph.specs.declared.design.Design.{Design}
use Rattle.grid_graph.specs.declared.grid.Grid.{Grid}
use Rattle.grid_graph.specs.declared.ground.Ground.{Ground}
use Rattle.route_judge.specs.Bounds.{HasResource}
use Rattle.route_judge.specs.Counts.{forced_count, open_count}
use Rattle.route_judge.specs.Measured.{AreMeasured}
use Rattle.route_text.specs.declared.block.Block.{Block}
use Rattle.tree_set.specs.declared.measure.Measure.{Measure}

-- what a certificate states of overflow, wirelength and peak
abbrev pub stated_measure : Cert → Measure
stated_measure cert = record { overflow = cert.overflow; wirelength = cert.wirelength; peak = cert.peak }

-- a bound that takes no prices: 0 where there is an open edge, and else none
abbrev pub IsBoundWithoutPrices : Grid → Option Fraction → Type 0
IsBoundWithoutPrices g None = ¬ HasResource g None
IsBoundWithoutPrices g (Some f) = HasResource g None × (f.num ≡ 0)

-- the certificate states what is measured of the blocks, and how many nets and forced nets there are. It has no budget, all its
-- prices are 0, and so is its bound.
pub record IsCertOfRoutes (d : Design) (over : List Ground) (blocks : List Block) (cert : Cert) : Type 0 where
  pub nets : cert.nets ≡ length d.nets
  pub forced : cert.forced ≡ forced_count over
  pub beyond : ℕ
  pub measured : AreMeasured d over blocks None (stated_measure cert) beyond
  pub no_budget : cert.budget ≡ None
  pub equal_prices : cert.prices ≡ replicate (open_count d.grid) 0
  pub bound : IsBoundWithoutPrices d.grid cert.bound
