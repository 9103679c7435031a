-- Why what is reported reads back.
use Rattle.std.proofs.Common.{ℕ, List, All}
use Rattle.grid_graph.specs.declared.design.Design.{Design}
use Rattle.ispd_reader.specs.Designs.{IsDesignOfText}
use Rattle.grid_graph.proofs.Designs.{design_numbered}
use Rattle.ispd_reader.proofs.NetNames.{design_named}
use Rattle.route_text.specs.ReadBack.{IsNamed}

-- the nets of a design that was read are named
pub nets_named : (text : List ℕ) (d : Design) → IsDesignOfText text d → All IsNamed d.nets
nets_named text d named = λ k n within. record { name = design_named text d named k n within; id = design_numbered d k n within }
