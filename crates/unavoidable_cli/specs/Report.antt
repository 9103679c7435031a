-- The report of a finding.
use Rattle.std.specs.Prelude.{ℕ, All, List, [], ◌∷◌, ◌++◌, codes}
use Rattle.cert_text.specs.CertText.{fraction_text, labelled}
use Rattle.command_runs.specs.Lines.{budget_line, line}
use Rattle.unavoidable_cli.specs.declared.finding.Finding.{Finding}
use Rattle.unavoidable_cli.specs.PricedEdges.{IsEdgeOf, edges_text}

-- the bound of the new certificate and the edges that it prices, the overflow of every routing and the edges whose prices show
-- it, the overflow of the routes, and the wirelength that is to be kept, where the certificates have a budget
abbrev pub finding_report : Finding → List ℕ
finding_report f =
    labelled (codes "bound") (fraction_text f.new.bound)
    ++ edges_text (codes "bottleneck") f.design.grid f.bottleneck.items
    ++ line (codes "overflow") (f.overflow ∷ [])
    ++ edges_text (codes "cut") f.design.grid f.cut.items
    ++ line (codes "routes") (f.routes ∷ [])
    ++ budget_line f.new.budget

-- the edges that it names are those of the grid
pub record HasEdges (f : Finding) : Type 0 where
  pub bottleneck : All (IsEdgeOf f.design.grid) f.bottleneck.items
  pub cut : All (IsEdgeOf f.design.grid) f.cut.items
