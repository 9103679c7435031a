-- The text of a certificate: a line for each thing that it says, and then the prices, one a line.
use Rattle.std.specs.Prelude.{ℕ, List, [], ◌++◌, length, flat_map, codes, decimal, Option, Some, None}
use Rattle.edge_prices.specs.declared.budget.Budget.{Budget}
use Rattle.fractions.specs.declared.fraction.Fraction.{Fraction}
use Rattle.cert_text.specs.declared.cert.Cert.{Cert}
use Rattle.cert_text.specs.Versions.{version_text, version_of}

-- a line: a label, and a text behind it
abbrev pub labelled : List ℕ → List ℕ → List ℕ
labelled label text = label ++ codes " " ++ text ++ codes "\n"

-- a fraction: numerator, `/` and denominator, or `none`
abbrev pub fraction_text : Option Fraction → List ℕ
fraction_text None = codes "none"
fraction_text (Some f) = decimal f.num ++ codes "/" ++ decimal f.den

-- the line of the budget: the wirelength that is to be kept, and its price
abbrev pub budget_text : Option Budget → List ℕ
budget_text None = []
budget_text (Some budget) = labelled (codes "budget") (decimal budget.most ++ codes " " ++ decimal budget.price)

-- the line of a price
abbrev pub price_text : ℕ → List ℕ
price_text price = decimal price ++ codes "\n"

-- the text of a certificate
abbrev pub cert_text : Cert → List ℕ
cert_text cert =
    labelled (codes "grouter certificate") (version_text (version_of cert.budget))
    ++ labelled (codes "nets") (decimal cert.nets)
    ++ labelled (codes "forced") (decimal cert.forced)
    ++ labelled (codes "overflow") (decimal cert.overflow)
    ++ labelled (codes "wirelength") (decimal cert.wirelength)
    ++ labelled (codes "peak") (fraction_text cert.peak)
    ++ labelled (codes "bound") (fraction_text cert.bound)
    ++ budget_text cert.budget
    ++ labelled (codes "prices") (decimal (length cert.prices))
    ++ flat_map price_text cert.prices
