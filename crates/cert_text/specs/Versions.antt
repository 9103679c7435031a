-- The two versions of the text of a certificate.
use Rattle.std.specs.Prelude.{ℕ, ◌^◌, List, codes, Option, Some, None}
use Rattle.fractions.specs.Limits.{max_denominator}
use Rattle.edge_prices.specs.declared.budget.Budget.{Budget}
use Rattle.cert_text.specs.declared.version.Version.{Version}
use Rattle.cert_text.specs.declared.version.Version.TheVariants.{One, Two}

-- a version as it is written
abbrev pub version_text : Version → List ℕ
version_text One = codes "1"
version_text Two = codes "2"

-- a certificate without a budget has version 1, one with a budget version 2
abbrev pub version_of : Option Budget → Version
version_of None = One
version_of (Some budget) = Two

-- the greatest denominator of a fraction
abbrev pub denominator_limit : Version → ℕ
denominator_limit One = 2 ^ 57
denominator_limit Two = max_denominator
