-- The limits of what a text states.
use Rattle.std.specs.Prelude.{◌≤◌, ◌<◌, All, length, Option}
use Rattle.std.specs.Option.{ForSome}
use Rattle.edge_prices.specs.Budgets.{IsWithinLimits}
use Rattle.fractions.specs.Limits.{numerator_limit}
use Rattle.cert_text.specs.declared.ratio.Ratio.{Ratio}
use Rattle.cert_text.specs.declared.stated.Stated.{Stated}
use Rattle.cert_text.specs.declared.version.Version.{Version}
use Rattle.cert_text.specs.Limits.{max_stated_count, max_stated_total, max_stated_price}
use Rattle.cert_text.specs.Versions.{version_of, denominator_limit}

-- a numerator and a denominator within the limits of the version
pub record IsRatioWithin (version : Version) (ratio : Ratio) : Type 0 where
  pub num : ratio.num < numerator_limit
  pub positive : 1 ≤ ratio.den
  pub den : ratio.den ≤ denominator_limit version

-- where there is one
abbrev pub AreRatiosWithin : Version → Option Ratio → Type 0
AreRatiosWithin version ratio = ForSome ratio (IsRatioWithin version)

-- all that a text states is within the limits of its version
pub record IsStatedWithin (stated : Stated) : Type 0 where
  pub nets : stated.nets ≤ max_stated_count
  pub forced : stated.forced ≤ max_stated_count
  pub overflow : stated.overflow ≤ max_stated_total
  pub wirelength : stated.wirelength ≤ max_stated_total
  pub peak : AreRatiosWithin (version_of stated.budget) stated.peak
  pub bound : AreRatiosWithin (version_of stated.budget) stated.bound
  pub budget : IsWithinLimits stated.budget
  pub few : length stated.prices ≤ max_stated_count
  pub prices : All (λ price. price ≤ max_stated_price) stated.prices
