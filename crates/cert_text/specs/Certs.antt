-- The certificate of a text, and the limits of certificates.
use Rattle.std.specs.Prelude.{ℕ, ◌≡◌, ◌≤◌, List, All, length, Option, Some, None, Ok}
use Rattle.std.specs.Option.{ForSome}
use Rattle.edge_prices.specs.Budgets.{IsWithinLimits}
use Rattle.fractions.specs.Fractions.{IsRatio}
use Rattle.fractions.specs.declared.fraction.Fraction.{Fraction}
use Rattle.cert_text.specs.declared.cert.Cert.{Cert}
use Rattle.cert_text.specs.declared.ratio.Ratio.{Ratio}
use Rattle.cert_text.specs.declared.stated.Stated.{Stated}
use Rattle.cert_text.specs.declared.version.Version.{Version}
use Rattle.cert_text.specs.Limits.{max_stated_count, max_stated_total, max_stated_price}
use Rattle.cert_text.specs.StatedCerts.{stated_in}
use Rattle.cert_text.specs.Versions.{version_of, denominator_limit}

-- the fraction has the value that is stated; there is none where none is stated
abbrev pub IsValueOf : Option Ratio → Option Fraction → Type 0
IsValueOf None None = Unit {0}
IsValueOf None (Some f) = ⊥
IsValueOf (Some ratio) None = ⊥
IsValueOf (Some ratio) (Some f) = (1 ≤ ratio.den) × IsRatio ratio.num ratio.den f

-- the certificate says what is stated, with its fractions in lowest terms
pub record IsOf (stated : Stated) (cert : Cert) : Type 0 where
  pub nets : cert.nets ≡ stated.nets
  pub forced : cert.forced ≡ stated.forced
  pub overflow : cert.overflow ≡ stated.overflow
  pub wirelength : cert.wirelength ≡ stated.wirelength
  pub peak : IsValueOf stated.peak cert.peak
  pub bound : IsValueOf stated.bound cert.bound
  pub budget : cert.budget ≡ stated.budget
  pub prices : cert.prices ≡ stated.prices

-- the certificate of a text: what the text states
abbrev pub IsCertOf : List ℕ → Cert → Type 0
IsCertOf text cert = (stated : Stated) × (stated_in text ≡ Ok stated) × IsOf stated cert

-- a fraction has no greater denominator than its version allows
abbrev pub AreFractionsWithin : Version → Option Fraction → Type 0
AreFractionsWithin version fraction = ForSome fraction (λ f. f.den ≤ denominator_limit version)

-- a certificate within the limits of its version
pub record IsCertWithin (cert : Cert) : Type 0 where
  pub nets : cert.nets ≤ max_stated_count
  pub forced : cert.forced ≤ max_stated_count
  pub overflow : cert.overflow ≤ max_stated_total
  pub wirelength : cert.wirelength ≤ max_stated_total
  pub peak : AreFractionsWithin (version_of cert.budget) cert.peak
  pub bound : AreFractionsWithin (version_of cert.budget) cert.bound
  pub budget : IsWithinLimits cert.budget
  pub few : length cert.prices ≤ max_stated_count
  pub prices : All (λ price. price ≤ max_stated_price) cert.prices
