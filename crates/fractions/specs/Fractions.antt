-- The value of a fraction, and the order of fractions, by cross products.
use Rattle.std.specs.Prelude.{ℕ, ◌≡◌, ◌*◌, ◌≤◌, ◌⊎◌, Option, Some, None}
use Rattle.fractions.specs.declared.fraction.Fraction.{Fraction}

-- the fraction is num/den
abbrev pub IsRatio : ℕ → ℕ → Fraction → Type 0
IsRatio num den f = f.num * den ≡ num * f.den

-- f is at most g
abbrev pub IsAtMost : Fraction → Fraction → Type 0
IsAtMost f g = f.num * g.den ≤ g.num * f.den

-- the greater of a fraction and num/den; num/den where there is no fraction
abbrev pub IsGreaterOf : Option Fraction → ℕ → ℕ → Fraction → Type 0
IsGreaterOf None num den f = IsRatio num den f
IsGreaterOf (Some other) num den f = ((f ≡ other) × (num * other.den ≤ other.num * den)) ⊎ (IsRatio num den f × (other.num * den ≤ num * other.den))
