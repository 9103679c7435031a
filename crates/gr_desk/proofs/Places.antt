-- The places of ports, and what a list has at a place after another element was set.
use Rattle.std.proofs.Common.{◌≡◌, ◌≢◌, List, [], ◌∷◌, ℕ, zero, suc, refl, ap, sym, ◌∙◌, Some}
use Rattle.std.specs.Prelude.{slice_get, slice_set}
use Rattle.gr_desk.specs.declared.port.Port.{Port}
use Rattle.gr_desk.specs.declared.port.Port.TheVariants.{In, RoutesIn, CertIn, EditsIn, RoutesOut, CertOut, DesignOut, GuideOut, MapOut, Report}
use Rattle.gr_desk.specs.Ports.{number}

-- the port at a place
port_at : ℕ → Port
port_at zero = In
port_at (suc zero) = RoutesIn
port_at (suc (suc zero)) = CertIn
port_at (suc (suc (suc zero))) = EditsIn
port_at (suc (suc (suc (suc zero)))) = RoutesOut
port_at (suc (suc (suc (suc (suc zero))))) = CertOut
port_at (suc (suc (suc (suc (suc (suc zero)))))) = DesignOut
port_at (suc (suc (suc (suc (suc (suc (suc zero))))))) = GuideOut
port_at (suc (suc (suc (suc (suc (suc (suc (suc zero)))))))) = MapOut
port_at (suc (suc (suc (suc (suc (suc (suc (suc (suc k))))))))) = Report

port_at-number : (p : Port) → port_at (number p) ≡ p
unfolding port_at
port_at-number In = refl
port_at-number RoutesIn = refl
port_at-number CertIn = refl
port_at-number EditsIn = refl
port_at-number RoutesOut = refl
port_at-number CertOut = refl
port_at-number DesignOut = refl
port_at-number GuideOut = refl
port_at-number MapOut = refl
port_at-number Report = refl

-- no two ports have one place
pub number-distinct : (p q : Port) → p ≢ q → number p ≢ number q
number-distinct p q other same = other (sym (port_at-number p) ∙ ap port_at same ∙ port_at-number q)

-- the element that was set
pub slice_get-set_same : {A : Type 0} (xs : List A) (i : ℕ) (old y : A) → slice_get xs i ≡ Some old → slice_get (slice_set xs i y) i ≡ Some y
slice_get-set_same [] i old y h = cc
slice_get-set_same (x ∷ xs) zero old y h = refl
slice_get-set_same (x ∷ xs) (suc i) old y h = slice_get-set_same xs i old y h

-- an element that was not set
pub slice_get-set_other : {A : Type 0} (xs : List A) (i j : ℕ) (y : A) → j ≢ i → slice_get (slice_set xs i y) j ≡ slice_get xs j
slice_get-set_other [] i j y other = refl
slice_get-set_other (x ∷ xs) zero zero y other = absurd (other refl)
slice_get-set_other (x ∷ xs) zero (suc j) y other = refl
slice_get-set_other (x ∷ xs) (suc i) zero y other = refl
slice_get-set_other (x ∷ xs) (suc i) (suc j) y other = slice_get-set_other xs i j y (λ same. other (ap suc same))
