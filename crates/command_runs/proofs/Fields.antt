-- Numbers of a line.
use Rattle.std.proofs.Common.{◌≡◌, ℕ, List, [], ◌∷◌, ◌++◌, Some, None, refl, ap, codes, decimal}
use Rattle.std.specs.Prelude.{slice_get, slice_index}
use Rattle.std.proofs.lemmas.List.{append-nil}
use Rattle.command_runs.specs.declared.text_fault.TextFault.{TextFault}
use Rattle.command_runs.specs.declared.text_fault.TextFault.TheVariants.{Routes, Certificate, Price, Number, Edits, TooLong}
use Rattle.command_runs.specs.Lines.{fields}
use Rattle.command_runs.specs.TextFaults.{text_fault_fields}

-- a number, and then those behind it
pub fields-then : (n : ℕ) (ns : List ℕ) → fields (n ∷ []) ++ fields ns ≡ fields (n ∷ ns)
fields-then n ns = ap (λ (bytes : List ℕ). bytes ++ fields ns) (append-nil (codes " " ++ decimal n))

-- the number of a fault, and its place, where it has one
pub with-place : (fault : TextFault) (at : ℕ) → slice_get (text_fault_fields fault) 1 ≡ Some at
    → slice_index (text_fault_fields fault) 0 ∷ at ∷ [] ≡ text_fault_fields fault
with-place (Routes x) at is = let same : Some x ≡ Some at = is in cc
with-place (Certificate x) at is = let same : Some x ≡ Some at = is in cc
with-place (Price x) at is = let same : Some x ≡ Some at = is in cc
with-place (Number x) at is = let same : Some x ≡ Some at = is in cc
with-place (Edits x) at is = let same : Some x ≡ Some at = is in cc
with-place TooLong at is = cc

pub without-place : (fault : TextFault) → slice_get (text_fault_fields fault) 1 ≡ None
    → slice_index (text_fault_fields fault) 0 ∷ [] ≡ text_fault_fields fault
without-place (Routes x) is = cc
without-place (Certificate x) is = cc
without-place (Price x) is = cc
without-place (Number x) is = cc
without-place (Edits x) is = cc
without-place TooLong is = refl
