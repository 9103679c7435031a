-- What a fault of a route text, of a certificate or of a text of edits says.
use Rattle.std.specs.Prelude.{ℕ, List, [], ◌∷◌}
use Rattle.command_runs.specs.declared.text_fault.TextFault.{TextFault}
use Rattle.command_runs.specs.declared.text_fault.TextFault.TheVariants.{Routes, Certificate, Price, Number, Edits, TooLong}

-- its number, and then its place; none where the whole text is refused
abbrev pub text_fault_fields : TextFault → List ℕ
text_fault_fields (Routes at) = 31 ∷ at ∷ []
text_fault_fields (Certificate at) = 32 ∷ at ∷ []
text_fault_fields (Price at) = 33 ∷ at ∷ []
text_fault_fields (Number at) = 34 ∷ at ∷ []
text_fault_fields (Edits at) = 61 ∷ at ∷ []
text_fault_fields TooLong = 35 ∷ []
