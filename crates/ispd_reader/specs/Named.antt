-- A token that keeps the bytes of a name.
use Rattle.std.specs.Prelude.{◌≡◌, true, false}
use Rattle.design_tokens.specs.declared.cut_token.CutToken.{CutToken}
use Rattle.ispd_reader.specs.declared.machine.Machine.{Machine}
use Rattle.design_tokens.specs.CutTokens.{has_no_byte, keeps_name}
use Rattle.ispd_reader.specs.MachineLeft.{awaits_a_name}

-- a token keeps its bytes where the machine awaits a name
abbrev pub IsNamed : Machine → CutToken → Type 0
IsNamed machine token = has_no_byte token ≡ false → awaits_a_name machine ≡ true → keeps_name token ≡ true
