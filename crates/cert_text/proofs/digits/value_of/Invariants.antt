use Rattle.std.proofs.Common.{◌≡◌, ◌-◌, ◌^◌, take, min}
use Rattle.std.specs.Str.Parse.{digits_value}
use Rattle.cert_text.proofs.digits.value_of.Given as goal

-- the value of the digits so far
abbrev pub invariant-loop-d : goal.invariant-loop-d
invariant-loop-d l = l.value ≡ min (digits_value 10 (take l.d-index l.digits)) (2 ^ 128 - 1)
