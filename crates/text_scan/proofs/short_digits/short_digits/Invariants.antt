use Rattle.std.proofs.Common.{◌≡◌, ◌+◌, ◌-◌, ◌≤◌, drop, take, true}
use Rattle.std.specs.Char.{is_ascii_digit}
use Rattle.std.specs.List.{prefix_len}
use Rattle.std.specs.Str.{all_ascii_digits}
use Rattle.std.specs.Str.Parse.{digits_value}
use Rattle.text_scan.proofs.short_digits.short_digits.Given as goal

-- all bytes so far are digits, few ones, and this is their value
abbrev pub invariant-loop-i : goal.invariant-loop-i
invariant-loop-i l =
    let rest = drop l.at l.bytes in
    (l.at + prefix_len is_ascii_digit rest ≡ l.i + prefix_len is_ascii_digit (drop l.i l.bytes))
    × (l.i - l.at ≤ 18)
    × (all_ascii_digits (take (l.i - l.at) rest) ≡ true)
    × (l.value ≡ digits_value 10 (take (l.i - l.at) rest))
