-- A number that a text goes on with.
use Rattle.std.specs.Prelude.{◌≡◌, ◌+◌, ◌≤◌, ℕ, List, length, drop, true, SomeIff, FitsSigned}
use Rattle.std.specs.Int.{w128}
use Rattle.text_scan.specs.Numbers.{is_number, number_front, value_of}
use Rattle.text_scan.specs.declared.number_front.NumberFront.{NumberFront}

-- it is the number that the text goes on with at this place: there is one, it ends here, and this is its value
pub record IsFrontOf (text : List ℕ) (at : ℕ) (front : NumberFront) : Type 0 where
  pub number : is_number (number_front (drop at text)) ≡ true
  pub end : front.end ≡ at + length (number_front (drop at text))
  pub within : front.end ≤ length text
  pub value : SomeIff front.value (FitsSigned w128 (value_of (number_front (drop at text)))) (value_of (number_front (drop at text)))
