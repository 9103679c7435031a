-- The words, names and numbers that come next in the text.
use Rattle.std.specs.Prelude.{ℕ, ◌-◌, List, if◌then◌else◌, ℤ, pos, neg_ℤ, int_lt, Ok, Err}
use Rattle.std.specs.Str.{bytes_eq}
use Rattle.text_scan.specs.Tokens.{Token}
use Rattle.text_scan.specs.Reading.{first_token, first_number, past_token}
use Rattle.text_scan.specs.Within.{within}
use Rattle.text_scan.specs.declared.number.Number.{Number}
use Rattle.grid_graph.specs.Limits.{max_capacity, max_demand, max_number}
use Rattle.design_tokens.specs.declared.input_fault.InputFault.{InputFault}
use Rattle.design_tokens.specs.declared.input_fault.InputFault.TheVariants.{Syntax, CapacityLimit, WidthLimit, NetLimit, TileSize}
use Rattle.design_tokens.specs.declared.wanted.Wanted.{Wanted}
use Rattle.design_tokens.specs.declared.wanted.Wanted.TheVariants as wanted
use Rattle.design_tokens.specs.Words.{spelling}
use Rattle.design_tokens.specs.Parsing.{Reading, InputRead, ◌>>=◌, or_refuse, refused_as}
use Rattle.design_tokens.specs.Refusals.{refusal_of}

-- the first token, and what is left behind it; where there is none, this word is missing at the end of the text
abbrev pub wanted_token : Wanted → Reading → InputRead Token
wanted_token word r = do
  token ← first_token (λ end. Syntax end word) r
  Ok (token, past_token r)

-- a fixed word
unfoldable pub word_at : Wanted → Reading → InputRead (Unit {0})
word_at word r = do
  token ← wanted_token word r
  if bytes_eq token.0.bytes (spelling word) then Ok (tt, token.1) else Err (Syntax token.0.place word)

-- a name: any token, as its bytes
unfoldable pub name_at : Reading → InputRead (List ℕ)
name_at r = do
  token ← wanted_token wanted.Name r
  Ok (token.0.bytes, token.1)

-- a number of a design, with the place of its token
unfoldable pub number_at : Reading → InputRead Number
number_at r = do
  number ← refused_as refusal_of (first_number (neg_ℤ (pos max_number)) (pos max_number) r)
  Ok (number, past_token r)

-- a number from lo to hi; any other is refused at its place
unfoldable pub number_within : ℕ → ℕ → (ℕ → InputFault) → Reading → InputRead ℕ
number_within lo hi refusal r = do
  number ← number_at r
  value ← or_refuse (within lo hi number.0.value) (refusal number.0.at)
  Ok (value, number.1)

-- a capacity of a layer, or the level of an adjustment
abbrev pub capacity_at : Reading → InputRead ℕ
capacity_at = number_within 0 max_capacity CapacityLimit

-- the minimum width of a layer
abbrev pub width_at : Reading → InputRead ℕ
width_at = number_within 0 max_demand WidthLimit

-- the minimum spacing of a layer of this width: the two sum to 1 at least, and to a demand at most
abbrev pub spacing_at : ℕ → Reading → InputRead ℕ
spacing_at width = number_within (1 - width) (max_demand - width) WidthLimit

-- the width or the height of a tile
unfoldable pub side_at : Reading → InputRead ℤ
side_at r = do
  number ← number_at r
  if int_lt number.0.value (pos 1) then Err (TileSize number.0.at) else Ok (number.0.value, number.1)

-- how many nets, pins or adjustments follow
abbrev pub count_at : ℕ → Reading → InputRead ℕ
count_at limit = number_within 0 limit NetLimit
