-- How a certificate is read: line by line, in the order in which it is written, whatever blanks stand between the tokens.
use Rattle.std.specs.Prelude.{ℕ, List, codes, if◌then◌else◌, Option, Some, None, is_none, Result, Ok, Err}
use Rattle.grid_graph.specs.Limits.{max_budget}
use Rattle.text_scan.specs.Parts.{◌>>=◌, parts_at}
use Rattle.text_scan.specs.Reading.{Reading, whole, next_byte, next_place, past_blanks}
use Rattle.edge_prices.specs.Limits.{max_price}
use Rattle.edge_prices.specs.declared.budget.Budget.{Budget}
use Rattle.cert_text.specs.declared.cert_error.CertError.{CertError}
use Rattle.cert_text.specs.declared.cert_error.CertError.TheVariants.{Syntax, PriceLimit, NumberLimit}
use Rattle.cert_text.specs.declared.ratio.Ratio.{Ratio}
use Rattle.cert_text.specs.declared.stated.Stated.{Stated}
use Rattle.cert_text.specs.declared.version.Version.{Version}
use Rattle.cert_text.specs.declared.version.Version.TheVariants.{One, Two}
use Rattle.cert_text.specs.CertReads.{CertRead}
use Rattle.cert_text.specs.CertTokens.{fixed_word_at, version_at, limited_at, fraction_at}
use Rattle.cert_text.specs.Limits.{max_stated_count, max_stated_total, max_stated_price}

-- `grouter`, `certificate`, a version
unfoldable pub heading_at : Reading → CertRead Version
heading_at r = do
  word ← fixed_word_at (codes "grouter") r
  word ← fixed_word_at (codes "certificate") word.1
  version_at word.1

-- a label, and a number of at most `most`
unfoldable pub labelled_number_at : List ℕ → ℕ → Reading → CertRead ℕ
labelled_number_at label most r = do
  word ← fixed_word_at label r
  limited_at NumberLimit 0 most word.1

-- a label, and a fraction
unfoldable pub labelled_fraction_at : List ℕ → Version → Reading → CertRead (Option Ratio)
labelled_fraction_at label version r = do
  word ← fixed_word_at label r
  fraction_at version word.1

-- `budget`, the wirelength that is to be kept, and its price
unfoldable pub stated_budget_at : Reading → CertRead Budget
stated_budget_at r = do
  word ← fixed_word_at (codes "budget") r
  most ← limited_at NumberLimit 1 max_budget word.1
  price ← limited_at PriceLimit 0 max_price most.1
  Ok (record { most = most.0; price = price.0 }, price.1)

-- the budget, in the version that has one
abbrev pub budget_at : Version → Reading → CertRead (Option Budget)
budget_at One r = Ok (None, r)
budget_at Two r = do
  budget ← stated_budget_at r
  Ok (Some budget.0, budget.1)

-- `prices`, how many there are, and the prices
unfoldable pub prices_at : Reading → CertRead (List ℕ)
prices_at r = do
  count ← labelled_number_at (codes "prices") max_stated_count r
  parts_at (λ _. limited_at PriceLimit 0 max_stated_price) 0 count.0 count.1

-- no token, up to the end of the text
abbrev pub text_end_at : Reading → CertRead (Unit {0})
text_end_at r = if is_none (next_byte r) then Ok (tt, past_blanks r) else Err (Syntax (next_place r))

-- all that a text states
unfoldable pub stated_at : Reading → CertRead Stated
stated_at r = do
  version ← heading_at r
  nets ← labelled_number_at (codes "nets") max_stated_count version.1
  forced ← labelled_number_at (codes "forced") max_stated_count nets.1
  overflow ← labelled_number_at (codes "overflow") max_stated_total forced.1
  wirelength ← labelled_number_at (codes "wirelength") max_stated_total overflow.1
  peak ← labelled_fraction_at (codes "peak") version.0 wirelength.1
  bound ← labelled_fraction_at (codes "bound") version.0 peak.1
  budget ← budget_at version.0 bound.1
  prices ← prices_at budget.1
  end ← text_end_at prices.1
  Ok (record { nets = nets.0; forced = forced.0; overflow = overflow.0; wirelength = wirelength.0; peak = peak.0; bound = bound.0; budget = budget.0; prices = prices.0 }, end.1)

-- what a text states, or its first refusal
abbrev pub stated_in : List ℕ → Result Stated CertError
stated_in text = do
  stated ← stated_at (whole text)
  Ok stated.0
