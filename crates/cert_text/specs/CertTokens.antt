-- The tokens of a certificate: words, numbers and fractions.
use Rattle.std.specs.Prelude.{ℕ, Bool, ◌&&◌, List, codes, if◌then◌else◌, nat_lt, nat_le, pos, Option, Some, None, Result, Ok, Err}
use Rattle.std.specs.Str.{bytes_eq}
use Rattle.std.specs.Str.Parse.{digits_value}
use Rattle.text_scan.specs.Parts.{◌>>=◌, or_refuse}
use Rattle.text_scan.specs.Reading.{Reading, first_token, past_token}
use Rattle.text_scan.specs.Tokens.{Token}
use Rattle.text_scan.specs.Within.{within}
use Rattle.fractions.specs.Limits.{numerator_limit}
use Rattle.cert_text.specs.declared.cert_error.CertError.{CertError}
use Rattle.cert_text.specs.declared.cert_error.CertError.TheVariants.{Syntax, NumberLimit}
use Rattle.cert_text.specs.declared.ratio.Ratio.{Ratio}
use Rattle.cert_text.specs.declared.version.Version.{Version}
use Rattle.cert_text.specs.declared.version.Version.TheVariants.{One, Two}
use Rattle.cert_text.specs.CertReads.{CertRead}
use Rattle.cert_text.specs.Digits.{is_digits, before_slash, behind_slash}
use Rattle.cert_text.specs.Versions.{version_text, denominator_limit}

-- the first token, and what is left behind it; where there is none, it is missing at the end of the text
abbrev pub any_token_at : Reading → CertRead Token
any_token_at r = do
  token ← first_token Syntax r
  Ok (token, past_token r)

-- a fixed word
unfoldable pub fixed_word_at : List ℕ → Reading → CertRead (Unit {0})
fixed_word_at word r = do
  token ← any_token_at r
  if bytes_eq token.0.bytes word then Ok (tt, token.1) else Err (Syntax token.0.place)

-- the version that a token is
abbrev pub version_in : Token → Result Version CertError
version_in token =
    if bytes_eq token.bytes (version_text One) then Ok One
    else (if bytes_eq token.bytes (version_text Two) then Ok Two else Err (Syntax token.place))

-- a version
unfoldable pub version_at : Reading → CertRead Version
version_at r = do
  token ← any_token_at r
  version ← version_in token.0
  Ok (version, token.1)

-- a token of digits
unfoldable pub digits_at : Reading → CertRead Token
digits_at r = do
  token ← any_token_at r
  if is_digits token.0.bytes then Ok token else Err (Syntax token.0.place)

-- a number from lo to hi; any other is refused at its place
unfoldable pub limited_at : (ℕ → CertError) → ℕ → ℕ → Reading → CertRead ℕ
limited_at refusal lo hi r = do
  token ← digits_at r
  value ← or_refuse (within lo hi (pos (digits_value 10 token.0.bytes))) (refusal token.0.place)
  Ok (value, token.1)

-- a numerator and a denominator are within the limits of a version
abbrev pub is_ratio_within : Version → ℕ → ℕ → Bool
is_ratio_within version num den = nat_lt num numerator_limit && nat_le 1 den && nat_le den (denominator_limit version)

-- the fraction that a token states: digits, `/`, digits
abbrev pub stated_ratio : Version → Token → Result Ratio CertError
stated_ratio version token =
    let num = digits_value 10 (before_slash token.bytes) in
    let den = digits_value 10 (behind_slash token.bytes) in
    if is_digits (before_slash token.bytes) && is_digits (behind_slash token.bytes)
    then (if is_ratio_within version num den then Ok (record { num = num; den = den }) else Err (NumberLimit token.place))
    else Err (Syntax token.place)

-- the fraction that a token states, or none where it is `none`
abbrev pub fraction_in : Version → Token → Result (Option Ratio) CertError
fraction_in version token = if bytes_eq token.bytes (codes "none") then Ok None else (do
  ratio ← stated_ratio version token
  Ok (Some ratio))

-- a fraction, or `none`
unfoldable pub fraction_at : Version → Reading → CertRead (Option Ratio)
fraction_at version r = do
  token ← any_token_at r
  fraction ← fraction_in version token.0
  Ok (fraction, token.1)
