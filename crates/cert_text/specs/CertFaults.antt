-- What an error of a certificate's text says.
use Rattle.std.specs.Prelude.{ℕ, Option, None, Some}
use Rattle.cert_text.specs.declared.cert_error.CertError.{CertError}
use Rattle.cert_text.specs.declared.cert_error.CertError.TheVariants.{Syntax, PriceLimit, NumberLimit, NoMemory}

-- the number of its refusal; none for want of memory
abbrev pub cert_error_number : CertError → Option ℕ
cert_error_number (Syntax at) = Some 32
cert_error_number (PriceLimit at) = Some 33
cert_error_number (NumberLimit at) = Some 34
cert_error_number NoMemory = None

-- the refusal that it is; none for want of memory
abbrev pub cert_refusal : CertError → Option CertError
cert_refusal (Syntax at) = Some (Syntax at)
cert_refusal (PriceLimit at) = Some (PriceLimit at)
cert_refusal (NumberLimit at) = Some (NumberLimit at)
cert_refusal NoMemory = None
