-- What reading a part of a certificate answers.
use Rattle.std.specs.Prelude.{Result}
use Rattle.text_scan.specs.Parts as parts
use Rattle.text_scan.specs.Reading.{Reading}
use Rattle.cert_text.specs.declared.cert_error.CertError.{CertError}
use Rattle.cert_text.specs.CertFaults.{cert_refusal}

-- the value of the part and what is left of the text, or the first refusal
abbrev pub CertRead : Type 0 → Type 0
CertRead A = parts.Read Reading CertError A

-- an error is the refusal that reading gives, or want of memory
abbrev pub RefusesCert : {Y : Type 0} → CertError → Result Y CertError → Type 0
RefusesCert e read = parts.Refuses cert_refusal e read

-- what a call answered, seen by view, is what reading a part gives, and this is left of the text then, unless memory ran out
abbrev pub IsCertReadAs : {X Y : Type 0} → (X → Y) → Result X CertError → Reading → CertRead Y → Type 0
IsCertReadAs view answer left read = parts.IsReadAs cert_refusal view answer left read
