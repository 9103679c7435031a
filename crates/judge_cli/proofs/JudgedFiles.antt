-- What the texts that are judged are read as.
use Rattle.std.proofs.Common.{◌≡◌, ◌≤◌, ℕ, List, length, Ok, refl, le-ltb}
use Rattle.cert_text.specs.declared.cert.Cert.{Cert}
use Rattle.cert_text.specs.declared.cert_error.CertError.{CertError}
use Rattle.cert_text.specs.declared.cert_error.CertError.TheVariants as cert_errors
use Rattle.cert_text.specs.CertReads.{RefusesCert}
use Rattle.cert_text.specs.Certs.{IsCertOf}
use Rattle.cert_text.specs.StatedCerts.{stated_in}
use Rattle.command_runs.specs.JudgedTexts.{blocks_or_refusal, of_cert_error, of_route_error}
use Rattle.command_runs.specs.Refusals.{IsAcceptedAt}
use Rattle.command_runs.specs.Steps.{IsRefusedFor}
use Rattle.gr_desk.specs.declared.port.Port.TheVariants.{RoutesIn, CertIn}
use Rattle.ispd_reader.specs.Limits.{max_bytes}
use Rattle.route_text.specs.declared.block.Block.{Block}
use Rattle.route_text.specs.declared.route_error.RouteError.{RouteError}
use Rattle.route_text.specs.declared.route_error.RouteError.TheVariants as route_errors
use Rattle.route_text.specs.Blocks.{blocks_of}
use Rattle.route_text.specs.Reads.{RefusesRoute}

-- a text of routes that isn't too long
pub blocks-read : (text : List ℕ) (blocks : List Block) → length text ≤ max_bytes → blocks_of text ≡ Ok blocks
    → blocks_or_refusal text ≡ Ok blocks
blocks-read text blocks short is = rw (le-ltb max_bytes (length text) short, is) refl

pub routes-refused : (text : List ℕ) (e : RouteError) → length text ≤ max_bytes → RefusesRoute e (blocks_of text)
    → IsRefusedFor RoutesIn text (of_route_error e)
routes-refused text (route_errors.Syntax at) short is = rw (le-ltb max_bytes (length text) short, is) refl
routes-refused text route_errors.NoMemory short is = tt

-- and one of a certificate
pub cert-accepted : (text : List ℕ) (cert : Cert) → length text ≤ max_bytes → IsCertOf text cert → IsAcceptedAt CertIn text
cert-accepted text cert short is = (is.0, rw (le-ltb max_bytes (length text) short, is.1) refl)

pub cert-refused : (text : List ℕ) (e : CertError) → length text ≤ max_bytes → RefusesCert e (stated_in text)
    → IsRefusedFor CertIn text (of_cert_error e)
cert-refused text (cert_errors.Syntax at) short is = rw (le-ltb max_bytes (length text) short, is) refl
cert-refused text (cert_errors.PriceLimit at) short is = rw (le-ltb max_bytes (length text) short, is) refl
cert-refused text (cert_errors.NumberLimit at) short is = rw (le-ltb max_bytes (length text) short, is) refl
cert-refused text cert_errors.NoMemory short is = tt
