-- Texts that are written to a new desk in memory, and read from it again.
use Rattle.std.proofs.Common.{◌≡◌, ℕ, List, [], false, Some, Ok, Err, refl, sym, ◌∙◌, ap, subst}
use Rattle.std.specs.Prelude.{Result, Option, option_map, is_err}
use Rattle.std.specs.Io.KnownBytes.{Appends}
use Rattle.gr_desk.specs.declared.port.Port.{Port}
use Rattle.gr_desk.specs.declared.port.Port.TheVariants.{In}
use Rattle.gr_desk.specs.Told.{Told}
use Rattle.gr_make.specs.MadeText.{made_text}
use Rattle.gr_make.specs.Shapes.{IsShape}
use Rattle.gr_make.specs.declared.shape.Shape.{Shape}
use Rattle.made_designs.proofs.Contents.{made_text_says}
use Rattle.made_designs.proofs.Generated.{made_nets_reachable}
use Rattle.command_runs.specs.declared.refusal.Refusal.{Refusal}
use Rattle.command_runs.specs.declared.refusal.Refusal.TheVariants.{NoCommand, Input, Unreachable, Text, Unread, NoMemory}
use Rattle.cert_text.specs.declared.cert.Cert.{Cert}
use Rattle.cert_text.specs.declared.cert_error.CertError.{CertError}
use Rattle.cert_text.specs.declared.cert_error.CertError.TheVariants as cert_errors
use Rattle.cert_text.specs.CertReads.{RefusesCert}
use Rattle.cert_text.specs.Certs.{IsCertOf}
use Rattle.cert_text.specs.StatedCerts.{stated_in}
use Rattle.command_runs.specs.JudgedTexts.{of_cert_error}
use Rattle.command_runs.specs.Outputs.{Makes}
use Rattle.command_runs.specs.Refusals.{IsRefusedAt}

-- what was appended to nothing is all that there is
all_there_is : (x y : Option (List ℕ)) (text bytes : List ℕ) → x ≡ Some [] → y ≡ Some bytes → Appends x y text → bytes ≡ text
all_there_is x y text bytes none some appends =
    subst (λ (o : Option (List ℕ)). Appends (Some []) o text) some (subst (λ (o : Option (List ℕ)). Appends o y text) none appends)

-- a text that was made at a port of which the desk tells what was written
pub written_whole : {T E : Type 0} (before after : Told) (port : Port) (name text old bytes : List ℕ) (r : Result T E) → Makes before after port name text r
    → is_err r ≡ false → (before.ports port).written ≡ Some old → (after.ports port).written ≡ Some bytes → bytes ≡ text
written_whole before after port name text old bytes (Ok v) makes whole told now =
    all_there_is _ _ text bytes (ap (option_map (λ (_ : List ℕ). [])) told) now makes.all.written
written_whole before after port name text old bytes (Err e) makes whole told now = absurd (cc whole)

-- a generated design is never refused
pub made_not_refused : (seed : ℕ) (shape : Shape) → IsShape shape → (r : Refusal) → ¬ IsRefusedAt In (made_text seed shape) r
made_not_refused seed shape fits (Input fault) for_it = let both = sym (made_text_says seed shape fits) ∙ for_it in absurd (cc both)
made_not_refused seed shape fits (Unreachable net) for_it =
    for_it.2.cut_off.apart (made_nets_reachable seed shape fits for_it.0 for_it.1 for_it.2.place for_it.2.net for_it.2.stands)
made_not_refused seed shape fits (Text fault) for_it = for_it
made_not_refused seed shape fits NoCommand for_it = for_it
made_not_refused seed shape fits Unread for_it = for_it
made_not_refused seed shape fits NoMemory for_it = for_it

-- what isn't refused fails for want of memory alone
pub cert_error_is_memory : (text bytes : List ℕ) (cert : Cert) (e : CertError) → bytes ≡ text → IsCertOf text cert
    → RefusesCert e (stated_in bytes) → of_cert_error e ≡ NoMemory
cert_error_is_memory text bytes cert (cert_errors.Syntax at) same is refuses = let both = sym is.1 ∙ sym (ap stated_in same) ∙ refuses in absurd (cc both)
cert_error_is_memory text bytes cert (cert_errors.PriceLimit at) same is refuses = let both = sym is.1 ∙ sym (ap stated_in same) ∙ refuses in absurd (cc both)
cert_error_is_memory text bytes cert (cert_errors.NumberLimit at) same is refuses = let both = sym is.1 ∙ sym (ap stated_in same) ∙ refuses in absurd (cc both)
cert_error_is_memory text bytes cert cert_errors.NoMemory same is refuses = refl
