use Rattle.std.proofs.Common.{◌≡◌, List, ℕ, sym, ◌∙◌, subst, ap}
use Rattle.cert_text.specs.Certs.{IsCertOf}
use Rattle.cert_text.specs.CertText.{cert_text}
use Rattle.cert_text.proofs.ReadBackCerts.{only_cert}
use Rattle.gr_desk.specs.declared.port.Port.TheVariants.{CertOut}
use Rattle.gr_desk.specs.Memory.{told_of}
use Rattle.gr_desk.specs.Told.{PortTold}
use Rattle.command_runs.specs.JudgedTexts.{of_cert_error}
use Rattle.router_cli.proofs.InMemory.{cert_error_is_memory, written_whole}
use Rattle.command_runs.proofs.Outcomes.{same_refusal}
use Rattle.router_cli.proofs.trial_texts.read_back_cert.Goals as goal

pub returns-in_err-read_cert-clause-refused : goal.returns-in_err-read_cert-clause-refused
returns-in_err-read_cert-clause-refused c = λ r is.
    let text = cert_text c.args.cert.now in
    let bytes : c.written.result.now ≡ text =
    written_whole (told_of c.new-inner.result) (told_of c.make_cert.new.desk) CertOut _ text _ c.written.result.now c.make_cert.result c.make_cert.ensures
    (sym c.is_err.ensures.value ∙ c.if-is_err.false) (ap (λ (p : PortTold). p.written) (c.new-inner.ensures.ports CertOut)) c.written.ensures in
    let e = c.in_err-read_cert.field-0.0 in
    sym (same_refusal c.from_residual.result (of_cert_error e) r c.from_residual.ensures.1 is)
    ∙ cert_error_is_memory text c.written.result.now c.args.cert.now e bytes c.requires c.in_err-read_cert.ensures.refusal

pub returns-clause-same : goal.returns-clause-same
returns-clause-same c =
    let text = cert_text c.args.cert.now in
    let bytes : c.written.result.now ≡ text =
    written_whole (told_of c.new-inner.result) (told_of c.make_cert.new.desk) CertOut _ text _ c.written.result.now c.make_cert.result c.make_cert.ensures
    (sym c.is_err.ensures.value ∙ c.if-is_err.false) (ap (λ (p : PortTold). p.written) (c.new-inner.ensures.ports CertOut)) c.written.ensures in
    only_cert text c.in_ok-read_cert.field-0 c.args.cert.now (subst (λ (b : List ℕ). IsCertOf b c.in_ok-read_cert.field-0) bytes c.in_ok-read_cert.ensures.cert) c.requires
