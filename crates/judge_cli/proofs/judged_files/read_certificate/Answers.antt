use Rattle.command_runs.proofs.ReadFiles.{file-failed, file-refused, file-text, sources-failed}
use Rattle.judge_cli.proofs.JudgedFiles.{cert-accepted, cert-refused}
use Rattle.judge_cli.proofs.judged_files.read_certificate.Goals as goal

pub returns-in_err-bytes-clause-reads : goal.returns-in_err-bytes-clause-reads
returns-in_err-bytes-clause-reads g c =
    sources-failed c.from_residual.result c.in_err-bytes.field-0.0 c.in_err-bytes.was c.from_residual.ensures.1
    (file-failed c.read_source.result c.in_err-bytes.was c.read_source.ensures.reads)

pub returns-in_err-read_cert-clause-reads : goal.returns-in_err-read_cert-clause-reads
returns-in_err-read_cert-clause-reads g c =
    let text = c.in_ok-bytes.bytes.items in
    let read = c.in_ok-bytes.ensures in
    let refusal = rw c.as_slice.ensures.value at c.in_err-read_cert.ensures.refusal in
    file-refused text c.from_residual-in_err-read_cert.result _ read.reads read.bytes c.from_residual-in_err-read_cert.ensures.1
    (cert-refused text c.in_err-read_cert.field-0.0 read.short refusal)

pub returns-clause-reads : goal.returns-clause-reads
returns-clause-reads g c =
    let text = c.in_ok-bytes.bytes.items in
    let read = c.in_ok-bytes.ensures in
    let is = rw c.as_slice.ensures.value at c.in_ok-read_cert.ensures.cert in
    file-text text _ read.reads read.bytes (λ q is. cc) (λ _. cert-accepted text c.in_ok-read_cert.field-0 read.short is)

pub returns-clause-cert : goal.returns-clause-cert
returns-clause-cert g c =
    let read = c.in_ok-bytes.ensures in
    let is = rw c.as_slice.ensures.value at c.in_ok-read_cert.ensures.cert in
    record { bytes = c.in_ok-bytes.bytes.items; is_so = (read.short, is); are_told = read.bytes }
