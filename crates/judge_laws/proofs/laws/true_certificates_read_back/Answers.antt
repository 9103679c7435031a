use Rattle.cert_text.proofs.ReadBackCerts.{cert_reads_back}
use Rattle.judge_laws.proofs.CertLimits.{true_cert_within}
use Rattle.judge_laws.proofs.laws.true_certificates_read_back.Goals as goal

pub returns : goal.returns
returns c = λ d over trees cert grounds rising joining prices claims.
    cert_reads_back cert (true_cert_within d over trees cert grounds (record { rising = rising; joining = joining }) prices claims)
