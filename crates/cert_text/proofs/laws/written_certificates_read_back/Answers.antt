use Rattle.cert_text.proofs.ReadBackCerts.{cert_reads_back, only_cert}
use Rattle.cert_text.proofs.laws.written_certificates_read_back.Goals as goal

pub returns : goal.returns
returns c = record { certificate = cert_reads_back; only = only_cert }
