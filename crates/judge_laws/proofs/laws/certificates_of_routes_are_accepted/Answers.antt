use Rattle.cert_text.proofs.ReadBackCerts.{cert_reads_back}
use Rattle.judge_laws.proofs.RoutesAlone.{routes_accepted, routes_bound, routes_within}
use Rattle.judge_laws.proofs.laws.certificates_of_routes_are_accepted.Goals as goal

pub returns-clause-accepted : goal.returns-clause-accepted
returns-clause-accepted c = routes_accepted

pub returns-clause-within : goal.returns-clause-within
returns-clause-within c = routes_within

pub returns-clause-reads_back : goal.returns-clause-reads_back
returns-clause-reads_back c = λ d over blocks cert grounds is. cert_reads_back cert (routes_within d over blocks cert grounds is)

pub returns-clause-bounds : goal.returns-clause-bounds
returns-clause-bounds c = routes_bound
