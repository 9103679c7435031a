use Rattle.std.proofs.Common.{◌<◌, length, get_or, ap, ◌∙◌, arith, get_or-set_same}
use Rattle.load_core.specs.Parties.{nobody, loaded}
use Rattle.load_core.specs.declared.party.Party.{Party}
use Rattle.load_core.specs.Events.{party_at}
use Rattle.load_core.proofs.Fitness.{has-place}
use Rattle.load_core.proofs.Soundness.{close}
use Rattle.load_core.proofs.laws.loads_are_close.Goals as goal

pub returns-clause-value : goal.returns-clause-value
returns-clause-value c = λ core party word fit may.
    let p = party_at core party in
    let low = has-place core party may.live in
    let value = get_or core.words word 0 in
    let in' : word < length p.last = let wide = (fit.wide party nobody low).last in omega (arith, wide, may.exists) in
    ap (λ (q : Party). get_or q.last word 0) (get_or-set_same core.parties party (loaded p word value) nobody low) ∙ get_or-set_same p.last word value 0 in'

pub returns-clause-close : goal.returns-clause-close
returns-clause-close c = λ core party word fit may. close core.words core.parties party word (has-place core party may.live) fit.sound

pub returns-clause-alone : goal.returns-clause-alone
returns-clause-alone c = λ core party word fit may only.
    let near = close core.words core.parties party word (has-place core party may.live) fit.sound in
    omega (arith, only, near.least, near.most)
