use Rattle.std.proofs.Common.{◌≡◌, ◌≢◌, ◌<◌, ℕ, Vec, Global, length, refl, sym, ◌∙◌, ap, arith}
use Rattle.ripup_repair.proofs.Common.{le-ltb, lt-ltb, routing_overflow}
use Rattle.ripup_repair.proofs.Positions.{with_elements-long}
use Rattle.ripup_repair.proofs.RoundRuns.{more_done, none_done}
use Rattle.ripup_repair.proofs.rounds.+repair_rounds.Goals.{then-left-eq0-via-then-left-eq0}
use Rattle.ripup_repair.proofs.rounds.+repair_rounds.Goals.{then-left-eq0-via-else-left-eq0+then-left-eq0-2}
use Rattle.ripup_repair.proofs.rounds.+repair_rounds.Goals as goal

pub returns-then-left-eq0 : goal.returns-then-left-eq0
returns-then-left-eq0 g t c =
    let over : 0 < c.args.left.rounds → routing_overflow c.args.design.now c.args.routing.trees.items ≡ 0 =
    λ left. elim c.then-left-eq0.branch [
      | then-left-eq0-via-then-left-eq0 w ↦ omega (arith, w.if-left-eq0.true, c.requires.overflow)
      | then-left-eq0-via-else-left-eq0+then-left-eq0-2 w ↦ absurd (omega (arith, w.if-left-eq0-2.true, left))
    ] in
    record { done = none_done c.requires.workers.0 over c.requires.share; long = refl }

pub repair_rounds-requires-clause-overflow : goal.repair_rounds-requires-clause-overflow
repair_rounds-requires-clause-overflow g t c κs within =
    (c.in_ok-overflow.ensures.overflow _ _ c.in_ok-routing.ensures.done.share).0

pub put_back_unless-routing-requires-clause-positions : goal.put_back_unless-routing-requires-clause-positions
put_back_unless-routing-requires-clause-positions g t c = rw c.in_ok-later.ensures.long c.in_ok-routing.ensures.positions.0

pub returns : goal.returns
returns g t c =
    let left = c.args.left in
    let mid = c.in_ok-routing in
    let later = c.in_ok-later.later in
    let read = c.in_ok-overflow.ensures.overflow _ _ mid.ensures.done.share in
    let done = rw c.min.ensures at c.in_ok-later.ensures.done in
    let back : later.least ≡ left.least → c.put_back_unless-routing.result.trees.items ≡ c.args.routing.trees.items =
    λ equal. (rw (done.none (omega (arith, equal, done.within))).0 at
    (c.put_back_unless-routing.ensures.back (le-ltb later.least left.least (omega (arith, equal))))) ∙ mid.ensures.back in
    let stay : later.least ≢ left.least → c.put_back_unless-routing.result.trees.items ≡ later.routing.trees.items =
    λ other. c.put_back_unless-routing.ensures.better (lt-ltb later.least left.least (omega (arith, other, done.within))) in
    record {
      done = rw c.put_back_unless-routing.ensures.others (more_done c.put_back_unless-routing.result.trees
          (omega (arith, c.if-left-eq0-2.false)) (omega (arith, c.if-left-eq0.false, c.requires.overflow)) read.0
          mid.ensures.done mid.ensures.kept.0 done read.1
          (λ more. c.in_ok-overflow.ensures.kept more ∙ ap (λ (l : Vec ℕ Global). l.items) mid.ensures.kept.1) back stay);
      long = c.put_back_unless-routing.ensures.long ∙ c.in_ok-later.ensures.long
          ∙ sym (with_elements-long _ mid.replaced.positions.items mid.replaced.sets.items) ∙ ap length mid.ensures.back;
    }
