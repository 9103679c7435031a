use Rattle.std.proofs.Common.{arith}
use Rattle.negotiation.specs.Searches.{IsFoundFor}
use Rattle.negotiation.proofs.Found.{AllZip-long}
use Rattle.negotiation.proofs.Findings.{finding_at, put_at}
use Rattle.negotiation.proofs.gathering.search_left_out.Goals.{then-not-is_done-place+in_ok-found+in-Some-1, then-not-is_done-place+in_ok-found+in-None-1, else-not-is_done-place}
use Rattle.negotiation.proofs.gathering.search_left_out.Goals as goal

pub index_mut-requires : goal.index_mut-requires
index_mut-requires c =
    omega (arith, c.loop-place-test.true, c.loop-place.found.ok.0, AllZip-long (IsFoundFor c.args.sight.design.now) c.args.nets.now c.loop-place.found.items c.loop-place.invariant)

pub loop-place-preserved : goal.loop-place-preserved
loop-place-preserved c =
    let d = c.args.sight.design.now in
    let nets = c.args.nets.now in
    let before = c.loop-place.found.items in
    let place = c.loop-place.place in
    elim c.if-not-is_done-place.branch [
      | then-not-is_done-place+in_ok-found+in-Some-1 w ↦
          rw w.found-is (put_at d nets before place w.in_ok-found.field-0 (finding_at d nets place w.in_ok-found.field-0 c.loop-place-test.true w.in_ok-found.ensures.found).found c.loop-place.invariant)
      | then-not-is_done-place+in_ok-found+in-None-1 w ↦
          rw w.found-is (put_at d nets before place w.in_ok-found.field-0 (finding_at d nets place w.in_ok-found.field-0 c.loop-place-test.true w.in_ok-found.ensures.found).found c.loop-place.invariant)
      | else-not-is_done-place w ↦ rw w.found-is c.loop-place.invariant
    ]
