use Rattle.std.proofs.Common.{arith, ◌≡◌, ◌<◌, rules, true, None, get_or, length, refl, ◌∙◌}
use Rattle.std.proofs.lemmas.List.{length-set}
use Rattle.negotiation.specs.Searches.{IsFinding, IsFoundFor}
use Rattle.negotiation.proofs.Found.{AllZip-long}
use Rattle.negotiation.proofs.Findings.{All-put, emptied, finding_there, one_there, put_at, taken_from}
use Rattle.negotiation.proofs.gathering.put_in_place.Goals as goal

pub loop-i-init : goal.loop-i-init
loop-i-init c = record { findings = c.requires.findings; found = c.requires.found; marks = c.requires.marks; long = refl }

pub index_mut-requires-in-loop-i : goal.index_mut-requires-in-loop-i
index_mut-requires-in-loop-i c =
    let d = c.args.sight.design.now in
    let nets = c.args.nets.now in
    let all = c.loop-i.findings.items in
    let read = c.index.result.now in
    let within : c.loop-i.i < length all = omega (arith, c.loop-i-test.true, c.loop-i.invariant.long) in
    let read_is : read ≡ get_or all c.loop-i.i read = search rules in
    let finding = finding_there d nets all c.loop-i.i read read_is within c.loop-i.invariant.findings in
    omega (arith, finding.place, c.loop-i.found.ok.0, AllZip-long (IsFoundFor d) nets c.loop-i.found.items c.loop-i.invariant.found)

pub loop-i-preserved : goal.loop-i-preserved
loop-i-preserved c =
    let d = c.args.sight.design.now in
    let nets = c.args.nets.now in
    let all = c.loop-i.findings.items in
    let i = c.loop-i.i in
    let read = c.index.result.now in
    let kept = c.index_mut.result.now in
    let within : i < length all = omega (arith, c.loop-i-test.true, c.loop-i.invariant.long) in
    let read_is : read ≡ get_or all i read = search rules in
    let kept_is : kept ≡ get_or all i kept = search rules in
    let taken : c.take.result ≡ kept.found = search rules in
    let gone : c.take.new.self ≡ None = search rules in
    let finding = finding_there d nets all i kept kept_is within c.loop-i.invariant.findings in
    let found_for = taken_from d nets read kept c.take.result (one_there all i read kept within read_is kept_is) taken finding in
    record {
      findings = All-put (IsFinding d nets) all i record { place = kept.place; found = c.take.new.self } (emptied d nets kept c.take.new.self gone finding) c.loop-i.invariant.findings;
      found = put_at d nets c.loop-i.found.items read.place c.take.result found_for c.loop-i.invariant.found;
      marks = length-set c.loop-i.is_done.items read.place true ∙ c.loop-i.invariant.marks;
      long = length-set all i record { place = kept.place; found = c.take.new.self } ∙ c.loop-i.invariant.long;
    }
