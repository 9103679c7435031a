use Rattle.std.proofs.Common.{◌<◌, ◌/◌, ◌%◌, ◌∙◌, length, arith}
use Rattle.std.proofs.lemmas.List.{length-set}
use Rattle.steiner_exact.proofs.BoxSteps.{few_masks_all}
use Rattle.landmarks.specs.Spans.{span_of}
use Rattle.landmarks.proofs.SpanSteps.{written_more}
use Rattle.landmarks.proofs.spans.all_spans.Goals as goal

pub bounds-spans-place : goal.bounds-spans-place
bounds-spans-place c =
    omega (arith, few_masks_all (length c.args.terminals.now) c.requires.few, c.all_of.ensures, c.loop-place-test.true)

pub loop-place-preserved : goal.loop-place-preserved
loop-place-preserved c =
    let spans = c.loop-place.spans in
    let place = c.loop-place.place in
    let inside : place < length spans = omega (arith, bounds-spans-place c, c.loop-place.invariant.long) in
    record {
      long = length-set spans place c.span_of.result ∙ c.loop-place.invariant.long;
      made = written_more spans place c.span_of.result
          (λ k. span_of c.args.landmarks.now.numbers.items c.args.terminals.now (k / 4) (length c.args.terminals.now) (k % 4))
          inside c.loop-place.invariant.made c.span_of.ensures;
    }
