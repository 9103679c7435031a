use Rattle.std.proofs.Common.{◌≡◌, ℕ, ◌+◌, ◌*◌, refl, ◌∙◌, ap, arith}
use Rattle.std.proofs.lemmas.List.Folds.{flat_map-map}
use Rattle.gr_desk.proofs.Pens.{puts-then}
use Rattle.gr_make.specs.RandomWords.{Drawn}
use Rattle.gr_make.specs.MadeAdjustments.{MadeAdjustment, adjustment_count, made_adjustment, made_adjustments}
use Rattle.gr_make.specs.MadeNets.{net_words}
use Rattle.gr_make.specs.MadeText.{line_text, adjustment_line}
use Rattle.gr_make.proofs.Numbered.{puts-next}
use Rattle.gr_make.proofs.WordCounts.{net_words-few, adjustment_count-few}
use Rattle.gr_make.proofs.adjustments.put_adjustments.Goals as goal

pub put_adjustment-requires-clause-left : goal.put_adjustment-requires-clause-left
put_adjustment-requires-clause-left g c =
    let shape = c.args.shape in
    let seed = c.args.words.now.seed in
    let drawn : c.loop.words.count ≡ net_words seed shape.nets + 3 * c.loop.counter = rw c.loop.invariant.drawn refl in
    omega (
      arith,
      drawn,
      net_words-few seed shape.nets,
      adjustment_count-few shape c.requires.shape,
      c.loop-test.true,
      c.requires.shape.few_nets,
    )

pub loop-preserved : goal.loop-preserved
loop-preserved g c =
    let words = c.args.words.now in
    let shape = c.args.shape in
    let i = c.loop.counter in
    let so_far = c.loop.invariant in
    let nets = net_words words.seed shape.nets in
    let after : nets + 3 * i + 3 ≡ nets + 3 * (i + 1) = omega (arith) in
    let counted : Drawn = record words { count = nets + 3 * (i + 1) } in
    let drawn : c.put_adjustment.new.words ≡ counted =
    (rw so_far.drawn at c.put_adjustment.ensures.drawn) ∙ ap (λ (n : ℕ). record words { count = n }) after in
    let adjustment : ℕ → MadeAdjustment = λ i. made_adjustment words.seed shape (nets + 3 * i) in
    let next = rw so_far.drawn at c.put_adjustment.ensures.puts in
    record {
      same_desk = c.put_adjustment.ensures.same_desk ∙ so_far.same_desk;
      puts = puts-next (λ a. line_text (adjustment_line a)) adjustment i so_far.puts next;
      drawn = drawn;
    }

pub returns-clause-puts : goal.returns-clause-puts
returns-clause-puts g c =
    let shape = c.args.shape in
    let all : c.loop.counter ≡ adjustment_count shape = omega (arith, c.loop-test.false, c.loop.auto.counter-end) in
    let adjustments = made_adjustments c.args.words.now.seed shape in
    let in_parts = flat_map-map line_text adjustment_line adjustments in
    puts-then c.put_numbers.ensures.puts (rw in_parts (rw all at c.loop.invariant.puts))
