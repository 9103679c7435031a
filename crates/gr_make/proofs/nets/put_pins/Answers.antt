use Rattle.std.proofs.Common.{◌≡◌, ℕ, ◌+◌, ◌*◌, ◌∙◌, ap, arith}
use Rattle.std.proofs.lemmas.List.Folds.{flat_map-map}
use Rattle.gr_make.specs.RandomWords.{Drawn}
use Rattle.gr_make.specs.MadeNets.{made_pin, made_pins}
use Rattle.gr_make.specs.MadeText.{line_text, pin_line}
use Rattle.gr_make.proofs.Numbered.{puts-next}
use Rattle.gr_make.proofs.nets.put_pins.Goals as goal

pub loop-preserved : goal.loop-preserved
loop-preserved g c =
    let words = c.args.words.now in
    let i = c.loop.counter in
    let so_far = c.loop.invariant in
    let after : words.count + 2 * i + 2 ≡ words.count + 2 * (i + 1) = omega (arith) in
    let counted : Drawn = record words { count = words.count + 2 * (i + 1) } in
    let drawn : c.put_pin.new.words ≡ counted =
    (rw so_far.drawn at c.put_pin.ensures.drawn) ∙ ap (λ (n : ℕ). record words { count = n }) after in
    let pin : ℕ → ℕ × ℕ = λ i. made_pin words.seed c.args.shape (words.count + 2 * i) in
    let next = rw so_far.drawn at c.put_pin.ensures.puts in
    record {
      same_desk = c.put_pin.ensures.same_desk ∙ so_far.same_desk;
      puts = puts-next (λ pin. line_text (pin_line pin)) pin i so_far.puts next;
      drawn = drawn;
    }

pub returns-clause-puts : goal.returns-clause-puts
returns-clause-puts g c =
    let words = c.args.words.now in
    let all : c.loop.counter ≡ c.args.count = omega (arith, c.loop-test.false, c.loop.auto.counter-end) in
    let pins = made_pins words.seed c.args.shape words.count c.args.count in
    rw (flat_map-map line_text pin_line pins) (rw all at c.loop.invariant.puts)
