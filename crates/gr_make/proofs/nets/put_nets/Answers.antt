use Rattle.std.proofs.Common.{◌≡◌, ℕ, ◌+◌, List, flat_map, refl, ◌∙◌, subst, add-one, arith}
use Rattle.gr_desk.specs.Pens.{Puts, pen_told}
use Rattle.gr_make.specs.RandomWords.{Drawn}
use Rattle.gr_make.specs.MadeNets.{MadeNet, made_net, net_words, made_nets}
use Rattle.gr_make.specs.MadeText.{line_text, net_lines}
use Rattle.gr_make.proofs.Numbered.{puts-next, flat_map-flat_map}
use Rattle.gr_make.proofs.WordCounts.{net_words-few}
use Rattle.gr_make.proofs.nets.put_nets.Goals as goal

pub put_net-requires-clause-left : goal.put_net-requires-clause-left
put_net-requires-clause-left g c =
    let seed = c.args.words.now.seed in
    let i = c.loop-number.number in
    let drawn : c.loop-number.words.count ≡ net_words seed i = rw c.loop-number.invariant.drawn refl in
    omega (arith, drawn, net_words-few seed i, c.loop-number-test.true, c.requires.shape.few_nets)

pub loop-number-preserved : goal.loop-number-preserved
loop-number-preserved g c =
    let seed = c.args.words.now.seed in
    let shape = c.args.shape in
    let i = c.loop-number.number in
    let so_far = c.loop-number.invariant in
    let counted : Drawn = record { seed = seed; count = net_words seed (i + 1) } in
    let drawn : c.put_net.new.words ≡ counted = rw (add-one i) (rw so_far.drawn at c.put_net.ensures.drawn) in
    let told = g.D.Desk.told in
    let lines : Drawn → List ℕ = λ words. flat_map line_text (net_lines (made_net words.seed shape words.count i)) in
    let puts_next : Drawn → Type 0 = λ words. Puts (pen_told told c.loop-number.pen) (pen_told told c.put_net.new.pen) (lines words) in
    let net : ℕ → MadeNet = λ k. made_net seed shape (net_words seed k) k in
    let next = subst puts_next so_far.drawn c.put_net.ensures.puts in
    record {
      same_desk = c.put_net.ensures.same_desk ∙ so_far.same_desk;
      puts = puts-next (λ net. flat_map line_text (net_lines net)) net i so_far.puts next;
      drawn = drawn;
    }

pub returns-clause-puts : goal.returns-clause-puts
returns-clause-puts g c =
    let all : c.loop-number.number ≡ c.args.shape.nets = omega (arith, c.loop-number-test.false, c.loop-number.auto.number-end) in
    let nets = made_nets c.args.words.now.seed c.args.shape in
    rw (flat_map-flat_map line_text net_lines nets) (rw all at c.loop-number.invariant.puts)
