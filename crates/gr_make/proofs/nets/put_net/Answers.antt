use Rattle.std.proofs.Common.{◌≡◌, ◌+◌, ◌*◌, [], ◌∷◌, ◌++◌, length, codes, sym}
use Rattle.std.specs.Prelude.{decimal}
use Rattle.std.proofs.lemmas.List.FromFn.{length-map-range_with_len}
use Rattle.gr_desk.proofs.Pens.{puts-then}
use Rattle.gr_make.specs.MadeNets.{pin_count, made_pin, made_pins}
use Rattle.gr_make.proofs.FieldTexts.{puts-line}
use Rattle.gr_make.proofs.nets.put_net.Goals as goal

pub returns-clause-puts : goal.returns-clause-puts
returns-clause-puts g c =
    let words = c.args.words.now in
    let number = c.args.number in
    let count = pin_count words.seed words.count in
    let listed : length (made_pins words.seed c.args.shape (words.count + 1) count) ≡ count =
    length-map-range_with_len (λ i. made_pin words.seed c.args.shape (words.count + 1 + 2 * i)) 0 count in
    let pins = c.draw-pins.ensures.word in
    let name = puts-then c.put.ensures.puts c.put_number.ensures.puts in
    let fields = number ∷ (2 + c.draw-pins.result) ∷ 1 ∷ [] in
    let line = puts-line (codes "n" ++ decimal number) fields name c.put_fields.ensures.puts c.put-2.ensures.puts in
    puts-then (rw (pins, sym listed) at line) (rw (c.draw-pins.ensures.drawn, pins) at c.put_pins.ensures.puts)
