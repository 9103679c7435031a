use Rattle.gr_desk.specs.Pens.{pen_told}
use Rattle.gr_desk.proofs.Pens.{puts-then, puts-refl}
use Rattle.gr_make.specs.MadeText.{vertical_level, horizontal_level}
use Rattle.gr_make.proofs.Levels.{first_levels}
use Rattle.gr_make.proofs.heading.put_heading.Goals as goal

pub returns-clause-puts : goal.returns-clause-puts
returns-clause-puts g c =
    let shape = c.args.shape in
    let few = c.requires.shape.few_layers in
    let vertical = rw (first_levels shape vertical_level few) at c.put_line-2.ensures.puts in
    let horizontal = rw (first_levels shape horizontal_level few) at c.put_line-3.ensures.puts in
    let width = rw (first_levels shape (λ layer. 1) few) at c.put_line-4.ensures.puts in
    let spacing = rw (first_levels shape (λ layer. 1) few) at c.put_line-5.ensures.puts in
    let via_spacing = rw (first_levels shape (λ layer. 1) few) at c.put_line-6.ensures.puts in
    let end = puts-refl (pen_told g.D.Desk.told c.put_line-7.new.pen) in
    let tiles_and_count = puts-then c.put_numbers.ensures.puts (puts-then c.put_line-7.ensures.puts end) in
    let spacings = puts-then width (puts-then spacing (puts-then via_spacing tiles_and_count)) in
    puts-then c.put_line.ensures.puts (puts-then vertical (puts-then horizontal spacings))
