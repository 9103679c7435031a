use Rattle.std.specs.Prelude.{◌≡◌, ◌+◌, ◌*◌, flat_map}
use Rattle.gr_desk.specs.Pens.{Puts, pen_told, HasSameDesk}
use Rattle.gr_make.specs.MadeNets.{made_pins}
use Rattle.gr_make.specs.MadeText.{line_text, pin_line}
use Rattle.gr_make.proofs.nets.put_pins.Given as goal

abbrev pub invariant-loop : goal.invariant-loop
invariant-loop g l = record {
  same_desk : HasSameDesk l.fn.pen l.pen;
  puts : Puts (pen_told g.D.Desk.told l.fn.pen) (pen_told g.D.Desk.told l.pen) (flat_map (λ pin. line_text (pin_line pin)) (made_pins l.fn.words.seed l.shape l.fn.words.count l.counter));
  drawn : l.words ≡ record l.fn.words { count = l.fn.words.count + 2 * l.counter };
}
