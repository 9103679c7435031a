use Rattle.std.specs.Prelude.{◌≡◌, ◌+◌, ◌*◌, flat_map, map}
use Rattle.std.specs.List.{range_with_len}
use Rattle.gr_desk.specs.Pens.{Puts, pen_told, HasSameDesk}
use Rattle.gr_make.specs.MadeAdjustments.{made_adjustment}
use Rattle.gr_make.specs.MadeNets.{net_words}
use Rattle.gr_make.specs.MadeText.{line_text, adjustment_line}
use Rattle.gr_make.proofs.adjustments.put_adjustments.Given as goal

abbrev pub invariant-loop : goal.invariant-loop
invariant-loop g l = record {
  same_desk : HasSameDesk l.fn.pen l.pen;
  puts : Puts (pen_told g.D.Desk.told l.initial.pen) (pen_told g.D.Desk.told l.pen) (flat_map (λ a. line_text (adjustment_line a)) (map (λ i. made_adjustment l.fn.words.seed l.shape (net_words l.fn.words.seed l.shape.nets + 3 * i)) (range_with_len 0 l.counter)));
  drawn : l.words ≡ record l.fn.words { count = net_words l.fn.words.seed l.shape.nets + 3 * l.counter };
}
