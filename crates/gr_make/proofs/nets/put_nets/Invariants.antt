use Rattle.std.specs.Prelude.{◌≡◌, flat_map, map}
use Rattle.std.specs.List.{range_with_len}
use Rattle.gr_desk.specs.Pens.{Puts, pen_told, HasSameDesk}
use Rattle.gr_make.specs.MadeNets.{made_net, net_words}
use Rattle.gr_make.specs.MadeText.{line_text, net_lines}
use Rattle.gr_make.proofs.nets.put_nets.Given as goal

abbrev pub invariant-loop-number : goal.invariant-loop-number
invariant-loop-number g l = record {
  same_desk : HasSameDesk l.fn.pen l.pen;
  puts : Puts (pen_told g.D.Desk.told l.fn.pen) (pen_told g.D.Desk.told l.pen) (flat_map (λ net. flat_map line_text (net_lines net)) (map (λ k. made_net l.fn.words.seed l.shape (net_words l.fn.words.seed k) k) (range_with_len 0 l.number)));
  drawn : l.words ≡ record l.fn.words { count = net_words l.fn.words.seed l.number };
}
