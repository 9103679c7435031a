use Rattle.std.proofs.Common.{◌≡◌, ℕ, List, [], ◌∷◌, ◌++◌, flat_map, map, ◌∙◌, ap, subst}
use Rattle.std.specs.Prelude.{decimal}
use Rattle.std.proofs.lemmas.Grind.{flat_map-append}
use Rattle.gr_desk.specs.Pens.{Puts, pen_told}
use Rattle.gr_desk.proofs.Pens.{puts-then}
use Rattle.gr_make.specs.RandomWords.{Drawn}
use Rattle.gr_make.specs.MadeAdjustments.{adjustment_count, made_adjustments}
use Rattle.gr_make.specs.MadeNets.{made_nets}
use Rattle.gr_make.specs.MadeText.{line_text, heading_lines, net_lines, adjustment_line}
use Rattle.gr_make.proofs.making.put_design.Goals as goal

pub returns-clause-puts : goal.returns-clause-puts
returns-clause-puts g c =
    let shape = c.args.shape in
    let told = g.D.Desk.told in
    let fresh = c.of-words.ensures in
    let heading = heading_lines shape in
    let nets = flat_map net_lines (made_nets c.args.seed shape) in
    let adjustments : ℕ → List (List (List ℕ)) =
    λ seed. (decimal (adjustment_count shape) ∷ []) ∷ map adjustment_line (made_adjustments seed shape) in
    let seed_of : Drawn → ℕ = λ words. words.seed in
    let same_seed : c.put_nets.new.words.seed ≡ c.args.seed = ap seed_of c.put_nets.ensures.drawn ∙ ap seed_of fresh in
    let puts_last : ℕ → Type 0 =
    λ seed. Puts (pen_told told c.put_nets.new.pen) (pen_told told c.put_adjustments.new.pen) (flat_map line_text (adjustments seed)) in
    let last = subst puts_last same_seed c.put_adjustments.ensures.puts in
    let in_parts =
    flat_map-append line_text (heading ++ nets) (adjustments c.args.seed)
    ∙ ap (λ text. text ++ flat_map line_text (adjustments c.args.seed)) (flat_map-append line_text heading nets)
    in
    rw in_parts (puts-then (puts-then c.put_heading.ensures.puts (rw fresh at c.put_nets.ensures.puts)) last)
