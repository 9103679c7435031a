use Rattle.std.proofs.Common.{◌≡◌, ℕ, Option, length, min, take, slice_get, ap, ◌∙◌, arith}
use Rattle.grid_base.specs.declared.vertex.Vertex.{Vertex}
use Rattle.lower_bound.proofs.Filling.{five}
use Rattle.lower_bound.proofs.spread.spread_five.Goals as goal

pub returns : goal.returns
returns c =
    let n = min 5 (length c.args.terminals.now) in
    let xs = c.choose-chosen.result in
    let count : c.min.result ≡ n = omega (arith, c.min.ensures) in
    let read : (i : ℕ) → slice_get (take c.min.result xs) i ≡ slice_get (take n xs) i = λ i. ap (λ m. slice_get (take m xs) i) count in
    record {
      chosen = take n xs;
      spread = c.choose-chosen.ensures.spread;
      answered = five (λ i (x : Option Vertex). x ≡ slice_get (take n xs) i) c.at.result c.at-2.result c.at-3.result c.at-4.result c.at-5.result (c.at.ensures ∙ read 0) (c.at-2.ensures ∙ read 1) (c.at-3.ensures ∙ read 2) (c.at-4.ensures ∙ read 3) (c.at-5.ensures ∙ read 4);
    }
