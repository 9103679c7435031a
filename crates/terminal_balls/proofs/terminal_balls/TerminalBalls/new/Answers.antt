use Rattle.std.proofs.Common.{◌≡◌, ℕ, List, replicate, length, sym, ◌∙◌, ap, slice_index, arith}
use Rattle.std.proofs.lemmas.List.{length-replicate}
use Rattle.grid_base.specs.Numbers.{vertices}
use Rattle.terminal_balls.proofs.MaskSums.{no_sum, zeros}
use Rattle.terminal_balls.proofs.terminal_balls.TerminalBalls.new.Goals as goal

pub returns : goal.returns
returns c =
    let count = vertices c.args.size in
    let owners : c.in_ok-vec.field-0.items ≡ replicate count 0 =
    c.in_ok-vec.ensures.items_if_clones_equal (λ y same. same) ∙ ap (λ (n : ℕ). replicate {A = ℕ} n 0) c.vertices.ensures in
    record {
      size = c.in_ok-new.ensures.size;
      owners = ap (λ (xs : List ℕ). length xs) owners ∙ length-replicate count 0;
      few = λ v. omega (arith, ap (λ (xs : List ℕ). slice_index xs v) owners, zeros count v);
      small = λ place. omega (arith, zeros 5 place);
      summed = λ mask low. zeros 32 mask ∙ sym (no_sum (slice_index (replicate 5 0)) mask 5 (zeros 5));
    }
