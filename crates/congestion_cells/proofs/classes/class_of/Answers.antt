use Rattle.std.proofs.Common.{◌≡◌, ℕ, ◌+◌, ◌*◌, ◌≤◌, Bool, true, false, cond, get_or, ltb, take, refl, sym, ◌∙◌, ap, arith}
use Rattle.std.specs.Int.{from_bool}
use Rattle.std.specs.List.{count_by}
use Rattle.std.proofs.lemmas.List.Sums.{sum_by_more}
use Rattle.congestion_cells.specs.Classes.{borders, is_above}
use Rattle.congestion_cells.proofs.classes.class_of.Goals as goal

as_number : (b : Bool) → from_bool b ≡ cond b 1 0
as_number true = refl
as_number false = refl

at_most_one : (b : Bool) → cond b 1 0 ≤ 1
at_most_one true = omega arith
at_most_one false = omega arith

pub loop-border-preserved : goal.loop-border-preserved
loop-border-preserved c =
    let test : ℕ → Bool = is_above c.args.load c.args.capacity in
    let k = c.loop-border.border-index in
    let is : c.from-class.result ≡ cond (test (get_or borders k 0)) 1 0 =
    rw (c.from.ensures, c.from-in-loop-border.ensures) at (c.from-class.ensures ∙ as_number (ltb (c.from.result * c.from-in-loop-border.result) (c.args.load * 100))) in
    let few : c.from-class.result ≤ 1 = rw is (at_most_one (test (get_or borders k 0))) in
    record {
      counted = ap (λ n. n + c.from-class.result) c.loop-border.invariant.counted
          ∙ ap (λ n. count_by test (take k borders) + n) is
          ∙ sym (sum_by_more (λ (x : ℕ). cond (test x) 1 0) borders k 0 c.loop-border-test.true);
      small = omega (arith, c.loop-border.invariant.small, few);
    }
