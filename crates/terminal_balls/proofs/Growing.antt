-- Balls that grow on: what was met stays met.
use Rattle.std.proofs.Common.{ℕ, ◌+◌, ◌≤◌, List, sym, ◌∙◌, refl, subst, inl, inr, ⊎_elim, arith}
use Rattle.std.proofs.lemmas.Bool.{cases_lt}
use Rattle.grid_base.specs.declared.piece.Piece.{Piece}
use Rattle.grid_base.specs.declared.size.Size.{Size}
use Rattle.terminal_balls.specs.declared.terminal_balls.TerminalBalls.{TerminalBalls}
use Rattle.terminal_balls.specs.Balls.{Balls, beyond, balls_of, widest}
use Rattle.terminal_balls.specs.Growths.{IsMet, IsRelaxed, IsSame, IsOwn, Shrink, GrowOn}

pub Shrink-trans : (a b d : Balls) → Shrink a b → Shrink b d → Shrink a d
Shrink-trans a b d first second = record {
  radii = λ place. omega (arith, first.radii place, second.radii place);
  numbers = λ v. omega (arith, first.numbers v, second.numbers v);
  owned = λ v low. second.owned v (omega (arith, low, first.numbers v)) ∙ first.owned v low;
}

pub IsSame-trans : (a b d : Balls) (v : ℕ) → IsSame a b v → IsSame b d v → IsSame a d v
IsSame-trans a b d v first second = (second.0 ∙ first.0, second.1 ∙ first.1)

pub GrowOn-refl : (t : TerminalBalls) → GrowOn t t
GrowOn-refl t = record {
  size = refl;
  shrink = record { radii = λ place. omega arith; numbers = λ v. omega arith; owned = λ v low. refl };
  changed = λ v. inl (refl, refl);
  waits = λ v held. held;
}

pub GrowOn-trans : (a b d : TerminalBalls) → GrowOn a b → GrowOn b d → GrowOn a d
GrowOn-trans a b d first second = record {
  size = second.size ∙ first.size;
  shrink = Shrink-trans (balls_of a) (balls_of b) (balls_of d) first.shrink second.shrink;
  changed = λ v. ⊎_elim
      (λ same. ⊎_elim
      (λ still. inl (IsSame-trans (balls_of a) (balls_of b) (balls_of d) v still same))
      (λ held. inr (second.waits v held))
      (first.changed v))
      (λ held. inr held)
      (second.changed v);
  waits = λ v held. second.waits v (first.waits v held);
}

-- no ball reaches so far that a vertex without a number could be met by its number
pub met_on : (old new : Balls) → Shrink old new → ((place : ℕ) → old.radius place ≤ widest) → (place offered v : ℕ)
    → IsMet old place offered v → IsMet new place offered v
met_on old new shrink small place offered v met = ⊎_elim
    (λ within. ⊎_elim
    (λ own. inl (
      shrink.owned v (omega (arith, own.1, within, small place)) ∙ own.0,
      omega (arith, own.1, shrink.numbers v),
    ))
    (λ ends. inr (omega (arith, ends, shrink.radii place)))
    met)
    (λ past. inr (omega (arith, past, shrink.radii place)))
    (cases_lt offered (old.radius place))

pub relaxed_on : (s : Size) (pieces : List (Piece × ℕ)) (over : ℕ → ℕ) (old new : Balls) → Shrink old new
    → ((place : ℕ) → old.radius place ≤ widest) → (a : ℕ) → IsSame old new a → IsRelaxed s pieces over old a
    → IsRelaxed s pieces over new a
relaxed_on s pieces over old new shrink small a same relaxed p k b weighs connects =
    let met = met_on old new shrink small (old.owner a) (old.number a + beyond s over p k) b (relaxed p k b weighs connects) in
    subst (λ o. IsMet new o (new.number a + beyond s over p k) b) (sym same.1)
    (subst (λ n. IsMet new (old.owner a) (n + beyond s over p k) b) (sym same.0) met)

pub own_on : (old new : Balls) → Shrink old new → (place v : ℕ) → IsOwn old place v → IsOwn new place v
own_on old new shrink place v own = ⊎_elim
    (λ none. inl (omega (arith, none, shrink.radii place)))
    (λ centre. inr (
      shrink.owned v (omega (arith, centre.1)) ∙ centre.0,
      omega (arith, centre.1, shrink.numbers v),
    ))
    own
