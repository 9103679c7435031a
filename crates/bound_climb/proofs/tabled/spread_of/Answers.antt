use Rattle.std.proofs.Common.{◌≡◌, ◌∙◌, ◌++◌, ◌∷◌, [], sym, ap, arith}
use Rattle.bound_climb.proofs.Chosen.{front_more, front_whole, spread_of_answers}
use Rattle.bound_climb.proofs.tabled.spread_of.Goals as goal
use Rattle.bound_climb.proofs.tabled.spread_of.Goals.{in-Some+in_ok-push, in_default}

pub loop-place-preserved : goal.loop-place-preserved
loop-place-preserved c spread answered =
    let n = c.loop-place.place in
    let here = answered n (omega (arith, c.loop-place-test.true)) in
    let before = c.loop-place.invariant spread answered in
    let old = c.loop-place.chosen.items in
    let new = c.match-answers-place.chosen.items in
    elim c.match-answers-place.branch [
      | in-Some+in_ok-push w ↦
          let v = w.in-Some.v in
          let more : new ≡ old ++ v ∷ [] = ap (λ xs. xs.items) w.chosen-is ∙ w.in_ok-push.ensures.items in
          front_more spread old new n v before (sym here ∙ w.in-Some.is) more
      | in_default w ↦
          let same : old ≡ new = ap (λ xs. xs.items) (sym w.chosen-is) in
          sym same ∙ front_whole spread old n before (λ v is. w.in_default.not-Some v (here ∙ is))
    ]

pub returns : goal.returns
returns c =
    spread_of_answers c.args.size c.args.terminals.now c.spread_five-answers.result c.loop-place.chosen.items c.loop-place.place
    c.spread_five-answers.ensures (omega (arith, c.loop-place-test.false)) c.loop-place.invariant
