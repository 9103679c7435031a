use Rattle.std.proofs.Common.{◌≡◌, length, sym, ◌∙◌, ⊎_elim, arith}
use Rattle.std.proofs.lemmas.Bool.{cases_lt}
use Rattle.grid_base.specs.declared.vertex.Vertex.{Vertex}
use Rattle.least_weights.proofs.keeping.five_of.Goals as goal

pub returns : goal.returns
returns c v =
    let place = c.loop-place.place in
    let now = c.loop-place.invariant in
    let d : Vertex = record { 0 = v } in
    let all : place ≡ length c.args.tiles.now = omega (arith, c.loop-place-test.false, c.loop-place.auto.place-end c.requires.some) in (
      (λ is. ⊎_elim
          (λ low. (is.0, omega (arith, low, all), sym (now.front is.0 d low) ∙ is.2))
          (λ high. (0, omega (arith, c.requires.some), sym (now.behind is.0 d high (omega (arith, is.1, now.long))) ∙ is.2))
          (cases_lt is.0 place)),
      λ is. (is.0, omega (arith, is.1, now.long, c.requires.few), now.front is.0 d (omega (arith, is.1, all)) ∙ is.2),
    )
