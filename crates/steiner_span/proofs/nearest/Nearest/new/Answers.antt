use Rattle.std.proofs.Common.{◌≡◌, ◌++◌, [], ◌∷◌, List, take, sym, subst, arith}
use Rattle.std.proofs.lemmas.Grind.{common_steps}
use Rattle.std.proofs.lemmas.List.Elements.{All-push, All-more, All-weaker, All-contains, Contains-push, Contains-append_left}
use Rattle.std.specs.List.{All, Contains}
use Rattle.grid_base.specs.declared.place.Place.{Place}
use Rattle.grid_base.specs.declared.vertex.Vertex.{Vertex}
use Rattle.grid_base.specs.Numbers.{IsVertex, IsInside, place_at}
use Rattle.steiner_span.proofs.LeastRest.{least_near, least_slow}
use Rattle.steiner_span.proofs.nearest.Nearest.new.Goals as goal

pub invariant_of-result : goal.invariant_of-result
invariant_of-result g c = record {
  sized = c.requires.size;
  within = c.requires.within;
  inside = c.loop-terminal.invariant.inside;
  below = c.requires.floors;
  near = least_near c.args.size c.args.floors c.loop-terminal.left.items;
  slow = least_slow c.args.size c.args.floors (g.W.Weights.pieces c.args.weights.now) c.loop-terminal.left.items c.requires.floors;
}

pub loop-terminal-preserved : goal.loop-terminal-preserved
loop-terminal-preserved g c =
    let s = c.args.size in
    let terminals = c.args.terminals.now in
    let i = c.loop-terminal.terminal-index in
    let none : Vertex = record { 0 = 0 } in
    let old = c.loop-terminal.left.items in
    let new = c.push.new.self.items in
    let place = c.place_of.result in
    let pushed : new ≡ old ++ place ∷ [] = c.in_ok-push.ensures.items in
    let before = c.loop-terminal.invariant in
    let P : Vertex → Type 0 = λ v. Contains new (place_at s v.0) in
    record {
      inside = subst (All (IsInside s)) (sym pushed) (All-push (IsInside s) old place before.inside c.place_of.ensures.inside);
      listed = All-more P terminals i none c.loop-terminal-test.true
          (All-weaker (λ (v : Vertex). Contains old (place_at s v.0)) P (λ v at. subst (λ (xs : List Place). Contains xs (place_at s v.0)) (sym pushed) (Contains-append_left old (place ∷ []) (place_at s v.0) at)) (take i terminals) before.listed)
          (subst (λ (p : Place). Contains new p) c.place_of.ensures.place (subst (λ (xs : List Place). Contains xs place) (sym pushed) (Contains-push old place)));
    }

pub returns-clause-left : goal.returns-clause-left
returns-clause-left g c =
    let s = c.args.size in
    let terminals = c.args.terminals.now in
    let all : take c.loop-terminal.terminal-index terminals ≡ terminals = grind (arith, common_steps) in
    let listed = rw all at c.loop-terminal.invariant.listed in
    λ v is. (
      All-contains (λ (w : Vertex). IsVertex s w.0) terminals (record { 0 = v }) c.requires.terminals is,
      All-contains (λ (w : Vertex). Contains c.loop-terminal.left.items (place_at s w.0)) terminals (record { 0 = v }) listed is,
    )
