use Rattle.std.proofs.Common.{◌≡◌, ℕ, All, List, Result, IfOk, get_or, sym, ◌∙◌, subst, arith}
use Rattle.std.proofs.lemmas.Option.{same_Some}
use Rattle.std.proofs.lemmas.Result.{IfOk-weaker}
use Rattle.grid_base.specs.Numbers.{IsVertex}
use Rattle.grid_base.specs.declared.no_memory.NoMemory.{NoMemory}
use Rattle.grid_base.specs.Lists.{At}
use Rattle.grid_graph.specs.declared.grid.Grid.{Grid}
use Rattle.grid_graph.specs.declared.ground.Ground.{Ground}
use Rattle.grid_graph.specs.declared.ground.Ground.TheVariants.{Open}
use Rattle.grid_graph.specs.declared.net_spec.NetSpec.{NetSpec}
use Rattle.grid_graph.specs.Grids.{size_of, IsNetWidth}
use Rattle.grid_graph.specs.Grounds.{IsGround, JoinsTerminals}
use Rattle.lower_bound.specs.Costs.{costed}
use Rattle.lower_bound.specs.NetBounds.{IsNetBound}
use Rattle.edge_prices.specs.Budgets.{price_per_piece}
use Rattle.dual_bound.specs.DesignBounds.{IsBoundOfNet}
use Rattle.dual_bound.specs.Classes.{ServesClass}
use Rattle.dual_bound.proofs.NetLimits.{ground_joins}
use Rattle.dual_bound.proofs.NetsOf.{AllZip-length, net_stands, net_ground, net_width, net_vertices}
use Rattle.dual_bound.proofs.priced.Priced.bound_of_class.Goals as goal
use Rattle.dual_bound.proofs.priced.Priced.bound_of_class.Goals.{After-renew}

pub bounds-self-place : goal.bounds-self-place
bounds-self-place c =
    let p = c.args.self.now in
    let d = p.design.now in
    omega (arith, c.requires.place, AllZip-length (λ (n : NetSpec) found. IsGround d.grid n.terminals found) d.nets p.grounds.now c.requires.grounds)

pub renew-requires-clause-width : goal.renew-requires-clause-width
renew-requires-clause-width c =
    let d = c.args.self.now.design.now in
    let n = c.index-list-place.result in
    let at = net_stands d.nets c.list.result.now c.args.place n c.list.ensures.items c.requires.place c.index-list-place.is in
    subst (λ (g : Grid). IsNetWidth g n.width) (sym c.requires.costs.grid) (net_width d c.args.place n at)

vertices_of : (c : After-renew) → All (λ v. IsVertex (size_of c.renew.new.self.grid.now) v.0) c.index-list-place.result.terminals
vertices_of c =
    let d = c.args.self.now.design.now in
    let n = c.index-list-place.result in
    let at = net_stands d.nets c.list.result.now c.args.place n c.list.ensures.items c.requires.place c.index-list-place.is in
    subst (λ (g : Grid). All (λ v. IsVertex (size_of g) v.0) n.terminals) (sym (c.renew.ensures.grid ∙ c.requires.costs.grid)) (net_vertices d c.args.place n at)

ground_of : (c : After-renew) → JoinsTerminals c.renew.new.self.grid.now c.renew.new.self.ground c.index-list-place.result.terminals
ground_of c =
    let p = c.args.self.now in
    let d = p.design.now in
    let n = c.index-list-place.result in
    let over = get_or p.grounds.now c.args.place Open in
    let at = net_stands d.nets c.list.result.now c.args.place n c.list.ensures.items c.requires.place c.index-list-place.is in
    subst (λ (g : Grid). JoinsTerminals g c.renew.new.self.ground n.terminals) (sym (c.renew.ensures.grid ∙ c.requires.costs.grid))
    (subst (λ (o : Ground). JoinsTerminals d.grid o n.terminals) (sym c.renew.ensures.ground)
    (ground_joins d.grid n over (net_ground d.grid d.nets p.grounds.now c.args.place n Open c.requires.grounds c.requires.place at)))

pub net_bound-requires-clause-vertices : goal.net_bound-requires-clause-vertices
net_bound-requires-clause-vertices c = vertices_of (goal.at.net_bound-requires-clause-vertices c).After-renew

pub net_bound_with-requires-clause-vertices : goal.net_bound_with-requires-clause-vertices
net_bound_with-requires-clause-vertices c = vertices_of (goal.at.net_bound_with-requires-clause-vertices c).After-renew

pub net_bound-requires-clause-ground : goal.net_bound-requires-clause-ground
net_bound-requires-clause-ground c = ground_of (goal.at.net_bound-requires-clause-ground c).After-renew

pub net_bound_with-requires-clause-ground : goal.net_bound_with-requires-clause-ground
net_bound_with-requires-clause-ground c = ground_of (goal.at.net_bound_with-requires-clause-ground c).After-renew

-- the bound of the net by the costs of its class
of_class : (g h : Grid) (w width k q : ℕ) (o over : Ground) (old prices : List ℕ) (n : NetSpec) (bound : ℕ) → h ≡ g → w ≡ width → o ≡ over → old ≡ prices → k ≡ q → IsNetBound (size_of h) (costed h w o old k) n.terminals bound → IsNetBound (size_of g) (costed g width over prices q) n.terminals bound
of_class g h w width k q o over old prices n bound grid wide ground priced paid is =
    subst (λ j. IsNetBound (size_of g) (costed g width over prices j) n.terminals bound) paid
    (subst (λ (x : Grid). IsNetBound (size_of x) (costed x width over prices k) n.terminals bound) grid
    (subst (λ j. IsNetBound (size_of h) (costed h j over prices k) n.terminals bound) wide
    (subst (λ (x : Ground). IsNetBound (size_of h) (costed h w x prices k) n.terminals bound) ground
    (subst (λ (xs : List ℕ). IsNetBound (size_of h) (costed h w o xs k) n.terminals bound) priced is))))

of_net : (c : After-renew) (k : ℕ) (result : Result ℕ NoMemory) → k ≡ price_per_piece c.args.self.now.budget
    → IfOk result (IsNetBound (size_of c.renew.new.self.grid.now) (costed c.renew.new.self.grid.now c.renew.new.self.width c.renew.new.self.ground c.renew.new.self.prices.now k) c.index-list-place.result.terminals)
    → IfOk result (λ b. (n : NetSpec) → At c.args.self.now.design.now.nets c.args.place n → IsBoundOfNet c.args.self.now.design.now.grid c.args.self.now.prices.now c.args.self.now.budget n b)
of_net c k result paid found =
    let p = c.args.self.now in
    let d = p.design.now in
    let m = c.index-list-place.result in
    let over = get_or p.grounds.now c.args.place Open in
    let costs = c.renew.new.self in
    let at = net_stands d.nets c.list.result.now c.args.place m c.list.ensures.items c.requires.place c.index-list-place.is in
    IfOk-weaker result (IsNetBound (size_of costs.grid.now) (costed costs.grid.now costs.width costs.ground costs.prices.now k) m.terminals)
    (λ b. (n : NetSpec) → At d.nets c.args.place n → IsBoundOfNet d.grid p.prices.now p.budget n b)
    (λ b is n stands. subst (λ (j : NetSpec). IsBoundOfNet d.grid p.prices.now p.budget j b) (same_Some _ _ (sym at ∙ stands)) (record {
      over = over;
      is_ground = net_ground d.grid d.nets p.grounds.now c.args.place m Open c.requires.grounds c.requires.place at;
      is_bound = of_class d.grid costs.grid.now costs.width m.width k (price_per_piece p.budget) costs.ground over costs.prices.now p.prices.now m b (c.renew.ensures.grid ∙ c.requires.costs.grid) c.renew.ensures.width c.renew.ensures.ground
          (c.renew.ensures.prices ∙ c.requires.costs.prices) paid is;
    }))
    found

pub returns-in-Tiles-clause-bound : goal.returns-in-Tiles-clause-bound
returns-in-Tiles-clause-bound c =
    let serves = subst (ServesClass c.args.self.now c.args.costs.now) c.in-Tiles.is c.requires.labels in
    of_net (goal.at.returns-in-Tiles-clause-bound c).After-renew 0 c.net_bound.result (sym serves.0) c.net_bound.ensures.bound

pub returns-in-Trees-clause-bound : goal.returns-in-Trees-clause-bound
returns-in-Trees-clause-bound c =
    of_net (goal.at.returns-in-Trees-clause-bound c).After-renew c.per_piece.result c.net_bound_with.result c.per_piece.ensures.value c.net_bound_with.ensures.bound
