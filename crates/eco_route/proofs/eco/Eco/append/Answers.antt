use Rattle.std.proofs.Common.{◌≡◌, ℕ, ◌+◌, ◌≤◌, ◌++◌, ◌∷◌, [], List, length, refl, sym, ◌∙◌, ap, subst, arith}
use Rattle.std.proofs.lemmas.List.{length_push, length-map}
use Rattle.std.specs.List.{remove}
use Rattle.grid_base.specs.declared.piece.Piece.{Piece}
use Rattle.grid_base.specs.Lists.{At}
use Rattle.grid_base.proofs.Lists.{At-pushed}
use Rattle.grid_base.proofs.NoRepeats.{HasNoRepeats-push}
use Rattle.grid_graph.specs.declared.design.Design.{Design}
use Rattle.grid_graph.specs.declared.net_spec.NetSpec.{NetSpec}
use Rattle.grid_graph.specs.Grids.{size_of}
use Rattle.grid_graph.specs.Nets.{IsDesign, IsNet}
use Rattle.grid_graph.specs.Limits.{max_nets, max_pins}
use Rattle.tree_set.specs.Order.{IsRising}
use Rattle.tree_set.specs.Routings.{ArePieces}
use Rattle.eco_route.specs.EditRefusals.{HasNoNet, terminals_of}
use Rattle.eco_route.specs.NetIndices.{ids_of, IsIndexOf}
use Rattle.eco_route.specs.RoutedDesigns.{RoutedDesign}
use Rattle.eco_route.specs.Routers.{router_loads}
use Rattle.eco_route.proofs.EcoFacts.{free_id, has_room, on_either, on_err, on_ok, once-ids, IdsDiffer-pushed, IsDesign-pushed, IsEco-kept, IsEco-pushed}
use Rattle.eco_route.proofs.Removed.{remove-pushed}
use Rattle.eco_route.proofs.eco.Eco.append.Goals as goal
use Rattle.eco_route.proofs.eco.Eco.append.Goals.{After-reserve, After-push}

-- the design that it holds is the one that is seen
held : (c : After-reserve) → c.self.inside.design ≡ c.args.self.now.design
held c = ap (λ (x : RoutedDesign). x.design) c.self.view_is

-- no net has the id
free : (c : After-reserve) → HasNoNet c.self.inside.design.nets c.args.net.id
free c = subst (λ (d : Design). HasNoNet d.nets c.args.net.id) (sym (held c)) c.requires.free

fits : (c : After-reserve) → IsNet c.self.inside.design.grid c.args.net
fits c = subst (λ (d : Design). IsNet d.grid c.args.net) (sym (held c)) c.requires.net

-- the place of the net that comes
place_is : (c : After-reserve) → c.len-place.result ≡ length c.self.inside.design.nets
place_is c = c.len-place.ensures ∙ c.self.inside.trees.ok.0 ∙ c.self.invariant.sets.one_each

whole : (c : After-reserve) → IsDesign c.self.inside.design.grid (c.self.inside.design.nets ++ c.args.net ∷ [])
whole c =
    let d = c.self.inside.design in
    IsDesign-pushed d.grid d.nets c.args.net d.limits (fits c) (free c)
    (subst (λ (x : Design). length x.nets + 1 ≤ max_nets) (sym (held c)) c.requires.count)
    (subst (λ (x : Design). terminals_of x.nets + length c.args.net.terminals ≤ max_pins) (sym (held c)) c.requires.pins)

pub invariant_of-self-in_err-push : goal.invariant_of-self-in_err-push
invariant_of-self-in_err-push c =
    let s = c.self.inside in
    IsEco-kept s.design.grid s.design.nets s.design.nets s.trees.items c.reserve.new.self.items s.index c.push.new.self s.terminals s.router c.self.invariant refl c.reserve.ensures.items
    (c.in_err-push.ensures.no_memory (ids_of s.design.nets) c.self.invariant.indexed)

pub push_net-requires : goal.push_net-requires
push_net-requires c =
    let here = (goal.at.push_net-requires c).After-reserve in
    IdsDiffer-pushed c.self.inside.design.nets c.args.net c.self.inside.design.limits.ids (free here)

pub invariant_of-self-inside : goal.invariant_of-self-inside
invariant_of-self-inside c =
    let d = c.self.inside.design in
    record {
      limits = on_either (IsDesign d.grid) c.push_net.result c.push_net.new.nets (d.nets ++ c.args.net ∷ []) d.nets c.push_net.ensures.pushed c.push_net.ensures.no_memory
          (whole (goal.at.invariant_of-self-inside c).After-reserve) d.limits;
    }

pub remove-requires : goal.remove-requires
remove-requires c =
    let s = c.self.inside in
    let here = (goal.at.remove-requires c).After-reserve in
    let indexed : IsIndexOf (ids_of s.design.nets ++ c.args.net.id ∷ []) c.push.new.self =
    c.in_ok-push.ensures.pushed (ids_of s.design.nets) c.self.invariant.indexed (free_id s.design.nets c.args.net.id (free here)) in
    omega (arith, indexed.long, length_push (ids_of s.design.nets) c.args.net.id, length-map s.design.nets (λ (n : NetSpec). n.id), place_is here)

pub invariant_of-self-then-is_err : goal.invariant_of-self-then-is_err
invariant_of-self-then-is_err c =
    let s = c.self.inside in
    let here = (goal.at.invariant_of-self-then-is_err c).After-reserve in
    let ids : List ℕ = ids_of s.design.nets in
    let id = c.args.net.id in
    let none = free_id s.design.nets id (free here) in
    let place : c.len-place.result ≡ length ids = place_is here ∙ sym (length-map s.design.nets (λ (n : NetSpec). n.id)) in
    let indexed : IsIndexOf (ids ++ id ∷ []) c.push.new.self = c.in_ok-push.ensures.pushed ids c.self.invariant.indexed none in
    let once = HasNoRepeats-push ids id (once-ids s.design.nets s.design.limits.ids) (λ i x at same. none i (subst (λ y. At ids i y) same at)) in
    let back : IsIndexOf (remove (ids ++ id ∷ []) c.len-place.result) c.remove.new.self =
    c.remove.ensures (ids ++ id ∷ []) indexed once (subst (λ k. At (ids ++ id ∷ []) k id) (sym place) (At-pushed ids id)) in
    IsEco-kept s.design.grid s.design.nets c.push_net.new.nets s.trees.items c.reserve.new.self.items s.index c.remove.new.self s.terminals s.router c.self.invariant
    (on_err c.push_net.result (sym c.is_err.ensures.value ∙ c.if-is_err.true) c.push_net.ensures.no_memory) c.reserve.ensures.items
    (subst (λ xs. IsIndexOf xs c.remove.new.self) (ap (remove (ids ++ id ∷ [])) place ∙ remove-pushed ids id) back)

pub notice-requires-clause-width : goal.notice-requires-clause-width
notice-requires-clause-width c = (fits (goal.at.notice-requires-clause-width c).After-reserve).width

pub notice-requires-clause-pieces : goal.notice-requires-clause-pieces
notice-requires-clause-pieces c =
    subst (λ (d : Design). ArePieces (size_of d.grid) c.args.tree) (sym (held (goal.at.notice-requires-clause-pieces c).After-reserve)) c.requires.pieces

pub notice-requires-clause-room : goal.notice-requires-clause-room
notice-requires-clause-room c r =
    let s = c.self.inside in
    has_room s.design.grid s.design.nets s.trees.items (router_loads s.router) s.design.limits c.self.invariant.sets c.self.invariant.rising c.self.invariant.loaded r

pub invariant_of-self-2 : goal.invariant_of-self-2
invariant_of-self-2 c =
    let s = c.self.inside in
    let g = s.design.grid in
    let here = (goal.at.invariant_of-self-2 c).After-reserve in
    let net = c.args.net in
    let tree : List Piece = c.args.tree in
    let nets : c.push_net.new.nets ≡ s.design.nets ++ net ∷ [] = on_ok c.push_net.result (sym c.is_err.ensures.value ∙ c.if-is_err.false) c.push_net.ensures.pushed in
    let sets : c.push_reserved.new.self.items ≡ s.trees.items ++ tree ∷ [] = c.push_reserved.ensures.items ∙ ap (λ ts. ts ++ tree ∷ []) c.reserve.ensures.items in
    let rising : IsRising tree = subst IsRising c.tree.view_is c.tree.invariant in
    let pieces : ArePieces (size_of g) tree = subst (λ (d : Design). ArePieces (size_of d.grid) tree) (sym (held here)) c.requires.pieces in
    let indexed : IsIndexOf (ids_of s.design.nets ++ net.id ∷ []) c.push.new.self =
    c.in_ok-push.ensures.pushed (ids_of s.design.nets) c.self.invariant.indexed (free_id s.design.nets net.id (free here)) in
    let all = IsEco-pushed g s.design.nets s.trees.items s.index c.push.new.self s.terminals s.router c.notice.new.self net tree c.self.invariant pieces rising indexed c.notice.ensures.router c.notice.ensures.loads in
    rw (nets, sets, c.list-terminals.ensures.items) all
