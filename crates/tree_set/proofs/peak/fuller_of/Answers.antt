use Rattle.std.proofs.Common.{rules, ◌≡◌, ◌≢◌, ◌*◌, ◌≤◌, ◌<◌, ℕ, slice_index, Option, subst, ⊎_elim}
use Rattle.std.proofs.lemmas.Bool.{cases_lt}
use Rattle.grid_base.specs.declared.edge.Edge.{Edge}
use Rattle.grid_graph.specs.Grids.{kind, capacity}
use Rattle.grid_graph.specs.declared.kind.Kind.TheVariants.{Open}
use Rattle.tree_set.specs.Fullest.{IsFullest, IsFullestBelow}
use Rattle.tree_set.proofs.Fullest.{IsFullestBelow-shut, IsFullest-kept, IsFullest-replaced, IsFullest-first}
use Rattle.tree_set.proofs.peak.fuller_of.Goals as goal

pub returns-then-ne : goal.returns-then-ne
returns-then-ne c =
    let shut : kind c.args.grid.now c.args.next.0 ≢ Open = search rules in
    IsFullestBelow-shut c.args.grid.now (slice_index c.args.loads.now) c.args.next.0 c.args.fullest c.requires.before shut

pub returns-in-Some : goal.returns-in-Some
returns-in-Some c =
    let g = c.args.grid.now in
    let load = slice_index c.args.loads.now in
    let n = c.args.next.0 in
    let edge = c.in-Some.edge.0 in
    let before : IsFullest g load n edge = subst (λ (o : Option Edge). IsFullestBelow g load n o) c.in-Some.is c.requires.before in
    let less : load n * capacity g edge ≤ load edge * capacity g n =
    ⊎_elim
    (λ (more : load edge * capacity g n < load n * capacity g edge). absurd (search rules))
    (λ (less : load n * capacity g edge ≤ load edge * capacity g n). less)
    (cases_lt (load edge * capacity g n) (load n * capacity g edge)) in
    IsFullest-kept g load n edge before less

pub returns-in_default : goal.returns-in_default
returns-in_default c =
    let g = c.args.grid.now in
    let load = slice_index c.args.loads.now in
    let n = c.args.next.0 in
    let edge = c.in-Some.edge.0 in
    let before : IsFullest g load n edge = subst (λ (o : Option Edge). IsFullestBelow g load n o) c.in-Some.is c.requires.before in
    let is_open : kind g n ≡ Open = search rules in
    let more : load edge * capacity g n < load n * capacity g edge = search rules in
    IsFullest-replaced g load n edge before c.requires.edge is_open more

pub returns-in_default-2 : goal.returns-in_default-2
returns-in_default-2 c =
    let g = c.args.grid.now in
    let load = slice_index c.args.loads.now in
    let n = c.args.next.0 in
    let before : (e : ℕ) → e < n → kind g e ≢ Open = subst (λ (o : Option Edge). IsFullestBelow g load n o) c.in_default.is c.requires.before in
    let is_open : kind g n ≡ Open = search rules in
    IsFullest-first g load n before c.requires.edge is_open
