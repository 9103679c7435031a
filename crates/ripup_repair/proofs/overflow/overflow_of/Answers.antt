use Rattle.std.proofs.Common.{◌≡◌, ◌≤◌, ◌<◌, ◌*◌, ℕ, List, take, slice_index, refl, ◌∙◌, ap, arith, ⊎_elim}
use Rattle.ripup_repair.proofs.Common.{cases_lt, get_or-take, get_or_past, length-take, Piece, vertices, Design, edge_numbers}
use Rattle.ripup_repair.proofs.Common.{load, load_list, load_list-at}
use Rattle.ripup_repair.proofs.Overflows.{load-limit, overflow-same}
use Rattle.ripup_repair.proofs.RepairNets.{load_on-edge}
use Rattle.ripup_repair.proofs.overflow.overflow_of.Goals as goal

-- the loads of the edges in a list of loads
listed_edges : (d : Design) (trees : List (List Piece)) (loads : List ℕ) (n e : ℕ) → loads ≡ load_list d.grid d.nets trees
    → n ≡ edge_numbers d.grid → e < n → slice_index (take n loads) e ≡ load d.grid d.nets trees e
listed_edges d trees loads n e same edges within =
    get_or-take n loads e 0 within
    ∙ ap (λ (l : List ℕ). slice_index l e) same
    ∙ load_list-at d.grid d.nets trees e (omega (arith, within, edges))
    ∙ load_on-edge d.grid d.nets trees e (omega (arith, within, edges))

pub measure_of_loads-requires-clause-room : goal.measure_of_loads-requires-clause-room
measure_of_loads-requires-clause-room c e =
    let d = c.args.design.now in
    let n : ℕ = 2 * c.vertices.result in
    let edges : n ≡ edge_numbers d.grid = omega (arith, c.vertices.ensures, ap (λ s. vertices s) c.size.ensures) in
    ⊎_elim
    (λ (within : e < n). omega (
      arith,
      listed_edges d c.requires.listed.0 c.args.loads.now n e c.requires.listed.1 edges within,
      load-limit d c.requires.listed.0 e (omega (arith, within, edges)),
    ))
    (λ (beyond : n ≤ e). omega (
      arith,
      get_or_past (take n c.args.loads.now) e 0
          (omega (arith, beyond, length-take n c.args.loads.now)),
    ))
    (cases_lt e n)

pub returns : goal.returns
returns c trees same =
    let d = c.args.design.now in
    let first : List ℕ = take (2 * c.vertices.result) c.args.loads.now in
    let edges : 2 * c.vertices.result ≡ edge_numbers d.grid =
    omega (arith, c.vertices.ensures, ap (λ s. vertices s) c.size.ensures) in
    c.measure_of_loads.ensures.overflow (slice_index first) (λ e. refl)
    ∙ overflow-same d.grid (slice_index first) (load d.grid d.nets trees)
    (λ e within. listed_edges d trees c.args.loads.now (2 * c.vertices.result) e same edges (omega (arith, within, edges)))
