use Rattle.std.proofs.Common.{◌≡◌, false, sym, ◌∙◌, subst}
use Rattle.std.specs.List.{list_any}
use Rattle.straight_runs.specs.LineCounts.{is_of_kind}
use Rattle.straight_runs.specs.Runs.{pieces_of}
use Rattle.grid_graph.specs.Grids.{size_of}
use Rattle.route_judge.specs.Measured.{is_beyond}
use Rattle.route_judge.proofs.Walls.{beyond_open, beyond_choked}
use Rattle.route_judge.proofs.beyond.goes_beyond.Goals as goal

pub has_any-requires : goal.has_any-requires
has_any-requires c = rw c.requires.choked.of_grid c.requires.runs

pub returns-in-Open : goal.returns-in-Open
returns-in-Open c =
    let g = c.args.grid.now in
    let runs = c.args.runs.now in
    let by_kind = subst (λ k. c.has_any.result ≡ list_any (is_of_kind c.args.choked.now.grid.now k) (pieces_of (size_of c.args.choked.now.grid.now) runs)) c.requires.choked.of_kind c.has_any.ensures in
    let by_grid = subst (λ h. c.has_any.result ≡ list_any (is_of_kind h _) (pieces_of (size_of h) runs)) c.requires.choked.of_grid by_kind in
    subst (λ over. c.has_any.result ≡ list_any (is_beyond g over) (pieces_of (size_of g) runs)) (sym c.in-Open.is) (by_grid ∙ beyond_open g (pieces_of (size_of g) runs))

pub returns-in-WithChoked : goal.returns-in-WithChoked
returns-in-WithChoked c =
    let g = c.args.grid.now in
    let pieces = pieces_of (size_of g) c.args.runs.now in
    subst (λ over. false ≡ list_any (is_beyond g over) pieces) (sym c.in-WithChoked.is) (sym (beyond_choked g pieces))
