-- What the rounds of repair of a run amount to.
use Rattle.std.proofs.Common.{◌≡◌, ◌≢◌, ℕ, ◌≤◌, ◌<◌, List, [], get_or, arith, ⊎_elim}
use Rattle.std.proofs.lemmas.Bool.{cases_eq}
use Rattle.std.proofs.lemmas.Option.{slice_get-get_or}
use Rattle.grid_base.specs.declared.piece.Piece.{Piece}
use Rattle.grid_base.specs.Lists.{At}
use Rattle.grid_graph.specs.declared.design.Design.{Design}
use Rattle.routing_stages.specs.declared.settings.Settings.{Settings}
use Rattle.sharing_runs.specs.RepairRuns.{routing_overflow}
use Rattle.router_cli.specs.RouterRuns.{IsRouterRun}

-- the result has no more overflow than the picked sets
pub no_more : (d : Design) (s : Settings) (trees : List (List Piece)) (prices : List ℕ) (rounded rounds : ℕ)
    → IsRouterRun d s trees prices rounded rounds → routing_overflow d trees ≤ rounded
no_more d s trees prices rounded rounds run = omega (arith, run.rounded_is, run.result.least 0 run.picked run.begins)

-- there is no round where the picked sets have no overflow
pub no_round : (d : Design) (s : Settings) (trees : List (List Piece)) (prices : List ℕ) (rounded rounds : ℕ)
    → IsRouterRun d s trees prices rounded rounds → rounded ≡ 0 → rounds ≡ 0
no_round d s trees prices rounded rounds run none =
    ⊎_elim
    (λ (is : rounds ≡ 0). is)
    (λ (some : rounds ≢ 0).
    let goes_on : 0 < routing_overflow d run.picked = run.repairs.goes_on 0 run.picked run.begins (omega (arith, run.rounds_are, some)) in
    absurd (omega (arith, goes_on, run.rounded_is, none)))
    (cases_eq rounds 0)

-- there are no more rounds than the settings say
pub most_rounds : (d : Design) (s : Settings) (trees : List (List Piece)) (prices : List ℕ) (rounded rounds : ℕ)
    → IsRouterRun d s trees prices rounded rounds → rounds ≤ s.rounds
most_rounds d s trees prices rounded rounds run = omega (arith, run.rounds_are, run.repairs.most)

-- where there are fewer, the last routing has no overflow, and so has the result
pub fewer_rounds : (d : Design) (s : Settings) (trees : List (List Piece)) (prices : List ℕ) (rounded rounds : ℕ)
    → IsRouterRun d s trees prices rounded rounds → rounds < s.rounds → routing_overflow d trees ≡ 0
fewer_rounds d s trees prices rounded rounds run fewer =
    let last : List (List Piece) = get_or run.routings rounds [] in
    let stands : At run.routings rounds last = slice_get-get_or run.routings rounds [] (omega (arith, run.rounds_are)) in
    omega (arith, run.result.least rounds last stands, run.repairs.ends rounds last stands (omega (arith, run.rounds_are)) fewer)
