-- What is left of a design text behind its header.
use Rattle.std.specs.Prelude.{◌≡◌, ℕ, List, Result, Ok, Err}
use Rattle.std.specs.Option.{unwrap_or}
use Rattle.grid_graph.specs.Grids.{size_of, layout_of, capacity, first_capacity}
use Rattle.ispd_reader.specs.declared.body.Body.{Body}
use Rattle.design_tokens.specs.declared.cut_token.CutToken.{CutToken}
use Rattle.design_tokens.specs.declared.input_error.InputError.{InputError}
use Rattle.design_tokens.specs.declared.input_fault.InputFault.{InputFault}
use Rattle.design_tokens.specs.Parsing.{Reading, InputRead, ◌>>=◌}
use Rattle.ispd_reader.specs.Header.{Header}
use Rattle.ispd_reader.specs.Nets.{Net, nets_at}
use Rattle.ispd_reader.specs.NetsLeft.{nets_left}
use Rattle.ispd_reader.specs.NetsSoFar.{AreNetsOf}
use Rattle.ispd_reader.specs.Adjustments.{Adjustment, adjustments_at, last_level}
use Rattle.ispd_reader.specs.AdjustmentsLeft.{alone, and_more, adjustments_left, FitsSize}
use Rattle.ispd_reader.specs.Views.{extent_of_size, header_of}
use Rattle.ispd_reader.specs.Designs.{Contents}
use Rattle.design_tokens.specs.Steps.{LeavesNext, RefusesNext}

-- all that a text says, where it has this header, the nets read as these, and this is left behind them
abbrev pub with_nets_read : Header → (Reading → Result (List Adjustment) InputFault) → InputRead (List Net) → Result Contents InputFault
with_nets_read header left nets = do
  nets ← nets
  adjustments ← left nets.1
  Ok (record { header = header; nets = nets.0; adjustments = adjustments })

-- all that it says, where this is left behind the header
unfoldable pub after_header : Header → Reading → Result Contents InputFault
after_header header r = with_nets_read header (λ r. alone (adjustments_at header.extent r)) (nets_at header r)

-- what is left of it behind the header, and all that it says then; these adjustments were made
unfoldable pub body_left : Body → List Adjustment → Reading → Result Contents InputFault
body_left b made r =
    let header = header_of (layout_of b.grid) in
    with_nets_read header (λ r. and_more made (adjustments_left (extent_of_size (size_of b.grid)) b.adjustments r)) (nets_left header b.nets r)

-- the capacities are those that these adjustments leave
abbrev pub HasCapacities : Body → List Adjustment → Type 0
HasCapacities b made = (e : ℕ) → capacity b.grid e ≡ unwrap_or (last_level e made) (first_capacity b.grid e)

-- what was read fits the grid
abbrev pub IsReadyBody : Body → Type 0
IsReadyBody b = AreNetsOf b.grid b.nets × FitsSize (size_of b.grid) b.adjustments

-- the token is taken, and these adjustments were made then; or it is refused
abbrev pub BodyMovesOn : CutToken → Result (Unit {0}) InputError → Body → List Adjustment → Body → Type 0
BodyMovesOn c (Ok done) old made new = (after : List Adjustment) × HasCapacities new after × LeavesNext c (body_left old made) (body_left new after)
BodyMovesOn c (Err e) old made new = RefusesNext c e (body_left old made)
