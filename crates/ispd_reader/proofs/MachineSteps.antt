-- One more token of a design text.
use Rattle.std.proofs.Common.{◌≡◌, ℕ, List, [], ◌∷◌, ◌++◌, Result, Ok, Err, refl, sym, ap, ◌∙◌, append_assoc}
use Rattle.std.specs.Prelude.{IfOk}
use Rattle.std.specs.Option.{unwrap_or}
use Rattle.std.proofs.lemmas.List.{append-nil}
use Rattle.grid_base.proofs.Options.{unwrap_or-option_or}
use Rattle.text_scan.specs.Reading.{past_token}
use Rattle.grid_graph.specs.declared.grid.Grid.{Grid}
use Rattle.grid_graph.specs.Capacities.{layer_capacity}
use Rattle.grid_graph.specs.Grids.{size_of, layout_of, capacity, first_capacity}
use Rattle.grid_graph.specs.Layouts.{Layout}
use Rattle.ispd_reader.specs.declared.adjustments_reader.AdjustmentsReader.{AdjustmentsReader}
use Rattle.ispd_reader.specs.declared.body.Body.{Body}
use Rattle.design_tokens.specs.declared.cut_token.CutToken.{CutToken}
use Rattle.ispd_reader.specs.declared.header_reader.HeaderReader.{HeaderReader}
use Rattle.design_tokens.specs.declared.input_error.InputError.{InputError}
use Rattle.design_tokens.specs.declared.input_fault.InputFault.{InputFault}
use Rattle.ispd_reader.specs.declared.machine_stage.MachineStage.TheVariants as stages
use Rattle.ispd_reader.specs.declared.nets_reader.NetsReader.{NetsReader}
use Rattle.design_tokens.specs.Parsing.{Reading, InputRead, ◌>>=◌}
use Rattle.ispd_reader.specs.Header.{Header, header_at}
use Rattle.ispd_reader.specs.HeaderLeft.{header_left}
use Rattle.ispd_reader.specs.Nets.{Net, nets_at}
use Rattle.ispd_reader.specs.NetsLeft.{nets_left}
use Rattle.ispd_reader.specs.Adjustments.{Adjustment, adjustments_at, level_where, last_level}
use Rattle.ispd_reader.specs.Adjusted.{IsAdjusted}
use Rattle.ispd_reader.specs.AdjustmentsLeft.{alone, and_more, adjustments_left, FitsSize, AdjustsNext}
use Rattle.ispd_reader.specs.BodyLeft.{with_nets_read, after_header, body_left, HasCapacities, IsReadyBody, BodyMovesOn}
use Rattle.ispd_reader.specs.Designs.{Contents, contents_at}
use Rattle.ispd_reader.specs.MachineStages.{left_at_stage, StageMovesOn}
use Rattle.design_tokens.specs.Steps.{RefusesNext, TakesNext}
use Rattle.ispd_reader.specs.Views.{extent_of_size, header_of}
use Rattle.ispd_reader.specs.NetsSoFar.{AreNetsOf}
use Rattle.design_tokens.proofs.NextTokens.{refused_left}
use Rattle.ispd_reader.proofs.NetsEnds.{nets_kept}

-- all that a text says, where its adjustments are these
abbrev with_adjustments : Header → List Net → Result (List Adjustment) InputFault → Result Contents InputFault
with_adjustments header nets adjustments = adjustments >>= λ adjustments. Ok (record { header = header; nets = nets; adjustments = adjustments })

-- ---- the header

-- all that a text says, where the header reads as this
abbrev with_header : InputRead Header → Result Contents InputFault
with_header header = header >>= λ header. after_header header.0 header.1

pub header_fault : (h : HeaderReader) (made : List Adjustment) (r : Reading) (fault : InputFault) → header_left h r ≡ Err fault → left_at_stage (stages.Header h) made r ≡ Err fault
header_fault h made r fault is = ap with_header is

-- it is refused
pub header_refused : (c : CutToken) (e : InputError) (h : HeaderReader) (made : List Adjustment) → RefusesNext c e (header_left h) → RefusesNext c e (left_at_stage (stages.Header h) made)
header_refused c e h made refused = refused_left c e (header_left h) (left_at_stage (stages.Header h) made) (header_fault h made) refused

-- a token of it is read, and the last of them
pub header_goes_on : (h k : HeaderReader) (made after : List Adjustment) (r next : Reading) → header_left h r ≡ header_left k next → left_at_stage (stages.Header h) made r ≡ left_at_stage (stages.Header k) after next
header_goes_on h k made after r next is = ap with_header is

pub header_ends : (h : HeaderReader) (b : Body) (made : List Adjustment) (header : Header) (r next : Reading) → header_left h r ≡ Ok (header, next) → body_left b [] next ≡ after_header header next → left_at_stage (stages.Header h) made r ≡ left_at_stage (stages.Body b) [] next
header_ends h b made header r next is left = ap with_header is ∙ sym left

-- behind the header
pub body_moves : (c : CutToken) (result : Result (Unit {0}) InputError) (old new : Body) (made : List Adjustment) → BodyMovesOn c result old made new → StageMovesOn c result (stages.Body old) made (stages.Body new)
body_moves c (Ok done) old new made moves = moves
body_moves c (Err e) old new made refused = refused

-- before the first token
abbrev with_all : Header → List Net → InputRead (List Adjustment) → Result Contents InputFault
with_all header nets adjustments = adjustments >>= λ adjustments. Ok (record { header = header; nets = nets; adjustments = adjustments.0 })

adjustments_alone : (header : Header) (nets : List Net) (read : InputRead (List Adjustment)) → with_adjustments header nets (alone read) ≡ with_all header nets read
adjustments_alone header nets (Ok read) = refl
adjustments_alone header nets (Err fault) = refl

nets_alone : (header : Header) (read : InputRead (List Net)) →
    with_nets_read header (λ r. alone (adjustments_at header.extent r)) read ≡ (read >>= λ nets. with_all header nets.0 (adjustments_at header.extent nets.1))
nets_alone header (Ok nets) = adjustments_alone header nets.0 (adjustments_at header.extent nets.1)
nets_alone header (Err fault) = refl

header_alone : (read : InputRead Header) → with_header read ≡ (read >>= λ header. nets_at header.0 header.1 >>= λ nets. with_all header.0 nets.0 (adjustments_at header.0.extent nets.1))
unfolding after_header
header_alone (Ok header) = nets_alone header.0 (nets_at header.0 header.1)
header_alone (Err fault) = refl

pub all_left : (h : HeaderReader) (r : Reading) → header_left h r ≡ header_at r → left_at_stage (stages.Header h) [] r ≡ contents_at r
unfolding contents_at
all_left h r is = ap with_header is ∙ header_alone (header_at r)

-- ---- the nets

-- what is left behind the nets
abbrev behind_nets : Grid → AdjustmentsReader → List Adjustment → Reading → Result (List Adjustment) InputFault
behind_nets g a made r = and_more made (adjustments_left (extent_of_size (size_of g)) a r)

same_behind : (header : Header) (f g : Reading → Result (List Adjustment) InputFault) (read : InputRead (List Net)) → ((r : Reading) → f r ≡ g r) → with_nets_read header f read ≡ with_nets_read header g read
same_behind header f g (Ok nets) same = ap (with_adjustments header nets.0) (same nets.1)
same_behind header f g (Err fault) same = refl

none_made : (left : Result (List Adjustment) InputFault) → and_more [] left ≡ left
none_made (Ok more) = refl
none_made (Err fault) = refl

-- before the first of them
pub body_begins : (g : Grid) (n : NetsReader) (a : AdjustmentsReader) (y : Layout) (r : Reading) → layout_of g ≡ y → nets_left (header_of (layout_of g)) n r ≡ nets_at (header_of (layout_of g)) r → ((r : Reading) → adjustments_left (extent_of_size (size_of g)) a r ≡ alone (adjustments_at (extent_of_size (size_of g)) r)) →
    body_left (record { grid = g; nets = n; adjustments = a }) [] r ≡ after_header (header_of y) r
unfolding body_left after_header
body_begins g n a y r made nets adjustments =
    let header = header_of (layout_of g) in
    ap (with_nets_read header (behind_nets g a [])) nets
    ∙ same_behind header (behind_nets g a []) (λ r. alone (adjustments_at header.extent r)) (nets_at header r) (λ r. none_made (adjustments_left (extent_of_size (size_of g)) a r) ∙ adjustments r)
    ∙ ap (λ (y : Layout). with_nets_read (header_of y) (λ r. alone (adjustments_at (extent_of_size y.size) r)) (nets_at (header_of y) r)) made

pub nets_fault : (b : Body) (made : List Adjustment) (r : Reading) (fault : InputFault) → nets_left (header_of (layout_of b.grid)) b.nets r ≡ Err fault → body_left b made r ≡ Err fault
unfolding body_left
nets_fault b made r fault is = ap (with_nets_read (header_of (layout_of b.grid)) (behind_nets b.grid b.adjustments made)) is

-- a net is refused
nets_refused_next : (c : CutToken) (e : InputError) (b : Body) (made : List Adjustment) → RefusesNext c e (nets_left (header_of (layout_of b.grid)) b.nets) → RefusesNext c e (body_left b made)
nets_refused_next c e b made refused = refused_left c e (nets_left (header_of (layout_of b.grid)) b.nets) (body_left b made) (nets_fault b made) refused

-- a token of the nets is read
nets_go_on : (b : Body) (n : NetsReader) (made : List Adjustment) (r next : Reading) → nets_left (header_of (layout_of b.grid)) b.nets r ≡ nets_left (header_of (layout_of b.grid)) n next →
    body_left b made r ≡ body_left (record { grid = b.grid; nets = n; adjustments = b.adjustments }) made next
unfolding body_left
nets_go_on b n made r next is = ap (with_nets_read (header_of (layout_of b.grid)) (behind_nets b.grid b.adjustments made)) is

-- ---- the adjustments, where all nets are there

-- these were made, and then more
more_made : (made more : List Adjustment) (left : Result (List Adjustment) InputFault) → and_more made (and_more more left) ≡ and_more (made ++ more) left
more_made made more (Ok xs) = ap (λ (all : List Adjustment). Ok all) (sym (append_assoc made more xs))
more_made made more (Err fault) = refl

pub adjustments_fault : (b : Body) (made : List Adjustment) (nets : List Net) (r : Reading) (fault : InputFault) → nets_left (header_of (layout_of b.grid)) b.nets r ≡ Ok (nets, r) → adjustments_left (extent_of_size (size_of b.grid)) b.adjustments r ≡ Err fault → body_left b made r ≡ Err fault
unfolding body_left
adjustments_fault b made nets r fault all is =
    ap (with_nets_read (header_of (layout_of b.grid)) (behind_nets b.grid b.adjustments made)) all
    ∙ ap (λ (left : Result (List Adjustment) InputFault). with_adjustments (header_of (layout_of b.grid)) nets (and_more made left)) is

-- an adjustment is refused
adjustments_refused_next : (c : CutToken) (e : InputError) (b : Body) (made : List Adjustment) (nets : List Net) → ((header : Header) (r : Reading) → nets_left header b.nets r ≡ Ok (nets, r)) → RefusesNext c e (adjustments_left (extent_of_size (size_of b.grid)) b.adjustments) → RefusesNext c e (body_left b made)
adjustments_refused_next c e b made nets all refused = refused_left c e (adjustments_left (extent_of_size (size_of b.grid)) b.adjustments) (body_left b made) (λ r fault is. adjustments_fault b made nets r fault (all (header_of (layout_of b.grid)) r) is) refused

-- a token of the adjustments is read, and the grid may be adjusted
adjustments_go_on : (g h : Grid) (n : NetsReader) (a k : AdjustmentsReader) (made more : List Adjustment) (nets : List Net) (r next : Reading) → ((header : Header) (r : Reading) → nets_left header n r ≡ Ok (nets, r)) → layout_of h ≡ layout_of g →
    adjustments_left (extent_of_size (size_of g)) a r ≡ and_more more (adjustments_left (extent_of_size (size_of g)) k next) →
    body_left (record { grid = g; nets = n; adjustments = a }) made r ≡ body_left (record { grid = h; nets = n; adjustments = k }) (made ++ more) next
unfolding body_left
adjustments_go_on g h n a k made more nets r next all same is =
    let y = layout_of g in
    ap (with_nets_read (header_of y) (behind_nets g a made)) (all (header_of y) r)
    ∙ ap (λ (left : Result (List Adjustment) InputFault). with_adjustments (header_of y) nets (and_more made left)) is
    ∙ ap (with_adjustments (header_of y) nets) (more_made made more (adjustments_left (extent_of_size (size_of g)) k next))
    ∙ sym (ap (λ (y : Layout). with_adjustments (header_of y) nets (and_more (made ++ more) (adjustments_left (extent_of_size y.size) k next))) same)
    ∙ sym (ap (with_nets_read (header_of (layout_of h)) (behind_nets h k (made ++ more))) (all (header_of (layout_of h)) next))

-- the last of the first decides, where none of the later does
last_level-append : (e : ℕ) (made more : List Adjustment) (before : ℕ) → unwrap_or (last_level e (made ++ more)) before ≡ unwrap_or (last_level e more) (unwrap_or (last_level e made) before)
last_level-append e [] more before = refl
last_level-append e (a ∷ made) more before =
    let own = level_where e a.edge a.level in
    unwrap_or-option_or (last_level e (made ++ more)) own before ∙ last_level-append e made more (unwrap_or own before)
    ∙ sym (ap (unwrap_or (last_level e more)) (unwrap_or-option_or (last_level e made) own before))

-- the capacities that more adjustments leave
capacities_left : (g h : Grid) (made more : List Adjustment) → ((e : ℕ) → capacity g e ≡ unwrap_or (last_level e made) (first_capacity g e)) → IsAdjusted g h more → (e : ℕ) → capacity h e ≡ unwrap_or (last_level e (made ++ more)) (first_capacity h e)
capacities_left g h made more so_far adjusted e =
    let first : first_capacity g e ≡ first_capacity h e = sym (ap (λ (y : Layout). layer_capacity y e) adjusted.kept) in
    adjusted.levels e ∙ ap (unwrap_or (last_level e more)) (so_far e ∙ ap (unwrap_or (last_level e made)) first)
    ∙ sym (last_level-append e made more (first_capacity h e))

-- where the text ends
pub body_ends : (b : Body) (made : List Adjustment) (nets : List Net) (r : Reading) → nets_left (header_of (layout_of b.grid)) b.nets r ≡ Ok (nets, r) → adjustments_left (extent_of_size (size_of b.grid)) b.adjustments r ≡ Ok [] →
    body_left b made r ≡ Ok (record { header = header_of (layout_of b.grid); nets = nets; adjustments = made })
unfolding body_left
body_ends b made nets r all none =
    ap (with_nets_read (header_of (layout_of b.grid)) (behind_nets b.grid b.adjustments made)) all
    ∙ ap (λ (left : Result (List Adjustment) InputFault). with_adjustments (header_of (layout_of b.grid)) nets (and_more made left)) none
    ∙ ap (λ (all : List Adjustment). Ok (record { header = header_of (layout_of b.grid); nets = nets; adjustments = all })) (append-nil made)

-- ---- what a call answered

module _ (c : CutToken) where
  pub nets_move : (result : Result (Unit {0}) InputError) (b : Body) (n : NetsReader) (made : List Adjustment) → HasCapacities b made →
      TakesNext c result (nets_left (header_of (layout_of b.grid)) b.nets) (nets_left (header_of (layout_of b.grid)) n) → BodyMovesOn c result b made (record { grid = b.grid; nets = n; adjustments = b.adjustments })
  nets_move (Ok done) b n made capacities takes = (made, capacities, λ r next. nets_go_on b n made r (past_token r) (takes r next))
  nets_move (Err e) b n made capacities refused = nets_refused_next c e b made refused

  pub adjustments_move : (result : Result (Unit {0}) InputError) (b : Body) (h : Grid) (k : AdjustmentsReader) (made : List Adjustment) (nets : List Net) → ((header : Header) (r : Reading) → nets_left header b.nets r ≡ Ok (nets, r)) → HasCapacities b made →
      AdjustsNext c result b.grid h b.adjustments k → BodyMovesOn c result b made (record { grid = h; nets = b.nets; adjustments = k })
  adjustments_move (Ok done) b h k made nets all capacities adjusts =
      (made ++ adjusts.0, capacities_left b.grid h made adjusts.0 capacities adjusts.2, λ r next. adjustments_go_on b.grid h b.nets b.adjustments k made adjusts.0 nets r (past_token r) all adjusts.2.kept (adjusts.1 r next))
  adjustments_move (Err e) b h k made nets all capacities refused = adjustments_refused_next c e b made nets all refused

  -- what was read fits the grid
  pub adjusted_ready : (result : Result (Unit {0}) InputError) (b : Body) (h : Grid) (k : AdjustmentsReader) → IsReadyBody b → AdjustsNext c result b.grid h b.adjustments k → IfOk result (λ _. FitsSize (size_of h) k) →
      IfOk result (λ _. IsReadyBody (record { grid = h; nets = b.nets; adjustments = k }))
  adjusted_ready (Ok done) b h k ready adjusts fits = (nets_kept b.grid h adjusts.2.kept b.nets ready.0, fits)
  adjusted_ready (Err e) b h k ready adjusts fits = tt

pub nets_ready : (result : Result (Unit {0}) InputError) (b : Body) (n : NetsReader) → IsReadyBody b → IfOk result (λ _. AreNetsOf b.grid n) → IfOk result (λ _. IsReadyBody (record { grid = b.grid; nets = n; adjustments = b.adjustments }))
nets_ready (Ok done) b n ready fits = (fits, ready.1)
nets_ready (Err e) b n ready fits = tt
