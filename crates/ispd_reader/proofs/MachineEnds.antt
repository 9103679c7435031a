-- What is left of a design text where no token is left.
use Rattle.std.proofs.Common.{◌≡◌, true, false, List, [], Option, Some, None, Ok, refl, ◌⊎◌, inl, inr, ⊎_elim}
use Rattle.std.proofs.lemmas.Bool.{cases_Bool}
use Rattle.text_scan.specs.Reading.{tokens_left}
use Rattle.grid_graph.specs.Grids.{size_of, layout_of}
use Rattle.ispd_reader.specs.declared.adjustments_reader.AdjustmentsReader.{AdjustmentsReader}
use Rattle.ispd_reader.specs.declared.adjustments_reader.AdjustmentsReader.TheVariants as readers
use Rattle.ispd_reader.specs.declared.body.Body.{Body}
use Rattle.ispd_reader.specs.declared.machine.Machine.{Machine}
use Rattle.ispd_reader.specs.declared.machine_stage.MachineStage.{MachineStage}
use Rattle.ispd_reader.specs.declared.machine_stage.MachineStage.TheVariants as stages
use Rattle.design_tokens.specs.declared.wanted.Wanted.{Wanted}
use Rattle.design_tokens.specs.declared.wanted.Wanted.TheVariants as wanted
use Rattle.design_tokens.specs.Parsing.{Reading}
use Rattle.ispd_reader.specs.Header.{Extent}
use Rattle.ispd_reader.specs.Adjustments.{Adjustment}
use Rattle.ispd_reader.specs.AdjustmentsLeft.{adjustments_left}
use Rattle.ispd_reader.specs.MachineLeft.{left_of, Stands, AtEnd}
use Rattle.ispd_reader.specs.MachineStages.{left_at_stage}
use Rattle.ispd_reader.specs.NetsLeft.{has_all_nets}
use Rattle.design_tokens.specs.Steps.{IsMissing}
use Rattle.ispd_reader.specs.Views.{extent_of_size, header_of}
use Rattle.ispd_reader.proofs.AdjustmentStages.{number_is_missing, may_end}
use Rattle.ispd_reader.proofs.HeaderEnds.{header_missing}
use Rattle.ispd_reader.proofs.MachineSteps.{header_fault, nets_fault, adjustments_fault, body_ends}
use Rattle.ispd_reader.proofs.NetsEnds.{net_missing, nets_done}

-- a number is missing, or the text may end
adjustments_end : (a : AdjustmentsReader) → ((e : Extent) → IsMissing wanted.Number (adjustments_left e a)) ⊎ ((e : Extent) (r : Reading) → tokens_left r ≡ [] → adjustments_left e a r ≡ Ok [])
adjustments_end readers.Count = inr (may_end readers.Count (inl refl))
adjustments_end (readers.Adjustment stage index owed) = inl (λ e. number_is_missing e stage index owed)
adjustments_end readers.Done = inr (may_end readers.Done (inr refl))

body_end : (b : Body) (made : List Adjustment) → (w : Option Wanted) × AtEnd w (left_at_stage (stages.Body b) made)
body_end b made = ⊎_elim
    (λ (done : has_all_nets b.nets ≡ true).
    let all = nets_done b.nets done in
    ⊎_elim
    (λ (missing : (e : Extent) → IsMissing wanted.Number (adjustments_left e b.adjustments)).
    (Some wanted.Number, λ r none. adjustments_fault b made all.0 r _ (all.1 (header_of (layout_of b.grid)) r) (missing (extent_of_size (size_of b.grid)) r none)))
    (λ (ends : (e : Extent) (r : Reading) → tokens_left r ≡ [] → adjustments_left e b.adjustments r ≡ Ok []).
    (None, (record { header = header_of (layout_of b.grid); nets = all.0; adjustments = made }, λ r none. body_ends b made all.0 r (all.1 (header_of (layout_of b.grid)) r) (ends (extent_of_size (size_of b.grid)) r none))))
    (adjustments_end b.adjustments))
    (λ (more : has_all_nets b.nets ≡ false).
    let missing = net_missing b.nets more in
    (Some missing.0, λ r none. nets_fault b made r _ (missing.1 (header_of (layout_of b.grid)) r none)))
    (cases_Bool (has_all_nets b.nets))

stage_end : (stage : MachineStage) (made : List Adjustment) → (w : Option Wanted) × AtEnd w (left_at_stage stage made)
stage_end (stages.Header h) made = let missing = header_missing h in (Some missing.0, λ r none. header_fault h made r _ (missing.1 r none))
stage_end (stages.Body b) made = body_end b made

-- a word is missing, or the text may end
pub at_end : (m : Machine) (made : List Adjustment) → Stands m made → (w : Option Wanted) × AtEnd w (left_of m made)
at_end m made stands = stage_end m.stage made
