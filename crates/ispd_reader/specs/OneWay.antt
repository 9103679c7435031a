-- What fits a grid does so in one way.
use Rattle.std.specs.Coded.{×_prop, Unit-prop, le_prop}
use Rattle.std.proofs.Props.{props}
use Rattle.grid_base.specs.declared.size.Size.{Size}
use Rattle.grid_graph.specs.Grids.{size_of}
use Rattle.ispd_reader.specs.declared.adjustment_stage.AdjustmentStage.{AdjustmentStage}
use Rattle.ispd_reader.specs.declared.adjustment_stage.AdjustmentStage.TheVariants as stages
use Rattle.ispd_reader.specs.declared.adjustments_reader.AdjustmentsReader.{AdjustmentsReader}
use Rattle.ispd_reader.specs.declared.adjustments_reader.AdjustmentsReader.TheVariants as readers
use Rattle.ispd_reader.specs.declared.body.Body.{Body}
use Rattle.ispd_reader.specs.AdjustmentsLeft.{FitsStage, FitsSize}
use Rattle.ispd_reader.specs.BodyLeft.{IsReadyBody}
use Rattle.ispd_reader.specs.NetsSoFar.{AreNetsOf-prop}

-- an adjustment in progress
FitsStage-prop : (size : Size) (stage : AdjustmentStage) → IsProp (FitsStage size stage)
FitsStage-prop size (stages.From tile) = Unit-prop
FitsStage-prop size (stages.To from tile) = Prim.hlevel props
FitsStage-prop size (stages.Level edge) = Prim.hlevel props

-- the adjustments
FitsSize-prop : (size : Size) (a : AdjustmentsReader) → IsProp (FitsSize size a)
FitsSize-prop size readers.Count = Unit-prop
FitsSize-prop size (readers.Adjustment stage index owed) = ×_prop (FitsStage-prop size stage) le_prop
FitsSize-prop size readers.Done = Unit-prop

-- all that stands behind the header
pub IsReadyBody-prop : (b : Body) → IsProp (IsReadyBody b)
IsReadyBody-prop b = ×_prop (AreNetsOf-prop b.grid b.nets) (FitsSize-prop (size_of b.grid) b.adjustments)
