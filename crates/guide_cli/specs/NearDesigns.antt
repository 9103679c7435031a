-- Designs by whether they are near: whether all borders of the grid are in the range of a design's numbers, so that a guide can
-- hold them.
use Rattle.std.specs.Prelude.{◌≡◌, ◌⊎◌, List, ℕ, Some, Result, Ok, Err}
use Rattle.gr_desk.specs.Told.{Told}
use Rattle.grid_graph.specs.declared.design.Design.{Design}
use Rattle.grid_graph.specs.Borders.{HasBordersInRange}
use Rattle.grid_graph.specs.Grounds.{AreGrounds}
use Rattle.ispd_reader.specs.Designs.{IsDesignOfText}
use Rattle.route_judge.specs.Limits.{AreBlocks}
use Rattle.command_runs.specs.declared.refusal.Refusal.{Refusal}
use Rattle.command_runs.specs.declared.refusal.Refusal.TheVariants.{Unread, NoMemory}
use Rattle.command_runs.specs.Sources.{HasBytes, design_source}
use Rattle.command_runs.specs.Steps.{OnlyReads, ReadsSources}
use Rattle.judge_cli.specs.MeasureRun.{AreReadRoutes, measure_sources}
use Rattle.guide_cli.specs.declared.near_design.NearDesign.{NearDesign}
use Rattle.guide_cli.specs.declared.near_design.NearDesign.TheVariants.{Near, Far}
use Rattle.guide_cli.specs.declared.guided_input.GuidedInput.{GuidedInput}
use Rattle.guide_cli.specs.declared.guided_input.GuidedInput.TheVariants as inputs

-- the text names a design that is not near
abbrev pub NamesFarDesign : List ℕ → Type 0
NamesFarDesign text = (d : Design) × IsDesignOfText text d × ¬ HasBordersInRange d.grid

-- what was read of a text: a near design with its nets' grounds, or that its design is not near
abbrev pub IsNearDesignOf : List ℕ → NearDesign → Type 0
IsNearDesignOf text (Near g) = IsDesignOfText text g.design × AreGrounds g.design.grid g.design.nets g.grounds.items × HasBordersInRange g.design.grid
IsNearDesignOf text Far = NamesFarDesign text

-- a run on a design that is not near, which the desk tells, is refused for nothing but a failed read or want of memory
abbrev pub IsNotForFar : List ℕ → Told → Refusal → Type 0
IsNotForFar name told r = (bytes : List ℕ) → told.files name ≡ Some bytes → NamesFarDesign bytes → (r ≡ Unread) ⊎ (r ≡ NoMemory)

-- the design was read, and no read failed
abbrev pub ReadsFar : List ℕ → Told → Told → Type 0
ReadsFar name before after = OnlyReads (design_source name) before after × (after.in_faults ≡ before.in_faults)

-- the design was read, or the step was refused; where it is not near that is no refusal
abbrev pub ReadsNear : List ℕ → Told → Told → Result NearDesign Refusal → Type 0
ReadsNear name before after (Ok (Near g)) = ReadsSources {T = Unit {0}} (design_source name) before after (Ok tt)
ReadsNear name before after (Ok Far) = ReadsFar name before after
ReadsNear name before after (Err r) = ReadsSources {T = Unit {0}} (design_source name) before after (Err r) × IsNotForFar name before r

-- a near design and routes, or a design that is not near: those that the bytes of the two files say
abbrev pub IsReadInput : List ℕ → List ℕ → Told → GuidedInput → Type 0
IsReadInput input routes told (inputs.Routes r) =
    AreReadRoutes input routes told r.grounded.design r.grounded.grounds.items r.blocks × AreBlocks r.blocks × HasBordersInRange r.grounded.design.grid
IsReadInput input routes told inputs.Far = HasBytes told.files input NamesFarDesign

-- both were read, or the step was refused; behind a design that is not near nothing is read, and that is no refusal
abbrev pub ReadsInput : List ℕ → List ℕ → Told → Told → Result GuidedInput Refusal → Type 0
ReadsInput input routes before after (Ok (inputs.Routes r)) = ReadsSources {T = Unit {0}} (measure_sources (record { input = input; routes = routes })) before after (Ok tt)
ReadsInput input routes before after (Ok inputs.Far) = ReadsFar input before after
ReadsInput input routes before after (Err r) =
    ReadsSources {T = Unit {0}} (measure_sources (record { input = input; routes = routes })) before after (Err r) × IsNotForFar input before r
