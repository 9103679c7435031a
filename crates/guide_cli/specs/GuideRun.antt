-- The promise of the command `guide`.
use Rattle.std.specs.Prelude.{◌≡◌, ◌⊎◌, ◌++◌, ℕ, List, [], ◌∷◌, Some, slice_index_or}
use Rattle.command_words.specs.CommandLine.{names_in, guide_form}
use Rattle.command_words.specs.declared.guide_request.GuideRequest.{GuideRequest}
use Rattle.gr_desk.specs.declared.port.Port.TheVariants.{GuideOut}
use Rattle.gr_desk.specs.Told.{Told}
use Rattle.grid_base.specs.declared.piece.Piece.{Piece}
use Rattle.grid_graph.specs.declared.design.Design.{Design}
use Rattle.grid_graph.specs.declared.ground.Ground.{Ground}
use Rattle.grid_graph.specs.Borders.{HasBordersInRange}
use Rattle.guide_text.specs.declared.guide.Guide.{Guide}
use Rattle.guide_text.specs.Guides.{AreGuidesOf}
use Rattle.route_text.specs.declared.block.Block.{Block}
use Rattle.route_judge.specs.NetSets.{AreSetsOf}
use Rattle.route_judge.specs.Objections.{Finds}
use Rattle.route_judge.specs.Orders.{route_objections, AreRoutes}
use Rattle.command_runs.specs.declared.refusal.Refusal.TheVariants.{Unread, NoMemory}
use Rattle.command_runs.specs.AnsweredRun.{IsAnsweredRun}
use Rattle.command_runs.specs.Lines.{status_of}
use Rattle.command_runs.specs.Sources.{Source, HasBytes, design_source}
use Rattle.command_runs.specs.StoppedRuns.{IsStoppedRun}
use Rattle.judge_cli.specs.MeasureRun.{AreReadRoutes, measure_sources}
use Rattle.guide_cli.specs.declared.guide_answer.GuideAnswer.{GuideAnswer}
use Rattle.guide_cli.specs.declared.guide_answer.GuideAnswer.TheVariants.{Guided, No}
use Rattle.guide_cli.specs.GuideLines.{guide_outcome, far_status, far_line}
use Rattle.guide_cli.specs.NearDesigns.{NamesFarDesign}

-- ---- what its words ask for

-- the names of the design, of its routes, and of the guides
pub record GuideTask : Type 0 where
  pub input : List ℕ
  pub routes : List ℕ
  pub guides : List ℕ

-- what a command asks for
abbrev pub guide_task_of : GuideRequest → GuideTask
guide_task_of r = record { input = r.input.now; routes = r.routes.now; guides = r.guides.now }

-- what the words of `guide` ask for
abbrev pub guide_task_of_words : List (List ℕ) → GuideTask
guide_task_of_words words = record {
  input = slice_index_or (names_in guide_form words) 0 [];
  routes = slice_index_or (names_in guide_form words) 1 [];
  guides = slice_index_or (names_in guide_form words) 2 [];
}

-- what it reads, in this order
abbrev pub guide_sources : GuideTask → List Source
guide_sources q = measure_sources (record { input = q.input; routes = q.routes })

-- the file that it makes
abbrev pub guide_files : GuideTask → List Source
guide_files q = record { port = GuideOut; name = q.guides } ∷ []

-- ---- what it leaves

-- these are the guides of the sets that the blocks give the nets
pub record AreGuidesOfBlocks (d : Design) (blocks : List Block) (guides : List Guide) : Type 0 where
  pub trees : List (List Piece)
  pub sets : AreSetsOf d blocks trees
  pub are_guides : AreGuidesOf d.grid d.nets trees guides

-- the answer is true of a design and of blocks: the guides of routes, where nothing can be objected to them, and else the reason
-- of the first objection that applies
abbrev pub IsTrueOfGuides : Design → List Block → GuideAnswer → Type 0
IsTrueOfGuides d blocks (Guided guided) = AreRoutes d blocks × AreGuidesOfBlocks d blocks guided.guides.items
IsTrueOfGuides d blocks (No reason) = Finds d (route_objections d blocks) (Some reason)

-- the answer is true of what was read, and the design is near
pub record IsGuideAnswer (q : GuideTask) (told : Told) (answer : GuideAnswer) : Type 0 where
  pub design : Design
  pub grounds : List Ground
  pub blocks : List Block
  pub are_read : AreReadRoutes q.input q.routes told design grounds blocks
  pub near : HasBordersInRange design.grid
  pub is_true : IsTrueOfGuides design blocks answer

-- ---- the promise

-- a run that is like that of any command; if the desk tells a design that is not near, a read failed or memory was wanting
pub record IsNearRun (q : GuideTask) (before after : Told) (status : ℕ) : Type 0 where
  pub run : IsAnsweredRun (guide_sources q) (guide_files q) guide_outcome (IsGuideAnswer q before) before after status
  pub near : (bytes : List ℕ) → before.files q.input ≡ Some bytes → NamesFarDesign bytes → (status ≡ status_of Unread) ⊎ (status ≡ status_of NoMemory)

-- a run on a design that is not near: it says so, and has touched nothing but the design
pub record IsFarRun (q : GuideTask) (before after : Told) (status : ℕ) : Type 0 where
  pub named : HasBytes before.files q.input NamesFarDesign
  pub status_is : status ≡ far_status
  pub stopped : IsStoppedRun (design_source q.input) (guide_sources q ++ guide_files q) far_line before after

-- a run of `guide` with this task
abbrev pub IsGuideRun : GuideTask → Told → Told → ℕ → Type 0
IsGuideRun q before after status = IsNearRun q before after status ⊎ IsFarRun q before after status
