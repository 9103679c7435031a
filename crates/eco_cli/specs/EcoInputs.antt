-- What `eco` reads: a routed design, and edits of it.
use Rattle.std.specs.Prelude.{◌≡◌, ◌⊎◌, ℕ, All, List, [], ◌∷◌, ◌++◌, Ok, Err, Result, Some}
use Rattle.edit_text.specs.declared.edit.Edit.{Edit}
use Rattle.edit_text.specs.EditRanges.{IsEditInRange}
use Rattle.gr_desk.specs.declared.port.Port.TheVariants.{EditsIn}
use Rattle.gr_desk.specs.Told.{Told}
use Rattle.grid_base.specs.declared.piece.Piece.{Piece}
use Rattle.grid_graph.specs.declared.design.Design.{Design}
use Rattle.grid_graph.specs.declared.ground.Ground.{Ground}
use Rattle.grid_graph.specs.declared.ground.Ground.TheVariants.{WithChoked}
use Rattle.grid_graph.specs.Grounds.{JoinsTerminals}
use Rattle.ispd_reader.specs.Designs.{IsDesignOfText}
use Rattle.route_text.specs.declared.block.Block.{Block}
use Rattle.route_judge.specs.declared.reason.Reason.{Reason}
use Rattle.route_judge.specs.NetSets.{AreJoining, AreSetsOf}
use Rattle.route_judge.specs.Objections.{Finds}
use Rattle.route_judge.specs.Orders.{route_objections, AreRoutes}
use Rattle.command_runs.specs.declared.refusal.Refusal.{Refusal}
use Rattle.command_runs.specs.declared.refusal.Refusal.TheVariants.{Unread, NoMemory}
use Rattle.command_runs.specs.JudgedTexts.{blocks_or_refusal, edits_or_refusal}
use Rattle.command_runs.specs.Refusals.{AreUnopened}
use Rattle.command_runs.specs.Sources.{Source, HasBytes}
use Rattle.command_runs.specs.Steps.{ReadsSources}
use Rattle.judge_cli.specs.MeasureRun.{AreReadRoutes, measure_sources}
use Rattle.eco_laws.specs.EditChains.{IsFirstRefused}
use Rattle.eco_cli.specs.declared.judged_input.JudgedInput.{JudgedInput}
use Rattle.eco_cli.specs.declared.judged_input.JudgedInput.TheVariants as judged
use Rattle.eco_cli.specs.declared.eco_input.EcoInput.{EcoInput}
use Rattle.eco_cli.specs.declared.eco_input.EcoInput.TheVariants as inputs
use Rattle.eco_route.specs.declared.edit_fault.EditFault.{EditFault}

-- ---- the files

-- the names of the design, of its routes, of the edits, and of the routes of the edited design
pub record EcoTask : Type 0 where
  pub input : List ℕ
  pub routes : List ℕ
  pub edits : List ℕ
  pub edited : List ℕ

-- the design and its routes
abbrev pub routed_sources : EcoTask → List Source
routed_sources q = measure_sources (record { input = q.input; routes = q.routes })

abbrev pub edits_source : List ℕ → List Source
edits_source name = record { port = EditsIn; name = name } ∷ []

-- what is read, in this order; the edits only where nothing can be objected to the routes
abbrev pub eco_sources : EcoTask → List Source
eco_sources q = routed_sources q ++ edits_source q.edits

-- ---- what was read

-- the sets of the routes that the bytes of the two files say, to which nothing can be objected
pub record AreReadSets (q : EcoTask) (told : Told) (d : Design) (trees : List (List Piece)) : Type 0 where
  pub grounds : List Ground
  pub blocks : List Block
  pub are_read : AreReadRoutes q.input q.routes told d grounds blocks
  pub accepted : AreRoutes d blocks
  pub sets : AreSetsOf d blocks trees
  pub joining : AreJoining d trees

-- the reason of the first objection to the routes that the bytes of the two files say
pub record IsReadObjection (q : EcoTask) (told : Told) (reason : Reason) : Type 0 where
  pub design : Design
  pub grounds : List Ground
  pub blocks : List Block
  pub are_read : AreReadRoutes q.input q.routes told design grounds blocks
  pub found : Finds design (route_objections design blocks) (Some reason)

abbrev pub IsJudgedInput : EcoTask → Told → JudgedInput → Type 0
IsJudgedInput q told (judged.Routed r) = AreReadSets q told r.design r.trees.items
IsJudgedInput q told (judged.Objected reason) = IsReadObjection q told reason

-- the edits that the bytes of the file say
abbrev pub AreReadEdits : List ℕ → Told → List Edit → Type 0
AreReadEdits name told edits = HasBytes told.files name (λ bytes. edits_or_refusal bytes ≡ Ok edits)

abbrev pub IsEcoInput : EcoTask → Told → EcoInput → Type 0
IsEcoInput q told (inputs.Edits r edits) =
    AreReadSets q told r.design r.trees.items × AreReadEdits q.edits told edits.items × All IsEditInRange edits.items
IsEcoInput q told (inputs.Objected reason) = IsReadObjection q told reason

-- ---- what a desk tells

-- the desk tells a design whose nets can be joined, and blocks of a route text
pub record TellsRoutes (q : EcoTask) (told : Told) (d : Design) (blocks : List Block) : Type 0 where
  pub input : List ℕ
  pub input_told : told.files q.input ≡ Some input
  pub named : IsDesignOfText input d
  pub reachable : All (λ n. JoinsTerminals d.grid WithChoked n.terminals) d.nets
  pub routes : List ℕ
  pub routes_told : told.files q.routes ≡ Some routes
  pub read : blocks_or_refusal routes ≡ Ok blocks

-- something can be objected to them
pub record TellsObjected (q : EcoTask) (told : Told) : Type 0 where
  pub design : Design
  pub blocks : List Block
  pub tells : TellsRoutes q told design blocks
  pub reason : Reason
  pub found : Finds design (route_objections design blocks) (Some reason)

-- and edits, one of which is refused
pub record TellsRefusedEdit (q : EcoTask) (told : Told) : Type 0 where
  pub design : Design
  pub blocks : List Block
  pub tells : TellsRoutes q told design blocks
  pub text : List ℕ
  pub text_told : told.files q.edits ≡ Some text
  pub edits : List Edit
  pub read : edits_or_refusal text ≡ Ok edits
  pub index : ℕ
  pub fault : EditFault
  pub refused : IsFirstRefused edits design index fault

-- ---- how it was read

-- where the desk tells routes to which something can be objected, nothing but a failed read or want of memory is refused, and the
-- edits are not opened
abbrev pub IsNotForObjected : EcoTask → Told → Told → Refusal → Type 0
IsNotForObjected q before after r =
    TellsObjected q before → ((r ≡ Unread) ⊎ (r ≡ NoMemory)) × AreUnopened (edits_source q.edits) before after

-- all were read, or the step was refused; behind routes to which something can be objected nothing is read
abbrev pub ReadsEco : EcoTask → Told → Told → Result EcoInput Refusal → Type 0
ReadsEco q before after (Ok (inputs.Edits r edits)) = ReadsSources {T = Unit {0}} (eco_sources q) before after (Ok tt)
ReadsEco q before after (Ok (inputs.Objected reason)) = ReadsSources {T = Unit {0}} (routed_sources q) before after (Ok tt)
ReadsEco q before after (Err r) = ReadsSources {T = Unit {0}} (eco_sources q) before after (Err r) × IsNotForObjected q before after r
