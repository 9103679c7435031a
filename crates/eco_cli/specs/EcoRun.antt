-- The promise of the command `eco`.
use Rattle.std.specs.Prelude.{◌≡◌, ◌⊎◌, ◌+◌, ◌++◌, ℕ, List, [], ◌∷◌, length, slice_index_or}
use Rattle.command_words.specs.CommandLine.{names_in, eco_form}
use Rattle.command_words.specs.declared.eco_request.EcoRequest.{EcoRequest}
use Rattle.edit_text.specs.declared.edit.Edit.{Edit}
use Rattle.gr_desk.specs.declared.port.Port.TheVariants.{RoutesOut}
use Rattle.gr_desk.specs.Told.{Told}
use Rattle.grid_base.specs.declared.piece.Piece.{Piece}
use Rattle.grid_graph.specs.declared.design.Design.{Design}
use Rattle.grid_graph.specs.declared.ground.Ground.{Ground}
use Rattle.grid_graph.specs.Grounds.{AreGrounds}
use Rattle.route_judge.specs.declared.reason.Reason.{Reason}
use Rattle.route_judge.specs.Counts.{forced_count}
use Rattle.tree_set.specs.Loads.{load}
use Rattle.tree_set.specs.Measures.{IsPeak, overflow, wirelength}
use Rattle.command_runs.specs.declared.refusal.Refusal.TheVariants.{Unread, NoMemory}
use Rattle.command_runs.specs.AnsweredRun.{IsAnsweredRun}
use Rattle.command_runs.specs.Lines.{objected_status, status_of}
use Rattle.command_runs.specs.Refusals.{AreUnopened}
use Rattle.command_runs.specs.Sources.{Source}
use Rattle.command_runs.specs.StoppedRuns.{IsStoppedRun}
use Rattle.judge_cli.specs.AnswerLines.{reason_text}
use Rattle.eco_cli.specs.declared.eco_report.EcoReport.{EcoReport}
use Rattle.eco_cli.specs.declared.edited_routes.EditedRoutes.{EditedRoutes}
use Rattle.eco_cli.specs.declared.eco_answer.EcoAnswer.{EcoAnswer}
use Rattle.eco_cli.specs.declared.eco_answer.EcoAnswer.TheVariants.{Edited, Refused}
use Rattle.eco_cli.specs.declared.refused_edit.RefusedEdit.{RefusedEdit}
use Rattle.eco_cli.specs.EcoInputs.{EcoTask, AreReadEdits, AreReadSets, IsReadObjection, TellsObjected, TellsRefusedEdit, eco_sources, edits_source, routed_sources}
use Rattle.eco_cli.specs.EcoLines.{eco_outcome, refused_edit_status, refused_edit_text}
use Rattle.eco_cli.specs.RoutedCounts.{routed_count}
use Rattle.eco_laws.specs.EcoChains.{AreEcoSteps}
use Rattle.eco_laws.specs.EditChains.{IsFirstRefused}

-- ---- what its words ask for

-- what a command asks for
abbrev pub eco_task_of : EcoRequest → EcoTask
eco_task_of r = record { input = r.input.now; routes = r.routes.now; edits = r.edits.now; edited = r.edited.now }

-- what the words of `eco` ask for
abbrev pub eco_task_of_words : List (List ℕ) → EcoTask
eco_task_of_words words = record {
  input = slice_index_or (names_in eco_form words) 0 [];
  routes = slice_index_or (names_in eco_form words) 1 [];
  edits = slice_index_or (names_in eco_form words) 2 [];
  edited = slice_index_or (names_in eco_form words) 3 [];
}

-- the file that it makes
abbrev pub eco_files : EcoTask → List Source
eco_files q = record { port = RoutesOut; name = q.edited } ∷ []

-- ---- what it leaves

-- the report is that of an edited design and its sets: the counts of nets, of forced nets, of those that an edit routed and of
-- all others, and the measure of the sets
pub record IsEcoReportOf (edits : List Edit) (d : Design) (trees : List (List Piece)) (report : EcoReport) : Type 0 where
  pub nets : report.nets ≡ length d.nets
  pub over : List Ground
  pub grounds : AreGrounds d.grid d.nets over
  pub forced : report.forced ≡ forced_count over
  pub routed : report.routed ≡ routed_count edits d.nets
  pub kept : report.kept + report.routed ≡ length d.nets
  pub overflow_is : report.measure.overflow ≡ overflow d.grid (load d.grid d.nets trees)
  pub wirelength_is : report.measure.wirelength ≡ wirelength trees
  pub peak : IsPeak d.grid (load d.grid d.nets trees) report.measure.peak

-- the routes are those of a step for each edit, and their report
pub record AreEditedFrom (edits : List Edit) (d : Design) (trees : List (List Piece)) (edited : EditedRoutes) : Type 0 where
  pub steps : AreEcoSteps edits (record { design = d; sets = trees }) edited.eco
  pub reported : IsEcoReportOf edits edited.eco.design edited.eco.sets edited.report

-- the answer is true of edits of a routed design: its edited routes, or the first edit that is refused
abbrev pub IsTrueOfEdits : List Edit → Design → List (List Piece) → EcoAnswer → Type 0
IsTrueOfEdits edits d trees (Edited edited) = AreEditedFrom edits d trees edited
IsTrueOfEdits edits d trees (Refused refused) = IsFirstRefused edits d refused.index refused.fault

-- the routes are right for what was read
pub record IsEcoAnswer (q : EcoTask) (told : Told) (edited : EditedRoutes) : Type 0 where
  pub design : Design
  pub trees : List (List Piece)
  pub are_read : AreReadSets q told design trees
  pub edits : List Edit
  pub edits_read : AreReadEdits q.edits told edits
  pub are_edited : AreEditedFrom edits design trees edited

-- ---- the promise

-- a run that neither an objection nor a refused edit stops, and that is like that of any command; if the desk tells routes to which
-- something can be objected, or edits one of which is refused, a read failed or memory was wanting, and behind such routes the
-- edits were not opened
pub record IsUnstoppedRun (q : EcoTask) (before after : Told) (status : ℕ) : Type 0 where
  pub run : IsAnsweredRun (eco_sources q) (eco_files q) eco_outcome (IsEcoAnswer q before) before after status
  pub unobjected : TellsObjected q before
      → ((status ≡ status_of Unread) ⊎ (status ≡ status_of NoMemory)) × AreUnopened (edits_source q.edits) before after
  pub unrefused : TellsRefusedEdit q before → (status ≡ status_of Unread) ⊎ (status ≡ status_of NoMemory)

-- a run on routes to which something can be objected: it says the reason, and the edits were not read
pub record IsObjectedRun (q : EcoTask) (before after : Told) (status : ℕ) : Type 0 where
  pub reason : Reason
  pub objection : IsReadObjection q before reason
  pub status_is : status ≡ objected_status
  pub stopped : IsStoppedRun (routed_sources q) (eco_sources q ++ eco_files q) (reason_text reason) before after

-- a run that an edit ends: it says which, and for what
pub record IsUneditedRun (q : EcoTask) (before after : Told) (status : ℕ) : Type 0 where
  pub design : Design
  pub trees : List (List Piece)
  pub are_read : AreReadSets q before design trees
  pub edits : List Edit
  pub edits_read : AreReadEdits q.edits before edits
  pub refused : RefusedEdit
  pub is_refused : IsFirstRefused edits design refused.index refused.fault
  pub status_is : status ≡ refused_edit_status
  pub stopped : IsStoppedRun (eco_sources q) (eco_sources q ++ eco_files q) (refused_edit_text refused) before after

-- a run of `eco` with this task
abbrev pub IsEcoRun : EcoTask → Told → Told → ℕ → Type 0
IsEcoRun q before after status = IsUnstoppedRun q before after status ⊎ IsObjectedRun q before after status ⊎ IsUneditedRun q before after status
