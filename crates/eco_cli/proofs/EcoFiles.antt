-- What is read of a routed design and of edits, and what a desk tells of them.
use Rattle.std.proofs.Common.{◌≡◌, ℕ, List, Ok, Err, Some, None, refl, sym, ◌∙◌, ap, subst, true≢false, inl, inr}
use Rattle.std.specs.Prelude.{◌⊎◌, Result, IsErrAnd, is_ok}
use Rattle.gr_desk.specs.declared.port.Port.TheVariants.{In, RoutesIn, EditsIn}
use Rattle.gr_desk.specs.Told.{Told}
use Rattle.edit_text.specs.declared.edit.Edit.{Edit}
use Rattle.grid_graph.specs.declared.design.Design.{Design}
use Rattle.grid_graph.specs.Alike.{AreAlikeDesigns}
use Rattle.grid_base.specs.declared.piece.Piece.{Piece}
use Rattle.ispd_reader.proofs.Alike.{one_design}
use Rattle.ispd_reader.specs.Designs.{IsDesignOfText}
use Rattle.route_text.specs.declared.block.Block.{Block}
use Rattle.route_judge.specs.Objections.{Finds}
use Rattle.route_judge.specs.Orders.{route_objections}
use Rattle.route_judge.proofs.Found.{found_once}
use Rattle.judge_laws.proofs.AlikeDesigns.{routes_found_too}
use Rattle.command_runs.specs.declared.refusal.Refusal.{Refusal}
use Rattle.command_runs.specs.declared.refusal.Refusal.TheVariants.{Unread, NoMemory}
use Rattle.command_runs.specs.JudgedTexts.{blocks_or_refusal, edits_or_refusal}
use Rattle.command_runs.specs.Refusals.{AreAccepted}
use Rattle.command_runs.specs.Sources.{HasBytes}
use Rattle.command_runs.specs.Steps.{ReadsSources}
use Rattle.command_runs.proofs.Bytes.{of_told}
use Rattle.command_runs.proofs.Causes.{cause-of_accepted}
use Rattle.command_runs.proofs.ReadFiles.{AreApart, sources-early, sources-failed, sources-then}
use Rattle.command_runs.proofs.Traces.{contained_in_two, only_of}
use Rattle.eco_cli.specs.declared.eco_input.EcoInput.{EcoInput}
use Rattle.eco_cli.specs.declared.judged_routes.JudgedRoutes.{JudgedRoutes}
use Rattle.eco_cli.specs.EcoInputs.{EcoTask, AreReadEdits, AreReadSets, IsNotForObjected, ReadsEco, TellsObjected, TellsRefusedEdit, TellsRoutes, eco_sources, edits_source, routed_sources}

-- a value is no error, and an error is one
no_error : {T : Type 0} (v : T) (e : Refusal) → ◌≡◌ {A = Result T Refusal} (Ok v) (Err e) → ⊥
no_error v e same = true≢false (ap is_ok same)

same_error : {T : Type 0} (y e : Refusal) → ◌≡◌ {A = Result T Refusal} (Err y) (Err e) → y ≡ e
same_error y e same = cc

pub edits-apart : (q : EcoTask) → AreApart (routed_sources q) (edits_source q.edits)
edits-apart q p at other = elim (contained_in_two p In RoutesIn at) [
  | inl is ↦ (let same : In ≡ EditsIn = sym is ∙ only_of p EditsIn other in cc)
  | inr is ↦ (let same : RoutesIn ≡ EditsIn = sym is ∙ only_of p EditsIn other in cc)
]

-- ---- the texts that a desk tells are accepted

told-routes_accepted : (q : EcoTask) (told : Told) (d : Design) (blocks : List Block) → TellsRoutes q told d blocks → AreAccepted told.files (routed_sources q)
told-routes_accepted q told d blocks tells = (
  (tells.input, tells.input_told, (d, tells.named, tells.reachable)),
  ((tells.routes, tells.routes_told, (blocks, tells.read)), tt),
)

-- so routes to which something can be objected are refused for nothing, and the edits are not opened
pub objected-early : {T : Type 0} (q : EcoTask) (a b : Told) (r : Refusal) → ReadsSources {T = T} (routed_sources q) a b (Err r) → IsNotForObjected q a b r
objected-early q a b r reads tells = (
  cause-of_accepted (routed_sources q) a b r (reads.refused r cc) (told-routes_accepted q a tells.design tells.blocks tells.tells),
  λ p at. reads.reads.others p (λ read. edits-apart q p read at),
)

-- nor are the texts where an edit is refused
pub refused-early : {T : Type 0} (q : EcoTask) (a b : Told) (r : Refusal) → ReadsSources {T = T} (eco_sources q) a b (Err r) → TellsRefusedEdit q a
    → (r ≡ Unread) ⊎ (r ≡ NoMemory)
refused-early q a b r reads tells =
    let routes = told-routes_accepted q a tells.design tells.blocks tells.tells in
    cause-of_accepted (eco_sources q) a b r (reads.refused r cc)
    (routes.0, (routes.1.0, ((tells.text, tells.text_told, (tells.edits, tells.read)), tt)))

-- ---- what is told is what was read

told-alike : (q : EcoTask) (told : Told) (d e : Design) (blocks : List Block) → HasBytes told.files q.input (λ bytes. IsDesignOfText bytes d) → TellsRoutes q told e blocks
    → AreAlikeDesigns d e
told-alike q told d e blocks named tells = one_design tells.input d e (of_told (λ bytes. IsDesignOfText bytes d) named tells.input tells.input_told) tells.named

told-blocks : (q : EcoTask) (told : Told) (e : Design) (blocks more : List Block) → HasBytes told.files q.routes (λ bytes. blocks_or_refusal bytes ≡ Ok blocks)
    → TellsRoutes q told e more → blocks ≡ more
told-blocks q told e blocks more read tells =
    let both : Ok blocks ≡ Ok more = sym (of_told (λ bytes. blocks_or_refusal bytes ≡ Ok blocks) read tells.routes tells.routes_told) ∙ tells.read in
    cc

-- so nothing can be objected to accepted routes
pub accepted-never : (q : EcoTask) (told : Told) (d : Design) (trees : List (List Piece)) → AreReadSets q told d trees → ¬ TellsObjected q told
accepted-never q told d trees read tells =
    let alike = told-alike q told d tells.design tells.blocks read.are_read.named tells.tells in
    let same = told-blocks q told tells.design read.blocks tells.blocks read.are_read.blocks_are tells.tells in
    let none = routes_found_too d tells.design alike read.blocks None read.accepted in
    let clash : None ≡ Some tells.reason =
    found_once tells.design (route_objections tells.design tells.blocks) None (Some tells.reason)
    (subst (λ bs. Finds tells.design (route_objections tells.design bs) None) same none) tells.found in
    cc

-- the design and the edits that are told are those that were read
pub told-edited : (q : EcoTask) (told : Told) (d : Design) (trees : List (List Piece)) (edits : List Edit) → AreReadSets q told d trees → AreReadEdits q.edits told edits
    → (tells : TellsRefusedEdit q told) → AreAlikeDesigns d tells.design × (edits ≡ tells.edits)
told-edited q told d trees edits read edits_read tells =
    let both : Ok edits ≡ Ok tells.edits = sym (of_told (λ bytes. edits_or_refusal bytes ≡ Ok edits) edits_read tells.text tells.text_told) ∙ tells.read in
    (told-alike q told d tells.design tells.blocks read.are_read.named tells.tells, cc)

-- ---- how a step ends that reads them

-- the design or the routes were refused
pub input-failed : {T : Type 0} (q : EcoTask) (a b : Told) (r : Result T Refusal) (x : Result EcoInput Refusal) (e : Refusal) → r ≡ Err e → IsErrAnd x (λ y. y ≡ e)
    → ReadsSources (routed_sources q) a b r → ReadsEco q a b x
input-failed q a b (Ok v) x e failed answered read = absurd (no_error v e failed)
input-failed q a b (Err y) (Ok found) e failed answered read = absurd answered
input-failed q a b (Err y) (Err z) e failed answered read =
    let same : y ≡ z = same_error y e failed ∙ sym answered in
    subst (λ (w : Refusal). ReadsEco q a b (Err w)) same (
      sources-early {T = Unit {0}} (routed_sources q) (edits_source q.edits) (Err y) (edits-apart q) refl (sources-failed (Err y) y refl refl read),
      objected-early q a b y read,
    )

-- the edits were refused, behind routes to which nothing can be objected
pub edits-failed : {T U : Type 0} {v : U} (q : EcoTask) (a b c : Told) (routed : JudgedRoutes) (r : Result T Refusal) (x : Result EcoInput Refusal) (e : Refusal) → r ≡ Err e
    → IsErrAnd x (λ y. y ≡ e) → AreReadSets q a routed.design routed.trees.items → ReadsSources (routed_sources q) a b (Ok v) → ReadsSources (edits_source q.edits) b c r → ReadsEco q a c x
edits-failed q a b c routed r (Ok found) e failed answered sets first read = absurd answered
edits-failed q a b c routed r (Err z) e failed answered sets first read = (
  sources-then (routed_sources q) (edits_source q.edits) (Err z) (edits-apart q) first (sources-failed (Err z) e failed answered read),
  λ tells. absurd (accepted-never q a routed.design routed.trees.items sets tells),
)
