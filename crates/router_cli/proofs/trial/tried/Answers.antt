use Rattle.std.proofs.Common.{◌≡◌, List, refl, sym, ◌∙◌, subst}
use Rattle.std.proofs.lemmas.Slice.Zip.{AllZip-long}
use Rattle.gr_make.specs.declared.shape.Shape.{Shape}
use Rattle.gr_make.specs.MadeText.{made_text}
use Rattle.grid_graph.specs.declared.design.Design.{Design}
use Rattle.grid_graph.specs.declared.ground.Ground.{Ground}
use Rattle.grid_graph.specs.Grounds.{AreGrounds}
use Rattle.ispd_reader.specs.Designs.{IsDesignOfText}
use Rattle.made_designs.proofs.Generated.{made_design_near}
use Rattle.routing_stages.specs.declared.settings.Settings.{Settings}
use Rattle.tree_set.specs.Routings.{IsRoute}
use Rattle.router_cli.specs.Headline.{IsRoutedDesign}
use Rattle.router_cli.specs.TrialRun.{trial_task_of}
use Rattle.command_runs.proofs.Outcomes.{same_refusal}
use Rattle.router_cli.proofs.Routed.{routes_are_pieces}
use Rattle.router_cli.proofs.TrueTexts.{texts_meet}
use Rattle.router_cli.proofs.trial.tried.Goals as goal

pub judge_texts-requires-clause-one_each : goal.judge_texts-requires-clause-one_each
judge_texts-requires-clause-one_each g c =
    let r = c.in_ok-routed.routed in
    λ _ _. AllZip-long (IsRoute r.design.grid) r.design.nets r.trees c.in_ok-routed.ensures.routed.routing

pub judge_texts-requires-clause-pieces : goal.judge_texts-requires-clause-pieces
judge_texts-requires-clause-pieces g c =
    let r = c.in_ok-routed.routed in
    λ _ _. routes_are_pieces r.design.grid r.design.nets r.trees c.in_ok-routed.ensures.routed.routing

pub judge_texts-requires-clause-meet : goal.judge_texts-requires-clause-meet
judge_texts-requires-clause-meet g c =
    let r = c.in_ok-routed.routed in
    let seed = c.args.request.now.seed in
    let text = made_text seed c.shape_of.result in
    let same : r.design ≡ c.in_ok-design.field-0.design = c.in_ok-routed.ensures.design in
    let named : IsDesignOfText text r.design = subst (IsDesignOfText text) (sym same) c.in_ok-design.ensures.named in
    let all : AreGrounds r.design.grid r.design.nets c.in_ok-design.field-0.grounds.items =
    subst (λ (x : Design). AreGrounds x.grid x.nets c.in_ok-design.field-0.grounds.items) (sym same) c.in_ok-design.ensures.grounds in
    let grounds : AreGrounds r.design.grid r.design.nets c.as_slice-2.result.now =
    subst (λ (gs : List Ground). AreGrounds r.design.grid r.design.nets gs) (sym c.as_slice-2.ensures.value) all in
    let borders = made_design_near seed c.shape_of.result c.shape_of.ensures.limits r.design named in
    λ _ _. texts_meet text r.design c.settings_of-settings.result c.as_slice-2.result.now r.trees r.prices.items r.rounded r.rounds r.cert
    named borders c.settings_of-settings.ensures.limits grounds c.in_ok-routed.ensures.routed

pub returns-in_err-judge_texts-clause-refused : goal.returns-in_err-judge_texts-clause-refused
returns-in_err-judge_texts-clause-refused g c = λ r is.
    let e = c.in_err-judge_texts.field-0.0 in
    sym (same_refusal c.from_residual-in_err-judge_texts.result e r c.from_residual-in_err-judge_texts.ensures.1 is) ∙ c.in_err-judge_texts.ensures e refl

pub returns-clause-outcome : goal.returns-clause-outcome
returns-clause-outcome g c =
    let r = c.in_ok-routed.routed in
    let q = trial_task_of c.args.request.now in
    let text = made_text q.seed q.shape in
    let same : r.design ≡ c.in_ok-design.field-0.design = c.in_ok-routed.ensures.design in
    let shaped : IsDesignOfText text c.in_ok-design.field-0.design = subst (λ (s : Shape). IsDesignOfText (made_text q.seed s) c.in_ok-design.field-0.design) c.shape_of.ensures.shape c.in_ok-design.ensures.named in
    let named : IsDesignOfText text r.design = subst (IsDesignOfText text) (sym same) shaped in
    let grounds : AreGrounds r.design.grid r.design.nets c.in_ok-design.field-0.grounds.items =
    subst (λ (x : Design). AreGrounds x.grid x.nets c.in_ok-design.field-0.grounds.items) (sym same) c.in_ok-design.ensures.grounds in
    let limits = c.shape_of.ensures.limits in
    let first : IsDesignOfText (made_text q.seed c.shape_of.result) r.design = subst (IsDesignOfText (made_text q.seed c.shape_of.result)) (sym same) c.in_ok-design.ensures.named in
    let borders = made_design_near q.seed c.shape_of.result limits r.design first in
    record {
      routed = r;
      named = named;
      is_true = subst (λ (s : Settings). IsRoutedDesign s r) c.settings_of-settings.ensures.settings c.in_ok-routed.ensures.routed;
      grounds = c.in_ok-design.field-0.grounds.items;
      are_grounds = grounds;
      meet = texts_meet text r.design c.settings_of-settings.result c.in_ok-design.field-0.grounds.items r.trees r.prices.items r.rounded r.rounds r.cert
          named borders c.settings_of-settings.ensures.limits grounds c.in_ok-routed.ensures.routed;
      outcome_is = refl;
    }
