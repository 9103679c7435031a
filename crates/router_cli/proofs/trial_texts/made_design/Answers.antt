use Rattle.std.proofs.Common.{◌≡◌, List, ℕ, sym, ◌∙◌, subst, ap, ⊎_elim}
use Rattle.gr_desk.specs.declared.port.Port.TheVariants.{In, DesignOut}
use Rattle.gr_desk.specs.Memory.{told_of}
use Rattle.gr_desk.specs.Told.{PortTold}
use Rattle.gr_make.specs.MadeText.{made_text}
use Rattle.command_runs.specs.Refusals.{IsRefusedAt}
use Rattle.router_cli.proofs.InMemory.{made_not_refused, written_whole}
use Rattle.router_cli.proofs.trial_texts.made_design.Goals as goal

pub returns-clause-refused : goal.returns-clause-refused
returns-clause-refused c = λ r is.
    let text = made_text c.args.seed c.args.shape in
    let bytes : c.written.result.now ≡ text =
    written_whole (told_of c.new-inner.result) (told_of c.make_design.new.desk) DesignOut _ text _ c.written.result.now c.make_design.result c.make_design.ensures (sym c.is_err.ensures.value ∙ c.if-is_err.false)
    (ap (λ (p : PortTold). p.written) (c.new-inner.ensures.ports DesignOut)) c.written.ensures in
    ⊎_elim
    (λ for_it. absurd (made_not_refused c.args.seed c.args.shape c.requires.shape r (subst (λ (b : List ℕ). IsRefusedAt In b r) bytes for_it)))
    (λ memory. memory)
    (c.grounded.ensures.refused r is)
