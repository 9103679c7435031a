use Rattle.std.proofs.Common.{◌≡◌, ◌≤◌, ◌-◌, arith, ap, ◌∙◌}
use Rattle.std.proofs.lemmas.Result.{err_from_is_err_and}
use Rattle.text_scan.specs.Within.{within}
use Rattle.text_scan.proofs.Ranges.{within_bounds}
use Rattle.grid_base.proofs.Lists.{get_or-le-fold_max}
use Rattle.grid_graph.specs.Grids.{layout_of}
use Rattle.grid_graph.specs.Limits.{max_demand}
use Rattle.design_tokens.specs.declared.input_fault.InputFault.TheVariants.{WidthLimit}
use Rattle.design_tokens.specs.Numbers.{number_within}
use Rattle.ispd_reader.specs.Nets.{widest_spacing}
use Rattle.ispd_reader.proofs.NextNumbers.{number_refused, wrong_number, right_number}
use Rattle.ispd_reader.proofs.net_numbers.net_width.Goals as goal

pub returns-in_err-number-clause-width : goal.returns-in_err-number-clause-width
unfolding number_within
returns-in_err-number-clause-width c =
    let most = max_demand - widest_spacing (layout_of c.args.grid.now).spacings in
    let p = err_from_is_err_and c.from_residual.result c.from_residual.ensures.1 in
    rw (p.1, p.2) (number_refused c.args.token.now (within 0 most) WidthLimit c.in_err-number.field-0.0 c.in_err-number.ensures.number)

pub returns-in_err-width-clause-width : goal.returns-in_err-width-clause-width
unfolding number_within
returns-in_err-width-clause-width c =
    let most = max_demand - widest_spacing (layout_of c.args.grid.now).spacings in
    let is : c.within.result ≡ within 0 most c.in_ok-number.number.value = c.within.ensures ∙ ap (λ n. within 0 n c.in_ok-number.number.value) (c.saturating_sub.ensures ∙ ap (λ n. max_demand - n) c.requires) in
    let p = err_from_is_err_and c.from_residual-in_err-width.result c.from_residual-in_err-width.ensures.1 in
    rw (p.1, p.2) (wrong_number c.args.token.now (within 0 most) WidthLimit c.in_ok-number.number c.within.result c.in_err-width.field-0.0 c.in_ok-number.ensures.number is c.in_err-width.ensures.value)

pub returns-clause-width : goal.returns-clause-width
unfolding number_within
returns-clause-width c =
    let most = max_demand - widest_spacing (layout_of c.args.grid.now).spacings in
    let is : c.within.result ≡ within 0 most c.in_ok-number.number.value = c.within.ensures ∙ ap (λ n. within 0 n c.in_ok-number.number.value) (c.saturating_sub.ensures ∙ ap (λ n. max_demand - n) c.requires) in
    right_number c.args.token.now (within 0 most) WidthLimit c.in_ok-number.number c.within.result c.in_ok-width.width c.in_ok-number.ensures.number is c.in_ok-width.ensures.value

pub returns-clause-limit : goal.returns-clause-limit
returns-clause-limit c =
    let le : c.in_ok-width.width ≤ max_demand - c.args.spacing = grind (arith, within_bounds) in
    λ l _. omega (arith, get_or-le-fold_max (layout_of c.args.grid.now).spacings 0 l, c.requires, le)
