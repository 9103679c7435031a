use Rattle.std.proofs.Common.{ℕ, List, Option, sym, ◌∙◌, ap, subst, arith}
use Rattle.cert_text.specs.declared.cert.Cert.{Cert}
use Rattle.dual_bound.specs.DesignBounds.{IsBoundOrNone}
use Rattle.dual_bound.specs.Prices.{free_budget}
use Rattle.edge_prices.specs.declared.budget.Budget.{Budget}
use Rattle.edge_prices.specs.Budgets.{most_of}
use Rattle.unavoidable_cli.proofs.improved.with_list.Goals as goal

pub returns-clause-better : goal.returns-clause-better
returns-clause-better c =
    let d = c.args.design.now in
    let cert = c.args.cert in
    let list = c.args.list in
    let whole : Option Budget → List ℕ → Cert = λ budget prices. record cert { bound = list.shown.bound; budget = budget; prices = prices } in
    record {
      prices = list.prices.now;
      is_new = ap (λ (b : Option Budget). whole b c.in_ok-prices.prices) c.free_budget.ensures ∙ ap (λ (ps : List ℕ). whole (free_budget (most_of cert.budget)) ps) c.in_ok-prices.ensures;
      is_bound = subst (λ (b : Option Budget). IsBoundOrNone d list.prices.now b list.shown.bound) (sym c.free_budget.ensures) (c.requires.list.bound (most_of cert.budget));
      above = c.requires.above;
      any_budget = c.requires.list.bounds;
      pricing = (
        list.shown.overflow,
        record { are_prices = c.requires.list.are_prices; edges_are = c.in_ok-edges.ensures; shows = c.requires.list.overflow },
        omega arith,
      );
    }
