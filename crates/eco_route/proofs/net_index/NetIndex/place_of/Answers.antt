use Rattle.std.proofs.Common.{◌≡◌, ℕ, Some, None, sym, subst}
use Rattle.std.specs.BTreeMap.{get}
use Rattle.std.specs.Ordering.{nat_cmp}
use Rattle.grid_base.specs.Lists.{At}
use Rattle.eco_route.proofs.Indices.{told_of, untold}
use Rattle.eco_route.proofs.net_index.NetIndex.place_of.Goals as goal

pub returns-in_err-number-clause-none : goal.returns-in_err-number-clause-none
returns-in_err-number-clause-none c ids is =
    let none : get nat_cmp c.args.self.now.by_id c.args.id ≡ None = sym c.in_err-number.ensures.value in
    rw c.from_residual.ensures (untold ids c.args.self.now is c.args.id none)

pub returns-clause-some : goal.returns-clause-some
returns-clause-some c ids is =
    let number = c.in_ok-number.number.now in
    let told : get nat_cmp c.args.self.now.by_id c.args.id ≡ Some number = sym c.in_ok-number.ensures.value in
    let stands = told_of ids c.args.self.now is c.args.id number told in
    let place : c.place_in.result ≡ stands.0 =
    c.place_in.ensures (rw c.as_slice.ensures.value is.rising) stands.0 (rw c.as_slice.ensures.value stands.2) in
    subst (λ (i : ℕ). At ids i c.args.id) (sym place) stands.1
