use Rattle.std.proofs.Common.{◌≡◌, ℕ, ◌≤◌, true, leb, refl, sym, ◌∙◌, ap, subst, arith}
use Rattle.std.specs.Int.{abs_diff}
use Rattle.std.proofs.lemmas.Bool.Decides.{nat_tests}
use Rattle.grid_base.specs.declared.size.Size.{Size}
use Rattle.grid_base.specs.Numbers.{IsPiece, start_of, end_of}
use Rattle.grid_graph.specs.Weighed.{IsAllowed, Weighs}
use Rattle.brought_bounds.specs.TableWords.{table_number}
use Rattle.brought_bounds.proofs.Along.{rises_where, rises_gives}
use Rattle.brought_bounds.proofs.rising.rises_along.Goals as goal

pub ends_of-requires : goal.ends_of-requires
ends_of-requires g c =
    let allowed : IsAllowed (g.W.Weights.pieces c.args.weights.now) c.args.piece = c.if-not-allows.ensures.0 refl in
    subst (λ (s : Size). IsPiece s c.args.piece) (sym c.requires.size)
    (g.met.W.Weights.inside c.args.weights.now c.args.piece allowed)

pub returns : goal.returns
returns g c =
    let s = c.args.size in
    let pieces = g.W.Weights.pieces c.args.weights.now in
    let D = table_number c.args.rows.now c.args.mask in
    let p = c.args.piece in
    let allowed : IsAllowed pieces p = c.if-not-allows.ensures.0 refl in
    let is = subst (λ (s : Size). IsPiece s p) (sym c.requires.size) (g.met.W.Weights.inside c.args.weights.now p allowed) in
    let w = c.weight-weight.result in
    let same : (k : ℕ) → Weighs pieces p k → w ≡ k = c.weight-weight.ensures.value in
    let number : c.abs_diff.result ≡ abs_diff (D (start_of p)) (D (end_of s p)) =
    c.abs_diff.ensures ∙ ap (λ n. abs_diff n c.number-2.result) (c.number.ensures ∙ ap D c.ends_of.ensures.start)
    ∙ ap (abs_diff (D (start_of p))) (c.number-2.ensures ∙ ap D c.ends_of.ensures.end) in (
      λ near. rises_where s pieces D p w same (omega (arith, sym number, below c.abs_diff.result w near)),
      λ rises. above c.abs_diff.result w (omega (
        arith,
        number,
        rises_gives s pieces D p w allowed.0 is allowed.1 (same allowed.0 allowed.1) rises,
      )),
    )
  where
    below : (m n : ℕ) → leb m n ≡ true → m ≤ n
    below m n is = grind (arith, nat_tests)

    above : (m n : ℕ) → m ≤ n → leb m n ≡ true
    above m n is = grind (arith, nat_tests)
