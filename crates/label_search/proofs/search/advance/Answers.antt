use Rattle.std.proofs.Common.{⊎_elim, inl, inr, arith, sym, ◌∙◌, subst}
use Rattle.label_search.specs.Rows.{number_in, Waits}
use Rattle.label_search.specs.declared.found.Found.{Found}
use Rattle.label_search.specs.Founds.{FindsMore}
use Rattle.label_search.proofs.Finding.{FindsMore-refl}
use Rattle.label_search.proofs.Relaxing.{settled_on, FallsFrom-same, FallsFrom-trans}
use Rattle.label_search.proofs.search.advance.Goals as goal

pub relax-requires-clause-search : goal.relax-requires-clause-search
relax-requires-clause-search g c =
    let before = c.requires.search in
    let taken = c.take-from.ensures in
    record {
      keys = λ v key held. omega (arith, before.keys v key (taken.only v key held).1, taken.numbers v);
      numbered = λ v key held. omega (arith, before.numbered v key (taken.only v key held).1, taken.numbers v);
      within = λ v has. omega (arith, before.within v (omega (arith, has, taken.numbers v)), taken.numbers v);
    }

pub relax-requires-clause-number : goal.relax-requires-clause-number
relax-requires-clause-number g c =
    let least = c.take-from.ensures.least in
    let v = c.take-from.result.vertex.0 in
    omega (arith, c.requires.search.numbered v least.key least.waits, c.take-from.ensures.numbers v)

pub returns-clause-settled : goal.returns-clause-settled
returns-clause-settled g c =
    let s = g.W.Weights.size c.args.weights.now in
    let pieces = g.W.Weights.pieces c.args.weights.now in
    let after = c.relax.ensures in
    let taken = c.take-from.ensures in
    settled_on s pieces (g.B.Bound.rest c.args.bound.now) c.args.limit (number_in c.args.row.now) (number_in c.relax.new.row)
    (Waits c.args.row.now) (Waits c.take-from.new.self) (Waits c.relax.new.row)
    c.take-from.result.vertex.0 c.requires.settled (λ v other waits. (waits.0, taken.kept v waits.0 other waits.1))
    (λ v. omega (arith, after.goes_on.fell.falls v, taken.numbers v))
    (λ v. ⊎_elim (λ same. inl (same ∙ taken.numbers v)) (λ waits. inr waits) (after.goes_on.changed v))
    after.goes_on.kept after.relaxed

pub returns-clause-fell : goal.returns-clause-fell
returns-clause-fell g c =
    let s = g.W.Weights.size c.args.weights.now in
    let pieces = g.W.Weights.pieces c.args.weights.now in
    let old = c.args.row.now in
    let mid = c.take-from.new.self in
    let found : FindsMore old.found mid.found =
    subst (λ (f : Found). FindsMore old.found f) (sym c.take-from.ensures.found) (FindsMore-refl old.found) in
    FallsFrom-trans s pieces old mid c.relax.new.row
    (FallsFrom-same s pieces old mid found c.take-from.ensures.numbers) c.relax.ensures.goes_on.fell
