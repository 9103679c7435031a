-- The nets without a block, up to a place.
use Rattle.std.proofs.Common.{◌≡◌, ◌+◌, ◌<◌, ◌↔◌, ◌++◌, ◌∷◌, ℕ, All, Bool, Contains, List, [], sym, subst, ⊎_elim, arith}
use Rattle.std.proofs.lemmas.Bool.{cases_eq, cases_lt}
use Rattle.std.proofs.lemmas.List.Elements.{All-contains, All-push, Contains-append_left, Contains-push, Contains-push_cases}
use Rattle.grid_base.proofs.Lists.{member_from_place}
use Rattle.grid_base.proofs.NoRepeats.{HasNoRepeats-push}
use Rattle.grid_base.specs.Lists.{At, HasNoRepeats}
use Rattle.grid_graph.specs.declared.design.Design.{Design}
use Rattle.grid_graph.specs.declared.net_spec.NetSpec.{NetSpec}
use Rattle.route_text.specs.declared.block.Block.{Block}
use Rattle.route_judge.specs.BlockSets.{LacksBlock}
use Rattle.route_judge.specs.TestedBlocks.{AreTaken}

-- the places of the nets that lack a block, below a place
pub record AreMissingBelow (d : Design) (taken : List Bool) (place : ℕ) (missing : List ℕ) : Type 0 where
  pub within : All (λ k. k < place) missing
  pub once : HasNoRepeats missing
  pub each : (blocks : List Block) → AreTaken d blocks taken → (k : ℕ) (n : NetSpec) → k < place → At d.nets k n → Contains missing k ↔ LacksBlock blocks n

module _ (d : Design) (taken : List Bool) (place : ℕ) (missing : List ℕ) (before : AreMissingBelow d taken place missing) where
  below_next : All (λ k. k < place + 1) missing
  below_next k other below = omega (arith, before.within k other below)

  before_or_there : (k : ℕ) → k < place + 1 → (k ≡ place → ⊥) → k < place
  before_or_there k below other = ⊎_elim (λ less. less) (λ more. absurd (other (omega (arith, below, more)))) (cases_lt k place)

  -- where the net at this place lacks one
  pub missing_more : ((blocks : List Block) (n : NetSpec) → AreTaken d blocks taken → At d.nets place n → LacksBlock blocks n) → AreMissingBelow d taken (place + 1) (missing ++ place ∷ [])
  missing_more lacks = record {
    within = All-push (λ k. k < place + 1) missing place below_next (omega arith);
    once = HasNoRepeats-push missing place before.once (λ i x at same. omega (arith, All-contains (λ k. k < place) missing x before.within (member_from_place missing i x at), same));
    each = λ blocks have k n below at. ⊎_elim
        (λ (is : k ≡ place). (
          λ _. lacks blocks n have (subst (λ j. At d.nets j n) is at),
          λ _. subst (Contains (missing ++ place ∷ [])) (sym is) (Contains-push missing place),
        ))
        (λ (other : k ≡ place → ⊥).
        let same = before.each blocks have k n (before_or_there k below other) at in (
          λ held. ⊎_elim (λ old. same.0 old) (λ (last : place ≡ k). absurd (other (sym last))) (Contains-push_cases missing place k held),
          λ of. Contains-append_left missing (place ∷ []) k (same.1 of),
        ))
        (cases_eq k place);
  }

  -- and where it doesn't
  pub missing_same : ((blocks : List Block) (n : NetSpec) → AreTaken d blocks taken → At d.nets place n → ¬ LacksBlock blocks n) → AreMissingBelow d taken (place + 1) missing
  missing_same has = record {
    within = below_next;
    once = before.once;
    each = λ blocks have k n below at. ⊎_elim
        (λ (is : k ≡ place). (
          λ held. absurd (omega (arith, All-contains (λ j. j < place) missing k before.within held, is)),
          λ of. absurd (has blocks n have (subst (λ j. At d.nets j n) is at) of),
        ))
        (λ (other : k ≡ place → ⊥). before.each blocks have k n (before_or_there k below other) at)
        (cases_eq k place);
  }
