-- Neighbours with the same ends in one bundle.
use Rattle.std.proofs.Common.{ℕ, ◌≡◌, ◌≤◌, List, [], ◌∷◌, ◌++◌, Option, Some, sym, subst, ◌∙◌}
use Rattle.std.specs.Option.{option_to_list}
use Rattle.tile_graphs.specs.declared.bundles.Bundle.{Bundle}
use Rattle.tile_graphs.specs.Bundles.{AreTight, IsEndedBefore}

-- another last bundle with the same ends
same_next : (most : ℕ) (first : Bundle) (bundles : List Bundle) (last other : Bundle) → other.ends ≡ last.ends
    → IsEndedBefore most first (bundles ++ last ∷ []) → IsEndedBefore most first (bundles ++ other ∷ [])
same_next most first [] last other same ended = λ ends. ended (ends ∙ same)
same_next most first (next ∷ bundles) last other same ended = ended

pub tight_joined : (most : ℕ) (bundles : List Bundle) (last other : Bundle) → other.ends ≡ last.ends
    → AreTight most (bundles ++ last ∷ []) → AreTight most (bundles ++ other ∷ [])
tight_joined most [] last other same tight = (tt, tt)
tight_joined most (first ∷ bundles) last other same (ended, tight) =
    (same_next most first bundles last other same ended, tight_joined most bundles last other same tight)

-- one bundle more
more_next : (most : ℕ) (first : Bundle) (bundles : List Bundle) (last next : Bundle)
    → IsEndedBefore most first (bundles ++ last ∷ []) → IsEndedBefore most first ((bundles ++ last ∷ []) ++ next ∷ [])
more_next most first [] last next ended = ended
more_next most first (second ∷ bundles) last next ended = ended

pub tight_apart : (most : ℕ) (bundles : List Bundle) (last next : Bundle) → (last.ends ≡ next.ends → most ≤ last.demand)
    → AreTight most (bundles ++ last ∷ []) → AreTight most ((bundles ++ last ∷ []) ++ next ∷ [])
tight_apart most [] last next ends tight = (ends, (tt, tt))
tight_apart most (first ∷ bundles) last next ends (ended, tight) =
    (more_next most first bundles last next ended, tight_apart most bundles last next ends tight)

-- one step: the next net joins the last bundle
pub step_joined : (most : ℕ) (now bundles : List Bundle) (last after : Option Bundle) (bundle joined : Bundle)
    → AreTight most (bundles ++ option_to_list last) → last ≡ Some bundle → now ≡ bundles → after ≡ Some joined → joined.ends ≡ bundle.ends
    → AreTight most (now ++ option_to_list after)
step_joined most now bundles last after bundle joined tight was kept becomes same =
    let before = subst (λ (o : Option Bundle). AreTight most (bundles ++ option_to_list o)) was tight in
    let step = tight_joined most bundles bundle joined same before in
    subst (λ (o : Option Bundle). AreTight most (now ++ option_to_list o)) (sym becomes)
    (subst (λ (xs : List Bundle). AreTight most (xs ++ joined ∷ [])) (sym kept) step)

-- one step: the next net begins a new bundle
pub step_apart : (most : ℕ) (now bundles : List Bundle) (last after : Option Bundle) (bundle next : Bundle)
    → AreTight most (bundles ++ option_to_list last) → last ≡ Some bundle → now ≡ bundles ++ bundle ∷ [] → after ≡ Some next
    → (bundle.ends ≡ next.ends → most ≤ bundle.demand) → AreTight most (now ++ option_to_list after)
step_apart most now bundles last after bundle next tight was more becomes ends =
    let before = subst (λ (o : Option Bundle). AreTight most (bundles ++ option_to_list o)) was tight in
    let step = tight_apart most bundles bundle next ends before in
    subst (λ (o : Option Bundle). AreTight most (now ++ option_to_list o)) (sym becomes)
    (subst (λ (xs : List Bundle). AreTight most (xs ++ next ∷ [])) (sym more) step)

-- one step: the first net begins a bundle
pub step_first : (most : ℕ) (now bundles : List Bundle) (after : Option Bundle) (next : Bundle)
    → bundles ≡ [] → now ≡ bundles → after ≡ Some next → AreTight most (now ++ option_to_list after)
step_first most now bundles after next none kept becomes =
    let one : AreTight most ([] ++ next ∷ []) = (tt, tt) in
    subst (λ (o : Option Bundle). AreTight most (now ++ option_to_list o)) (sym becomes)
    (subst (λ (xs : List Bundle). AreTight most (xs ++ next ∷ [])) (sym (kept ∙ none)) one)
