-- A rising list is told by its members.
use Rattle.std.proofs.Common.{◌≡◌, List, [], ◌∷◌, Contains, refl, sym, ◌∙◌, ap, subst, ⊎_elim, arith}
use Rattle.std.specs.Prelude.{◌↔◌}
use Rattle.std.specs.Ordering.{ordering_reverse}
use Rattle.std.specs.declared.cmp.Ordering.TheVariants.{Less, Greater}
use Rattle.std.proofs.lemmas.List.Elements.{All-contains}
use Rattle.std.proofs.lemmas.Map.Keys.{sorted_tail}
use Rattle.std.proofs.lemmas.Map.Views.{All-after_first}
use Rattle.grid_base.specs.declared.piece.Piece.{Piece}
use Rattle.grid_base.proofs.Lists.{head_or_rest, Contains-rest}
use Rattle.tree_set.specs.Order.{piece_cmp, IsRising}
use Rattle.tree_set.proofs.Order.{piece_cmp-total}

-- the members are the same
abbrev pub HaveSameMembers : List Piece → List Piece → Type 0
HaveSameMembers one other = (p : Piece) → Contains one p ↔ Contains other p

-- of two pieces not each comes before the other
one_way : (p q : Piece) → piece_cmp p q ≡ Less → piece_cmp q p ≡ Less → ⊥
one_way p q first second =
    let turned : Less ≡ Greater = sym first ∙ piece_cmp-total.antisymm p q ∙ ap ordering_reverse second in cc turned

-- the first piece comes before all that are behind it
first_before : (p q : Piece) (ps : List Piece) → IsRising (p ∷ ps) → Contains ps q → piece_cmp p q ≡ Less
first_before p q ps rising held = All-contains (λ x. piece_cmp p x ≡ Less) ps q (All-after_first piece_cmp p ps rising) held

not_behind : (p : Piece) (ps : List Piece) → IsRising (p ∷ ps) → Contains ps p → ⊥
not_behind p ps rising held = one_way p p (first_before p p ps rising held) (first_before p p ps rising held)

same_first : (p q : Piece) (ps qs : List Piece) → IsRising (p ∷ ps) → IsRising (q ∷ qs) → HaveSameMembers (p ∷ ps) (q ∷ qs) → p ≡ q
same_first p q ps qs one other same =
    ⊎_elim
    (λ is. is)
    (λ p_behind. ⊎_elim
    (λ is. sym is)
    (λ q_behind. absurd (one_way p q (first_before p q ps one q_behind) (first_before q p qs other p_behind)))
    (head_or_rest p ps q ((same q).1 (0, omega arith, refl))))
    (head_or_rest q qs p ((same p).0 (0, omega arith, refl)))

-- what stands behind the first of the one stands behind the first of the other
behind : (p q x : Piece) (ps qs : List Piece) → IsRising (p ∷ ps) → p ≡ q → Contains (q ∷ qs) x → Contains ps x → Contains qs x
behind p q x ps qs rising same in_all held =
    ⊎_elim
    (λ (is : x ≡ q). absurd (not_behind p ps rising (subst (Contains ps) (is ∙ sym same) held)))
    (λ rest. rest)
    (head_or_rest q qs x in_all)

-- rising lists with the same members are one list
pub same_list : (one other : List Piece) → IsRising one → IsRising other → HaveSameMembers one other → one ≡ other
same_list [] [] one_rises other_rises same = refl
same_list [] (q ∷ qs) one_rises other_rises same = let none = (same q).1 (0, omega arith, refl) in absurd (omega (arith, none.1))
same_list (p ∷ ps) [] one_rises other_rises same = let none = (same p).0 (0, omega arith, refl) in absurd (omega (arith, none.1))
same_list (p ∷ ps) (q ∷ qs) one_rises other_rises same =
    let first = same_first p q ps qs one_rises other_rises same in
    let rest : ps ≡ qs = same_list ps qs (sorted_tail piece_cmp p ps one_rises) (sorted_tail piece_cmp q qs other_rises) (λ x. (
      λ held. behind p q x ps qs one_rises first ((same x).0 (Contains-rest p ps x held)) held,
      λ held. behind q p x qs ps other_rises (sym first) ((same x).1 (Contains-rest q qs x held)) held,
    )) in
    ap (λ y. y ∷ ps) first ∙ ap (λ ys. q ∷ ys) rest
