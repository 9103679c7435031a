-- Lists of pieces without repeats.
use Rattle.std.proofs.Common.{◌≡◌, ℕ, ◌<◌, List, false, Option, Some, None, get_or, refl, take, length, map, sym, ◌∙◌, ap}
use Rattle.std.proofs.Common.{subst, ⊎_elim, arith}
use Rattle.std.specs.Option.{option_map, is_some}
use Rattle.std.proofs.lemmas.Bool.{cases_lt}
use Rattle.std.proofs.lemmas.List.{length-map, get_or_default}
use Rattle.std.proofs.lemmas.Grind.{common_steps}
use Rattle.std.proofs.lemmas.Option.{same_Some, slice_get-map, slice_get_within, slice_get-get_or}
use Rattle.grid_base.specs.declared.piece.Piece.{Piece}
use Rattle.grid_base.specs.declared.piece.Piece.TheVariants.{Via}
use Rattle.grid_base.specs.Lists.{At}
use Rattle.grid_graph.specs.Weighed.{IsAllowed, NoPieceTwice}

nothing : Piece × ℕ
nothing = (Via (record { 0 = 0 }), 0)

-- the entry whose piece stands at a place
entry_at : (pieces : List (Piece × ℕ)) (i : ℕ) (p : Piece) → At (map (λ x. x.0) pieces) i p
    → (i < length pieces) × ((get_or pieces i nothing).0 ≡ p)
entry_at pieces i p at =
    let within : i < length pieces = omega (
      arith,
      length-map {A = Piece × ℕ} {B = Piece} pieces (λ x. x.0),
      slice_get_within (map (λ x. x.0) pieces) i p at,
    ) in (
      within,
      same_Some _ _ (ap (option_map (λ (x : Piece × ℕ). x.0)) (sym (slice_get-get_or pieces i nothing within))
          ∙ sym (slice_get-map (λ x. x.0) pieces i) ∙ at),
    )

earlier : (pieces : List (Piece × ℕ)) (i j : ℕ) (p : Piece) → i < j → j < length pieces → (get_or pieces i nothing).0 ≡ p
    → IsAllowed (take j pieces) p
earlier pieces i j p before within is =
    let x = get_or pieces i nothing in
    subst (IsAllowed (take j pieces)) is (x.1, (i, grind (arith, common_steps), grind (arith, common_steps)))

-- pieces none of which stands before itself are different
pub different : (pieces : List (Piece × ℕ)) → ((k : ℕ) (d : Piece × ℕ) → k < length pieces
    → ¬ IsAllowed (take k pieces) (get_or pieces k d).0) → NoPieceTwice pieces
different pieces new i j p first second =
    let a = entry_at pieces i p first in
    let b = entry_at pieces j p second in
    ⊎_elim
    (λ before. absurd (new j nothing b.0 (subst (IsAllowed (take j pieces)) (sym b.1) (earlier pieces i j p before b.0 a.1))))
    (λ le. ⊎_elim
    (λ behind. absurd (new i nothing a.0 (subst (IsAllowed (take i pieces)) (sym a.1) (earlier pieces j i p behind a.0 b.1))))
    (λ same. omega arith)
    (cases_lt j i))
    (cases_lt i j)

pub none_from : (o : Option ℕ) → false ≡ is_some o → o ≡ None
none_from None is = refl
none_from (Some x) is = cc

-- what doesn't stand before itself, whatever a place past the end is read as
pub new_at : (pieces : List (Piece × ℕ)) (i k : ℕ) (d e : Piece × ℕ) → k ≡ i → i < length pieces
    → ¬ IsAllowed (take i pieces) (get_or pieces i e).0 → ¬ IsAllowed (take k pieces) (get_or pieces k d).0
new_at pieces i k d e same within new at =
    new (subst (λ (x : Piece × ℕ). IsAllowed (take i pieces) x.0) (get_or_default pieces i d e within)
    (subst (λ j. IsAllowed (take j pieces) (get_or pieces j d).0) same at))
