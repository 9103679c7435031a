-- What workers found, and where it is put.
use Rattle.std.proofs.Common.{◌≡◌, ℕ, zero, suc, ◌<◌, slice_set, Option, None, List, [], ◌∷◌, length, get_or, refl, sym, subst}
use Rattle.std.specs.List.{All}
use Rattle.std.proofs.lemmas.List.Elements.{All-cons, All-get_or, All-head, All-tail}
use Rattle.std.proofs.lemmas.Option.{slice_get-get_or}
use Rattle.grid_base.specs.declared.piece.Piece.{Piece}
use Rattle.grid_base.specs.Lists.{At}
use Rattle.grid_graph.specs.declared.design.Design.{Design}
use Rattle.negotiation.specs.declared.finding.Finding.{Finding}
use Rattle.negotiation.specs.Searches.{AreFindings, AreFound, IsFinding, IsFoundFor}
use Rattle.negotiation.proofs.Found.{At-read_of, At-same}

-- what is found for a net is a finding for its place
pub finding_at : (d : Design) (nets : List ℕ) (place : ℕ) (found : Option (List Piece)) → place < length nets → IsFoundFor d (get_or nets place 0) found
    → IsFinding d nets record { place = place; found = found }
finding_at d nets place found within is = record {
  place = within;
  found = λ k at. subst (λ (n : ℕ). IsFoundFor d n found) (At-same nets place (get_or nets place 0) k (slice_get-get_or nets place 0 within) at) is;
}

-- what stands among findings is one
pub finding_there : (d : Design) (nets : List ℕ) (findings : List Finding) (i : ℕ) (f : Finding) → f ≡ get_or findings i f → i < length findings → AreFindings d nets findings → IsFinding d nets f
finding_there d nets findings i f is within all = subst (IsFinding d nets) (sym is) (All-get_or (IsFinding d nets) findings i f within all)

-- one thing stands at a place, whatever would be read where there is none
pub one_there : {X : Type 0} (xs : List X) (i : ℕ) (x y : X) → i < length xs → x ≡ get_or xs i x → y ≡ get_or xs i y → x ≡ y
one_there xs i x y within x_is y_is = At-same xs i x y (At-read_of xs xs i x refl x_is within) (At-read_of xs xs i y refl y_is within)

-- what is taken out of a finding is what is found for its net
pub taken_from : (d : Design) (nets : List ℕ) (f g : Finding) (x : Option (List Piece)) → f ≡ g → x ≡ g.found → IsFinding d nets g → (k : ℕ) → At nets f.place k → IsFoundFor d k x
taken_from d nets f g x same is finding k at =
    subst (λ (o : Option (List Piece)). IsFoundFor d k o) (sym is) (finding.found k (subst (λ (h : Finding). At nets h.place k) same at))

-- a finding is still one where nothing is left of what was found
pub emptied : (d : Design) (nets : List ℕ) (f : Finding) (left : Option (List Piece)) → left ≡ None → IsFinding d nets f → IsFinding d nets record { place = f.place; found = left }
emptied d nets f left is finding = record { place = finding.place; found = λ k at. subst (λ (o : Option (List Piece)). IsFoundFor d k o) (sym is) (λ n at_n. tt) }

-- one that is put among others
pub All-put : {X : Type 0} (P : X → Type 0) (xs : List X) (i : ℕ) (x : X) → P x → All P xs → All P (slice_set xs i x)
All-put P [] i x is all = all
All-put P (y ∷ xs) zero x is all = All-cons P x xs is (All-tail P y xs all)
All-put P (y ∷ xs) (suc i) x is all = All-cons P y (slice_set xs i x) (All-head P y xs all) (All-put P xs i x is (All-tail P y xs all))

-- what is found for a net is put at its place
pub put_at : (d : Design) (nets : List ℕ) (found : List (Option (List Piece))) (i : ℕ) (x : Option (List Piece)) → ((k : ℕ) → At nets i k → IsFoundFor d k x)
    → AreFound d nets found → AreFound d nets (slice_set found i x)
put_at d [] [] i x is are = are
put_at d [] (f ∷ found) i x is are = absurd are
put_at d (n ∷ nets) [] i x is are = absurd are
put_at d (n ∷ nets) (f ∷ found) zero x is are = (is n refl, are.1)
put_at d (n ∷ nets) (f ∷ found) (suc i) x is are = (are.0, put_at d nets found i x is are.1)
