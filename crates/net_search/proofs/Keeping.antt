-- Labels whose edges keep their kinds.
use Rattle.std.proofs.Common.{ℕ, suc, ◌+◌, ◌<◌, ◌≤◌, Bool, true, false, List, ◌∷◌, drop, ◌≡◌, length, set, get_or, refl, ap, sym, subst, ◌∙◌, inl, inr, add-one, drop-cons}
use Rattle.std.proofs.lemmas.Bool.{cases_eq, cases_lt}
use Rattle.std.proofs.lemmas.List.{get_or-set_same, get_or-set_other, set_past}
use Rattle.std.proofs.Math.ListN.{length-set, drop_of_length-le}
use Rattle.grid_base.specs.declared.axis.Axis.{Axis}
use Rattle.grid_base.specs.declared.axis.Axis.TheVariants.{X, Y}
use Rattle.grid_base.specs.declared.piece.Piece.{Piece}
use Rattle.grid_graph.specs.declared.kind.Kind.{Kind}
use Rattle.grid_graph.specs.declared.kind.Kind.TheVariants as kinds
use Rattle.net_search.specs.declared.label.Label.{Label}
use Rattle.net_search.specs.declared.labels.Labels.{Labels}
use Rattle.net_search.specs.Kinds.{kind_of_road}
use Rattle.net_search.specs.Known.{KeepsKinds, known_of, laid, laid_piece, laid_all, blank}
use Rattle.net_search.specs.Roads.{road_for}

-- whether the net has got an edge says nothing of its kind
kept_kind : (k : Kind) (own : Bool) → kind_of_road (road_for k own) ≡ k
kept_kind kinds.Wall own = refl
kept_kind kinds.Choked true = refl
kept_kind kinds.Choked false = refl
kept_kind kinds.Open true = refl
kept_kind kinds.Open false = refl

laid_east : (label : Label) (axis : Axis) (own : Bool) → kind_of_road (laid label axis own).east ≡ kind_of_road label.east
laid_east label X own = kept_kind (kind_of_road label.east) own
laid_east label Y own = refl

laid_north : (label : Label) (axis : Axis) (own : Bool) → kind_of_road (laid label axis own).north ≡ kind_of_road label.north
laid_north label X own = refl
laid_north label Y own = kept_kind (kind_of_road label.north) own

-- what is so of the label that is put in and of the one before is so of all
kept_at : (f : Label → Kind) (xs : List Label) (at : ℕ) (label : Label) → f label ≡ f (get_or xs at blank) → (v : ℕ) → f (get_or (set xs at label) v blank) ≡ f (get_or xs v blank)
kept_at f xs at label same v = elim (cases_eq v at) [
  | inl is ↦ elim (cases_lt at (length xs)) [
    | inl within ↦ ap (λ k. f (get_or (set xs at label) k blank)) is ∙ (ap f (get_or-set_same xs at label blank within) ∙ (same ∙ sym (ap (λ k. f (get_or xs k blank)) is)))
    | inr past ↦ ap (λ ys. f (get_or ys v blank)) (set_past xs at label past)
  ]
  | inr other ↦ ap f (get_or-set_other xs at v label blank other)
]

pub keeps_laid : (first old new : Labels) (at : ℕ) (axis : Axis) (own : Bool) → KeepsKinds first old
    → new.labels.items ≡ set old.labels.items at (laid (known_of old at) axis own) → KeepsKinds first new
keeps_laid first old new at axis own kept put = record {
  long = ap length put ∙ (length-set old.labels.items at (laid (known_of old at) axis own) ∙ kept.long);
  east = λ v. ap (λ xs. kind_of_road (get_or xs v blank).east) put
      ∙ (kept_at (λ label. kind_of_road label.east) old.labels.items at (laid (known_of old at) axis own) (laid_east (known_of old at) axis own) v ∙ kept.east v);
  north = λ v. ap (λ xs. kind_of_road (get_or xs v blank).north) put
      ∙ (kept_at (λ label. kind_of_road label.north) old.labels.items at (laid (known_of old at) axis own) (laid_north (known_of old at) axis own) v ∙ kept.north v);
}

-- one more piece of a set
pub laid_on : (labels : List Label) (pieces xs : List Piece) (i : ℕ) (d p : Piece) (own : Bool) (whole : List Label) → xs ≡ pieces
    → i < length xs → get_or xs i d ≡ p → laid_all labels (drop i pieces) own ≡ whole
    → laid_all (laid_piece labels p own) (drop (i + 1) pieces) own ≡ whole
unfolding laid_all
laid_on labels pieces xs i d p own whole listed within at before =
    let this : laid_all labels (drop i xs) own ≡ whole = subst (λ (ys : List Piece). laid_all labels (drop i ys) own ≡ whole) (sym listed) before in
    let split : laid_all labels (get_or xs i d ∷ drop (suc i) xs) own ≡ whole = subst (λ (ys : List Piece). laid_all labels ys own ≡ whole) (drop-cons xs i d within) this in
    let met : laid_all (laid_piece labels p own) (drop (suc i) xs) own ≡ whole =
    subst (λ (q : Piece). laid_all (laid_piece labels q own) (drop (suc i) xs) own ≡ whole) at split in
    subst (λ (ys : List Piece). laid_all (laid_piece labels p own) (drop (i + 1) ys) own ≡ whole) listed
    (subst (λ (n : ℕ). laid_all (laid_piece labels p own) (drop n xs) own ≡ whole) (sym (add-one i)) met)

-- all pieces of a set
pub laid_end : (labels : List Label) (pieces xs : List Piece) (i : ℕ) (own : Bool) (whole : List Label) → xs ≡ pieces → length xs ≤ i
    → laid_all labels (drop i pieces) own ≡ whole → labels ≡ whole
unfolding laid_all
laid_end labels pieces xs i own whole listed past before =
    let this : laid_all labels (drop i xs) own ≡ whole = subst (λ (ys : List Piece). laid_all labels (drop i ys) own ≡ whole) (sym listed) before in
    subst (λ (ys : List Piece). laid_all labels ys own ≡ whole) (drop_of_length-le xs past) this
