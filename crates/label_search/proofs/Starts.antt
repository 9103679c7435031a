-- What a search from several sources begins with.
use Rattle.std.proofs.Common.{◌≡◌, ℕ, ◌<◌, List, All, get_or, length, sym, ◌∙◌, ap, subst, inl, ⊎_elim, arith}
use Rattle.std.proofs.lemmas.Bool.{cases_lt}
use Rattle.std.proofs.lemmas.List.Elements.{All-get_or}
use Rattle.grid_base.specs.declared.piece.Piece.{Piece}
use Rattle.grid_base.specs.declared.size.Size.{Size}
use Rattle.grid_base.specs.declared.spot.Spot.{Spot}
use Rattle.grid_base.specs.declared.vertex.Vertex.{Vertex}
use Rattle.grid_base.specs.Numbers.{IsVertex}
use Rattle.grid_base.specs.Spots.{IsSpot, spot_at}
use Rattle.grid_base.specs.Walks.{InVertices}
use Rattle.grid_base.proofs.Spots.{spot_at-is}
use Rattle.label_search.specs.declared.row.Row.{Row}
use Rattle.label_search.specs.Founds.{index_in}
use Rattle.label_search.specs.Rows.{number_in}
use Rattle.label_search.specs.Runs.{IsSettled, TakesOffer}
use Rattle.label_search.specs.Starts.{IsStarted}
use Rattle.label_search.specs.Stamped.{far}

-- the spot of a listed source
pub source_spot : (s t now : Size) (sources : List Vertex) (i : ℕ) (d : Vertex) (at : Spot)
    → All (λ (v : Vertex). IsVertex t v.0) sources → s ≡ t → now ≡ s → i < length sources
    → at ≡ spot_at now (get_or sources i d).0 → IsSpot s at
source_spot s t now sources i d at vertices size same low is =
    let v = get_or sources i d in
    let vertex : IsVertex s v.0 = subst (λ (x : Size). IsVertex x v.0) (sym size)
    (All-get_or (λ (w : Vertex). IsVertex t w.0) sources i d low vertices) in
    subst (IsSpot s) (sym (is ∙ ap (λ (x : Size). spot_at x v.0) same)) (spot_at-is s v.0 vertex)

-- nothing has a number
pub none_started : (sources : List Vertex) (r : Row) → ((v : ℕ) → number_in r v ≡ far) → IsStarted sources r
none_started sources r none = record {
  waits = λ v low. absurd (omega (arith, low, none v));
  members = λ v low. absurd (omega (arith, low, none v));
  zero = λ v low. absurd (omega (arith, low, none v));
}

-- one more source was offered 0
pub started_more : (sources : List Vertex) (old new : Row) (to : ℕ) → InVertices sources to → TakesOffer old new to 0
    → IsStarted sources old → IsStarted sources new
started_more sources old new to member taken started = record {
  waits = λ v low. ⊎_elim
      (λ same. taken.kept v (started.waits v (omega (arith, same, low))))
      (λ here. here.2)
      (taken.changed v);
  members = λ v low. ⊎_elim
      (λ same. started.members v (omega (arith, same, low)))
      (λ here. subst (InVertices sources) (sym here.0) member)
      (taken.changed v);
  zero = λ v low. ⊎_elim
      (λ same. same ∙ started.zero v (omega (arith, same, low)))
      (λ here. here.1)
      (taken.changed v);
}

-- where all that has a number waits, all that doesn't wait is relaxed
pub sources_settled : (s : Size) (pieces : List (Piece × ℕ)) (rest : ℕ → ℕ) (limit : ℕ) (sources : List Vertex) (r : Row)
    → IsStarted sources r → IsSettled s pieces rest limit r
sources_settled s pieces rest limit sources r started v still p k u weighs connects = ⊎_elim
    (λ numbered. absurd (still (started.waits v numbered)))
    (λ none. inl (omega (arith, none, r.parts.limits (index_in r.found u))))
    (cases_lt (number_in r v) far)
