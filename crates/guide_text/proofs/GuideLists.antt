-- Guides of nets, net by net.
use Rattle.std.proofs.Common.{◌≡◌, ℕ, ◌+◌, ◌<◌, List, [], ◌∷◌, ◌++◌, length, get_or, take, map, sym, ap, subst, ◌∙◌, ⊎_elim}
use Rattle.std.proofs.lemmas.List.{map_more}
use Rattle.std.proofs.lemmas.Option.{get_or_from_slice_get}
use Rattle.grid_base.specs.declared.piece.Piece.{Piece}
use Rattle.grid_base.specs.Lists.{At}
use Rattle.grid_base.proofs.Lists.{At-push_cases}
use Rattle.grid_graph.specs.declared.grid.Grid.{Grid}
use Rattle.grid_graph.specs.declared.net_spec.NetSpec.{NetSpec}
use Rattle.guide_text.specs.declared.guide.Guide.{Guide}
use Rattle.guide_text.specs.Guides.{IsGuideOf}

-- what was read at a place stands there
pub read_at : {X : Type 0} (xs ys : List X) (k : ℕ) (x y : X) → ys ≡ xs → x ≡ get_or ys k x → At xs k y → x ≡ y
read_at xs ys k x y same read at = read ∙ ap (λ zs. get_or zs k x) same ∙ get_or_from_slice_get xs k y x at

-- the guides of the first nets
abbrev pub AreGuidesSoFar : Grid → List NetSpec → List (List Piece) → List Guide → Type 0
AreGuidesSoFar g nets trees guides = (k : ℕ) (n : NetSpec) (tree : List Piece) (guide : Guide) → At nets k n → At trees k tree → At guides k guide → IsGuideOf g n tree guide

pub one_guide_more : (g : Grid) (nets : List NetSpec) (trees : List (List Piece)) (guides : List Guide) (one : Guide) → AreGuidesSoFar g nets trees guides
    → ((n : NetSpec) (tree : List Piece) → At nets (length guides) n → At trees (length guides) tree → IsGuideOf g n tree one) → AreGuidesSoFar g nets trees (guides ++ one ∷ [])
one_guide_more g nets trees guides one so_far is k n tree guide at_n at_tree at = ⊎_elim
    (λ before. so_far k n tree guide at_n at_tree before)
    (λ last. subst (IsGuideOf g n tree) (sym last.1) (is n tree (subst (λ j. At nets j n) last.0 at_n) (subst (λ j. At trees j tree) last.0 at_tree)))
    (At-push_cases guides one guide k at)

-- one element more of a list that is mapped
pub mapped_more : {X Y : Type 0} (f : X → Y) (xs : List X) (i : ℕ) (d : X) (before after : List Y) (one : Y) → i < length xs → before ≡ map f (take i xs) → after ≡ before ++ one ∷ [] → one ≡ f (get_or xs i d) → after ≡ map f (take (i + 1) xs)
mapped_more f xs i d before after one within so_far pushed is = pushed ∙ (λ k. so_far k ++ is k ∷ []) ∙ sym (map_more f xs i d within)
