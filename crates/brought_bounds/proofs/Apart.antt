-- Moats that don't overlap, by distances that labels tell.
use Rattle.std.proofs.Common.{◌≡◌, ℕ, ◌+◌, ◌<◌, ◌≤◌, List, Option, Some, None, IfSome, All, length, sym, ◌∙◌, ap, subst, arith}
use Rattle.std.proofs.lemmas.Option.{same_Some, slice_get_within, get_or_from_slice_get}
use Rattle.grid_base.specs.declared.piece.Piece.{Piece}
use Rattle.grid_base.specs.declared.size.Size.{Size}
use Rattle.grid_base.specs.declared.vertex.Vertex.{Vertex}
use Rattle.grid_base.specs.Lists.{At}
use Rattle.grid_graph.specs.Weighed.{IsAllowed}
use Rattle.shortest_paths.specs.declared.labels.Labels.{Labels}
use Rattle.shortest_paths.specs.LabelWords.{source_of, distance_of, HasDistance}
use Rattle.label_search.specs.Sets.{IsDistance}
use Rattle.label_search.proofs.Sets.{joins_ends, ends_joined}
use Rattle.lower_bound.specs.Moats.{IsWithinDistance, AreMoats}
use Rattle.brought_bounds.specs.MoatWords.{HasRoom, IsApart}

pub by_distance : (s : Size) (pieces : List (Piece × ℕ)) (a b n : ℕ) (o : Option ℕ) → IsDistance s pieces a b o
    → IfSome o (λ d. n ≤ d) → IsWithinDistance s pieces a b n
by_distance s pieces a b n (Some d) is room set is_set walk =
    omega (arith, room, is.lightest set is_set (joins_ends s (IsAllowed set) a b walk))
by_distance s pieces a b n None is room set is_set walk = absurd (is set is_set (joins_ends s (IsAllowed set) a b walk))

to_distance : (s : Size) (pieces : List (Piece × ℕ)) (a b n : ℕ) (o : Option ℕ) → IsDistance s pieces a b o
    → IsWithinDistance s pieces a b n → IfSome o (λ d. n ≤ d)
to_distance s pieces a b n (Some d) is within =
    omega (arith, is.weighs, within is.set is.is_set (ends_joined s (IsAllowed is.set) a b is.joins))
to_distance s pieces a b n None is within = tt

-- labels of a search from the terminal at a place tell the distances of all terminals
pub record AreTold (s : Size) (pieces : List (Piece × ℕ)) (terminals : List Vertex) (place : ℕ) (l : Labels) : Type 0 where
  pub from : Vertex
  pub stands : At terminals place from
  pub source : source_of l ≡ from.0
  pub distances : All (λ v. HasDistance s pieces l v.0) terminals

pub told : (s : Size) (pieces : List (Piece × ℕ)) (terminals : List Vertex) (place : ℕ) (l : Labels)
    → AreTold s pieces terminals place l → (i : ℕ) (a b : Vertex) → At terminals place a → At terminals i b
    → IsDistance s pieces a.0 b.0 (distance_of l b.0)
told s pieces terminals place l are i a b at_a at_b =
    let same : are.from ≡ a = same_Some are.from a (sym are.stands ∙ at_a) in
    let its : HasDistance s pieces l b.0 = subst (λ (v : Vertex). HasDistance s pieces l v.0)
    (get_or_from_slice_get terminals i b b at_b) (are.distances i b (slice_get_within terminals i b at_b)) in
    subst (λ n. IsDistance s pieces n b.0 (distance_of l b.0)) (are.source ∙ ap (λ (v : Vertex). v.0) same) its

pub room_is_apart : (s : Size) (pieces : List (Piece × ℕ)) (terminals : List Vertex) (radii : List ℕ) (place : ℕ) (l : Labels)
    → AreTold s pieces terminals place l → ((other : ℕ) → other < length terminals → HasRoom l terminals radii place other)
    → IsApart s pieces terminals radii place
room_is_apart s pieces terminals radii place l are rooms other a b r q differs at_a at_b at_r at_q =
    by_distance s pieces a.0 b.0 (r + q) (distance_of l b.0) (told s pieces terminals place l are other a b at_a at_b)
    (rooms other (slice_get_within terminals other b at_b) (λ same. differs (sym same)) b r q at_b at_r at_q)

pub apart_is_room : (s : Size) (pieces : List (Piece × ℕ)) (terminals : List Vertex) (radii : List ℕ) (place : ℕ) (l : Labels)
    → AreTold s pieces terminals place l → IsApart s pieces terminals radii place → (other : ℕ) → other < length terminals
    → HasRoom l terminals radii place other
apart_is_room s pieces terminals radii place l are apart other low differs u r q at_u at_r at_q =
    to_distance s pieces are.from.0 u.0 (r + q) (distance_of l u.0)
    (told s pieces terminals place l are other are.from u are.stands at_u)
    (apart other are.from u r q (λ same. differs (sym same)) are.stands at_u at_r at_q)

pub moats_apart : (s : Size) (pieces : List (Piece × ℕ)) (terminals : List Vertex) (radii : List ℕ)
    → length radii ≡ length terminals → ((place : ℕ) → place < length terminals → IsApart s pieces terminals radii place)
    → AreMoats s pieces terminals radii
moats_apart s pieces terminals radii each apart = record {
  each = each;
  apart = λ i j a b r q other at_a at_b at_r at_q. apart i
      (slice_get_within terminals i a at_a) j a b r q other at_a at_b at_r at_q;
}
