-- A tour round what a set of allowed pieces joins to a vertex, twice as long as the set weighs.
use Rattle.std.proofs.Common.{◌≡◌, ◌≢◌, ℕ, zero, suc, ◌+◌, ◌-◌, ◌*◌, ◌<◌, ◌≤◌, ◌==◌, ◌⊎◌, List, [], ◌∷◌, length, cond, refl, sym, ◌∙◌}
use Rattle.std.proofs.Common.{ap, subst, inl, inr, ⊎_elim, arith}
use Rattle.std.specs.List.{Contains}
use Rattle.std.proofs.lemmas.Bool.{cases_eq}
use Rattle.std.proofs.lemmas.Bool.Decides.{nat_tests}
use Rattle.std.proofs.lemmas.List.Sums.{sum_by-cons}
use Rattle.grid_base.specs.declared.piece.Piece.{Piece}
use Rattle.grid_base.specs.declared.size.Size.{Size}
use Rattle.grid_base.specs.Numbers.{IsVertex, IsPiece, Connects, start_of, end_of}
use Rattle.grid_base.specs.Walks.{WalkBetween}
use Rattle.grid_base.proofs.Lists.{head_or_rest, Contains-rest}
use Rattle.grid_base.proofs.Pieces.{end_vertex}
use Rattle.grid_base.proofs.Walks.{WalkBetween-refl, WalkBetween-trans, WalkBetween-superset, WalkBetween-piece, closed_under_walks}
use Rattle.grid_graph.specs.Weighed.{IsAllowed, WeighsOnlyPieces}
use Rattle.label_search.specs.Sets.{weight}
use Rattle.label_search.proofs.Forests.{IsForest, forest, one_mark, mark_joins}
use Rattle.label_search.proofs.Law.{one_end, parted, first_step, splits}
use Rattle.steiner_span.specs.SpanningLinks.{AreJoinedWithin}
use Rattle.steiner_span.proofs.JoinedWithin.{joined_here, joined_back, joined_on, joined_by}
use Rattle.steiner_span.proofs.Members.{Contains-first, Contains-one_more}

-- places on a tour of the vertices that a set joins to a root, from 0 at the root: two vertices are no further apart than
-- their places, and from each the rest of the tour leads to the root
pub record IsTour (s : Size) (pieces set : List (Piece × ℕ)) (root : ℕ) : Type 0 where
  pub place : ℕ → ℕ
  pub starts : place root ≡ 0
  pub between : (a b n : ℕ) → WalkBetween s (IsAllowed set) root a → WalkBetween s (IsAllowed set) root b → place a ≤ place b + n → place b ≤ place a + n → AreJoinedWithin s pieces a b n
  pub inside : (a : ℕ) → WalkBetween s (IsAllowed set) root a → place a ≤ 2 * weight set
  pub back : (a n : ℕ) → WalkBetween s (IsAllowed set) root a → 2 * weight set ≤ place a + n → AreJoinedWithin s pieces a root n

-- a root without pieces is alone
alone : (s : Size) (pieces set : List (Piece × ℕ)) (root : ℕ) → IsVertex s root → ((x : Piece × ℕ) (c : ℕ) → Contains set x → ¬ Connects s x.0 root c) → IsTour s pieces set root
alone s pieces set root vertex none =
    let only : (v : ℕ) → WalkBetween s (IsAllowed set) root v → root ≡ v = λ v walk. ⊎_elim
    (λ same. same)
    (λ goes. absurd (none (goes.link.piece, goes.link.in_set.0) goes.next goes.link.in_set.1 goes.link.connects))
    (first_step s (IsAllowed set) root v walk) in
    let from : (a n : ℕ) → WalkBetween s (IsAllowed set) root a → AreJoinedWithin s pieces a root n = λ a n to_a. subst (λ v. AreJoinedWithin s pieces v root n) (only a to_a) (joined_here s pieces root n vertex) in
    record {
      place = λ v. 0;
      starts = refl;
      between = λ a b n to_a to_b low high. subst (λ v. AreJoinedWithin s pieces a v n) (only b to_b) (from a n to_a);
      inside = λ a to_a. omega arith;
      back = λ a n to_a past. from a n to_a;
    }

-- a tour of a part that joins as much
wider : (s : Size) (pieces set part : List (Piece × ℕ)) (root : ℕ) → IsTour s pieces part root → ((v : ℕ) → WalkBetween s (IsAllowed set) root v → WalkBetween s (IsAllowed part) root v) → weight part ≤ weight set → IsTour s pieces set root
wider s pieces set part root tour joins light = record {
  place = tour.place;
  starts = tour.starts;
  between = λ a b n to_a to_b low high. tour.between a b n (joins a to_a) (joins b to_b) low high;
  inside = λ a to_a. omega (arith, tour.inside a (joins a to_a), light);
  back = λ a n to_a past. tour.back a n (joins a to_a) (omega (arith, past, light));
}

on_mark : (m other low high : ℕ) → m ≡ other → cond (m == other) low high ≡ low
on_mark m other low high same = grind (arith, nat_tests)

off_mark : (m other low high : ℕ) → m ≢ other → cond (m == other) low high ≡ high
off_mark m other low high apart = grind (arith, nat_tests)

-- a piece from a root to a vertex c, and two parts of a set: what is joined to the root is by the one part, and has the
-- root's mark, or is joined to c by the other
record AreSides (s : Size) (pieces set near others : List (Piece × ℕ)) (root c k : ℕ) (mark : ℕ → ℕ) : Type 0 where
  weighs : weight set ≡ k + (weight near + weight others)
  over : AreJoinedWithin s pieces root c k
  vertex_c : IsVertex s c
  sides : (v : ℕ) → WalkBetween s (IsAllowed set) root v → ((mark v ≡ mark root) × WalkBetween s (IsAllowed near) root v) ⊎ ((mark v ≢ mark root) × WalkBetween s (IsAllowed others) c v)

-- from the one side to the other: to the end of the first tour, over the piece, and on
across : (s : Size) (pieces near others : List (Piece × ℕ)) (root c k : ℕ) → IsVertex s c → AreJoinedWithin s pieces root c k → (first : IsTour s pieces near root) (second : IsTour s pieces others c) → (a b n : ℕ) →
    WalkBetween s (IsAllowed near) root a → WalkBetween s (IsAllowed others) c b → 2 * weight near + k + second.place b ≤ first.place a + n → AreJoinedWithin s pieces a b n
across s pieces near others root c k vertex_c over first second a b n to_a to_b far =
    let m = 2 * weight near - first.place a in
    let inside = first.inside a to_a in
    let on = second.between c b (second.place b) (WalkBetween-refl s (IsAllowed others) c vertex_c) to_b (omega (arith, second.starts)) (omega (arith, second.starts)) in
    joined_on s pieces a root b m (k + second.place b) n (first.back a m to_a (omega (arith, inside)))
    (joined_on s pieces root c b k (second.place b) (k + second.place b) over on (omega arith)) (omega (arith, far, inside))

-- the tour of the one side, the piece, the tour of the other, and the piece again
spliced : (s : Size) (pieces set near others : List (Piece × ℕ)) (root c k : ℕ) (mark : ℕ → ℕ) → AreSides s pieces set near others root c k mark → IsTour s pieces near root → IsTour s pieces others c → IsTour s pieces set root
spliced s pieces set near others root c k mark are first second =
    let far : ℕ → ℕ = λ v. 2 * weight near + k + second.place v in
    let place : ℕ → ℕ = λ v. cond (mark v == mark root) (first.place v) (far v) in
    let here : (v : ℕ) → mark v ≡ mark root → place v ≡ first.place v = λ v same. on_mark (mark v) (mark root) (first.place v) (far v) same in
    let there : (v : ℕ) → mark v ≢ mark root → place v ≡ far v = λ v other. off_mark (mark v) (mark root) (first.place v) (far v) other in
    record {
      place = place;
      starts = here root refl ∙ first.starts;
      between = λ a b n to_a to_b low high. ⊎_elim
          (λ at_a. ⊎_elim
          (λ at_b. first.between a b n at_a.1 at_b.1 (omega (arith, low, here a at_a.0, here b at_b.0)) (omega (arith, high, here a at_a.0, here b at_b.0)))
          (λ at_b. across s pieces near others root c k are.vertex_c are.over first second a b n at_a.1 at_b.1 (omega (arith, high, here a at_a.0, there b at_b.0)))
          (are.sides b to_b))
          (λ at_a. ⊎_elim
          (λ at_b. joined_back s pieces b a n (across s pieces near others root c k are.vertex_c are.over first second b a n at_b.1 at_a.1 (omega (arith, low, there a at_a.0, here b at_b.0))))
          (λ at_b. second.between a b n at_a.1 at_b.1 (omega (arith, low, there a at_a.0, there b at_b.0)) (omega (arith, high, there a at_a.0, there b at_b.0)))
          (are.sides b to_b))
          (are.sides a to_a);
      inside = λ a to_a. ⊎_elim
          (λ at_a. omega (arith, here a at_a.0, first.inside a at_a.1, are.weighs))
          (λ at_a. omega (arith, there a at_a.0, second.inside a at_a.1, are.weighs))
          (are.sides a to_a);
      back = λ a n to_a past. ⊎_elim
          (λ at_a. first.back a n at_a.1 (omega (arith, past, here a at_a.0, are.weighs)))
          (λ at_a.
          let m = 2 * weight others - second.place a in
          let inside = second.inside a at_a.1 in
          joined_on s pieces a c root m k n (second.back a m at_a.1 (omega (arith, inside))) (joined_back s pieces root c k are.over)
          (omega (arith, past, there a at_a.0, are.weighs, inside)))
          (are.sides a to_a);
    }

-- the two halves of a set, by a mark of its pieces
record Halves (set : List (Piece × ℕ)) (mark : Piece → ℕ) (m : ℕ) : Type 0 where
  near : List (Piece × ℕ)
  others : List (Piece × ℕ)
  weighs : weight near + weight others ≡ weight set
  short : length near + length others ≡ length set
  near_only : (x : Piece × ℕ) → Contains near x → Contains set x
  others_only : (x : Piece × ℕ) → Contains others x → Contains set x
  near_has : (x : Piece × ℕ) → Contains set x → mark x.0 ≡ m → Contains near x
  others_has : (x : Piece × ℕ) → Contains set x → mark x.0 ≢ m → Contains others x

halves : (set : List (Piece × ℕ)) (mark : Piece → ℕ) (m : ℕ) → Halves set mark m
halves [] mark m = record {
  near = [];
  others = [];
  weighs = refl;
  short = refl;
  near_only = λ x at. at;
  others_only = λ x at. at;
  near_has = λ x at same. at;
  others_has = λ x at apart. at;
}
halves (x ∷ set) mark m =
    let rest = halves set mark m in
    ⊎_elim
    (λ same. record {
      near = x ∷ rest.near;
      others = rest.others;
      weighs = omega (arith, rest.weighs, sum_by-cons (λ (y : Piece × ℕ). y.1) x rest.near, sum_by-cons (λ (y : Piece × ℕ). y.1) x set);
      short = omega (arith, rest.short);
      near_only = Contains-one_more x rest.near set rest.near_only;
      others_only = λ y at. Contains-rest x set y (rest.others_only y at);
      near_has = λ y at is. ⊎_elim (λ here. Contains-first x rest.near y here) (λ later. Contains-rest x rest.near y (rest.near_has y later is)) (head_or_rest x set y at);
      others_has = λ y at apart. ⊎_elim (λ here. absurd (apart (ap (λ (z : Piece × ℕ). mark z.0) here ∙ same))) (λ later. rest.others_has y later apart) (head_or_rest x set y at);
    })
    (λ other. record {
      near = rest.near;
      others = x ∷ rest.others;
      weighs = omega (arith, rest.weighs, sum_by-cons (λ (y : Piece × ℕ). y.1) x rest.others, sum_by-cons (λ (y : Piece × ℕ). y.1) x set);
      short = omega (arith, rest.short);
      near_only = λ y at. Contains-rest x set y (rest.near_only y at);
      others_only = Contains-one_more x rest.others set rest.others_only;
      near_has = λ y at is. ⊎_elim (λ here. absurd (other (sym (ap (λ (z : Piece × ℕ). mark z.0) here) ∙ is))) (λ later. rest.near_has y later is) (head_or_rest x set y at);
      others_has = λ y at apart. ⊎_elim (λ here. Contains-first x rest.others y here) (λ later. Contains-rest x rest.others y (rest.others_has y later apart)) (head_or_rest x set y at);
    })
    (cases_eq (mark x.0) m)

-- a walk stays in a part of a set that has all pieces of its mark
stays : (s : Size) (set part : List (Piece × ℕ)) (f : IsForest s set) (root : ℕ) → IsVertex s root → ((x : Piece × ℕ) → Contains part x → Contains set x) → ((x : Piece × ℕ) → Contains set x → f.mark (start_of x.0) ≡ f.mark root → Contains part x) →
    (v : ℕ) → WalkBetween s (IsAllowed set) root v → WalkBetween s (IsAllowed part) root v
stays s set part f root vertex only has v walk =
    closed_under_walks s (IsAllowed set) (WalkBetween s (IsAllowed part) root)
    (λ u w before link.
    let q = link.piece in
    let j = link.in_set.0 in
    let at_u : f.mark u ≡ f.mark root = sym (one_mark s set f root u (WalkBetween-superset s (IsAllowed part) (IsAllowed set) (λ p at. (at.0, only (p, at.0) at.1)) root u before)) in
    let start : f.mark (start_of q) ≡ f.mark u = ⊎_elim (λ goes. ap f.mark goes.1) (λ goes. ap f.mark goes.1 ∙ sym (f.linked q u w link.in_set link.connects)) link.connects in
    WalkBetween-trans s (IsAllowed part) root u w before (WalkBetween-piece s (IsAllowed part) q u w (j, has (q, j) link.in_set.1 (start ∙ at_u)) link.connects))
    root v (WalkBetween-refl s (IsAllowed part) root vertex) walk

-- a piece of the set at a root
record HasPieceAt (s : Size) (set : List (Piece × ℕ)) (root : ℕ) : Type 0 where
  piece : Piece
  weighs : ℕ
  far : ℕ
  listed : Contains set (piece, weighs)
  connects : Connects s piece root far

piece_at : (s : Size) (set : List (Piece × ℕ)) (root : ℕ) → ((x : Piece × ℕ) → Contains set x → IsPiece s x.0) → HasPieceAt s set root ⊎ ((x : Piece × ℕ) (c : ℕ) → Contains set x → ¬ Connects s x.0 root c)
piece_at s [] root are = inr (λ x c at. absurd (omega (arith, at.1)))
piece_at s (x ∷ set) root are =
    let listed : Contains (x ∷ set) x = Contains-first x set x refl in
    ⊎_elim
    (λ found. inl (record { piece = found.piece; weighs = found.weighs; far = found.far; listed = Contains-rest x set (found.piece, found.weighs) found.listed; connects = found.connects }))
    (λ none. ⊎_elim
    (λ starts. inl (record { piece = x.0; weighs = x.1; far = end_of s x.0; listed = listed; connects = inl (are x listed, starts, refl) }))
    (λ no_start. ⊎_elim
    (λ ends. inl (record { piece = x.0; weighs = x.1; far = start_of x.0; listed = listed; connects = inr (are x listed, refl, ends) }))
    (λ no_end. inr (λ y c at connects. ⊎_elim
    (λ here. ⊎_elim
    (λ goes. no_start (goes.1))
    (λ goes. no_end (goes.2))
    (subst (λ (z : Piece × ℕ). Connects s z.0 root c) here connects))
    (λ later. none y c later connects)
    (head_or_rest x set y at)))
    (cases_eq (end_of s x.0) root))
    (cases_eq (start_of x.0) root))
    (piece_at s set root (λ y at. are y (Contains-rest x set y at)))

-- without one of its pieces a set joins a vertex still to the root, or to the other end of the piece
either_end : (s : Size) (set rest : List (Piece × ℕ)) (p : Piece) (root c : ℕ) → Connects s p root c → ((q : Piece) → IsAllowed set q → (q ≡ p) ⊎ IsAllowed rest q) → (v : ℕ) → WalkBetween s (IsAllowed set) root v →
    WalkBetween s (IsAllowed rest) root v ⊎ WalkBetween s (IsAllowed rest) c v
either_end s set rest p root c connects only v walk = ⊎_elim
    (λ without. inl without)
    (λ uses. ⊎_elim
    (λ at_root. inl (subst (λ u. WalkBetween s (IsAllowed rest) u v) at_root uses.behind))
    (λ at_c. inr (subst (λ u. WalkBetween s (IsAllowed rest) u v) at_c uses.behind))
    (one_end s p root c uses.enters uses.leaves connects uses.connects))
    (parted s (IsAllowed rest) (IsAllowed set) p only root v walk)

-- what is known of the smaller sets
abbrev KnownBelow : Size → List (Piece × ℕ) → List (Piece × ℕ) → Type 0
KnownBelow s pieces set = (part : List (Piece × ℕ)) → length part < length set → ((x : Piece × ℕ) → Contains part x → Contains set x) → (v : ℕ) → IsVertex s v → IsTour s pieces part v

-- a tour that goes by a piece at the root
by_piece_at : (s : Size) (pieces set : List (Piece × ℕ)) (root : ℕ) → ((x : Piece × ℕ) → Contains set x → Contains pieces x) → IsVertex s root → HasPieceAt s set root → KnownBelow s pieces set → IsTour s pieces set root
by_piece_at s pieces set root allowed vertex found known =
    let p = found.piece in
    let k = found.weighs in
    let c = found.far in
    let vertex_c = end_vertex s p root c found.connects in
    let split = splits set (p, k) found.listed in
    let rest = split.rest in
    let f = forest s rest in
    let only : (q : Piece) → IsAllowed set q → (q ≡ p) ⊎ IsAllowed rest q = λ q at. ⊎_elim (λ same. inl (ap (λ (x : Piece × ℕ). x.0) same)) (λ other. inr (at.0, other)) (split.only (q, at.0) at.1) in
    let ends = either_end s set rest p root c found.connects only in
    ⊎_elim
    (λ same. wider s pieces set rest root (known rest (omega (arith, split.shorter)) split.kept root vertex)
    (λ v walk. ⊎_elim (λ here. here) (λ there. WalkBetween-trans s (IsAllowed rest) root c v (mark_joins s rest f root c vertex vertex_c same) there) (ends v walk))
    (omega (arith, split.weighs)))
    (λ other.
    let parts = halves rest (λ q. f.mark (start_of q)) (f.mark root) in
    spliced s pieces set parts.near parts.others root c k f.mark
    (record {
      weighs = omega (arith, split.weighs, parts.weighs);
      over = joined_by s pieces root c k p (allowed (p, k) found.listed) found.connects;
      vertex_c = vertex_c;
      sides = λ v walk. ⊎_elim
          (λ here. inl (sym (one_mark s rest f root v here), stays s rest parts.near f root vertex parts.near_only parts.near_has v here))
          (λ there. inr (
            λ same. other (sym same ∙ sym (one_mark s rest f c v there)),
            stays s rest parts.others f c vertex_c parts.others_only (λ x at is. parts.others_has x at (λ same. other (sym same ∙ is))) v there,
          ))
          (ends v walk);
    })
    (known parts.near (omega (arith, split.shorter, parts.short)) (λ x at. split.kept x (parts.near_only x at)) root vertex)
    (known parts.others (omega (arith, split.shorter, parts.short)) (λ x at. split.kept x (parts.others_only x at)) c vertex_c))
    (cases_eq (f.mark root) (f.mark c))

tour_within : (s : Size) (pieces : List (Piece × ℕ)) → WeighsOnlyPieces s pieces → (n : ℕ) (set : List (Piece × ℕ)) → length set ≤ n → ((x : Piece × ℕ) → Contains set x → Contains pieces x) → (root : ℕ) → IsVertex s root → IsTour s pieces set root
tour_within s pieces are zero set few allowed root vertex = alone s pieces set root vertex (λ x c at. absurd (omega (arith, few, at.1)))
tour_within s pieces are (suc n) set few allowed root vertex = ⊎_elim
    (λ found. by_piece_at s pieces set root allowed vertex found (λ part shorter within v at_v. tour_within s pieces are n part (omega (arith, few, shorter)) (λ x at. allowed x (within x at)) v at_v))
    (λ none. alone s pieces set root vertex none)
    (piece_at s set root (λ x at. are x.0 (x.1, allowed x at)))

pub tour : (s : Size) (pieces : List (Piece × ℕ)) → WeighsOnlyPieces s pieces → (set : List (Piece × ℕ)) → ((x : Piece × ℕ) → Contains set x → Contains pieces x) → (root : ℕ) → IsVertex s root → IsTour s pieces set root
tour s pieces are set allowed root vertex = tour_within s pieces are (length set) set (omega arith) allowed root vertex
