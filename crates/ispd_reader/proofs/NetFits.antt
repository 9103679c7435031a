-- The nets so far stay nets of the grid.
use Rattle.std.proofs.Common.{◌≡◌, ℕ, suc, ◌+◌, ◌-◌, ◌≤◌, ◌<◌, Bool, true, false, ◌||◌, ◌==◌, List, [], ◌∷◌, ◌++◌, length, sym, ap, ◌∙◌, ⊎_elim, arith, eq-eqb, subst}
use Rattle.std.specs.List.{list_any, All}
use Rattle.std.specs.Option.{option_map}
use Rattle.std.proofs.lemmas.Bool.{false≢true}
use Rattle.std.proofs.lemmas.List.{map_push, length_push, length-map}
use Rattle.std.proofs.lemmas.List.Elements.{All-nil, All-push}
use Rattle.std.proofs.lemmas.List.Sums.{sum_by_push}
use Rattle.std.proofs.lemmas.Option.{slice_get-map}
use Rattle.grid_base.specs.declared.vertex.Vertex.{Vertex}
use Rattle.grid_base.specs.Lists.{At, HasNoRepeats}
use Rattle.grid_base.specs.Numbers.{vertices, IsVertex}
use Rattle.grid_base.proofs.Lists.{At-push_cases, list_any-pushed, not_at}
use Rattle.grid_base.proofs.SameNumbers.{All-at}
use Rattle.grid_graph.specs.declared.grid.Grid.{Grid}
use Rattle.grid_graph.specs.declared.net_spec.NetSpec.{NetSpec}
use Rattle.grid_graph.specs.Grids.{size_of, layout_of, IsNetWidth}
use Rattle.grid_graph.specs.Limits.{max_nets, max_pins}
use Rattle.grid_graph.specs.Nets.{IsNet, IsDesign}
use Rattle.grid_graph.proofs.WithoutRepeats.{All-without_repeats, length-without_repeats}
use Rattle.ispd_reader.specs.declared.net_stage.NetStage.{NetStage}
use Rattle.ispd_reader.specs.declared.nets_reader.NetsReader.{NetsReader}
use Rattle.ispd_reader.specs.declared.present_net.PresentNet.{PresentNet}
use Rattle.ispd_reader.specs.Nets.{Net, widest_spacing, without_repeats}
use Rattle.ispd_reader.specs.NetStages.{is_last_stage}
use Rattle.ispd_reader.specs.PresentNets.{net_of_places}
use Rattle.ispd_reader.specs.NetsSoFar.{is_id_among, AreDoneNets, HasDoneNets, ArePinPlaces, IsBegunNet, is_own_id, own_pins, nets_owed, IsPresentNet, AreNetsOf}
use Rattle.ispd_reader.specs.Views.{net_of, nets_of, numbers}

-- what holds where this is next
pub done_at : (grid : Grid) (n : NetsReader) (s : NetStage) → n.stage ≡ s → AreNetsOf grid n → HasDoneNets grid n (is_own_id s n.net.id) (own_pins s n.net.pin n.net.owed) (nets_owed s n.owed)
done_at grid n s is fits = subst (λ (s : NetStage). HasDoneNets grid n (is_own_id s n.net.id) (own_pins s n.net.pin n.net.owed) (nets_owed s n.owed)) is fits.done

pub present_at : (grid : Grid) (n : NetsReader) (s : NetStage) → n.stage ≡ s → AreNetsOf grid n → IsPresentNet grid n s
present_at grid n s is fits = subst (IsPresentNet grid n) is fits.present

-- fewer nets may come
pub fewer : (grid : Grid) (spacing : ℕ) (nets : List NetSpec) (taken : ℕ → Bool) (pins : ℕ) (own : ℕ → Bool) (coming owed less : ℕ) → less ≤ owed → AreDoneNets grid spacing nets taken pins own coming owed → AreDoneNets grid spacing nets taken pins own coming less
fewer grid spacing nets taken pins own coming owed less le done = record { widest = done.widest; each = done.each; ids = done.ids; taken_ids = done.taken_ids; pins_within = done.pins_within; pins_limit = done.pins_limit; count = omega (arith, done.count) }

-- nothing is read
none_done : (grid : Grid) (spacing : ℕ) (taken : ℕ → Bool) → spacing ≡ widest_spacing (layout_of grid).spacings → ((q : ℕ) → taken q ≡ false) → AreDoneNets grid spacing [] taken 0 (λ _. false) 0 max_nets
none_done grid spacing taken widest free = record {
  widest = widest;
  each = λ k m at. absurd (cc);
  ids = λ i j m n at_i at_j same. absurd (cc);
  taken_ids = free;
  pins_within = omega arith;
  pins_limit = omega arith;
  count = omega arith;
}

-- an id is taken
pub id_done : (grid : Grid) (spacing : ℕ) (nets : List NetSpec) (old new : ℕ → Bool) (pins owed id : ℕ) → ((q : ℕ) → new q ≡ (q == id || old q)) → AreDoneNets grid spacing nets old pins (λ _. false) 0 owed → AreDoneNets grid spacing nets new pins (λ q. q == id) 0 owed
id_done grid spacing nets old new pins owed id taken done = record {
  widest = done.widest;
  each = done.each;
  ids = done.ids;
  taken_ids = λ q. taken q ∙ ap (λ b. q == id || b) (done.taken_ids q);
  pins_within = done.pins_within;
  pins_limit = done.pins_limit;
  count = done.count;
}

-- the pins of a net are counted
pub pins_done : (grid : Grid) (spacing : ℕ) (nets : List NetSpec) (taken : ℕ → Bool) (pins owed count : ℕ) (own : ℕ → Bool) → count ≤ max_pins - pins → AreDoneNets grid spacing nets taken pins own 0 owed → AreDoneNets grid spacing nets taken (pins + count) own (0 + count) owed
pins_done grid spacing nets taken pins owed count own le done = record {
  widest = done.widest;
  each = done.each;
  ids = done.ids;
  taken_ids = done.taken_ids;
  pins_within = omega (arith, done.pins_within);
  pins_limit = omega (arith, done.pins_limit, le);
  count = done.count;
}

-- the same number of pins
pub same_pins : (grid : Grid) (spacing : ℕ) (nets : List NetSpec) (taken : ℕ → Bool) (pins : ℕ) (own : ℕ → Bool) (coming other owed : ℕ) → coming ≡ other → AreDoneNets grid spacing nets taken pins own coming owed → AreDoneNets grid spacing nets taken pins own other owed
same_pins grid spacing nets taken pins own coming other owed same done = subst (λ n. AreDoneNets grid spacing nets taken pins own n owed) same done

-- no pin yet
pub no_places : (grid : Grid) (places : List Vertex) (pin : ℕ) → places ≡ [] → pin ≡ 0 → ArePinPlaces grid places pin
no_places grid places pin none first = record {
  count = ap length none ∙ sym first;
  inside = rw none (All-nil (λ v. v < vertices (size_of grid)));
}

-- a pin more
pub place_added : (grid : Grid) (places : List Vertex) (pin : ℕ) (v : Vertex) → IsVertex (size_of grid) v.0 → ArePinPlaces grid places pin → ArePinPlaces grid (places ++ v ∷ []) (pin + 1)
place_added grid places pin v inside so_far = record {
  count = omega (arith, length_push places v, so_far.count);
  inside = rw (map_push (λ (w : Vertex). w.0) places v) (All-push (λ w. w < vertices (size_of grid)) (numbers places) v.0 so_far.inside inside);
}

-- ---- a net more

-- a net that is there has another id than one whose id is free
other_id : (nets : List NetSpec) (n : NetSpec) (i : ℕ) (m : NetSpec) → is_id_among (nets_of nets) n.id ≡ false → At nets i m → m.id ≡ n.id → ⊥
other_id nets n i m free at_i same =
    let found : At (nets_of nets) i (net_of m) = slice_get-map net_of nets i ∙ ap (option_map net_of) at_i in
    false≢true (sym (not_at (λ net. n.id == net.id) (nets_of nets) free i (net_of m) found) ∙ eq-eqb n.id m.id (sym same))

pub net_done : (grid : Grid) (spacing : ℕ) (nets : List NetSpec) (taken : ℕ → Bool) (pins id coming owed : ℕ) (n : NetSpec) → AreDoneNets grid spacing nets taken pins (λ q. q == id) coming (suc owed) →
    n.id ≡ id → is_id_among (nets_of nets) id ≡ false → IsNet grid n → length n.terminals ≤ coming → AreDoneNets grid spacing (nets ++ n ∷ []) taken pins (λ _. false) 0 owed
net_done grid spacing nets taken pins id coming owed n done named new fits enough =
    let next : nets_of (nets ++ n ∷ []) ≡ nets_of nets ++ net_of n ∷ [] = map_push net_of nets n in
    let free : is_id_among (nets_of nets) n.id ≡ false = ap (is_id_among (nets_of nets)) named ∙ new in
    record {
      widest = done.widest;
      each = λ k o at_k. ⊎_elim
          (λ (p : At nets k o). done.each k o p)
          (λ (p : (k ≡ length nets) × (o ≡ n)). let P : NetSpec → Type 0 = λ x. IsNet grid x in subst P (sym p.1) fits)
          (At-push_cases nets n o k at_k);
      ids = λ i j m o at_i at_j same. ⊎_elim
          (λ (p : At nets i m). ⊎_elim
          (λ (q : At nets j o). done.ids i j m o p q same)
          (λ (q : (j ≡ length nets) × (o ≡ n)). absurd (other_id nets n i m free p (same ∙ ap (λ (x : NetSpec). x.id) q.1)))
          (At-push_cases nets n o j at_j))
          (λ (p : (i ≡ length nets) × (m ≡ n)). ⊎_elim
          (λ (q : At nets j o). absurd (other_id nets n j o free q (sym same ∙ ap (λ (x : NetSpec). x.id) p.1)))
          (λ (q : (j ≡ length nets) × (o ≡ n)). p.0 ∙ sym q.0)
          (At-push_cases nets n o j at_j))
          (At-push_cases nets n m i at_i);
      taken_ids = λ q. done.taken_ids q ∙ ap (λ i. q == i || is_id_among (nets_of nets) q) (sym named)
          ∙ sym (ap (list_any (λ net. q == net.id)) next ∙ list_any-pushed (λ net. q == net.id) (nets_of nets) (net_of n));
      pins_within = omega (arith, done.pins_within, enough, sum_by_push (λ (x : NetSpec). length x.terminals) nets n);
      pins_limit = done.pins_limit;
      count = omega (arith, done.count, length_push nets n);
    }

-- the net that was begun is a net of the grid, and has no more terminals than pins
pub begun_is_net : (grid : Grid) (nets : List NetSpec) (net : PresentNet) (made : NetSpec) → IsBegunNet grid nets net.id net.width net.places.items net.pin → net_of made ≡ net_of_places net (numbers net.places.items) → HasNoRepeats made.terminals → IsNet grid made
begun_is_net grid nets net made begun is distinct =
    let below : ℕ → Type 0 = λ w. w < vertices (size_of grid) in
    let same : numbers made.terminals ≡ without_repeats (numbers net.places.items) = ap (λ (m : Net). m.terminals) is in
    let inside = subst (All below) (sym same) (All-without_repeats below (numbers net.places.items) begun.so_far.inside) in
    record {
      id = omega (arith, begun.new.small, ap (λ (m : Net). m.id) is);
      width = subst (IsNetWidth grid) (sym (ap (λ (m : Net). m.width) is)) begun.narrow;
      vertices = All-at below made.terminals inside;
      distinct = distinct;
    }

pub begun_terminals : (grid : Grid) (nets : List NetSpec) (net : PresentNet) (made : NetSpec) → IsBegunNet grid nets net.id net.width net.places.items net.pin → net_of made ≡ net_of_places net (numbers net.places.items) → length made.terminals ≤ net.pin
begun_terminals grid nets net made begun is =
    let same : numbers made.terminals ≡ without_repeats (numbers net.places.items) = ap (λ (m : Net). m.terminals) is in
    let read = λ (v : Vertex). v.0 in
    omega (arith, ap length same, length-without_repeats (numbers net.places.items), length-map made.terminals read, length-map net.places.items read, begun.so_far.count)

-- all nets make a design
pub nets_fit : (grid : Grid) (n : NetsReader) → is_last_stage n.stage ≡ true → AreNetsOf grid n → IsDesign grid n.nets.items
nets_fit grid n last fits = record {
  count = omega (arith, fits.done.count);
  pins = omega (arith, fits.done.pins_within, fits.done.pins_limit);
  ids = fits.done.ids;
  net = fits.done.each;
}
