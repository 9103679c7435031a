-- What an edit makes of a design and its sets.
use Rattle.std.proofs.Common.{◌≡◌, ℕ, ◌+◌, ◌-◌, List, [], ◌∷◌, ◌++◌, length, inl, inr, refl, sym, ◌∙◌, subst}
use Rattle.std.specs.Prelude.{is_ok, slice_index, slice_set, false, true, Err, IfOk, None, Ok, OnErr, Result}
use Rattle.std.specs.List.{remove}
use Rattle.std.proofs.lemmas.Bool.{false≢true}
use Rattle.std.proofs.lemmas.List.FromFn.{length-map-range_with_len}
use Rattle.edit_text.specs.declared.edit.Edit.TheVariants.{Add, Change}
use Rattle.edit_text.specs.declared.edit.Pin.{Pin}
use Rattle.grid_base.specs.declared.piece.Piece.{Piece}
use Rattle.grid_base.specs.Lists.{At}
use Rattle.grid_graph.specs.declared.design.Design.{Design}
use Rattle.grid_graph.specs.declared.grid.Grid.{Grid}
use Rattle.grid_graph.specs.declared.net_spec.NetSpec.{NetSpec}
use Rattle.grid_graph.specs.Grids.{entries}
use Rattle.price_workers.specs.TreeLoads.{without_tree}
use Rattle.sharing_runs.specs.NetSteps.{IsStep}
use Rattle.tree_set.specs.Loads.{load_list, load_on, tree_load}
use Rattle.eco_route.specs.declared.edit_fault.EditFault.{EditFault}
use Rattle.eco_route.specs.declared.edit_fault.EditFault.TheVariants.{DuplicateId}
use Rattle.eco_route.specs.declared.edit_refusal.EditRefusal.{EditRefusal}
use Rattle.eco_route.specs.declared.edit_refusal.EditRefusal.TheVariants.{Fault, NoMemory}
use Rattle.eco_route.specs.EcoSteps.{IsAddStep, IsChangeStep}
use Rattle.eco_route.specs.EditedDesigns.{IsNetOfPins}
use Rattle.eco_route.specs.EditRefusals.{terminals_of, HasNoNet, IsEditRefusal, IsNetRefusal, IsNetRefused, IsRefusedFor}
use Rattle.eco_route.specs.NetIndices.{ids_of}
use Rattle.eco_route.specs.RoutedDesigns.{RoutedDesign, IsRewired}
use Rattle.eco_route.specs.Scales.{eco_scale}
use Rattle.eco_route.proofs.EcoFacts.{loads_are, loads-without, net_of_id}

-- the loads of all others are the list of them
pub loads_without_are : (g : Grid) (nets : List NetSpec) (trees : List (List Piece)) (p : ℕ) (n : NetSpec) (tree : List Piece) (loads : List ℕ) → At nets p n → At trees p tree → length loads ≡ entries g
    → ((r : ℕ) → slice_index loads r ≡ load_on g nets trees r) → without_tree g n.width tree loads ≡ load_list g (remove nets p) (remove trees p)
loads_without_are g nets trees p n tree loads at stands long loaded =
    loads_are g (remove nets p) (remove trees p) (without_tree g n.width tree loads)
    (length-map-range_with_len (λ r. slice_index loads r - tree_load g n.width tree r) 0 (length loads) ∙ long)
    (loads-without g nets trees p n tree loads at stands loaded)

-- a net that comes in place of another
pub rewired : (held seen new : RoutedDesign) (p : ℕ) (n : NetSpec) (tree : List Piece) → held ≡ seen
    → IsStep held.design.grid n (load_list held.design.grid (remove held.design.nets p) (remove held.sets p)) eco_scale None tree → new.design.grid ≡ held.design.grid
    → new.design.nets ≡ slice_set held.design.nets p n → new.sets ≡ slice_set held.sets p tree → IsRewired p n seen new
rewired held seen new p n tree same step grid nets sets =
    subst (λ (x : RoutedDesign). IsRewired p n x new) same (record { tree = tree; step = step; grid = grid; nets = nets; sets = sets })

pub change_step : (old new : RoutedDesign) (id width : ℕ) (pins : List Pin) (p : ℕ) (before n : NetSpec) → At old.design.nets p before → before.id ≡ id
    → IsNetOfPins old.design.grid id before.name width pins n → IsRewired p n old new → IsChangeStep id width pins old.design old.sets new.design new.sets
change_step old new id width pins p before n at named made step = record {
  edited = record { place = p; before = before; stands = at; identified = named; net = n; made = made; nets = step.nets; grid = step.grid };
  tree = step.tree;
  step = step.step;
  sets = step.sets;
}

pub add_step : (old new : RoutedDesign) (name : List ℕ) (id width : ℕ) (pins : List Pin) (n : NetSpec) (tree : List Piece) (loads : List ℕ) → IsNetOfPins old.design.grid id name width pins n
    → loads ≡ load_list old.design.grid old.design.nets old.sets → IsStep old.design.grid n loads eco_scale None tree → new.design.grid ≡ old.design.grid
    → new.design.nets ≡ old.design.nets ++ n ∷ [] → new.sets ≡ old.sets ++ tree ∷ [] → IsAddStep name id width pins old.design old.sets new.design new.sets
add_step old new name id width pins n tree loads made loaded step grid nets sets = record {
  edited = record { net = n; made = made; nets = nets; grid = grid };
  tree = tree;
  step = subst (λ seen. IsStep old.design.grid n seen eco_scale None tree) loaded step;
  sets = sets;
}

-- why an edit is refused, as its id, and the net that it asks for, are looked at
pub is_taken : (d : Design) (name : List ℕ) (id width : ℕ) (pins : List Pin) (r : Result ℕ EditFault) → is_ok r ≡ true → IfOk r (λ p. At (ids_of d.nets) p id)
    → IsRefusedFor d (Add name id width pins) (DuplicateId id)
is_taken d name id width pins (Ok p) ok at =
    let found = net_of_id d.nets p id at in
    inl (p, found.0, record { stands = found.1; identified = found.2 }, refl)
is_taken d name id width pins (Err f) ok at = absurd (false≢true ok)

pub when_not_ok : {X E T : Type 0} (r : Result X E) → is_ok r ≡ false → OnErr r T → T
when_not_ok (Ok x) failed kept = absurd (false≢true (sym failed))
when_not_ok (Err e) failed kept = kept

pub add_refused : (d : Design) (name : List ℕ) (id width : ℕ) (pins : List Pin) (nets others : ℕ) (e : EditRefusal) → nets ≡ length d.nets + 1 → others ≡ terminals_of d.nets → HasNoNet d.nets id
    → IsNetRefusal d.grid nets others name id width pins e → IsEditRefusal d (Add name id width pins) e
add_refused d name id width pins nets others (Fault f) count terminals free refused =
    inr (
      free,
      subst (λ n. IsNetRefused d.grid n (terminals_of d.nets) name id width pins f) count
          (subst (λ o. IsNetRefused d.grid nets o name id width pins f) terminals refused),
    )
add_refused d name id width pins nets others NoMemory count terminals free refused = cc

pub change_refused : (d : Design) (p : ℕ) (before : NetSpec) (id width : ℕ) (pins : List Pin) (nets others : ℕ) (e : EditRefusal) → At d.nets p before → before.id ≡ id → nets ≡ length d.nets
    → others ≡ terminals_of (remove d.nets p) → IsNetRefusal d.grid nets others before.name id width pins e → IsEditRefusal d (Change id width pins) e
change_refused d p before id width pins nets others (Fault f) at named count terminals refused =
    inr (
      p,
      before,
      record { stands = at; identified = named },
      subst (λ n. IsNetRefused d.grid n (terminals_of (remove d.nets p)) before.name id width pins f) count
          (subst (λ o. IsNetRefused d.grid nets o before.name id width pins f) terminals refused),
    )
change_refused d p before id width pins nets others NoMemory at named count terminals refused = cc
