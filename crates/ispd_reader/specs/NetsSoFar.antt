-- What holds of the nets that are read so far.
use Rattle.std.specs.Prelude.{◌≡◌, ℕ, suc, ◌+◌, ◌≤◌, ◌<◌, ◌==◌, ◌||◌, Bool, false, List, [], length}
use Rattle.std.specs.List.{list_any, sum_by, All}
use Rattle.std.proofs.Props.{props}
use Rattle.std.specs.BTreeSet.{contains}
use Rattle.std.specs.Ordering.{nat_cmp}
use Rattle.grid_base.specs.Lists.{At}
use Rattle.grid_base.specs.declared.vertex.Vertex.{Vertex}
use Rattle.grid_base.specs.Numbers.{cols, rows, vertices}
use Rattle.grid_graph.specs.declared.grid.Grid.{Grid}
use Rattle.grid_graph.specs.declared.net_spec.NetSpec.{NetSpec}
use Rattle.grid_graph.specs.Grids.{layout_of, size_of, IsNetWidth}
use Rattle.grid_graph.specs.Limits.{max_id, max_nets, max_pins}
use Rattle.grid_graph.specs.Nets.{IdsDiffer, IsNet}
use Rattle.ispd_reader.specs.declared.net_stage.NetStage.{NetStage}
use Rattle.ispd_reader.specs.declared.net_stage.NetStage.TheVariants as stages
use Rattle.ispd_reader.specs.declared.nets_reader.NetsReader.{NetsReader}
use Rattle.ispd_reader.specs.Nets.{Net, widest_spacing}
use Rattle.ispd_reader.specs.Views.{nets_of, numbers}

-- a net of these has the id
abbrev pub is_id_among : List Net → ℕ → Bool
is_id_among nets id = list_any (λ net. id == net.id) nets

-- these nets are there, of which these ids are taken and which have at most so many pins; one more has ids of its own and so many pins, and so many nets may still come
pub record AreDoneNets (grid : Grid) (spacing : ℕ) (nets : List NetSpec) (taken : ℕ → Bool) (pins : ℕ) (own : ℕ → Bool) (coming owed : ℕ) : Type 0 where
  pub widest : spacing ≡ widest_spacing (layout_of grid).spacings
  pub each : (k : ℕ) (m : NetSpec) → At nets k m → IsNet grid m
  pub ids : IdsDiffer nets
  pub taken_ids : (q : ℕ) → taken q ≡ (own q || is_id_among (nets_of nets) q)
  pub pins_within : sum_by (λ m. length m.terminals) nets + coming ≤ pins
  pub pins_limit : pins ≤ max_pins
  pub count : length nets + owed ≤ max_nets

-- the nets that a reader has
abbrev pub HasDoneNets : Grid → NetsReader → (ℕ → Bool) → ℕ → ℕ → Type 0
HasDoneNets grid n own coming owed = AreDoneNets grid n.spacing n.nets.items (contains nat_cmp n.taken) n.pins own coming owed

-- none of the nets has the id
pub record IsNewId (nets : List NetSpec) (id : ℕ) : Type 0 where
  pub small : id ≤ max_id
  pub free : is_id_among (nets_of nets) id ≡ false

-- so many places of pins
pub record ArePinPlaces (grid : Grid) (places : List Vertex) (pin : ℕ) : Type 0 where
  pub count : length places ≡ pin
  pub inside : All (λ v. v < vertices (size_of grid)) (numbers places)

-- a net is read but for some of its pins
pub record IsBegunNet (grid : Grid) (nets : List NetSpec) (id width : ℕ) (places : List Vertex) (pin : ℕ) : Type 0 where
  pub new : IsNewId nets id
  pub narrow : IsNetWidth grid width
  pub so_far : ArePinPlaces grid places pin

-- the present net of a reader is
abbrev pub HasBegunNet : Grid → NetsReader → Type 0
HasBegunNet grid n = IsBegunNet grid n.nets.items n.net.id n.net.width n.net.places.items n.net.pin

-- the id of the present net, once it is taken
abbrev pub is_own_id : NetStage → ℕ → ℕ → Bool
is_own_id stages.PinCount id q = q == id
is_own_id stages.Width id q = q == id
is_own_id stages.X id q = q == id
is_own_id (stages.Y col) id q = q == id
is_own_id (stages.Layer col row) id q = q == id
is_own_id _ id q = false

-- the pins of the present net, once they are counted
abbrev pub own_pins : NetStage → ℕ → ℕ → ℕ
own_pins stages.Width pin owed = pin + owed
own_pins stages.X pin owed = pin + suc owed
own_pins (stages.Y col) pin owed = pin + suc owed
own_pins (stages.Layer col row) pin owed = pin + suc owed
own_pins _ pin owed = 0

-- how many nets may still come
abbrev pub nets_owed : NetStage → ℕ → ℕ
nets_owed stages.Num owed = max_nets
nets_owed stages.Net owed = max_nets
nets_owed stages.Count owed = max_nets
nets_owed stages.Done owed = 0
nets_owed _ owed = suc owed

-- what holds of the present net
abbrev pub IsPresentNet : Grid → NetsReader → NetStage → Type 0
IsPresentNet grid n stages.PinCount = IsNewId n.nets.items n.net.id
IsPresentNet grid n stages.Width = IsNewId n.nets.items n.net.id × (n.net.places.items ≡ []) × (n.net.pin ≡ 0)
IsPresentNet grid n stages.X = HasBegunNet grid n
IsPresentNet grid n (stages.Y col) = HasBegunNet grid n × (col < cols (size_of grid))
IsPresentNet grid n (stages.Layer col row) = HasBegunNet grid n × (col < cols (size_of grid)) × (row < rows (size_of grid))
IsPresentNet grid n _ = Unit {0}

-- at most one proof says so
pub IsPresentNet-prop : (grid : Grid) (n : NetsReader) (s : NetStage) → IsProp (IsPresentNet grid n s)
IsPresentNet-prop grid n stages.Num = Prim.hlevel props
IsPresentNet-prop grid n stages.Net = Prim.hlevel props
IsPresentNet-prop grid n stages.Count = Prim.hlevel props
IsPresentNet-prop grid n stages.Name = Prim.hlevel props
IsPresentNet-prop grid n stages.Id = Prim.hlevel props
IsPresentNet-prop grid n stages.PinCount = Prim.hlevel props
IsPresentNet-prop grid n stages.Width = Prim.hlevel props
IsPresentNet-prop grid n stages.X = Prim.hlevel props
IsPresentNet-prop grid n (stages.Y col) = Prim.hlevel props
IsPresentNet-prop grid n (stages.Layer col row) = Prim.hlevel props
IsPresentNet-prop grid n stages.Done = Prim.hlevel props

-- the nets so far are nets of the grid
pub record AreNetsOf (grid : Grid) (n : NetsReader) : Type 0 where
  pub done : HasDoneNets grid n (is_own_id n.stage n.net.id) (own_pins n.stage n.net.pin n.net.owed) (nets_owed n.stage n.owed)
  pub present : IsPresentNet grid n n.stage

-- at most one proof says so
pub AreNetsOf-prop : (grid : Grid) (n : NetsReader) → IsProp (AreNetsOf grid n)
AreNetsOf-prop grid n = Prim.hlevel (props, IsPresentNet-prop grid n n.stage)

-- the same where a pin is next, or the present net ends
pub record AwaitPins (grid : Grid) (n : NetsReader) : Type 0 where
  pub done : HasDoneNets grid n (λ q. q == n.net.id) (n.net.pin + n.net.owed) (suc n.owed)
  pub begun : HasBegunNet grid n
