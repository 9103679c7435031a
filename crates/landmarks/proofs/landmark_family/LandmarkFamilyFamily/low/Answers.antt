use Rattle.std.proofs.Common.{ℕ, ◌≤◌, ◌-◌, ◌^◌, ◌<◌, sym, ap, subst, ◌∙◌, arith}
use Rattle.std.proofs.Math.Nat.{pow-le-pow_right}
use Rattle.std.proofs.lemmas.Option.{get_or_from_slice_get}
use Rattle.grid_base.specs.Numbers.{IsInside}
use Rattle.grid_base.proofs.Places.{place_at-inside}
use Rattle.steiner_exact.specs.declared.terminal_box.TerminalBox.{TerminalBox}
use Rattle.steiner_exact.specs.Boxes.{box_of, box_distance, IsBoxIn}
use Rattle.steiner_exact.proofs.BoxSteps.{box-inside}
use Rattle.landmarks.proofs.landmark_family.LandmarkFamilyFamily.low.Goals as goal

-- a mask has a box
below : (mask n : ℕ) → n ≤ 5 → mask < 2 ^ n - 1 → mask < 2 ^ 5
below mask n few is = omega (arith, pow-le-pow_right {n = 2} (omega arith) few, is)

pub bounds-self-mask : goal.bounds-self-mask
bounds-self-mask g c = below c.args.mask _ c.args.self.now.few c.requires.mask

pub beyond-requires-clause-mask : goal.beyond-requires-clause-mask
beyond-requires-clause-mask g c = omega (arith, c.requires.mask)

pub distance-reach-requires-clause-inside : goal.distance-reach-requires-clause-inside
distance-reach-requires-clause-inside g c =
    let x = c.args.self.now in
    let is = get_or_from_slice_get x.boxes c.args.mask (box_of x.size x.terminals.now c.args.mask) _
    (x.boxed c.args.mask (omega (arith, c.requires.mask))) in
    subst (IsBoxIn x.size) (sym is) (box-inside x.size x.terminals.now c.args.mask x.vertices)

pub distance-reach-requires-clause-place : goal.distance-reach-requires-clause-place
distance-reach-requires-clause-place g c =
    let x = c.args.self.now in subst (IsInside x.size) (sym c.requires.place) (place_at-inside x.size c.args.v.0 c.requires.vertex)

pub returns-clause-value : goal.returns-clause-value
returns-clause-value g c =
    let x = c.args.self.now in
    let floors = x.landmarks.now.floors in
    let is = get_or_from_slice_get x.boxes c.args.mask (box_of x.size x.terminals.now c.args.mask) _
    (x.boxed c.args.mask (omega (arith, c.requires.mask))) in
    let reach = c.distance-reach.ensures.value ∙ ap (λ (b : TerminalBox). box_distance floors b c.args.place) is
    ∙ ap (box_distance floors (box_of x.size x.terminals.now c.args.mask)) c.requires.place in
    omega (arith, c.min.ensures, reach, c.from.ensures, c.beyond.ensures)
