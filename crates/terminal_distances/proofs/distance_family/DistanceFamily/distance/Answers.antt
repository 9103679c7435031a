use Rattle.std.proofs.Common.{ℕ, suc, sym, ◌∙◌, ◌≡◌, ◌+◌, ◌-◌, ◌^◌, ◌<◌, ◌≤◌, ap, ⊎_elim, arith}
use Rattle.std.proofs.lemmas.Nat.{pow_pos}
use Rattle.shortest_paths.specs.LabelWords.{label_of}
use Rattle.steiner_tables.proofs.FoundNumbers.{found_number, kept_small}
use Rattle.steiner_tables.proofs.LoneRows.{single_below, single_room}
use Rattle.terminal_distances.proofs.distance_family.DistanceFamily.distance.Goals as goal

pub label-requires-clause-mask : goal.label-requires-clause-mask
label-requires-clause-mask g c =
    let x = c.args.self.now in
    omega (arith, c.single_of-mask.ensures, single_room c.args.terminal (omega (arith, c.requires.end, x.places, x.few)), x.room)

pub overflow_sub-all_of : goal.overflow_sub-all_of
overflow_sub-all_of g c =
    let x = c.args.self.now in
    omega (arith, c.single_of-mask.ensures, c.all_of.ensures, single_below x.count c.args.terminal x.several (omega (arith, c.requires.end, x.places)))

pub low-rest-requires-clause-some : goal.low-rest-requires-clause-some
low-rest-requires-clause-some g c =
    let x = c.args.self.now in
    omega (arith, c.single_of-mask.ensures, c.all_of.ensures, single_below x.count c.args.terminal x.several (omega (arith, c.requires.end, x.places)))

pub low-rest-requires-clause-mask : goal.low-rest-requires-clause-mask
low-rest-requires-clause-mask g c =
    let x = c.args.self.now in
    omega (
      arith,
      c.single_of-mask.ensures,
      c.all_of.ensures,
      ap (λ n. 2 ^ n) x.counted,
      pow_pos c.args.terminal,
      single_below x.count c.args.terminal x.several (omega (arith, c.requires.end, x.places)),
    )

pub returns-in-Some-clause-value : goal.returns-in-Some-clause-value
returns-in-Some-clause-value g c =
    let x = c.args.self.now in
    let v = c.args.v.0 in
    let number = label_of x.labels.now in
    let is = sym c.in-Some.is ∙ c.label.ensures in
    let mask = ap (λ m. number m v) c.single_of-mask.ensures in
    let row = x.rows c.args.terminal c.requires.first c.requires.end in
    let within = row.within v (omega (arith, mask, kept_small (number c.single_of-mask.result v) c.in-Some.kept is)) in
    omega (arith, mask, found_number (number c.single_of-mask.result v) c.in-Some.kept is, within)
