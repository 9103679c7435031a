use Rattle.std.proofs.Common.{◌≡◌, ◌+◌, ◌<◌, length, slice_index, ap, arith}
use Rattle.std.proofs.lemmas.List.{get_or_read}
use Rattle.grid_base.specs.Numbers.{layers}
use Rattle.text_scan.specs.Reading.{past_token}
use Rattle.ispd_reader.specs.declared.layer_list.LayerList.TheVariants.{Vertical, Horizontal, Widths, Spacings, Vias}
use Rattle.design_tokens.specs.Numbers.{number_at, capacity_at, width_at, spacing_at}
use Rattle.ispd_reader.specs.HeaderTails.{values_left, with_vertical, with_horizontal, with_widths, with_spacings, with_vias}
use Rattle.ispd_reader.specs.LayersRead.{header_with}
use Rattle.ispd_reader.proofs.HeaderSteps.{takes_refused, value_read, value_refused, via_read, via_refused}
use Rattle.ispd_reader.proofs.layer_lists.LayerLists.take.Goals as goal

pub returns-in_err-capacity-in-Vertical-clause-takes : goal.returns-in_err-capacity-in-Vertical-clause-takes
returns-in_err-capacity-in-Vertical-clause-takes c =
    let so_far = header_with c.args.size c.args.self.now in
    rw c.in-Vertical.is (takes_refused c.args.token.now c.from_residual.result c.in_err-capacity-in-Vertical.field-0.0 (λ x. x) capacity_at (values_left Vertical so_far c.args.done) (values_left Vertical so_far (c.args.done + 1))
    (λ r fault is. ap (with_vertical so_far) (value_refused c.args.self.now.vertical.items (λ _. capacity_at) (layers c.args.size) c.args.done r fault c.requires.room is))
    c.from_residual.ensures.1 c.in_err-capacity-in-Vertical.ensures.capacity)

pub returns-in_err-capacity-in-Horizontal-clause-takes : goal.returns-in_err-capacity-in-Horizontal-clause-takes
returns-in_err-capacity-in-Horizontal-clause-takes c =
    let so_far = header_with c.args.size c.args.self.now in
    rw c.in-Horizontal.is (takes_refused c.args.token.now c.from_residual-in_err-capacity-in-Horizontal.result c.in_err-capacity-in-Horizontal.field-0.0 (λ x. x) capacity_at (values_left Horizontal so_far c.args.done) (values_left Horizontal so_far (c.args.done + 1))
    (λ r fault is. ap (with_horizontal so_far) (value_refused c.args.self.now.horizontal.items (λ _. capacity_at) (layers c.args.size) c.args.done r fault c.requires.room is))
    c.from_residual-in_err-capacity-in-Horizontal.ensures.1 c.in_err-capacity-in-Horizontal.ensures.capacity)

pub returns-in_err-width-in-Widths-clause-takes : goal.returns-in_err-width-in-Widths-clause-takes
returns-in_err-width-in-Widths-clause-takes c =
    let so_far = header_with c.args.size c.args.self.now in
    rw c.in-Widths.is (takes_refused c.args.token.now c.from_residual-in_err-width-in-Widths.result c.in_err-width-in-Widths.field-0.0 (λ x. x) width_at (values_left Widths so_far c.args.done) (values_left Widths so_far (c.args.done + 1))
    (λ r fault is. ap (with_widths so_far) (value_refused c.args.self.now.widths.items (λ _. width_at) (layers c.args.size) c.args.done r fault c.requires.room is))
    c.from_residual-in_err-width-in-Widths.ensures.1 c.in_err-width-in-Widths.ensures.width)

pub returns-in_err-spacing-in-Spacings-clause-takes : goal.returns-in_err-spacing-in-Spacings-clause-takes
returns-in_err-spacing-in-Spacings-clause-takes c =
    let so_far = header_with c.args.size c.args.self.now in
    let widths = c.args.self.now.widths.items in
    let read = rw c.in-Spacings.is at c.requires.so_far in
    let lt : c.args.done < length widths = omega (arith, read.widths, c.requires.room) in
    let width : c.index-width.result.now ≡ slice_index widths c.args.done = get_or_read widths _ _ lt c.index-width.ensures 0 in
    rw c.in-Spacings.is (takes_refused c.args.token.now c.from_residual-in_err-spacing-in-Spacings.result c.in_err-spacing-in-Spacings.field-0.0 (λ x. x) (spacing_at (slice_index widths c.args.done)) (values_left Spacings so_far c.args.done) (values_left Spacings so_far (c.args.done + 1))
    (λ r fault is. ap (with_spacings so_far) (value_refused c.args.self.now.spacings.items (λ layer. spacing_at (slice_index c.args.self.now.widths.items layer)) (length widths) c.args.done r fault lt is))
    c.from_residual-in_err-spacing-in-Spacings.ensures.1 (rw width at c.in_err-spacing-in-Spacings.ensures.spacing))

pub returns-in_err-number-in-Vias-clause-takes : goal.returns-in_err-number-in-Vias-clause-takes
returns-in_err-number-in-Vias-clause-takes c =
    let so_far = header_with c.args.size c.args.self.now in
    rw c.in-Vias.is (takes_refused c.args.token.now c.from_residual-in_err-number-in-Vias.result c.in_err-number-in-Vias.field-0.0 (λ x. x) number_at (values_left Vias so_far c.args.done) (values_left Vias so_far (c.args.done + 1))
    (λ r fault is. ap (with_vias so_far) (via_refused (layers c.args.size) c.args.done r fault c.requires.room is))
    c.from_residual-in_err-number-in-Vias.ensures.1 c.in_err-number-in-Vias.ensures.number)

pub returns-in_ok-push-in-Vertical-clause-takes : goal.returns-in_ok-push-in-Vertical-clause-takes
returns-in_ok-push-in-Vertical-clause-takes c =
    let so_far = header_with c.args.size c.args.self.now in
    rw (c.in-Vertical.is, c.in_ok-push-in-Vertical.ensures.items) (λ r next.
    ap (with_vertical so_far) (value_read c.args.self.now.vertical.items (λ _. capacity_at) (layers c.args.size) c.args.done r (past_token r) c.in_ok-capacity-in-Vertical.field-0 c.requires.room (c.in_ok-capacity-in-Vertical.ensures.capacity r next)))

pub returns-in_ok-push-in-Horizontal-clause-takes : goal.returns-in_ok-push-in-Horizontal-clause-takes
returns-in_ok-push-in-Horizontal-clause-takes c =
    let so_far = header_with c.args.size c.args.self.now in
    rw (c.in-Horizontal.is, c.in_ok-push-in-Horizontal.ensures.items) (λ r next.
    ap (with_horizontal so_far) (value_read c.args.self.now.horizontal.items (λ _. capacity_at) (layers c.args.size) c.args.done r (past_token r) c.in_ok-capacity-in-Horizontal.field-0 c.requires.room (c.in_ok-capacity-in-Horizontal.ensures.capacity r next)))

pub returns-in_ok-push-in-Widths-clause-takes : goal.returns-in_ok-push-in-Widths-clause-takes
returns-in_ok-push-in-Widths-clause-takes c =
    let so_far = header_with c.args.size c.args.self.now in
    rw (c.in-Widths.is, c.in_ok-push-in-Widths.ensures.items) (λ r next.
    ap (with_widths so_far) (value_read c.args.self.now.widths.items (λ _. width_at) (layers c.args.size) c.args.done r (past_token r) c.in_ok-width-in-Widths.field-0 c.requires.room (c.in_ok-width-in-Widths.ensures.width r next)))

pub returns-in_ok-push-in-Spacings-clause-takes : goal.returns-in_ok-push-in-Spacings-clause-takes
returns-in_ok-push-in-Spacings-clause-takes c =
    let so_far = header_with c.args.size c.args.self.now in
    let widths = c.args.self.now.widths.items in
    let read = rw c.in-Spacings.is at c.requires.so_far in
    let lt : c.args.done < length widths = omega (arith, read.widths, c.requires.room) in
    let width : c.index-width.result.now ≡ slice_index widths c.args.done = get_or_read widths _ _ lt c.index-width.ensures 0 in
    rw (c.in-Spacings.is, c.in_ok-push-in-Spacings.ensures.items) (λ r next.
    ap (with_spacings so_far) (value_read c.args.self.now.spacings.items (λ layer. spacing_at (slice_index c.args.self.now.widths.items layer)) (length widths) c.args.done r (past_token r) c.in_ok-spacing-in-Spacings.field-0 lt ((rw width at c.in_ok-spacing-in-Spacings.ensures.spacing) r next)))

pub returns-in_ok-number-in-Vias-clause-takes : goal.returns-in_ok-number-in-Vias-clause-takes
returns-in_ok-number-in-Vias-clause-takes c =
    let so_far = header_with c.args.size c.args.self.now in
    rw c.in-Vias.is (λ r next.
    ap (with_vias so_far) (via_read (layers c.args.size) c.args.done r (past_token r) c.in_ok-number-in-Vias.field-0 c.requires.room (c.in_ok-number-in-Vias.ensures.number r next)))
