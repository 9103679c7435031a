-- What is still to go.
use Rattle.std.specs.Prelude.{ℕ, cond, ltb, ◌+◌, ◌*◌, ◌%◌, ◌≡◌, max, slice_index_or}
use Rattle.std.specs.Int.{abs_diff}
use Rattle.layer_ways.specs.ViaRests.{no_rests, rest_along}
use Rattle.net_search.specs.declared.goal.Goal.{Goal}
use Rattle.net_search.specs.declared.site.Site.{Site}

-- what a way to a target costs at least: its tile steps, and what its vias and its last edge add
abbrev pub rest_to : Goal → Site → ℕ
rest_to goal site =
    let cols = abs_diff site.col goal.site.col in
    let rows = abs_diff site.row goal.site.row in
    cond (ltb site.layer 16) (4 * (cols + rows) + rest_along (slice_index_or goal.with_entry site.layer no_rests) (ltb 0 cols) (ltb 0 rows)) 0

-- the same where edges have prices: its vias, and the demand at the difference of the distances from the landmark, if that is more
abbrev pub rest_at_prices : Goal → Site → ℕ → ℕ → ℕ
rest_at_prices goal site from_landmark demand =
    let cols = abs_diff site.col goal.site.col in
    let rows = abs_diff site.row goal.site.row in
    let entry = rest_along (slice_index_or goal.with_entry site.layer no_rests) (ltb 0 cols) (ltb 0 rows) in
    let vias = rest_along (slice_index_or goal.vias site.layer no_rests) (ltb 0 cols) (ltb 0 rows) in
    let climb = abs_diff from_landmark goal.from_landmark * demand in
    cond (ltb site.layer 16) ((4 * (cols + rows) + max entry ((vias + climb) % 18446744073709551616)) % 18446744073709551616) 0

-- the target stays where it is
pub record IsSameGoal (old new : Goal) : Type 0 where
  pub site : new.site ≡ old.site
  pub landmark : new.from_landmark ≡ old.from_landmark
