use Rattle.std.proofs.Common.{◌≡◌, ◌==◌, take, false}
use Rattle.std.specs.List.{list_all, list_any}
use Rattle.tile_graphs.specs.Fullness.{is_above}
use Rattle.tile_graphs.proofs.part.Part.may_be_fuller.Given as goal

-- none of the links so far is fuller, and what is known of them
abbrev pub invariant-loop-link : goal.invariant-loop-link
invariant-loop-link l = record {
  none : list_any (λ link. is_above l.level link.total) (take l.link-index l.self.links.items) ≡ false;
  unused : l.is_unused ≡ list_all (λ link. link.total.load == 0) (take l.link-index l.self.links.items);
}
