use Rattle.std.proofs.Common.{◌≡◌, ◌<◌, take, get_or, sym, ◌∙◌, ap, subst, ⊎_elim, arith}
use Rattle.std.proofs.lemmas.Grind.{common_steps}
use Rattle.std.proofs.lemmas.List.Elements.{All-more, All-weaker, All-contains, Contains-get_or}
use Rattle.grid_base.specs.declared.size.Size.{Size}
use Rattle.grid_base.specs.declared.spot.Spot.{Spot}
use Rattle.grid_base.specs.declared.vertex.Vertex.{Vertex}
use Rattle.grid_base.specs.Spots.{spot_at}
use Rattle.grid_base.specs.Walks.{InVertices}
use Rattle.label_search.specs.Founds.{index_in}
use Rattle.label_search.specs.Rows.{size_in}
use Rattle.label_search.proofs.Finding.{listed_spot}
use Rattle.shortest_paths.proofs.led_search.find_first.Goals as goal

pub find-requires : goal.find-requires
find-requires c = record {
  spot = listed_spot (size_in c.loop-vertex.row) (size_in c.args.row.now) c.args.vertices.now c.loop-vertex.vertex-index
      (record { 0 = 0 }) c.of-at.result c.requires.vertices
      (sym c.loop-vertex.invariant.size) c.loop-vertex-test.true
      (c.of-at.ensures ∙ ap (λ (x : Size). spot_at x
      (get_or c.args.vertices.now c.loop-vertex.vertex-index (record { 0 = 0 })).0) c.size.ensures);
}

pub loop-vertex-preserved : goal.loop-vertex-preserved
loop-vertex-preserved c =
    let vertices = c.args.vertices.now in
    let i = c.loop-vertex.vertex-index in
    let v : Vertex = get_or vertices i (record { 0 = 0 }) in
    let before = c.loop-vertex.invariant in
    let after = c.find.ensures in
    let old = c.loop-vertex.row.found in
    let new = c.find.new.self.found in
    let at : c.of-at.result.vertex.0 ≡ v.0 = ap (λ (x : Spot). x.vertex.0) c.of-at.ensures in
    let P : Vertex → Type 0 = λ w. index_in new w.0 < new.len in
    record {
      size = after.found.size ∙ before.size;
      numbers = λ u. after.numbers u ∙ before.numbers u;
      waits = λ u key held. before.waits u key (after.waits u key held);
      in_list = λ u low. ⊎_elim
          (λ here. subst (InVertices vertices) (sym (here ∙ at))
          (Contains-get_or vertices i (record { 0 = 0 }) c.loop-vertex-test.true))
          (λ found. before.in_list u found)
          (after.others u low);
      first = All-more P vertices i (record { 0 = 0 }) c.loop-vertex-test.true
          (All-weaker (λ (w : Vertex). index_in old w.0 < old.len) P
          (λ w low. omega (arith, low, after.found.kept w.0 low, after.found.more)) (take i vertices) before.first)
          (subst (λ u. index_in new u < new.len) at after.here);
    }

pub returns-clause-first : goal.returns-clause-first
returns-clause-first c =
    let vertices = c.args.vertices.now in
    let found = c.loop-vertex.row.found in
    let all : take c.loop-vertex.vertex-index vertices ≡ vertices = grind (arith, common_steps) in
    let first = rw all at c.loop-vertex.invariant.first in
    record {
      room = omega (arith, c.len.ensures);
      in_list = λ v low. c.loop-vertex.invariant.in_list v (omega (arith, low, c.len.ensures));
      first = λ v is. omega (
        arith,
        c.len.ensures,
        All-contains (λ (w : Vertex). index_in found w.0 < found.len) vertices (record { 0 = v }) first is,
      );
    }
