use Rattle.std.proofs.Common.{◌≡◌, ◌∙◌, take, get_or, refl, sym, ap, subst, arith}
use Rattle.std.proofs.lemmas.Grind.{common_steps}
use Rattle.std.proofs.lemmas.List.Elements.{All-nil, All-more, All-weaker, Contains-get_or}
use Rattle.grid_base.specs.declared.spot.Spot.{Spot}
use Rattle.grid_base.specs.declared.vertex.Vertex.{Vertex}
use Rattle.grid_base.specs.Walks.{InVertices}
use Rattle.label_search.specs.Rows.{size_in, number_in}
use Rattle.label_search.proofs.Finding.{FindsMore-refl, FindsMore-trans}
use Rattle.label_search.proofs.Starts.{source_spot, none_started, started_more}
use Rattle.label_search.proofs.search.start_each.Goals as goal

pub offer-requires-clause-to : goal.offer-requires-clause-to
offer-requires-clause-to g c =
    source_spot (size_in c.loop-source.row) (size_in c.args.row.now) c.size.result c.args.sources.now c.loop-source.source-index
    (record { 0 = 0 }) c.of-from.result c.requires.sources
    c.loop-source.invariant.size c.size.ensures c.loop-source-test.true c.of-from.ensures

pub loop-source-init : goal.loop-source-init
loop-source-init g c = record {
  size = refl;
  found = FindsMore-refl c.args.row.now.found;
  search = record {
    keys = λ v key waits. absurd (c.requires.idle v key waits);
    numbered = λ v key waits. absurd (c.requires.idle v key waits);
    within = λ v has. absurd (omega (arith, has, c.requires.none v));
  };
  started = none_started c.args.sources.now c.args.row.now c.requires.none;
  zero = All-nil (λ (v : Vertex). number_in c.args.row.now v.0 ≡ 0);
}

pub loop-source-preserved : goal.loop-source-preserved
loop-source-preserved g c =
    let sources = c.args.sources.now in
    let i = c.loop-source.source-index in
    let v : Vertex = get_or sources i (record { 0 = 0 }) in
    let old = c.loop-source.row in
    let new = c.offer.new.row in
    let before = c.loop-source.invariant in
    let after = c.offer.ensures in
    let to = c.of-from.result.vertex.0 in
    let at : to ≡ v.0 = ap (λ (x : Spot). x.vertex.0) c.of-from.ensures in
    let member : InVertices sources to = subst (InVertices sources) (sym at)
    (Contains-get_or sources i (record { 0 = 0 }) c.loop-source-test.true) in
    let P : Vertex → Type 0 = λ w. number_in new w.0 ≡ 0 in
    record {
      size = after.taken.found.size ∙ before.size;
      found = FindsMore-trans c.args.row.now.found old.found new.found before.found after.taken.found;
      search = after.search;
      started = started_more sources old new to member after.taken before.started;
      zero = All-more P sources i (record { 0 = 0 }) c.loop-source-test.true
          (All-weaker (λ (w : Vertex). number_in old w.0 ≡ 0) P (λ w zero. omega (arith, zero, after.taken.falls w.0))
          (take i sources) before.zero)
          (subst (λ u. number_in new u ≡ 0) at (omega (arith, after.free (omega (arith, c.requires.limit)))));
    }

pub returns-clause-zero : goal.returns-clause-zero
returns-clause-zero g c =
    let sources = c.args.sources.now in
    let all : take c.loop-source.source-index sources ≡ sources = grind (arith, common_steps) in
    rw all at c.loop-source.invariant.zero
