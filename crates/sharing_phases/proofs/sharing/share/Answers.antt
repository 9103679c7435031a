use Rattle.std.proofs.Common.{◌≡◌, ◌++◌, ℕ, length, take, drop, sym, ◌∙◌, ap, arith}
use Rattle.std.proofs.lemmas.List.FromFn.{fill_by_all}
use Rattle.grid_base.specs.Numbers.{vertices}
use Rattle.grid_graph.specs.Grids.{entries}
use Rattle.load_table.proofs.HeldAfter.{written}
use Rattle.routing_stages.specs.Phases.{phases_load}
use Rattle.sharing_phases.proofs.sharing.share.Goals as goal
use Rattle.sharing_phases.proofs.sharing.share.Goals.{After-write_shares}

-- the loads that were written have an entry for each word, and are the whole list
loads_now : (g : _) (c : After-write_shares g) → let loads = c.write_shares.new.loads in
    (length loads ≡ entries c.args.design.now.grid)
    × (take c.in_ok-loads.loads.len (loads ++ drop (length loads) c.in_ok-loads.loads.items) ≡ loads)
loads_now g c = (
  c.write_shares.ensures.long ∙ omega (arith, c.vertices.ensures, ap (λ s. vertices s) c.size.ensures),
  written c.in_ok-loads.loads.len c.write_shares.new.loads c.in_ok-loads.loads.items
      (omega (arith, c.in_ok-loads.ensures.len, c.write_shares.ensures.long)),
)

pub returns-clause-whole : goal.returns-clause-whole
returns-clause-whole g c =
    let d = c.args.design.now in
    let run = c.in_ok-table.ensures.run in
    let now = loads_now g (goal.at.returns-clause-whole g c).After-write_shares in
    rw c.of.ensures (record {
      some = omega (arith, c.in_ok-table.ensures.count, c.requires.settings.some_phases);
      few = omega (arith, c.in_ok-table.ensures.count, c.requires.settings.phases);
      routings = run.routings;
      loads = now.1 ∙ fill_by_all (phases_load d.grid d.nets c.in_ok-table.phases.items) c.write_shares.new.loads (entries d.grid)
          0 now.0 (λ r within. rw c.write_shares.ensures.shares (run.loads r within));
      prices = ap length (written c.in_ok-list.list.len c.prices.new.out c.in_ok-list.list.items
          (omega (arith, c.in_ok-list.ensures.len, c.prices.ensures.list.long, now.0, c.write_shares.ensures.long)))
          ∙ c.prices.ensures.list.long;
      share = record { of_table = run.of_table; allot = run.allot; shares = sym (now.1 ∙ c.write_shares.ensures.shares) };
    })

pub prices-requires-clause-loads : goal.prices-requires-clause-loads
prices-requires-clause-loads g c =
    let now = loads_now g (goal.at.prices-requires-clause-loads g c).After-write_shares in
    let few = λ (r : ℕ). c.in_ok-table.ensures.run.few r in
    rw (c.deref.ensures.value, now.1) (record {
      long = now.0;
      within = λ r. rw c.write_shares.ensures.shares
          (omega (arith, few r, c.in_ok-table.ensures.count, c.requires.settings.phases));
    })
