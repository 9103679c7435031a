use Rattle.std.proofs.Common.{◌<◌, ◌+◌, ℕ, List, length, slice_set, ◌∙◌, ap, arith}
use Rattle.load_table.proofs.ShortValues.{inside-short, put-short, put-wide}
use Rattle.load_table.proofs.found.Found.put.Goals as goal

pub overflow_add-word : goal.overflow_add-word
overflow_add-word c = omega (arith, inside-short _ _ c.self.view_is c.requires.word, c.self.inside.short.ok.0, c.self.inside.short.ok.1)

pub index_mut-requires : goal.index_mut-requires
index_mut-requires c = omega (arith, inside-short _ _ c.self.view_is c.requires.word, c.self.inside.short.ok.0)

pub returns-then-value-from : goal.returns-then-value-from
returns-then-value-from c = record {
  value = put-short c.self.inside.short.items c.self.inside.wide.items c.args.word c.args.value (c.args.value + 1) (omega arith) (inside-short _ _ c.self.view_is c.requires.word)
      ∙ ap (λ (l : List ℕ). slice_set l c.args.word c.args.value) c.self.view_is;
}

pub widen-requires : goal.widen-requires
widen-requires c = record { room = omega (arith, c.self.invariant.1, inside-short _ _ c.self.view_is c.requires.word) }

pub index_mut-requires-3 : goal.index_mut-requires-3
index_mut-requires-3 c = omega (arith, inside-short _ _ c.self.view_is c.requires.word, c.self.inside.short.ok.0)

pub returns : goal.returns
returns c =
    let place : c.args.word < length c.widen.new.wide.items = omega (arith, c.widen.ensures.words) in
    record {
      value = put-wide c.self.inside.short.items c.self.inside.wide.items c.widen.new.wide.items c.args.word c.args.value c.widen.ensures.same (inside-short _ _ c.self.view_is c.requires.word) place
          ∙ ap (λ (l : List ℕ). slice_set l c.args.word c.args.value) c.self.view_is;
    }
