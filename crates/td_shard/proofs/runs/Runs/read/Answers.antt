use Rattle.std.proofs.Common.{arith, ◌≡◌, ◌+◌, ◌-◌, ◌++◌, List, map, take, drop, vec_len, sym, ap, ◌∙◌}
use Rattle.td_shard.specs.declared.runs.Numbered.{Numbered}
use Rattle.td_shard.specs.Runs.{Part, rec_of}
use Rattle.td_shard.proofs.Ordered.{read-part}
use Rattle.td_shard.proofs.Placed.{placed, enough}
use Rattle.td_shard.proofs.runs.Runs.read.Goals as goal

pub overflow_sub-begin : goal.overflow_sub-begin
overflow_sub-begin c =
    let at = placed c.self.inside c.args.self.now c.args.place c.index.result.now c.self.invariant c.self.view_is c.requires.place c.index.ensures in
    at.where_it.low

pub overflow_add-begin : goal.overflow_add-begin
overflow_add-begin c =
    let at = placed c.self.inside c.args.self.now c.args.place c.index.result.now c.self.invariant c.self.view_is c.requires.place c.index.ensures in
    let there = enough c.self.inside c.args.self.now c.args.place c.args.to c.index.result.now at c.requires.within in
    omega (arith, at.many, there, at.fits, at.where_it.low, at.where_it.some, c.self.invariant.rec_numbers, c.requires.range)

pub overflow_add-begin-2 : goal.overflow_add-begin-2
overflow_add-begin-2 c =
    let at = placed c.self.inside c.args.self.now c.args.place c.index.result.now c.self.invariant c.self.view_is c.requires.place c.index.ensures in
    let there = enough c.self.inside c.args.self.now c.args.place c.args.to c.index.result.now at c.requires.within in
    omega (arith, at.many, there, at.fits, at.where_it.low, at.where_it.some, c.self.invariant.rec_numbers, c.requires.range, c.min-many.ensures)

pub read_rows-requires-clause-within : goal.read_rows-requires-clause-within
read_rows-requires-clause-within c =
    let at = placed c.self.inside c.args.self.now c.args.place c.index.result.now c.self.invariant c.self.view_is c.requires.place c.index.ensures in
    let there = enough c.self.inside c.args.self.now c.args.place c.args.to c.index.result.now at c.requires.within in
    omega (arith, at.many, there, at.fits, at.where_it.low, at.where_it.some, c.requires.range, c.min-many.ensures)

pub returns-clause-recs : goal.returns-clause-recs
returns-clause-recs c d =
    let at = placed c.self.inside c.args.self.now c.args.place c.index.result.now c.self.invariant c.self.view_is c.requires.place c.index.ensures in
    let there = enough c.self.inside c.args.self.now c.args.place c.args.to c.index.result.now at c.requires.within in
    let old = c.args.recs.now in
    let xs = c.self.inside.recs.items in
    let r = c.index.result.now in
    let begin = r.at - c.self.inside.start + c.args.from in
    let many = c.min-many.result in
    let n : begin + many - begin ≡ many = omega arith in
    c.read_rows.ensures.recs
    ∙ (ap (λ i. old.items ++ map rec_of (take i (drop begin xs))) n
    ∙ (ap (λ (l : List Numbered). old.items ++ map rec_of l) (read-part c.self.inside.start c.self.inside.start xs r c.args.from c.args.to many (64 - vec_len old) (omega arith) at.where_it c.requires.range there (c.min-many.ensures ∙ omega (arith, c.len.ensures)))
    ∙ ap (λ (p : Part). old.items ++ map rec_of (take (64 - vec_len old) (take (c.args.to - c.args.from) (drop c.args.from p.recs)))) (sym (at.its d))))
