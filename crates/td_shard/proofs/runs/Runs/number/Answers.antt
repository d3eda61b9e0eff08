use Rattle.std.proofs.Common.{◌+◌, ◌-◌, ◌<◌, suc, get_or, drop, length, sym, ap, ◌∙◌, arith}
use Rattle.std.proofs.lemmas.List.{get_or-drop, get_or-take, get_or_default}
use Rattle.td_shard.specs.declared.runs.Numbered.{Numbered}
use Rattle.td_shard.specs.Runs.{Part}
use Rattle.td_shard.proofs.Placed.{placed, enough}
use Rattle.td_shard.proofs.runs.Runs.number.Goals as goal

pub overflow_sub-begin : goal.overflow_sub-begin
overflow_sub-begin c =
    let at = placed c.self.inside c.args.self.now c.args.place c.index.result.now c.self.invariant c.self.view_is c.requires.place c.index.ensures in
    at.where_it.low

pub overflow_add-begin : goal.overflow_add-begin
overflow_add-begin c =
    let at = placed c.self.inside c.args.self.now c.args.place c.index.result.now c.self.invariant c.self.view_is c.requires.place c.index.ensures in
    let there = enough c.self.inside c.args.self.now c.args.place (suc c.args.offset) c.index.result.now at (λ d. omega (arith, c.requires.offset d)) in
    omega (arith, there, at.fits, at.where_it.low, at.where_it.some, c.self.invariant.rec_numbers)

pub index-requires-2 : goal.index-requires-2
index-requires-2 c =
    let at = placed c.self.inside c.args.self.now c.args.place c.index.result.now c.self.invariant c.self.view_is c.requires.place c.index.ensures in
    let there = enough c.self.inside c.args.self.now c.args.place (suc c.args.offset) c.index.result.now at (λ d. omega (arith, c.requires.offset d)) in
    omega (arith, there, at.fits, at.where_it.low, at.where_it.some)

pub returns : goal.returns
returns c d e =
    let m = c.self.inside in
    let r = c.index.result.now in
    let at = placed m c.args.self.now c.args.place r c.self.invariant c.self.view_is c.requires.place c.index.ensures in
    let there = enough m c.args.self.now c.args.place (suc c.args.offset) r at (λ p. omega (arith, c.requires.offset p)) in
    let o = c.args.offset in
    let xs = m.recs.items in
    let begin = r.at - m.start in
    let within : begin + o < length xs = omega (arith, there, at.fits, at.where_it.low, at.where_it.some, m.recs.ok.0) in
    ap (λ (x : Numbered). x.number) (c.index-2.ensures ∙ (get_or_default xs (begin + o) c.index-2.result.now e within
    ∙ (sym (get_or-drop begin xs o e) ∙ (sym (get_or-take (r.end - r.at) (drop begin xs) o e (omega (arith, there))) ∙ ap (λ (p : Part). get_or p.recs o e) (sym (at.its d))))))
