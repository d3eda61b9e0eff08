use Rattle.std.proofs.Common.{◌≡◌, ◌-◌, length, take, ap, ◌∙◌, rules, SFits, to_z-of_z}
use Rattle.std.specs.Prelude.{fold}
use Rattle.std.specs.Int.{w128}
use Rattle.td_formula.specs.declared.expression.Name.TheVariants.{Lost}
use Rattle.td_formula.specs.Environments.{named}
use Rattle.td_formula.specs.Names.{with_name}
use Rattle.td_formula.specs.Closures.{records_of, after_items, sends}
use Rattle.td_formula.specs.Room.{with_record, settled}
use Rattle.td_formula.proofs.Steps.{at_the_end}
use Rattle.td_formula.proofs.closure.Closure.answer.Goals as goal

pub returns : goal.returns
returns c =
    let out = c.after_items-at.result.1.few.items in
    let lost = c.after_items-at.result.1.lost in
    let fits : SFits w128 lost = search rules in
    let eight : c.first_eight-sends.result.now ≡ sends c.args.self.now = c.first_eight-sends.ensures ∙ ap (take 8) c.deref.ensures.value in
    (λ k. (c.state.ensures k, c.send.new.out.few.items))
    ∙ at_the_end c.args.self.now (named c.args.start) (named c.after_items-at.result.0) (named c.set.new.self) c.args.items.now out c.send.new.out.few.items lost c.send.new.out.lost
    c.after_items-at.ensures.names
    (c.after_items-at.ensures.sent ∙ ap (λ lines. settled (8 - length lines) (after_items c.args.self.now (named c.args.start) c.args.items.now).1) eight)
    (c.set.ensures ∙ ap (with_name (named c.after_items-at.result.0) Lost) (to_z-of_z fits))
    (c.send.ensures ∙ ap (λ lines. fold (with_record 8) (out, lost) (records_of lines (named c.set.new.self))) eight)
