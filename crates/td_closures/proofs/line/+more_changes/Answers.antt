use Rattle.std.specs.Prelude.{◌-◌, map, Ok}
use Rattle.std.proofs.Common.{inr, ◌∙◌, Vec, Global}
use Rattle.td_formula.specs.declared.closure.Assignment.{Assignment}
use Rattle.td_closures.specs.Reading.{changes_of}
use Rattle.td_closures.specs.Kept.{assigned_by, next_by}
use Rattle.td_closures.proofs.Answered.{handed_on, answers_along}
use Rattle.td_closures.proofs.LineReading.{changes_none, changes_refused, changes_last, changes_more, changes_stray, map_push}
use Rattle.td_closures.proofs.line.+more_changes.Goals as goal

pub returns-then-most-eq0 : goal.returns-then-most-eq0
returns-then-most-eq0 t c = inr (changes_none c.args.verb c.args.most c.args.tokens.now (map assigned_by c.args.done.items) c.if-most-eq0.true)

pub returns-in_err-change : goal.returns-in_err-change
returns-in_err-change t c =
    handed_on (λ (v : Vec Assignment Global). map assigned_by v.items) c.in_err-change.field-0.0 c.from_residual.result (changes_of c.args.verb c.args.most c.args.tokens.now (map assigned_by c.args.done.items)) c.from_residual.ensures.1
    (changes_refused c.args.verb c.args.most c.args.tokens.now (map assigned_by c.args.done.items) c.in_err-change.field-0.0 c.if-most-eq0.false c.in_err-change.ensures)

pub returns-in_err-after : goal.returns-in_err-after
returns-in_err-after t c =
    handed_on (λ (v : Vec Assignment Global). map assigned_by v.items) c.in_err-after.field-0.0 c.from_residual-in_err-after.result (changes_of c.args.verb c.args.most c.args.tokens.now (map assigned_by c.args.done.items)) c.from_residual-in_err-after.ensures.1
    (changes_stray c.args.verb c.args.most c.args.tokens.now (map assigned_by c.args.done.items) (assigned_by c.in_ok-change.change, c.in_ok-change.rest.now) c.in_err-after.field-0.0 c.if-most-eq0.false c.in_ok-change.ensures c.in_err-after.ensures)

pub returns-in-None : goal.returns-in-None
returns-in-None t c =
    changes_last c.args.verb c.args.most c.args.tokens.now (map assigned_by c.args.done.items) (assigned_by c.in_ok-change.change, c.in_ok-change.rest.now) (map assigned_by c.push.new.self.items) c.if-most-eq0.false c.in_ok-change.ensures
    (c.in_ok-after.ensures ∙ (λ i. Ok (next_by (c.in-None.is i))))
    (map_push c.args.done.items c.push.new.self.items c.in_ok-change.change c.in_ok-push.ensures.items)

pub returns-in-Some : goal.returns-in-Some
returns-in-Some t c =
    answers_along (λ (v : Vec Assignment Global). map assigned_by v.items) c.more_changes.result
    (changes_of c.args.verb c.args.most c.args.tokens.now (map assigned_by c.args.done.items)) (changes_of c.args.verb (c.args.most - 1) c.in-Some.others.now (map assigned_by c.push.new.self.items))
    (changes_more c.args.verb c.args.most c.args.tokens.now (map assigned_by c.args.done.items) (assigned_by c.in_ok-change.change, c.in_ok-change.rest.now) c.in-Some.others.now (map assigned_by c.push.new.self.items) c.if-most-eq0.false c.in_ok-change.ensures
    (c.in_ok-after.ensures ∙ (λ i. Ok (next_by (c.in-Some.is i))))
    (map_push c.args.done.items c.push.new.self.items c.in_ok-change.change c.in_ok-push.ensures.items))
    c.more_changes.ensures
