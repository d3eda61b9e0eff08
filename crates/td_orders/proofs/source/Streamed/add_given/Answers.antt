use Rattle.std.proofs.Common.{◌≡◌, ℕ, List, Option, Some, None, drop, sym, ap, subst, ◌∙◌}
use Rattle.td_console.specs.declared.faults.LineFault.{LineFault}
use Rattle.td_orders.specs.Lines.{unread, line_in, TakesLine}
use Rattle.td_orders.specs.Scripts.{Streaming, place, script_in, script_ahead, SameScript}
use Rattle.td_orders.proofs.Scripts.{line_added, one_ahead}
use Rattle.td_orders.proofs.source.Streamed.add_given.Goals as goal

pub returns-in_ok-push_back-in-Ok-Some-clause-same : goal.returns-in_ok-push_back-in-Ok-Some-clause-same
returns-in_ok-push_back-in-Ok-Some-clause-same g c =
    let v = c.self.inside in
    let whole = unread (g.I.Source.remaining v.lines.reader) v.lines.unread in
    let left = unread (g.I.Source.remaining c.pass.new.self.reader) c.pass.new.self.unread in
    let line = line_in c.front.result.now in
    let next = place c.with_line-read.new.self in
    let before = v.ahead.items in
    let after = c.push_back.new.self.items in
    let rest : unread (g.I.Source.remaining v.lines.reader) (drop c.in-Some.end v.lines.unread) ≡ left =
    λ i. unread (g.I.Source.remaining (sym c.pass.ensures.reader i)) (sym c.pass.ensures.unread i) in
    let takes : TakesLine whole left (Some line) =
    subst (λ (l : Option (List ℕ)). TakesLine whole l (Some line)) rest
    (subst (λ (text : List ℕ). TakesLine whole (unread (g.I.Source.remaining v.lines.reader) (drop c.in-Some.end v.lines.unread)) (Some (line_in text))) (sym c.front.ensures) c.in-Some.ensures.1) in
    let completes = rw c.in-Ok-Some.field-0-is at c.in-Ok-Some.ensures.order in
    let same : SameScript (script_ahead whole (place v.reading) before None) (script_ahead left next after None) =
    line_added (place v.reading) next before after None whole left line takes (one_ahead (place v.reading) next line before after c.in-Ok-Some.order completes c.in_ok-push_back-in-Ok-Some.ensures.items) in
    let none : v.stopped ≡ None = ap (λ (s : Streaming). s.stopped) c.self.view_is ∙ c.requires in
    subst (λ (s : Streaming). SameScript (script_in s) (script_ahead left next after v.stopped)) c.self.view_is
    (subst (λ (s : Option (ℕ × LineFault)). SameScript (script_ahead whole (place v.reading) before s) (script_ahead left next after s)) (sym none) same)
