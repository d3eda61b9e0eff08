use Rattle.std.proofs.Common.{◌≡◌, ◌<◌, ◌∙◌, Bool, length, sym, ap, subst, arith, option_map}
use Rattle.std.specs.Prelude.{IfOk}
use Rattle.td_orders.specs.Lines.{unread}
use Rattle.td_orders.specs.Scripts.{Streaming, place, script_ahead, script_in, Asks, SameScript}
use Rattle.td_orders.specs.Placed.{placed, told_by, last_by}
use Rattle.td_orders.proofs.Placed.{same_then, taken_asks, asks_if_ok}
use Rattle.td_orders.proofs.source.StreamedAsking.next_asked.Goals as goal

pub returns-clause-asked : goal.returns-clause-asked
returns-clause-asked g c =
    let told = c.args.room.now.told in
    let last = c.args.room.now.last in
    let old = c.args.self.now in
    let mid = c.is_any_ahead.new.self in
    let new = c.read_ahead.new.self in
    let v = c.self.inside in
    let rest = unread (g.I.Source.remaining v.lines.reader) v.lines.unread in
    let after = c.take_asked-asked.new.orders.items in
    let left = script_ahead rest (place v.reading) after v.stopped in
    let any = c.in_ok-is_any_ahead.ensures.some c.if-not-branch.false in
    let same : SameScript (script_in old) (script_ahead rest (place v.reading) v.ahead.items v.stopped) =
    subst (λ (s : Streaming). SameScript (script_in old) (script_in s)) (sym c.self.view_is) (same_then (script_in old) (script_in mid) (script_in new) any.1 c.in_ok-read_ahead.ensures.same) in
    let some : 0 < length v.ahead.items = omega (arith, any.0, c.in_ok-read_ahead.ensures.grows, ap (λ (s : Streaming). length s.ahead) c.self.view_is) in
    let asks : Asks (script_in old) left c.take_asked-asked.result =
    taken_asks (script_in old) rest (place v.reading) v.ahead.items after v.stopped c.take_asked-asked.result same some c.take_asked-asked.ensures.some c.take_asked-asked.ensures.none in
    let refuses : v.refuses ≡ old.refuses = ap (λ (s : Streaming). s.refuses) c.self.view_is ∙ c.in_ok-read_ahead.ensures.refuses ∙ c.in_ok-is_any_ahead.ensures.refuses in
    subst (λ (b : Bool). IfOk c.asked_at_disk.result (λ there. Asks (option_map (placed b told last) (script_in old)) (option_map (placed v.refuses (told_by told last there) (last_by last there)) left) there)) refuses
    (asks_if_ok c.asked_at_disk.result v.refuses told last (script_in old) left c.take_asked-asked.result c.asked_at_disk.ensures.ok asks)
