use Rattle.std.proofs.Common.{◌≡◌, take, ◌+◌, ap, ◌∙◌, pos}
use Rattle.std.specs.Prelude.{fold}
use Rattle.td_stamp.specs.declared.values.Item.{Item}
use Rattle.td_formula.specs.Environments.{named}
use Rattle.td_formula.specs.Closures.{with_lets, records_of, after_items}
use Rattle.td_formula.specs.Room.{with_record}
use Rattle.td_formula.proofs.Room.{settled_none}
use Rattle.td_formula.proofs.Steps.{names_more, sent_more}
use Rattle.td_formula.proofs.closure.Closure.after_items.Goals as goal

pub loop-item-init : goal.loop-item-init
loop-item-init c = record {
  names = c.with_lets-at.ensures ∙ ap (λ lines. with_lets lines (named c.args.start)) c.deref.ensures.value;
  sent = (λ k. (c.new-out.ensures.few k, c.new-out.ensures.lost k)) ∙ settled_none c.args.room;
}

pub loop-item-preserved : goal.loop-item-preserved
loop-item-preserved c =
    let none : Item = record { port = 0; val = pos 0 } in
    let names : named c.after_item.new.at ≡ (after_items c.args.self.now (named c.args.start) (take (c.loop-item.item-index + 1) c.args.items.now)).0 =
    names_more c.args.self.now (named c.args.start) (named c.loop-item.at) (named c.after_item.new.at) c.args.items.now c.loop-item.item-index none
    c.loop-item-test.true c.loop-item.invariant.names c.after_item.ensures in
    record {
      names = names;
      sent =
          sent_more c.args.self.now c.args.room (named c.args.start) (named c.after_item.new.at) c.args.items.now c.loop-item.item-index none
          (c.loop-item.out.few.items, c.loop-item.out.lost) (c.send.new.out.few.items, c.send.new.out.lost) c.loop-item-test.true names c.loop-item.invariant.sent
          (c.send.ensures
          ∙ ap (λ lines. fold (with_record c.args.room) (c.loop-item.out.few.items, c.loop-item.out.lost) (records_of lines (named c.after_item.new.at))) c.deref-in-loop-item.ensures.value);
    }
