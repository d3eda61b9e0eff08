use Rattle.std.proofs.Common.{◌≡◌, false, ◌+◌, ◌++◌, ◌∷◌, [], List, sym, ap, ◌∙◌, subst, arith, length, length-append}
use Rattle.std.proofs.lemmas.List.{map-id}
use Rattle.std.proofs.lemmas.Iterator.Consumers.{YieldsList-end}
use Rattle.std.proofs.lemmas.Iterator.Adapters.{YieldsList-from_vec}
use Rattle.td_plan.specs.Tree.{tree_of}
use Rattle.td_keeper.specs.declared.command.Command.{Command}
use Rattle.td_keeper.specs.declared.command.Reply.{Reply}
use Rattle.td_keeper.specs.Driven.{submitted_by, Advances, Driven, Drives}
use Rattle.td_keeper.proofs.Driving.{driven_more, driven_broken, driven_advances}
use Rattle.td_keeper.proofs.Failing.{driven_counted, driven_failed, driven_whole}
use Rattle.td_keeper.proofs.Handing.{driven_hands}
use Rattle.td_keeper.proofs.Receiving.{driven_rises}
use Rattle.td_keeper.proofs.Since.{from_start}
use Rattle.td_keeper.proofs.Submitting.{keeps_of}
use Rattle.td_keeper.proofs.keeper.Keeper.drive.Goals as goal

pub loop-command-preserved : goal.loop-command-preserved
loop-command-preserved g c =
    let inv = c.loop-command.invariant in
    let so_far = c.loop-command.yielded in
    let command = c.in-Some.command in record {
      driven = subst (λ (rs : List Reply). Driven g.D.Disk.view g.L.Law.answers (so_far ++ command ∷ []) rs c.args.self.now c.obey.new.self) (sym c.push_reserved.ensures.items)
          (driven_more g.D.Disk.view g.L.Law.answers so_far c.loop-command.replies.items command c.obey.result c.args.self.now c.loop-command.self c.obey.new.self inv.driven c.obey.ensures.obeyed c.each_is_kept-in-loop-command.ensures);
      count = ap length c.push_reserved.ensures.items ∙ (length-append c.loop-command.replies.items (c.obey.result ∷ []) ∙ (ap (λ n. n + 1) inv.count ∙ sym (length-append so_far (command ∷ []))));
      room = omega (arith, c.push_reserved.ensures.capacity, inv.room);
      size = c.obey.ensures.size ∙ inv.size;
      lawful = (λ l. c.obey.ensures.lawful.0 (inv.lawful.0 l), λ l. inv.lawful.1 (c.obey.ensures.lawful.1 l));
    }

pub returns-clause-counted : goal.returns-clause-counted
returns-clause-counted g c =
    driven_counted g.D.Disk.view g.L.Law.answers c.loop-command.yielded c.loop-command.replies.items c.args.self.now c.loop-command.self c.loop-command.invariant.driven

pub returns-clause-never_falls : goal.returns-clause-never_falls
returns-clause-never_falls g c =
    let law = c.last_request_never_falls.ensures in
    driven_rises g.D.Disk.view g.L.Law.answers law.submitted law.cut c.loop-command.yielded c.loop-command.replies.items c.args.self.now c.loop-command.self c.loop-command.invariant.driven

pub returns-clause-broken : goal.returns-clause-broken
returns-clause-broken g c is =
    (driven_broken g.D.Disk.view g.L.Law.answers c.loop-command.yielded c.loop-command.replies.items c.args.self.now c.loop-command.self c.loop-command.invariant.driven is).0

pub returns-clause-driven : goal.returns-clause-driven
returns-clause-driven g c =
    let view = g.D.Disk.view in
    let answers = g.L.Law.answers in
    let old = c.args.self.now in
    let new = c.loop-command.self in
    let all : List Command = c.args.commands.items in
    let yielded : List Command = c.loop-command.yielded in
    let replies = c.loop-command.replies.items in
    let driven = c.loop-command.invariant.driven in
    let given = c.into_iter-command-iterator.ensures.into_iter_gives in
    let source = YieldsList-from_vec all given.0 (given.1 ∙ c.args.commands.ok.0) in
    let end = YieldsList-end source yielded c.loop-command.command-iterator c.loop-command.yielded_by c.next.result c.next.new.self c.in-None.is c.next.ensures.steps in
    let same : yielded ≡ all = sym (map-id yielded) ∙ end.0 in
    let join = c.advances_join.ensures in
    let further : (g.D.Disk.view old.device).lawful → old.broken ≡ false → Advances g.D.Disk.view answers old new (submitted_by yielded replies) =
    driven_advances g.D.Disk.view answers join.submitted join.cut join.later join.last yielded replies old new c.each_is_kept.ensures driven in
    subst (λ (l : List Command). Drives g.D.Disk.view answers l replies old new) same
    (record {
      driven = driven;
      fails = driven_failed g.D.Disk.view answers yielded replies old new driven;
      whole = driven_whole g.D.Disk.view answers yielded replies old new driven;
      outputs = driven_hands g.D.Disk.view answers c.run_joins.ensures.outs join.last yielded replies old new c.each_is_kept.ensures driven;
      images = λ lawful whole.
          from_start answers old.plan c.told_in_parts.ensures.together old.head old.side old.standing (submitted_by yielded replies) (view old.device).state (view new.device).state
          (λ d. g.met.D.Disk.only_now old.device d lawful) (c.standings_advance.ensures.not_yet (tree_of old.plan) old.standing (submitted_by yielded replies))
          (keeps_of old.broken answers old.plan old.head old.side old.standing (view old.device).state whole (c.each_disk_holds.ensures lawful))
          ((further lawful whole).since whole);
      further = further;
    })
