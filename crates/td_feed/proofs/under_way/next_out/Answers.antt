use Rattle.std.proofs.Common.{refl}
use Rattle.td_keeper.specs.declared.command.Command.TheVariants.{NextOut}
use Rattle.td_keeper.specs.declared.command.Reply.TheVariants.{Out}
use Rattle.td_feed.proofs.under_way.next_out.Goals as goal

pub returns-clause-driven : goal.returns-clause-driven
returns-clause-driven g c = (g.E.Obey.keeping c.next_out-out.new.self, c.known-2.ensures.keeper.kept, c.next_out-out.ensures.out, refl)

pub returns-clause-stays : goal.returns-clause-stays
returns-clause-stays g c =
    let old = g.E.Obey.keeping c.args.engine.now in
    let new = g.E.Obey.keeping c.next_out-out.new.self in
    let comes = c.known.ensures.resting NextOut (Out c.next_out-out.result) old new refl c.known.ensures.keeper c.known-2.ensures.keeper c.next_out-out.ensures.out c.requires.whole in
    record { rests = comes.rests refl; stands = comes.stands refl; base = comes.base }
