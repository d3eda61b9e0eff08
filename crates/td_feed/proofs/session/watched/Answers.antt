use Rattle.std.proofs.Common.{refl}
use Rattle.td_feed.proofs.session.watched.Goals as goal

-- with no watch given, the one that the keeper has
pub returns-in_default-clause-aside : goal.returns-in_default-clause-aside
returns-in_default-clause-aside g c = (c.args.keeper.watch, refl)
