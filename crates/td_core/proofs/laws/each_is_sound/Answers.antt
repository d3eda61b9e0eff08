use Rattle.std.proofs.Common.{subst}
use Rattle.td_machine.specs.Reached.{IsReached}
use Rattle.td_machine.specs.Sound.{Sound}
use Rattle.td_core.proofs.laws.each_is_sound.Goals as goal

pub returns-clause-reached : goal.returns-clause-reached
returns-clause-reached g c = subst (IsReached g.L.Law.answers) c.hall.view_is c.hall.invariant.reached

pub returns-clause-sound : goal.returns-clause-sound
returns-clause-sound g c = subst (Sound g.L.Law.answers) c.hall.view_is (c.reached.ensures.sound _ c.hall.invariant.reached)
