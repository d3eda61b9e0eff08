use Rattle.td_head.proofs.Raised.{begun, done}
use Rattle.td_head.proofs.laws.other_head_is_put.Goals as goal

pub returns-clause-begun : goal.returns-clause-begun
returns-clause-begun c canonical plan old new h lawful is text small put =
    begun plan (c.canonical_text.ensures.spells plan lawful) (c.canonical_text.ensures.bytes plan lawful) c.put_leaves_others.ensures canonical old new h is text small put

pub returns-clause-done : goal.returns-clause-done
returns-clause-done c canonical plan old new h lawful is text small put =
    done plan (c.canonical_text.ensures.spells plan lawful) (c.canonical_text.ensures.bytes plan lawful) c.put_leaves_others.ensures canonical old new h is text small put
