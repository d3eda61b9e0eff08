use Rattle.td_head.proofs.First.{first_head}
use Rattle.td_head.proofs.laws.first_head_tells.Goals as goal

pub returns : goal.returns
returns c plan sizes image lawful h = first_head plan sizes image (c.canonical_text.ensures.spells plan lawful) (c.canonical_text.ensures.bytes plan lawful) h
