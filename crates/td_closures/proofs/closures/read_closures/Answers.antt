use Rattle.std.specs.Prelude.{map}
use Rattle.std.proofs.Common.{Vec, Global}
use Rattle.td_formula.specs.declared.closure.Closure.{Closure}
use Rattle.td_closures.specs.Kept.{said_by}
use Rattle.td_closures.proofs.TextReading.{ok, refused, none}
use Rattle.td_closures.proofs.closures.read_closures.Goals as goal

pub returns-clause-ok : goal.returns-clause-ok
returns-clause-ok c = ok (λ (v : Vec Closure Global). map said_by v.items) c.args.text.now c.read_all.result c.read_all.ensures

pub returns-clause-refused : goal.returns-clause-refused
returns-clause-refused c = refused (λ (v : Vec Closure Global). map said_by v.items) c.args.text.now c.read_all.result c.read_all.ensures

pub returns-clause-none : goal.returns-clause-none
returns-clause-none c = none (λ (v : Vec Closure Global). map said_by v.items) c.args.text.now c.read_all.result c.read_all.ensures
