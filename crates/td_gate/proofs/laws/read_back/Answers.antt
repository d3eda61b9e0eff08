use Rattle.std.proofs.Common.{[], refl}
use Rattle.td_gate.specs.Reading.{number_behind, signed_behind, front_back, front_past, front_size}
use Rattle.td_gate.proofs.laws.read_back.Goals as goal

pub returns-clause-number : goal.returns-clause-number
returns-clause-number c n x rest fits = number_behind n 0 x [] rest refl fits

pub returns-clause-signed : goal.returns-clause-signed
returns-clause-signed c z rest fits = signed_behind 0 z [] rest refl fits

pub returns-clause-front : goal.returns-clause-front
returns-clause-front c f rest fits = front_back f rest fits

pub returns-clause-past : goal.returns-clause-past
returns-clause-past c f rest = front_past f rest

pub returns-clause-size : goal.returns-clause-size
returns-clause-size c f = front_size f
