use Rattle.td_plan.specs.Text.{text_lines}
use Rattle.td_orders.specs.Orders.{no_orders}
use Rattle.td_orders.proofs.Scripts.{script_is}
use Rattle.td_orders.proofs.Unplaced.{same_anywhere}
use Rattle.td_orders.proofs.laws.scripts.Goals as goal

pub returns-clause-read : goal.returns-clause-read
returns-clause-read c plan input orders is = script_is plan 1 no_orders (text_lines input) orders is

pub returns-clause-anywhere : goal.returns-clause-anywhere
returns-clause-anywhere c hold questions copies limit plan input refuse told last = same_anywhere hold questions copies limit plan input refuse told last
