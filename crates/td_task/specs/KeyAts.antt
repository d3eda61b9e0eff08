-- A key that is notified, as the core machine has it.
use Rattle.td_machine.specs.State.{KeyItems}
use Rattle.td_task.specs.declared.keyed.KeyAt.{KeyAt}

abbrev pub key_items : KeyAt → KeyItems
key_items at = record { key = at.key; items = at.items.now; state = at.state }
