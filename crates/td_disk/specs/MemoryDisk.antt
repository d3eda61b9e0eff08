use Rattle.td_disk.specs.declared.memory.MemoryDisk.{MemoryDisk}
use Rattle.td_disk.specs.Record.{Contents, replay, synced}

-- what is read of a disk in memory, what the last sync left, and the ranges written since
abbrev pub contents_of : MemoryDisk → Contents
contents_of m = replay (synced m.initial.items) m.calls.items
