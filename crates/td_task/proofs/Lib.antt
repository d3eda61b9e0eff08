mod CutLists
mod Grouping
mod KeysWithItems
mod OneMore
mod SameValues
mod Sends
