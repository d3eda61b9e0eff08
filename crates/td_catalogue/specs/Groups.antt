-- THE GROUPS of the second shelf: which one a code is, and what it sends. A parameter stands in the code's last digit.
use Rattle.std.specs.Prelude.{ℕ, ◌-◌, ◌==◌, if◌then◌else◌, pos, min, List, map, Option, Some, None}
use Rattle.td_stamp.specs.declared.values.Rec.{Rec}
use Rattle.td_stamp.specs.declared.values.Item.{Item}
use Rattle.td_calls.specs.Stock.{sum_from, single}
use Rattle.td_catalogue.specs.declared.group_step.GroupStep.{GroupStep}
use Rattle.td_catalogue.specs.declared.group_step.GroupStep.TheVariants as groups
use Rattle.td_catalogue.specs.Values.{is_between, count_of, last_items, runs, eight_from, pair_at, averaged}

abbrev pub group_of : ℕ → Option GroupStep
group_of code =
    if code == 9100 then Some groups.DistinctValues else (if is_between 9101 9108 code then Some (groups.GreatestValues (code - 9100)) else (if code == 9109 then Some groups.Average else (if is_between 9110 9119 code then Some (groups.Pairs (code - 9110)) else None)))

-- what a group sends of a key and its sorted items
abbrev pub group_sent : GroupStep → ℕ → List Item → List Rec
group_sent groups.DistinctValues key items = single key (runs items)
group_sent (groups.GreatestValues n) key items = map (λ i. record { key = key; val = i.val }) (last_items (min n 8) items)
group_sent groups.Average key items = averaged key (sum_from (pos 0) items) (count_of items)
group_sent (groups.Pairs i) key items = eight_from i (pair_at items)
