-- Entries as they are ranked, so that one order serves both ends.
use Rattle.std.specs.declared.cmp.Ordering.{Ordering}
use Rattle.std.specs.Ordering.{ordering_then, int_cmp}
use Rattle.td_stamp.specs.Orders.{state_key_cmp}
use Rattle.td_questions.specs.declared.ranks.Ranked.{Ranked}
use Rattle.td_questions.specs.declared.ranks.Order.{Order}
use Rattle.td_questions.specs.declared.ranks.Order.TheVariants.{FromLeast, FromGreatest}
use Rattle.td_questions.specs.Asked.{Entry, least_cmp, greatest_cmp}

-- the order of entries
abbrev pub order_of : Order → Entry → Entry → Ordering
order_of FromLeast = least_cmp
order_of FromGreatest = greatest_cmp

-- the order of ranked entries
abbrev pub ranked_cmp : Ranked → Ranked → Ordering
ranked_cmp x y = ordering_then (int_cmp x.weight y.weight) (ordering_then (state_key_cmp x.place y.place) (int_cmp x.b y.b))
