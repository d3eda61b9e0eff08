-- What the evaluator's bags stand for.
use Rattle.std.specs.Prelude.{ℕ, List, [], ◌++◌, replicate, Option, Some, None, Bool, true, false}
use Rattle.std.specs.Borrow.{Bor}
use Rattle.td_stamp.specs.declared.values.Rec.{Rec}
use Rattle.td_stamp.specs.declared.values.Entry.{Entry}
use Rattle.td_stamp.specs.Orders.{rec_cmp}
use Rattle.td_stamp.specs.Bag.{bag_of}
use Rattle.td_stamp.specs.Batch.{records_for}
use Rattle.td_stamp.specs.States.{StateList}
use Rattle.td_calls.specs.Answers.{Answers}
use Rattle.td_batch.specs.Meaning.{EpochInput, Bags}

-- what an epoch is computed from
abbrev pub input_of : Answers → StateList → List Entry → EpochInput
input_of answers states batch = record { answers = answers; states = states; batch = batch }

-- the bag of a vertex: what a batch gives an input, if it is one, and else a bag of its own
abbrev pub emitted_bag : Option (Bor (List Entry) × ℕ) → List Rec → List Rec
emitted_bag None own = own
emitted_bag (Some given) own = bag_of rec_cmp (records_for given.1 given.0.now)

-- records still to be listed: those that a batch gives, if a batch does, and else those of a bag
abbrev pub listed_records : Option (List Rec) → List Rec → List Rec
listed_records None own = own
listed_records (Some given) own = given

-- the bag that is lent, if one is
abbrev pub bag_or_none : Option (Bor (List Rec)) → List Rec
bag_or_none None = []
bag_or_none (Some bag) = bag.now

-- the bags of the turn before, from the first vertex of the loop on, by the numbers of all vertices; in the first turn none
abbrev pub bags_before : Bool → ℕ → Bags → Option Bags
bags_before true first bags = None
bags_before false first bags = Some (replicate first [] ++ bags)
