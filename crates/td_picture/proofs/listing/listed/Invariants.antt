use Rattle.std.proofs.Common.{◌≡◌, ◌++◌, drop}
use Rattle.std.specs.Prelude.{string_bytes}
use Rattle.td_plan.specs.Marks.{lines_of_marks}
use Rattle.td_picture.specs.Listed.{listing_of}
use Rattle.td_picture.proofs.listing.listed.Given as goal

-- with the lines that are left it is the whole listing
abbrev pub invariant-loop-mark : goal.invariant-loop-mark
invariant-loop-mark l = string_bytes l.text ++ listing_of (lines_of_marks (drop l.mark-index l.mark-items) l.left) ≡ listing_of l.plan
