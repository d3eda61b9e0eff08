use Rattle.std.proofs.Common.{ℕ, List, sym, ◌∙◌, subst, arith, rules}
use Rattle.td_live.specs.Readings.{LastReadings}
use Rattle.td_live.proofs.Counted.{counts_ok, counts_busy, counts_device, rewritten}
use Rattle.td_live.proofs.take.take_snapshot.Goals as goal

pub returns-in_err-read_until_alike-clause-failures :
    goal.returns-in_err-read_until_alike-clause-failures
returns-in_err-read_until_alike-clause-failures g c =
    let put = c.in_err-read_until_alike.ensures.failures in
    counts_device _ _ _ (search rules) put.later put.rises

pub returns-then-branch-clause-failures : goal.returns-then-branch-clause-failures
returns-then-branch-clause-failures g c = counts_ok c.of.result _ _ c.in_ok-read_until_alike.ensures.failures.stays

pub returns-then-branch-clause-alike : goal.returns-then-branch-clause-alike
returns-then-branch-clause-alike g c =
    let bytes = c.read_until_alike.new.bytes in
    subst (λ (bs : List ℕ). LastReadings g.D.Disk.read_gives 3 bs c.read_until_alike.new.disk)
    (sym (c.of.ensures.bytes ∙ rewritten c.in_ok-bytes.bytes.items bytes c.in_ok-bytes.bytes.len (omega arith)))
    (c.in_ok-read_until_alike.ensures.alike c.if-branch.true)

pub returns-then-branch-clause-lawful : goal.returns-then-branch-clause-lawful
returns-then-branch-clause-lawful g c l =
    let bytes = c.read_until_alike.new.bytes in
    c.of.ensures.bytes ∙ rewritten c.in_ok-bytes.bytes.items bytes c.in_ok-bytes.bytes.len (omega arith) ∙ c.in_ok-read_until_alike.ensures.lawful c.if-branch.true l

pub returns-else-branch-clause-failures : goal.returns-else-branch-clause-failures
returns-else-branch-clause-failures g c = counts_busy _ _ c.in_ok-read_until_alike.ensures.failures.stays
