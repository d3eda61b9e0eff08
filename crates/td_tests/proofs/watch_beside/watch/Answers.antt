use Rattle.std.proofs.Common.{◌≡◌, ap}
use Rattle.td_tests.proofs.watch_beside.watch.Goals as goal

pub returns-in-Some-Some-clause-words : goal.returns-in-Some-Some-clause-words
returns-in-Some-Some-clause-words c = c.in_ok-writer.ensures.words

pub returns-in-Some-Some-clause-first : goal.returns-in-Some-Some-clause-first
returns-in-Some-Some-clause-first c =
    let is : c.in-Some-Some.first ≡ c.in_ok-writer.field-0.writer = rw c.in-Some-Some.is-0 at c.last_reader-first.ensures.last in
    ap (λ v. v.watch) is

pub returns-in-Some-Some-clause-second : goal.returns-in-Some-Some-clause-second
returns-in-Some-Some-clause-second c =
    let is : c.in-Some-Some.second ≡ c.in_ok-writer.field-0.writer = rw c.in-Some-Some.is-1 at c.last_reader-second.ensures.last in
    ap (λ v. v.watch) is
