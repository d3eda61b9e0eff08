use Rattle.std.proofs.Common.{[], ◌++◌, drop, refl, sym, arith, append-nil, length-append, length-drop}
use Rattle.td_store.proofs.standing.laws.standings_advance.Goals as goal

pub returns-clause-not_yet : goal.returns-clause-not_yet
returns-clause-not_yet g c nodes s x = record { k = 0; most = omega arith; epoch = omega arith; states = refl; last = refl; submitted = (x, refl) }

pub returns-clause-submitted : goal.returns-clause-submitted
returns-clause-submitted g c nodes s x = record { k = 0; most = omega arith; epoch = omega arith; states = refl; last = refl; submitted = ([], sym (append-nil (s.submitted ++ x))) }

pub returns-clause-cut : goal.returns-clause-cut
returns-clause-cut g c nodes s k le = record { k = k; most = le; epoch = refl; states = refl; last = refl; submitted = ([], sym (append-nil (drop k s.submitted))) }

pub returns-clause-holds : goal.returns-clause-holds
returns-clause-holds g c s n x holds = let e = length-append s.submitted x in omega (arith, e, holds)

pub returns-clause-holds_cut : goal.returns-clause-holds_cut
returns-clause-holds_cut g c s n k states le holds = let e = length-drop k s.submitted in omega (arith, e, le, holds)
