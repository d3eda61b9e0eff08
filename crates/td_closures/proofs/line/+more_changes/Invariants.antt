use Rattle.td_closures.proofs.line.+more_changes.Given as goal

abbrev pub decreases-more_changes : goal.decreases-more_changes
decreases-more_changes l = l.most
