use Rattle.td_store.proofs.standing.Moments.{cleared_since, tells_submitted, tells_replaced}
use Rattle.td_store.proofs.standing.laws.submit_is_safe.Goals as goal

pub returns-clause-cleared : goal.returns-clause-cleared
returns-clause-cleared g c plan head side s e old mid room each safe =
    let view = g.D.Disk.view in
    cleared_since plan head side s e room c.following_is_cleared.ensures.begun (view old).state (view mid).state each safe

pub returns-clause-begun : goal.returns-clause-begun
returns-clause-begun g c plan head side s e x old mid new room fresh ok each lawful clears gone puts =
    let view = g.D.Disk.view in
    let laws = g.met.D.Disk in
    tells_submitted plan head side s e room x fresh ok c.following_is_cleared.ensures.begun c.next_is_submitted.ensures.begun (view old).state (view mid).state (view new).state
    (λ t f. laws.counts_now mid t f lawful) each clears gone puts

pub returns-clause-done : goal.returns-clause-done
returns-clause-done g c plan head side s e x old mid new room fresh ok each lawful still clears gone puts is_open =
    let view = g.D.Disk.view in
    let laws = g.met.D.Disk in
    tells_replaced plan head side s e room x fresh ok c.following_is_cleared.ensures.begun c.next_is_submitted.ensures.done (view old).state (view mid).state (view new).state
    (λ t f. laws.counts_now mid t f lawful) (λ t f. laws.counts_now new t f still) each clears gone puts is_open
