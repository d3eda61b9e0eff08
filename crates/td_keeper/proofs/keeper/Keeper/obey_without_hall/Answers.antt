use Rattle.std.proofs.Common.{◌≡◌, ◌+◌, ap}
use Rattle.td_keeper.proofs.Obeying.{submit_obeys, submit_as_obeys, submit_all_obeys, write_obeys, close_obeys}
use Rattle.td_keeper.proofs.keeper.Keeper.obey_without_hall.Goals as goal

pub returns-in-Submit-clause-obeyed : goal.returns-in-Submit-clause-obeyed
returns-in-Submit-clause-obeyed g c =
    let e = c.submit.ensures in
    rw (c.in-Submit.is, c.of_submit.ensures) (submit_obeys g.D.Disk.view g.L.Law.answers c.args.self.now c.submit.new.self c.in-Submit.batch c.submit.result e.submitted e.refused e.back e.crash e.device)

pub returns-in-SubmitAs-clause-obeyed : goal.returns-in-SubmitAs-clause-obeyed
returns-in-SubmitAs-clause-obeyed g c =
    let e = c.submit_as.ensures in
    rw (c.in-SubmitAs.is, c.of_submit_as.ensures) (submit_as_obeys g.D.Disk.view g.L.Law.answers c.args.self.now c.submit_as.new.self c.in-SubmitAs.request c.in-SubmitAs.batch c.submit_as.result e.answered e.refused e.repeated e.back e.crash e.device)

pub returns-in-SubmitAll-clause-obeyed : goal.returns-in-SubmitAll-clause-obeyed
returns-in-SubmitAll-clause-obeyed g c =
    let e = c.submit_all-submitted.ensures in
    rw (c.in-SubmitAll.is, c.of_submit_all.ensures) (submit_all_obeys g.D.Disk.view g.L.Law.answers c.args.self.now c.submit_all-submitted.new.self c.in-SubmitAll.group c.submit_all-submitted.result _ (ap (λ n. n + 1) c.last_epoch.ensures) e.submitted e.refused e.back e.all_or_none e.crash e.device)

pub returns-in-WriteCut-clause-obeyed : goal.returns-in-WriteCut-clause-obeyed
returns-in-WriteCut-clause-obeyed g c =
    let e = c.write_cut.ensures in
    rw (c.in-WriteCut.is, c.of_write_cut.ensures) (write_obeys g.D.Disk.view g.L.Law.answers c.args.self.now c.write_cut.new.self c.write_cut.result e.written e.refused e.crash e.device)

pub returns-in-CloseFree-clause-obeyed : goal.returns-in-CloseFree-clause-obeyed
returns-in-CloseFree-clause-obeyed g c =
    let e = c.close_free.ensures in
    rw (c.in-CloseFree.is, c.of_close_free.ensures) (close_obeys g.D.Disk.view g.L.Law.answers c.args.self.now c.close_free.new.self c.in-CloseFree.most c.close_free.result e.closed e.refused e.crash e.device)
