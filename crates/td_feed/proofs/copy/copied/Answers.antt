use Rattle.std.proofs.Common.{◌≡◌, ◌∷◌, [], Bool, sym, ap, ◌∙◌, subst}
use Rattle.td_plan.specs.Lines.{Line}
use Rattle.std.specs.Prelude.{List}
use Rattle.td_store.specs.standing.Standing.{Standing}
use Rattle.td_store.specs.standing.Tells.{Keeps, first_head}
use Rattle.td_store.specs.standing.Read.{standing_of}
use Rattle.td_store.specs.standing.Advanced.{HeldWhere}
use Rattle.td_store.specs.copy.Copied.{IsRising}
use Rattle.td_feed.specs.Copied.{with_copies}
use Rattle.td_feed.proofs.copy.copied.Goals as goal

pub returns-in-Ok-write_told-clause-copied : goal.returns-in-Ok-write_told-clause-copied
returns-in-Ok-write_told-clause-copied g c =
    let k = c.args.keeper.now in
    let told = c.in-Ok.told in
    let disk = c.write_told.new.device in
    let stands : standing_of told ≡ k.standing = c.in-Ok.ensures.told in (
      c.last_epoch-epoch.ensures,
      (
        disk,
        c.keep.ensures.copies ∙ ap (λ had. with_copies had (record { name = c.args.copy.now.name; epoch = c.last_epoch-epoch.result; disk = disk } ∷ [])) c.make.ensures.copies,
        λ lawful new_lawful.
            let held : Keeps k.plan k.head k.side k.standing (g.D.Disk.view k.device).state =
            subst (λ (b : Bool). HeldWhere b g.L.Law.answers k.plan k.head k.side k.standing (g.D.Disk.view k.device).state) c.requires.whole (c.each_disk_holds.ensures lawful) in
            let rising : IsRising k.standing = c.told_rises.ensures k.plan k.head k.side k.standing (g.D.Disk.view k.device).state.bytes held.tells in
            subst (λ (p : List Line). Keeps p (first_head c.args.copy.now.shape) 0 k.standing (g.H.New.Disk.view disk).state) c.plan.ensures
            (subst (λ (s : Standing). Keeps c.plan.result.now (first_head c.args.copy.now.shape) 0 s (g.H.New.Disk.view disk).state) stands
            (c.in-Ok-write_told.ensures.copied (c.write_told.ensures.device.lawful.1 new_lawful) (subst IsRising (sym stands) rising))),
      ),
    )

pub check_room-requires : goal.check_room-requires
check_room-requires g c = record { small = c.in-Ok.ensures.may_stand.small }
