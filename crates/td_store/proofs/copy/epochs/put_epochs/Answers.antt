use Rattle.std.proofs.Common.{◌≡◌, ℕ, ◌+◌, ◌<◌, ◌≤◌, ◌^◌, true, List, [], ◌∷◌, ◌++◌, length, take, get_or, refl, sym, ap, ◌∙◌, subst, arith, length-append}
use Rattle.std.specs.Prelude.{All, Some}
use Rattle.std.proofs.lemmas.List.{take_all}
use Rattle.std.proofs.lemmas.List.Elements.{All-take, All-get_or}
use Rattle.std.proofs.lemmas.Result.{on_ok_weaker}
use Rattle.std.proofs.Math.Seq.{take-append_seam, get_or-append_seam}
use Rattle.td_plan.specs.Lines.{Line}
use Rattle.td_disk.specs.Disk.{IsDurable}
use Rattle.td_head.specs.Layout.{Sizes}
use Rattle.td_journal.specs.declared.journal.Journal.{Journal}
use Rattle.td_journal.specs.declared.payload.Submitted.{Submitted}
use Rattle.td_journal.specs.Cell.{is_batch}
use Rattle.td_journal.specs.Numbers.{rise}
use Rattle.td_store.specs.standing.Standing.{Standing, with_more}
use Rattle.td_store.specs.standing.Told.{inputs_of, ring_of}
use Rattle.td_store.specs.standing.Tells.{HasRoom, IsFresh}
use Rattle.td_store.specs.copy.Copied.{EachHasNoHead, HasNoHead, HasParts}
use Rattle.td_store.proofs.copy.Rising.{has_room, is_fresh, one_further, rise_take}
use Rattle.td_store.proofs.copy.Steps.{opens_in_turn}
use Rattle.td_store.proofs.copy.Zeroed.{no_head_in_turn, synced_no_head}
use Rattle.td_store.proofs.copy.epochs.put_epochs.Goals as goal

pub returns-clause-no_head : goal.returns-clause-no_head
returns-clause-no_head g c lawful sizes kept ring durable none =
    let view = g.D.Disk.view in
    let old = (view c.args.device.now).state in
    let mid = (view c.write_epochs.new.device).state in
    let synced = (view c.sync.new.self).state in
    let each : EachHasNoHead old = λ image left. subst HasNoHead (sym (durable image left)) none in
    let still = c.in_ok-write_epochs.ensures.device.lawful.0 lawful in
    let also = c.in_ok-sync.ensures.lawful.0 still in
    let so_far = no_head_in_turn old mid synced (c.in_ok-write_epochs.ensures.no_head lawful each) (synced_no_head mid synced (c.in_ok-sync.ensures.images still) (c.in_ok-sync.ensures.time still)) in
    opens_in_turn old synced (view c.put_epoch.new.device).state so_far.1
    (c.put_epoch.ensures.no_head also sizes kept ring (c.in_ok-sync.ensures.durable still) (so_far.0 synced.bytes (g.met.D.Disk.reads_image c.sync.new.self also)))

pub returns-clause-durable : goal.returns-clause-durable
returns-clause-durable g c =
    let view = g.D.Disk.view in
    let synced = c.sync.new.self in
    let new = c.put_epoch.new.device in
    on_ok_weaker c.put_epoch.result (λ (next : (g.D.Disk.view synced).lawful → IsDurable (view synced).state → IsDurable (view new).state) lawful durable.
    let still = c.in_ok-write_epochs.ensures.device.lawful.0 lawful in
    next (c.in_ok-sync.ensures.lawful.0 still) (c.in_ok-sync.ensures.durable still)) c.put_epoch.ensures.durable

pub returns-clause-put : goal.returns-clause-put
returns-clause-put g c =
    let view = g.D.Disk.view in
    let synced = c.sync.new.self in
    let new = c.put_epoch.new.device in
    let j = c.args.journal.now in
    let w = c.args.submitted.now in
    let before = c.in-Some.before.now in
    let x = c.in-Some.last.now in
    let i = length before in
    let e = j.kept + length w in
    let whole : w ≡ before ++ x ∷ [] = c.in-Some.ensures.cases.0 in
    let many : length w ≡ i + 1 = ap length whole ∙ length-append before (x ∷ []) in
    let lt : i < length w = omega (arith, many) in
    let first : take i w ≡ before = ap (take i) whole ∙ take-append_seam before (x ∷ []) in
    let is : x ≡ get_or w i x = sym (ap (λ (l : List Submitted). get_or l i x) whole ∙ get_or-append_seam before x [] x) in
    on_ok_weaker c.put_epoch.result
    (λ (next : (g.D.Disk.view synced).lawful → (plan : List Line) (sizes : Sizes) (s : Standing) → j ≡ ring_of sizes s.epoch → HasRoom sizes s e → IsFresh 2 s x.request
    → is_batch (inputs_of plan) x.batch ≡ true → IsDurable (view synced).state → HasParts plan sizes s (view synced).state.bytes → HasParts plan sizes (with_more s (x ∷ [])) (view new).state.bytes)
    lawful plan sizes s ring empty few rising valid durable closed parts.
    let still = c.in_ok-write_epochs.ensures.device.lawful.0 lawful in
    let kept : j.kept ≡ s.epoch = ap (λ (k : Journal). k.kept) ring in
    let batch = subst (λ (y : Submitted). is_batch (inputs_of plan) y.batch ≡ true) (sym is) (All-get_or (λ (y : Submitted). is_batch (inputs_of plan) y.batch ≡ true) w i x lt valid) in
    let rises : rise (Some s.last) before ≡ true = ap (rise (Some s.last)) (sym first) ∙ rise_take c.numbers.ensures.one_more (Some s.last) w i rising in
    let batches : All (λ (y : Submitted). is_batch (inputs_of plan) y.batch ≡ true) before =
    subst (λ (l : List Submitted). All (λ (y : Submitted). is_batch (inputs_of plan) y.batch ≡ true) l) first (All-take (λ (y : Submitted). is_batch (inputs_of plan) y.batch ≡ true) i w valid) in
    let so_far : HasParts plan sizes (with_more s before) (view synced).state.bytes =
    subst (λ (l : List ℕ). HasParts plan sizes (with_more s before) l) (sym (c.in_ok-sync.ensures.same still))
    (c.in_ok-write_epochs.ensures.put lawful plan sizes s ring empty (omega (arith, many, few)) rises batches closed parts) in
    let all : HasParts plan sizes (with_more (with_more s (take i w)) (x ∷ [])) (view new).state.bytes =
    next (c.in_ok-sync.ensures.lawful.0 still) plan sizes (with_more s (take i w)) ring
    (has_room s empty w i x is lt sizes e (omega (arith, kept, many)) (omega (arith, c.requires.small)) few) (is_fresh s empty w i x is lt c.numbers.ensures.one_more rising) batch
    (c.in_ok-sync.ensures.durable still) (subst (λ (l : List Submitted). HasParts plan sizes (with_more s l) (view synced).state.bytes) (sym first) so_far) in
    subst (λ (l : List Submitted). HasParts plan sizes (with_more s l) (view new).state.bytes) (take_all (i + 1) w (omega (arith, many)))
    (subst (λ (z : Standing). HasParts plan sizes z (view new).state.bytes) (one_further s empty w i x is lt) all)) c.put_epoch.ensures.put
