use Rattle.std.proofs.Common.{◌≡◌, ℕ, suc, ◌+◌, ◌%◌, ◌<◌, ◌≤◌, ◌^◌, List, [], length, sym, ◌∙◌, subst, arith}
use Rattle.td_gate.specs.CrashSafe.{CrashSafe}
use Rattle.td_gate.specs.declared.region.Region.{Region}
use Rattle.td_gate.specs.Region.{IsOpen, Puts}
use Rattle.td_gate.specs.Regions.{Replaces}
use Rattle.td_journal.specs.declared.journal.Journal.{Journal}
use Rattle.td_journal.specs.Cell.{cell_of, cell_bytes, IsCellBatch}
use Rattle.td_journal.specs.Images.{Clears, IsGone, NothingFollows}
use Rattle.td_store.specs.standing.Told.{inputs_of, ring_of}
use Rattle.td_store.specs.copy.Copied.{HasParts}
use Rattle.td_store.proofs.copy.Steps.{Behind, opens_none, opens_in_turn, no_head_after, clears_put, safe_as, read_step}
use Rattle.td_store.proofs.copy.Parts.{cleared_parts, next_parts}
use Rattle.td_store.proofs.copy.epochs.put_epoch.Goals as goal

pub returns-in_err-clear-clause-no_head : goal.returns-in_err-clear-clause-no_head
returns-in_err-clear-clause-no_head g c lawful sizes kept ring durable none =
    let view = g.D.Disk.view in
    let old = c.args.device.now in
    let mid = c.clear.new.device in
    let j = c.args.journal.now in
    let e = c.args.epoch in
    let r = cell_of j (e + 1) in
    let behind : Behind r = subst (λ (k : Journal). Behind (cell_of k (e + 1))) (sym ring) (c.parts_are_apart.ensures.heads_cells sizes kept ((e + 1) % sizes.n)) in
    let clears = c.in_err-clear.ensures.crash_safe lawful (c.durable_is_settled.ensures old r durable) in
    opens_none c.put_leaves_others.ensures r [] behind (view old).state (view mid).state durable none (safe_as (Clears j (e + 1)) (Puts r []) (clears_put j (e + 1)) (view old).state (view mid).state clears)

pub returns-in_err-put-clause-no_head : goal.returns-in_err-put-clause-no_head
returns-in_err-put-clause-no_head g c lawful sizes kept ring durable none =
    let view = g.D.Disk.view in
    let laws = g.met.D.Disk in
    let old = c.args.device.now in
    let mid = c.clear.new.device in
    let new = c.put.new.device in
    let j = c.args.journal.now in
    let e = c.args.epoch in
    let r = cell_of j (e + 1) in
    let behind : Behind r = subst (λ (k : Journal). Behind (cell_of k (e + 1))) (sym ring) (c.parts_are_apart.ensures.heads_cells sizes kept ((e + 1) % sizes.n)) in
    let clears = c.in_ok-clear.ensures.crash_safe lawful (c.durable_is_settled.ensures old r durable) in
    let put = safe_as (Clears j (e + 1)) (Puts r []) (clears_put j (e + 1)) (view old).state (view mid).state clears in
    let still = c.in_ok-clear.ensures.device.lawful.0 lawful in
    let now = laws.counts_now mid (view old).state.moment (view mid).state.bytes still clears.later (laws.reads_image mid still) in
    let durable_mid = c.in_ok-clear.ensures.durable tt lawful durable in
    let none_mid = no_head_after c.put_leaves_others.ensures r [] behind (view old).state.bytes (view mid).state.bytes (read_step (Puts r []) (view old).state (view mid).state durable put now) none in
    let s = c.cell_of.result in
    let place : s ≡ cell_of (ring_of sizes kept) e = subst (λ (k : Journal). s ≡ cell_of k e) ring c.cell_of.ensures.region in
    let behind_cell : Behind s = subst Behind (sym place) (c.parts_are_apart.ensures.heads_cells sizes kept (e % sizes.n)) in
    opens_in_turn (view old).state (view mid).state (view new).state
    (opens_none c.put_leaves_others.ensures r [] behind (view old).state (view mid).state durable none put)
    (opens_none c.put_leaves_others.ensures s c.deref.result.now behind_cell (view mid).state (view new).state durable_mid none_mid
    (c.in_err-put.ensures.crash_safe still (c.durable_is_settled.ensures mid s durable_mid)))

pub returns-clause-no_head : goal.returns-clause-no_head
returns-clause-no_head g c lawful sizes kept ring durable none =
    let view = g.D.Disk.view in
    let laws = g.met.D.Disk in
    let old = c.args.device.now in
    let mid = c.clear.new.device in
    let new = c.put.new.device in
    let j = c.args.journal.now in
    let e = c.args.epoch in
    let r = cell_of j (e + 1) in
    let behind : Behind r = subst (λ (k : Journal). Behind (cell_of k (e + 1))) (sym ring) (c.parts_are_apart.ensures.heads_cells sizes kept ((e + 1) % sizes.n)) in
    let clears = c.in_ok-clear.ensures.crash_safe lawful (c.durable_is_settled.ensures old r durable) in
    let put = safe_as (Clears j (e + 1)) (Puts r []) (clears_put j (e + 1)) (view old).state (view mid).state clears in
    let still = c.in_ok-clear.ensures.device.lawful.0 lawful in
    let now = laws.counts_now mid (view old).state.moment (view mid).state.bytes still clears.later (laws.reads_image mid still) in
    let durable_mid = c.in_ok-clear.ensures.durable tt lawful durable in
    let none_mid = no_head_after c.put_leaves_others.ensures r [] behind (view old).state.bytes (view mid).state.bytes (read_step (Puts r []) (view old).state (view mid).state durable put now) none in
    let s = c.cell_of.result in
    let place : s ≡ cell_of (ring_of sizes kept) e = subst (λ (k : Journal). s ≡ cell_of k e) ring c.cell_of.ensures.region in
    let behind_cell : Behind s = subst Behind (sym place) (c.parts_are_apart.ensures.heads_cells sizes kept (e % sizes.n)) in
    opens_in_turn (view old).state (view mid).state (view new).state
    (opens_none c.put_leaves_others.ensures r [] behind (view old).state (view mid).state durable none put)
    (opens_none c.put_leaves_others.ensures s c.deref.result.now behind_cell (view mid).state (view new).state durable_mid none_mid
    (c.in_ok-put.ensures.crash_safe still (c.durable_is_settled.ensures mid s durable_mid)))

pub returns-clause-head : goal.returns-clause-head
returns-clause-head g c lawful sizes kept ring durable none =
    let view = g.D.Disk.view in
    let laws = g.met.D.Disk in
    let old = c.args.device.now in
    let mid = c.clear.new.device in
    let new = c.put.new.device in
    let j = c.args.journal.now in
    let e = c.args.epoch in
    let r = cell_of j (e + 1) in
    let behind : Behind r = subst (λ (k : Journal). Behind (cell_of k (e + 1))) (sym ring) (c.parts_are_apart.ensures.heads_cells sizes kept ((e + 1) % sizes.n)) in
    let clears = c.in_ok-clear.ensures.crash_safe lawful (c.durable_is_settled.ensures old r durable) in
    let put = safe_as (Clears j (e + 1)) (Puts r []) (clears_put j (e + 1)) (view old).state (view mid).state clears in
    let still = c.in_ok-clear.ensures.device.lawful.0 lawful in
    let now = laws.counts_now mid (view old).state.moment (view mid).state.bytes still clears.later (laws.reads_image mid still) in
    let durable_mid = c.in_ok-clear.ensures.durable tt lawful durable in
    let none_mid = no_head_after c.put_leaves_others.ensures r [] behind (view old).state.bytes (view mid).state.bytes (read_step (Puts r []) (view old).state (view mid).state durable put now) none in
    let s = c.cell_of.result in
    let place : s ≡ cell_of (ring_of sizes kept) e = subst (λ (k : Journal). s ≡ cell_of k e) ring c.cell_of.ensures.region in
    let behind_cell : Behind s = subst Behind (sym place) (c.parts_are_apart.ensures.heads_cells sizes kept (e % sizes.n)) in
    let safe = c.in_ok-put.ensures.crash_safe still (c.durable_is_settled.ensures mid s durable_mid) in
    let also = c.in_ok-put.ensures.device.lawful.0 still in
    let now_2 = laws.counts_now new (view mid).state.moment (view new).state.bytes also safe.later (laws.reads_image new also) in
    no_head_after c.put_leaves_others.ensures s c.deref.result.now behind_cell (view mid).state.bytes (view new).state.bytes
    (read_step (Puts s c.deref.result.now) (view mid).state (view new).state durable_mid safe now_2) none_mid

pub returns-clause-put : goal.returns-clause-put
returns-clause-put g c lawful plan sizes s ring room fresh valid durable parts =
    let view = g.D.Disk.view in
    let laws = g.met.D.Disk in
    let others = c.put_leaves_others.ensures in
    let heads = c.parts_are_apart.ensures.heads_cells in
    let apart = c.parts_are_apart.ensures.slots_cells in
    let tell = c.slots_tell.ensures in
    let old = c.args.device.now in
    let mid = c.clear.new.device in
    let new = c.put.new.device in
    let j = c.args.journal.now in
    let e = c.args.epoch in
    let x = c.args.submitted.now in
    let at = ring_of sizes s.epoch in
    let next : e + 1 ≡ suc e = omega arith in
    let still = c.in_ok-clear.ensures.device.lawful.0 lawful in
    let settled = c.durable_is_settled.ensures old (cell_of j (e + 1)) durable in
    let clears : CrashSafe (Clears at (suc e)) (view old).state (view mid).state =
    subst (λ (k : Journal). CrashSafe (Clears k (suc e)) (view old).state (view mid).state) ring
    (subst (λ (n : ℕ). CrashSafe (Clears j n) (view old).state (view mid).state) next (c.in_ok-clear.ensures.crash_safe lawful settled)) in
    let gone : IsGone at (suc e) (view mid).state =
    subst (λ (k : Journal). IsGone k (suc e) (view mid).state) ring
    (subst (λ (n : ℕ). IsGone j n (view mid).state) next (c.in_ok-clear.ensures.gone lawful settled)) in
    let read_mid = laws.reads_image mid still in
    let nothing : NothingFollows at (view mid).state.bytes e = gone (view mid).state.bytes read_mid in
    let now = laws.counts_now mid (view old).state.moment (view mid).state.bytes still clears.later read_mid in
    let cleared : HasParts plan sizes s (view mid).state.bytes =
    cleared_parts others heads apart tell plan sizes s e room c.following_is_closed.ensures.begun (view old).state.bytes (view mid).state.bytes parts
    (read_step (Clears at (suc e)) (view old).state (view mid).state durable clears now) in
    let durable_mid = c.in_ok-clear.ensures.durable tt lawful durable in
    let settled_mid = c.durable_is_settled.ensures mid c.cell_of.result durable_mid in
    let payload : c.deref.result.now ≡ cell_bytes j.m e x.request x.batch = c.deref.ensures.value ∙ c.in_ok-payload.ensures.ok in
    let puts : CrashSafe (Puts (cell_of at e) (cell_bytes sizes.m e x.request x.batch)) (view mid).state (view new).state =
    subst (λ (k : Journal). CrashSafe (Puts (cell_of k e) (cell_bytes k.m e x.request x.batch)) (view mid).state (view new).state) ring
    (subst (λ (a : Region). CrashSafe (Puts a (cell_bytes j.m e x.request x.batch)) (view mid).state (view new).state) c.cell_of.ensures.region
    (subst (λ (p : List ℕ). CrashSafe (Puts c.cell_of.result p) (view mid).state (view new).state) payload (c.in_ok-put.ensures.crash_safe still settled_mid))) in
    let is_open : IsOpen (cell_of at e) (cell_bytes sizes.m e x.request x.batch) (view new).state =
    subst (λ (k : Journal). IsOpen (cell_of k e) (cell_bytes k.m e x.request x.batch) (view new).state) ring
    (subst (λ (a : Region). IsOpen a (cell_bytes j.m e x.request x.batch) (view new).state) c.cell_of.ensures.region
    (subst (λ (p : List ℕ). IsOpen c.cell_of.result p (view new).state) payload (c.in_ok-put.ensures.open still settled_mid))) in
    let also = c.in_ok-put.ensures.device.lawful.0 still in
    let now_2 = laws.counts_now new (view mid).state.moment (view new).state.bytes also puts.later (laws.reads_image new also) in
    let replaced : Replaces (cell_of at e) (cell_bytes sizes.m e x.request x.batch) (view mid).state.bytes (view new).state.bytes =
    record { others = (read_step (Puts (cell_of at e) (cell_bytes sizes.m e x.request x.batch)) (view mid).state (view new).state durable_mid puts now_2).others; region = is_open.read } in
    let fits : x.request < 2 ^ 64 = omega arith in
    let small : j.m < 2 ^ 32 = omega (arith, c.requires.ring.records) in
    let ok : IsCellBatch (inputs_of plan) sizes.m x = record {
      few = subst (λ (k : Journal). length x.batch ≤ k.m) ring c.requires.few;
      room = subst (λ (k : Journal). k.m < 2 ^ 32) ring small;
      lawful = valid;
      fits = c.in_ok-payload.ensures.fits;
      request = fits;
    } in
    next_parts others heads apart tell plan sizes s e room c.next_is_put.ensures.done x fresh ok (view mid).state.bytes (view new).state.bytes cleared nothing replaced
