use Rattle.std.proofs.Common.{◌≡◌, inr, ℕ, ◌+◌, ◌≤◌, List, [], ◌∷◌, ◌++◌, length, ap, ◌∙◌, subst, sym, arith, length-append}
use Rattle.td_disk.specs.Disk.{SameOutside, bytes_at}
use Rattle.td_gate.specs.declared.region.Region.{Region}
use Rattle.td_gate.specs.Regions.{Replaces}
use Rattle.td_journal.specs.Cell.{cell_of, cell_bytes, cell_len}
use Rattle.td_store.proofs.copy.Written.{opened_written}
use Rattle.td_store.proofs.copy.Zeroed.{OffGates, written_no_head}
use Rattle.td_store.proofs.copy.epochs.write_epoch.Goals as goal

-- a cell lies behind the heads
behind : (j_at at more n : ℕ) → at ≡ j_at + more → 8258 ≤ j_at → OffGates at (at + n)
behind j_at at more n is low = (omega (arith, is, low), inr (omega (arith, is, low)))

pub returns-in_err-write-clause-no_head : goal.returns-in_err-write-clause-no_head
returns-in_err-write-clause-no_head g c lawful none =
    let view = g.D.Disk.view in
    let put = c.in_err-write.ensures in
    let r = c.cell_of-cell.result in
    written_no_head r.at (length c.deref.result.now) (view c.args.device.now).state (view c.write.new.self).state
    (behind c.args.journal.now.at r.at _ (length c.deref.result.now) (ap (λ (s : Region). s.at) c.cell_of-cell.ensures.region) c.requires.behind) (put.images lawful) (put.time lawful) none

pub returns-clause-no_head : goal.returns-clause-no_head
returns-clause-no_head g c lawful none =
    let view = g.D.Disk.view in
    let put = c.in_ok-write.ensures in
    let r = c.cell_of-cell.result in
    written_no_head r.at (length c.deref.result.now) (view c.args.device.now).state (view c.write.new.self).state
    (behind c.args.journal.now.at r.at _ (length c.deref.result.now) (ap (λ (s : Region). s.at) c.cell_of-cell.ensures.region) c.requires.behind) (put.images lawful) (put.time lawful) none

pub returns-clause-written : goal.returns-clause-written
returns-clause-written g c lawful =
    let view = g.D.Disk.view in
    let put = c.in_ok-write.ensures in
    let j = c.args.journal.now in
    let x = c.args.submitted.now in
    let old = (view c.args.device.now).state.bytes in
    let new = (view c.write.new.self).state.bytes in
    let r = c.cell_of-cell.result in
    let p = cell_bytes j.m c.args.epoch x.request x.batch in
    let bytes : c.deref.result.now ≡ p ++ 165 ∷ [] = c.deref.ensures.value ∙ c.in_ok-push.ensures.items ∙ ap (λ (l : List ℕ). l ++ 165 ∷ []) c.in_ok-bytes.ensures.ok in
    let size : length p ≡ r.len = c.cells_read_back.ensures.size j.m c.args.epoch x.request x.batch c.requires.few ∙ sym (ap (λ (s : Region). s.len) c.cell_of-cell.ensures.region) in
    let long : length c.deref.result.now ≡ r.len + 1 = ap length bytes ∙ length-append p (165 ∷ []) ∙ ap (λ (n : ℕ). n + 1) size in
    let read : bytes_at r.at (r.len + 1) new ≡ p ++ 165 ∷ [] = subst (λ (n : ℕ). bytes_at r.at n new ≡ p ++ 165 ∷ []) long (put.written lawful ∙ bytes) in
    subst (λ (s : Region). Replaces s p old new) c.cell_of-cell.ensures.region (record {
      others = subst (λ (n : ℕ). SameOutside r.at n old new) long (put.others lawful);
      region = opened_written r p new size read;
    })
