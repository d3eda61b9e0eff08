use Rattle.std.proofs.Common.{◌≡◌, ◌⊎◌, ◌&&◌, Bool, true, false, List, [], ◌∷◌, length, refl, sym, ap, ◌∙◌, subst, arith}
use Rattle.td_journal.specs.Cell.{is_batch}
use Rattle.td_journal.specs.Numbers.{may_come}
use Rattle.td_journal.specs.declared.payload.Submitted.{Submitted}
use Rattle.td_store.specs.standing.Standing.{with_more, last_request}
use Rattle.td_store.specs.standing.Told.{inputs_of, floor_of}
use Rattle.td_store.specs.standing.Tells.{Tells, Keeps, HasRoom}
use Rattle.td_store.specs.group.Groups.{AreBatches, HasRoomFor, may_follow}
use Rattle.td_store.proofs.group.Kept.{at_ok}
use Rattle.td_store.proofs.group.submit.submit_group.Goals as goal

none_left : {A : Type 0} (l : List A) → length l ≡ 0 → l ≡ []
none_left [] is = refl
none_left (x ∷ l) is = absurd (omega (arith, is))

first_of : (a b : Bool) → (a && b) ≡ true → a ≡ true
first_of true b is = refl
first_of false b is = absurd (let no : false ≡ true = is in cc)

pub returns-then-is_alone-clause-group : goal.returns-then-is_alone-clause-group
returns-then-is_alone-clause-group g c =
    record {
      later = c.submit_batch.ensures.batch.later;
      begun = λ lawful plan h side s ring room fresh valid keeps t f le left.
          let view = g.D.Disk.view in
          let x : Submitted = c.in-Some.head.now in
          let alone : c.args.group.now ≡ x ∷ [] = c.in-Some.ensures.cases.0 ∙ ap (λ (l : List Submitted). x ∷ l) (none_left c.in-Some.others.now (c.is_alone.ensures c.if-is_alone.true)) in
          let one : length c.args.group.now ≡ 1 = ap length alone in
          let has : HasRoom h.shape s c.args.first = record { room = omega (arith, room.room, one); epoch = room.epoch; small = omega (arith, room.small, one) } in
          let new : may_come (floor_of h.version (last_request s)) x.request ≡ true =
          first_of (may_come (floor_of h.version (last_request s)) x.request) true (subst (λ (l : List Submitted). may_follow (floor_of h.version (last_request s)) l ≡ true) alone fresh) in
          let batch : is_batch (inputs_of plan) x.batch ≡ true = (subst (AreBatches (inputs_of plan)) alone valid).0 in
          subst (λ (l : List Submitted). (view c.args.device.now).state.since t f ⊎ (Tells plan h side s f ⊎ Tells plan h side (with_more s l) f)) (sym alone)
          (c.submit_batch.ensures.batch.begun lawful plan h side s ring has new batch keeps t f le left);
      unwritten = c.submit_batch.ensures.batch.unwritten;
      kept = c.submit_batch.ensures.batch.kept;
      done =
          let view = g.D.Disk.view in
          let x : Submitted = c.in-Some.head.now in
          let alone : c.args.group.now ≡ x ∷ [] = c.in-Some.ensures.cases.0 ∙ ap (λ (l : List Submitted). x ∷ l) (none_left c.in-Some.others.now (c.is_alone.ensures c.if-is_alone.true)) in
          let one : length c.args.group.now ≡ 1 = ap length alone in
          at_ok c.submit_batch.result _ _
          (λ done lawful plan h side s ring room fresh valid keeps.
          let has : HasRoom h.shape s c.args.first = record { room = omega (arith, room.room, one); epoch = room.epoch; small = omega (arith, room.small, one) } in
          let new : may_come (floor_of h.version (last_request s)) x.request ≡ true =
          first_of (may_come (floor_of h.version (last_request s)) x.request) true (subst (λ (l : List Submitted). may_follow (floor_of h.version (last_request s)) l ≡ true) alone fresh) in
          let batch : is_batch (inputs_of plan) x.batch ≡ true = (subst (AreBatches (inputs_of plan)) alone valid).0 in
          subst (λ (l : List Submitted). Keeps plan h side (with_more s l) (view c.submit_batch.new.device).state) (sym alone) (done lawful plan h side s ring has new batch keeps))
          c.submit_batch.ensures.batch.done;
    }

pub returns-clause-group : goal.returns-clause-group
returns-clause-group g c =
    record {
      later = c.put_group.ensures.later;
      begun = λ lawful plan h side s ring room fresh valid keeps t f le left.
          let view = g.D.Disk.view in
          let x : Submitted = c.in-Some.head.now in
          let is : c.args.group.now ≡ x ∷ c.in-Some.others.now = c.in-Some.ensures.cases.0 in
          let has = subst (λ (l : List Submitted). HasRoomFor h.shape s c.args.first (length l)) is room in
          let new = subst (λ (l : List Submitted). may_follow (floor_of h.version (last_request s)) l ≡ true) is fresh in
          let batches = subst (AreBatches (inputs_of plan)) is valid in
          subst (λ (l : List Submitted). (view c.args.device.now).state.since t f ⊎ (Tells plan h side s f ⊎ Tells plan h side (with_more s l) f)) (sym is)
          (c.put_group.ensures.begun lawful plan h side s ring has new batches keeps t f le left);
      unwritten = c.put_group.ensures.unwritten;
      kept = c.put_group.ensures.kept;
      done =
          let view = g.D.Disk.view in
          let x : Submitted = c.in-Some.head.now in
          let is : c.args.group.now ≡ x ∷ c.in-Some.others.now = c.in-Some.ensures.cases.0 in
          at_ok c.put_group.result _ _
          (λ done lawful plan h side s ring room fresh valid keeps.
          let has = subst (λ (l : List Submitted). HasRoomFor h.shape s c.args.first (length l)) is room in
          let new = subst (λ (l : List Submitted). may_follow (floor_of h.version (last_request s)) l ≡ true) is fresh in
          let batches = subst (AreBatches (inputs_of plan)) is valid in
          subst (λ (l : List Submitted). Keeps plan h side (with_more s l) (view c.put_group.new.device).state) (sym is) (done lawful plan h side s ring has new batches keeps))
          c.put_group.ensures.done;
    }
