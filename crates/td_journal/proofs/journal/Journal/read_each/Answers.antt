use Rattle.std.proofs.Common.{◌≡◌, ◌+◌, ◌^◌, ◌<◌, ℕ, true, List, [], ◌∷◌, ◌++◌, length, Option, Ok, ◌⊎◌, inl, inr, ⊎_elim, refl, ap, sym, ◌∙◌, subst, arith}
use Rattle.std.specs.Prelude.{IsErrOf}
use Rattle.std.proofs.lemmas.List.{length-append}
use Rattle.std.proofs.lemmas.List.Elements.{All-append, All-cons, All-nil}
use Rattle.td_journal.specs.declared.error.JournalError.TheVariants.{Device}
use Rattle.td_journal.specs.Numbers.{raised}
use Rattle.td_journal.specs.Cell.{Found, is_batch}
use Rattle.td_journal.specs.Cell.Found.{ended, submitted}
use Rattle.td_journal.specs.Ring.{found, past}
use Rattle.td_journal.specs.Parsed.{IsDamage, IsKept}
use Rattle.td_journal.proofs.Reading.{joined, kept_push, where_some, written_over, joined_push, joined_ok, joined_err, left_first, left_from, left_found, left_more, left_none, damage_refuses}
use Rattle.td_journal.proofs.journal.Journal.read_each.Goals as goal

-- the count of a call that answered
not_failed : {T E : Type 0} (x : T) (e : E) (new old : ℕ) → IsErrOf (Ok x) e ⊎ (new ≡ old) → new ≡ old
not_failed x e new old (inl no_) = absurd cc
not_failed x e new old (inr same) = same

pub loop-i-init : goal.loop-i-init
loop-i-init g c =
    let find : Option ℕ → ℕ → Found = found c.args.inputs.now c.args.self.now (g.D.Disk.view c.args.device.now).state.bytes in
    record {
      told = ([], sym c.new-told.ensures.items, All-nil (λ x. is_batch c.args.inputs.now x.batch ≡ true), λ lawful. left_first find c.args.self.now.n c.args.checkpoint c.args.floor);
      size = omega (arith, c.in_ok-bytes.ensures.len);
      count = ap length c.new-told.ensures.items;
      below = omega (arith, c.requires.ring.small);
      count_stays = refl;
      read = c.reads_in_turn.ensures.none c.args.device.now;
    }

pub returns-clause-told : goal.returns-clause-told
returns-clause-told g c =
    let find : Option ℕ → ℕ → Found = found c.args.inputs.now c.args.self.now (g.D.Disk.view c.args.device.now).state.bytes in
    let so_far = c.loop-i.invariant.told in
    let w = so_far.0 in
    let done : c.loop-i.i ≡ c.args.self.now.n = omega (arith, c.loop-i-test.false, c.loop-i.auto.i-end) in (
      w,
      so_far.1,
      so_far.2,
      λ lawful.
          so_far.3 lawful ∙ ap (λ (i : ℕ). joined w (left_from find c.args.self.now.n c.args.checkpoint c.loop-i.greatest i)) done
          ∙ ap (joined w) (left_none find c.args.self.now.n c.args.checkpoint c.loop-i.greatest) ∙ joined_ok w,
    )

pub returns-in-Ok-None-clause-told : goal.returns-in-Ok-None-clause-told
returns-in-Ok-None-clause-told g c =
    let view = g.D.Disk.view in
    let inputs = c.args.inputs.now in
    let find : Option ℕ → ℕ → Found = found inputs c.args.self.now (view c.args.device.now).state.bytes in
    let so_far = c.loop-i.invariant.told in
    let w = so_far.0 in
    let i = c.loop-i.i in
    let floor = c.loop-i.greatest in
    let ends = subst (IsKept g.K.Keeping.kept_of inputs (λ f. (g.D.Disk.view c.loop-i.device).lawful → found inputs c.args.self.now (view c.loop-i.device).state.bytes floor (c.args.checkpoint + 1 + c.from.result) ≡ f))
    c.in-Ok-None.field-0-is c.in-Ok-None.ensures.found in (
      w,
      so_far.1,
      so_far.2,
      λ lawful.
          let here : find floor (c.args.checkpoint + 1 + i) ≡ ended =
          ap (λ (n : ℕ). find floor (c.args.checkpoint + 1 + n)) (sym c.from.ensures)
          ∙ ap (λ (b : List ℕ). found inputs c.args.self.now b floor (c.args.checkpoint + 1 + c.from.result)) (sym (c.loop-i.invariant.read.same lawful))
          ∙ ends (c.loop-i.invariant.read.lawful.0 lawful) in
          so_far.3 lawful ∙ ap (joined w) (left_found find c.args.self.now.n c.args.checkpoint floor i ended c.loop-i-test.true here) ∙ joined_ok w,
    )

pub returns-in-Err-clause-refused : goal.returns-in-Err-clause-refused
returns-in-Err-clause-refused g c =
    let view = g.D.Disk.view in
    let find : Option ℕ → ℕ → Found = found c.args.inputs.now c.args.self.now (view c.args.device.now).state.bytes in
    let so_far = c.loop-i.invariant.told in
    let w = so_far.0 in
    let i = c.loop-i.i in
    let floor = c.loop-i.greatest in
    let f = find floor (c.args.checkpoint + 1 + i) in
    let rest = left_from find c.args.self.now.n c.args.checkpoint (past floor f) (i + 1) in
    ⊎_elim (λ device. inl device) (λ other. ⊎_elim (λ memory. inr (inl memory)) (λ damage. inr (inr (λ lawful.
    let still = c.loop-i.invariant.read.lawful.0 lawful in
    let here : f ≡ found c.args.inputs.now c.args.self.now (view c.loop-i.device).state.bytes floor (c.args.checkpoint + 1 + c.from.result) =
    ap (λ (n : ℕ). find floor (c.args.checkpoint + 1 + n)) (sym c.from.ensures)
    ∙ ap (λ (b : List ℕ). found c.args.inputs.now c.args.self.now b floor (c.args.checkpoint + 1 + c.from.result)) (sym (c.loop-i.invariant.read.same lawful)) in
    so_far.3 lawful
    ∙ ap (joined w) (left_more find c.args.self.now.n c.args.checkpoint floor i c.loop-i-test.true ∙ damage_refuses c.in-Err.refusal f rest (subst (IsDamage c.in-Err.refusal) (sym here) (damage still)))
    ∙ joined_err w c.in-Err.refusal))) other) c.in-Err.ensures.refused

pub loop-i-preserved : goal.loop-i-preserved
loop-i-preserved g c =
    let view = g.D.Disk.view in
    let of = g.K.Keeping.kept_of in
    let inputs = c.args.inputs.now in
    let find : Option ℕ → ℕ → Found = found inputs c.args.self.now (view c.args.device.now).state.bytes in
    let inv = c.loop-i.invariant in
    let w = inv.told.0 in
    let told = c.loop-i.told.items in
    let i = c.loop-i.i in
    let floor = c.loop-i.greatest in
    let kept = c.in-Ok-Some.kept in
    let more = subst (IsKept of inputs (λ f. (g.D.Disk.view c.loop-i.device).lawful → found inputs c.args.self.now (view c.loop-i.device).state.bytes floor (c.args.checkpoint + 1 + c.from.result) ≡ f))
    c.in-Ok-Some.field-0-is c.in-Ok-Some.ensures.found in
    let s = more.0 in
    let looked_for : c.args.checkpoint + 1 + c.from.result < 2 ^ 63 =
    where_some c.in-Ok-Some.field-0 kept c.in-Ok-Some.ensures.small c.in-Ok-Some.field-0-is in
    let number : raised floor s.request ≡ c.floor_past-greatest.result = ap (raised floor) (sym (c.request.ensures s more.1)) ∙ sym c.floor_past-greatest.ensures in
    record {
      told = (
        w ++ s ∷ [],
        kept_push of w s told c.push.new.self.items kept inv.told.1 more.1 c.in_ok-push-in-Ok-Some.ensures.items,
        All-append (λ x. is_batch inputs x.batch ≡ true) w (s ∷ []) inv.told.2 (All-cons (λ x. is_batch inputs x.batch ≡ true) s [] more.2 (All-nil (λ x. is_batch inputs x.batch ≡ true))),
        λ lawful.
            let here : find floor (c.args.checkpoint + 1 + i) ≡ submitted s =
            ap (λ (n : ℕ). find floor (c.args.checkpoint + 1 + n)) (sym c.from.ensures)
            ∙ ap (λ (l : List ℕ). found inputs c.args.self.now l floor (c.args.checkpoint + 1 + c.from.result)) (sym (inv.read.same lawful))
            ∙ more.3 (inv.read.lawful.0 lawful) in
            inv.told.3 lawful
            ∙ ap (joined w) (left_found find c.args.self.now.n c.args.checkpoint floor i (submitted s) c.loop-i-test.true here)
            ∙ sym (joined_push w s (left_from find c.args.self.now.n c.args.checkpoint (raised floor s.request) (i + 1)))
            ∙ ap (λ (o : Option ℕ). joined (w ++ s ∷ []) (left_from find c.args.self.now.n c.args.checkpoint o (i + 1))) number,
      );
      size = written_over c.loop-i.bytes.len c.kept_at.new.bytes c.loop-i.bytes.items (sym c.loop-i.bytes.ok.0) ∙ c.loop-i.bytes.ok.0 ∙ inv.size;
      count = ap length c.in_ok-push-in-Ok-Some.ensures.items ∙ length-append told (kept ∷ []) ∙ ap (λ (n : ℕ). n + 1) inv.count;
      below = omega (arith, looked_for, c.from.ensures);
      count_stays = not_failed c.in-Ok-Some.field-0 Device (g.D.Disk.view c.kept_at.new.device).failures (g.D.Disk.view c.loop-i.device).failures c.in-Ok-Some.ensures.failures.stays ∙ inv.count_stays;
      read = c.reads_in_turn.ensures.read _ _ _ inv.read c.in-Ok-Some.ensures.read;
    }

pub returns-in-Ok-None-clause-read : goal.returns-in-Ok-None-clause-read
returns-in-Ok-None-clause-read g c = c.reads_in_turn.ensures.read _ _ _ c.loop-i.invariant.read c.in-Ok-None.ensures.read

pub returns-in-Err-clause-read : goal.returns-in-Err-clause-read
returns-in-Err-clause-read g c = c.reads_in_turn.ensures.read _ _ _ c.loop-i.invariant.read c.in-Err.ensures.read

pub returns-in_err-push-in-Ok-Some-clause-read : goal.returns-in_err-push-in-Ok-Some-clause-read
returns-in_err-push-in-Ok-Some-clause-read g c = c.reads_in_turn.ensures.read _ _ _ c.loop-i.invariant.read c.in-Ok-Some.ensures.read
