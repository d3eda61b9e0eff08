-- THE LAW OF TWO CATALOGUES: one has the codes below 10,000, the other those from there on.
use Rattle.std.specs.Prelude.{◌≤◌, true, false, nat_lt, if◌then◌else◌, length}
use Rattle.td_calls.specs.Answers.{Answers, AnswerFew}

abbrev pub beside : Answers → Answers → Answers
beside below above = record {
  emit = λ code. if nat_lt code 10000 then below.emit code else above.emit code;
  group = λ code. if nat_lt code 10000 then below.group code else above.group code;
  fold = λ code. if nat_lt code 10000 then below.fold code else above.fold code;
}

-- a proof, and nothing that a reader must believe: neither sends more than eight records
pub beside_few : (below above : Answers) → AnswerFew below → AnswerFew above → AnswerFew (beside below above)
beside_few below above b a = record {
  emit = λ code port rec.
      elim (nat_lt code 10000) as (λ test. length ((if test then below.emit code else above.emit code) port rec) ≤ 8)
      [ true ↦ b.emit code port rec | false ↦ a.emit code port rec ];
  group = λ code key items.
      elim (nat_lt code 10000) as (λ test. length ((if test then below.group code else above.group code) key items) ≤ 8)
      [ true ↦ b.group code key items | false ↦ a.group code key items ];
  fold = λ code key state items.
      elim (nat_lt code 10000) as (λ test. length ((if test then below.fold code else above.fold code) key state items).1 ≤ 8)
      [ true ↦ b.fold code key state items | false ↦ a.fold code key state items ];
}
