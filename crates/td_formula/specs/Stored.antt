-- Closures that are written, and those beside others.
use Rattle.std.specs.Prelude.{nat_lt, if◌then◌else◌, is_some, List}
use Rattle.td_calls.specs.Stored.{Codes, Stored}
use Rattle.td_formula.specs.declared.closure.Closure.{Closure}
use Rattle.td_formula.specs.declared.closure.ClosureKind.TheVariants as kinds
use Rattle.td_formula.specs.Beside.{beside}
use Rattle.td_formula.specs.Written.{closure_at, answers_of}

-- the codes of these
abbrev pub codes_of : List Closure → Codes
codes_of closures = record {
  map = λ code. is_some (closure_at kinds.Map closures code);
  group = λ code. is_some (closure_at kinds.Group closures code);
  fold = λ code. is_some (closure_at kinds.Fold closures code);
}

-- the codes of two stores: one has those below 10,000, the other those from there on
abbrev pub codes_beside : Codes → Codes → Codes
codes_beside below above = record {
  map = λ code. if nat_lt code 10000 then below.map code else above.map code;
  group = λ code. if nat_lt code 10000 then below.group code else above.group code;
  fold = λ code. if nat_lt code 10000 then below.fold code else above.fold code;
}

-- OTHERS, AND THESE CLOSURES BESIDE THEM
abbrev pub stored_beside : Stored → List Closure → Stored
stored_beside others closures = record {
  answers = beside others.answers (answers_of closures);
  codes = codes_beside others.codes (codes_of closures);
}
